use Rattle.std.proofs.Common.{◌≡◌, ◌++◌, All, map, length}
use Rattle.std.specs.Vec.Iter.{into_iter_items, into_iter_len}
use Rattle.rds_mail.specs.Passes.{with_joined, account_of}
use Rattle.rds_mail.proofs.mail.Mail.close.Given as goal

abbrev pub invariant-loop-put : goal.invariant-loop-put
invariant-loop-put g l = (l.yielded ++ into_iter_items l.put-iterator ≡ into_iter_items l.initial.put-iterator)
    × (into_iter_len l.put-iterator ≡ length (into_iter_items l.put-iterator))
    × All (λ p. p.mail ≡ l.self.line) (into_iter_items l.put-iterator)
    × (l.get ≡ with_joined l.initial.get (map account_of l.yielded))
