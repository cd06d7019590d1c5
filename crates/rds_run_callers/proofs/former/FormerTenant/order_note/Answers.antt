use Rattle.std.proofs.Common.{Some, sym, ap, ◌∙◌}
use Rattle.rds_mail.specs.Numbers.{bare_items}
use Rattle.rds_fmap.specs.Readers.{ReaderView}
use Rattle.rds_socket.specs.Holding.{Holding}
use Rattle.rds_run_callers.proofs.Claiming.{claims_same}
use Rattle.rds_run_callers.proofs.former.FormerTenant.order_note.Goals as goal

pub invariant_of-self-clause-kept : goal.invariant_of-self-clause-kept
invariant_of-self-clause-kept c = c.args.self.now.kept ∙ sym (ap (λ (h : Holding ReaderView). bare_items h.inbox.get.got) c.order_note.ensures.same)

pub invariant_of-self-clause-claimed : goal.invariant_of-self-clause-claimed
invariant_of-self-clause-claimed c = claims_same (Some c.args.self.now.port) c.args.self.now.closed c.order_note.new.self (ap (λ (h : Holding ReaderView). h.ports) c.order_note.ensures.same) c.args.self.now.claimed
