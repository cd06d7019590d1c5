use Rattle.std.proofs.Common.{ℕ, zero, suc, All, List, [], ◌∷◌, sym, subst, arith, Vec, Global}
use Rattle.rds_link.specs.Memory.{memory_means}
use Rattle.rds_link.specs.declared.memory_end.MemEnd.{MemEnd}
use Rattle.rds_line_channel.specs.Streams.{AreNumbered, IsUnused}
use Rattle.rds_test_hostile.proofs.growths.hosts.made.Goals as goal

-- what holds of the one element of a list holds of all
one_holds : {X : Type 0} (Holds : X → Type 0) (x : X) → Holds x → All Holds (x ∷ [])
one_holds Holds x holds zero d small = holds
one_holds Holds x holds (suc k) d small = absurd (omega arith)

pub make-requires-clause-numbered : goal.make-requires-clause-numbered
make-requires-clause-numbered c =
    let Holds = λ (one : Vec (ℕ × MemEnd) Global). AreNumbered one.items in
    subst (λ (l : List (Vec (ℕ × MemEnd) Global)). All Holds l) (sym (c.in_ok-streams.ensures {u = tt}))
    (one_holds Holds c.args.one c.requires.numbered)

pub make-requires-clause-unused : goal.make-requires-clause-unused
make-requires-clause-unused c =
    let Holds = λ (one : Vec (ℕ × MemEnd) Global). All (λ (stream : ℕ × MemEnd). IsUnused memory_means stream.1) one.items in
    subst (λ (l : List (Vec (ℕ × MemEnd) Global)). All Holds l) (sym (c.in_ok-streams.ensures {u = tt}))
    (one_holds Holds c.args.one c.requires.unused)
