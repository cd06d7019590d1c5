-- What follows for the cuts of a line. Source: this project's own.
use Rattle.std.specs.Prelude.{◌≡◌, ◌≤◌, ℕ, zero, suc, List, [], ◌∷◌, length, Contains}
use Rattle.std.proofs.Common.{refl, ap, arith}
use Rattle.rds_link.specs.Ends.{Means}
use Rattle.rds_model.specs.declared.entry.Entry.{Entry}
use Rattle.rds_line_channel.specs.Streams.{StreamsView}
use Rattle.rds_line_channel.specs.Carried.{AreSomeOf, IsCarriedBy, also, cuts_of_streams, nothing, shuts, without}

-- where no cut came too late, each of them found a stream open
pub none_late : (cuts : List ℕ) → (Contains cuts 0 → ⊥) → cuts_of_streams cuts ≡ length cuts
none_late [] none = refl
none_late (zero ∷ cuts) none = absurd (none (0, omega arith, refl))
none_late (suc number ∷ cuts) none =
    ap suc (none_late cuts (λ late. none (suc late.0, let small = late.1 in omega arith, late.2)))

-- some are no more than all
pub no_more : {some all : List ℕ} → AreSomeOf some all → length some ≤ length all
no_more nothing = omega arith
no_more (also number rest) = let less = no_more rest in omega (arith, less)
no_more (without number rest) = let less = no_more rest in omega (arith, less)

-- at least as many streams were shut as cuts found one open
pub shut_for_each : {E : Type 0} {m : Means E} {past : List Entry} {arrived out cuts : List ℕ} {s : StreamsView E} →
    IsCarriedBy m past arrived out s cuts → cuts_of_streams cuts ≤ shuts past
shut_for_each carried = no_more carried.cut
