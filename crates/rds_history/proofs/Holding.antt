-- What holds where a course ends well.
use Rattle.std.proofs.Common.{ℕ, zero, suc, ◌+◌, Bool, true, false, cond, Ok, Err, List, [], ◌∷◌, length}
use Rattle.std.specs.Prelude.{nat_lt}
use Rattle.rds_model.specs.declared.entry.Entry.{Entry}
use Rattle.rds_history.specs.Events.{Event, Appended}
use Rattle.rds_history.specs.Courses.{Course, and_then, if_room, appends, each, again}
use Rattle.rds_history.specs.Journals.{journal, moved_in_all}

-- where the course ends well, it ends so
abbrev pub Holds : (List Event → Type 0) → Course → Type 0
Holds P (Ok past) = P past
Holds P (Err full) = Unit {0}

pub holds_then : (P Q : List Event → Type 0) (c : Course) (next : List Event → Course) → Holds P c → ((past : List Event) → P past → Holds Q (next past)) →
    Holds Q (and_then c next)
holds_then P Q (Ok past) next here step = step past here
holds_then P Q (Err full) next here step = tt

pub holds_if_room : (P : List Event → Type 0) (limit h k : ℕ) (past : List Event) → P past → Holds P (if_room limit h k past)
holds_if_room P limit h k past here = go (nat_lt limit (length (journal h k past) + 2))
  where
    go : (b : Bool) → Holds P (cond b (Err (record { host = h; peer = k; entries = length (journal h k past) })) (Ok past))
    go true = tt
    go false = here

pub holds_appends : (P Q : List Event → Type 0) (limit h k : ℕ) (e : Entry) (past : List Event) → P past → ((before : List Event) → P before → Q (Appended h k e ∷ before)) →
    Holds Q (appends limit h k e past)
holds_appends P Q limit h k e past here step =
    holds_then P Q (if_room limit h k past) (λ (before : List Event). Ok (Appended h k e ∷ before)) (holds_if_room P limit h k past here) step

pub holds_each : {X : Type 0} (P : List Event → Type 0) (xs : List X) (act : X → List Event → Course) (past : List Event) → P past →
    ((x : X) (before : List Event) → P before → Holds P (act x before)) → Holds P (each xs act past)
holds_each P [] act past here step = here
holds_each P (x ∷ xs) act past here step =
    holds_then P P (act x past) (each xs act) (step x past here) (λ later there. holds_each P xs act later there step)

pub holds_again : (P : List Event → Type 0) (times : ℕ) (step : List Event → Course) (past : List Event) → P past →
    ((before : List Event) → P before → Holds P (step before)) → Holds P (again times step past)
holds_again P zero step past here keeps = here
holds_again P (suc times) step past here keeps =
    holds_then P P (step past) (λ later. cond (nat_lt (moved_in_all past) (moved_in_all later)) (again times step later) (Ok later)) (keeps past here)
    (λ later there. go (nat_lt (moved_in_all past) (moved_in_all later)) later there (holds_again P times step later there keeps))
  where
    go : (b : Bool) (later : List Event) → P later → Holds P (again times step later) → Holds P (cond b (again times step later) (Ok later))
    go true later there rest = rest
    go false later there rest = there

pub holds_weaker : (P Q : List Event → Type 0) (c : Course) → Holds P c → ((past : List Event) → P past → Q past) → Holds Q c
holds_weaker P Q (Ok past) here step = step past here
holds_weaker P Q (Err full) here step = tt
