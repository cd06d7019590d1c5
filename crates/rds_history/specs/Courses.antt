-- What a command comes to. Source: this project's own. `option_map_or f o d` is f of what o has, or d where it has nothing.
use Rattle.std.specs.Prelude.{ℕ, suc, zero, ◌+◌, nat_lt, if◌then◌else◌, Option, Some, None, Result, Ok, Err, List, [], ◌∷◌, length}
use Rattle.std.specs.Option.{option_map_or}
use Rattle.rds_model.specs.declared.entry.Entry.{Entry}
use Rattle.rds_model.specs.Past.{open_stream}
use Rattle.rds_history.specs.Events.{Event, Appended, Printed}
use Rattle.rds_history.specs.Journals.{journal, moved_in_all}
use Rattle.rds_history.specs.Sockets.{holder}

-- a journal that had no room for two more entries: that of `host` with `peer`, which has so many
pub record Full : Type 0 where
  pub host : ℕ
  pub peer : ℕ
  pub entries : ℕ

-- a longer past, or the first journal that was full
abbrev pub Course : Type 0
Course = Result (List Event) Full

-- what follows a course, unless a journal was full
abbrev pub and_then : Course → (List Event → Course) → Course
and_then (Ok past) next = next past
and_then (Err full) next = Err full

-- the past, if the journal of h with k has room for two more entries
abbrev pub if_room : (limit h k : ℕ) → List Event → Course
if_room limit h k past =
    if nat_lt limit (length (journal h k past) + 2)
    then Err (record { host = h; peer = k; entries = length (journal h k past) })
    else Ok past

-- host h appends an entry to its journal with k, if that has room
abbrev pub appends : (limit h k : ℕ) → Entry → List Event → Course
appends limit h k e past = and_then (if_room limit h k past) (λ before. Ok (Appended h k e ∷ before))

-- the command prints a text line and does nothing else
abbrev pub prints : (text : List ℕ) → List Event → Course
prints text past = Ok (Printed text ∷ past)

-- the command does this, or prints why not
abbrev pub or_refuses : (cause : Option (List ℕ)) → (refusal : List ℕ → List ℕ) → (act : List Event → Course) → List Event → Course
or_refuses None refusal act past = act past
or_refuses (Some why) refusal act past = prints (refusal why) past

-- the command acts on the slot of the socket that holds a port of host h, or prints this line where none does
abbrev pub with_socket : (h port : ℕ) → (refusal : List ℕ) → (act : ℕ → List Event → Course) → List Event → Course
with_socket h port refusal act past = option_map_or (λ slot. act slot past) (holder h port past) (prints refusal past)

-- the command acts on the stream that h has open to k, or does something else where none is open
abbrev pub on_stream : (h k : ℕ) → (closed : List Event → Course) → (act : ℕ → List Event → Course) → List Event → Course
on_stream h k closed act past = option_map_or (λ stream. act stream past) (open_stream (journal h k past)) (closed past)

-- acts on each of a list, in turn
abbrev pub each : {X : Type 0} → List X → (X → List Event → Course) → List Event → Course
each [] act past = Ok past
each (x ∷ xs) act past = and_then (act x past) (each xs act)

-- takes a step again and again, as long as the last one moved a byte, but at most so many times
abbrev pub again : (times : ℕ) → (step : List Event → Course) → List Event → Course
again zero step past = Ok past
again (suc times) step past =
    and_then (step past) (λ later. if nat_lt (moved_in_all past) (moved_in_all later) then again times step later else Ok later)
