-- The command `move`. Source: this project's own.
use Rattle.std.specs.Prelude.{ℕ, zero, ◌+◌, ◌-◌, ◌==◌, min, if◌then◌else◌, Option, Some, Ok, List, ◌∷◌, length, codes}
use Rattle.std.specs.Option.{option_map, option_map_or}
use Rattle.rds_text.specs.Lines.{move_line}
use Rattle.rds_text.specs.Refusals.{is_down, pair_refused_line}
use Rattle.rds_history.specs.Events.{Event, Moved}
use Rattle.rds_history.specs.Journals.{moved_in_all, in_flight}
use Rattle.rds_history.specs.Courses.{Course, and_then, if_room, prints, again, on_stream}
use Rattle.rds_history.specs.PullAndRead.{pull, read}

-- how many of `count` bytes may go where `left` are left; `None` is no limit
abbrev pub portion : (left : Option ℕ) → (count : ℕ) → ℕ
portion left count = option_map_or (λ most. min most count) left count

-- host h pulls the frame that it owes to k, where nothing is in flight from h to k
abbrev pub pull_if_idle : (limit h k : ℕ) → List Event → Course
pull_if_idle limit h k past =
    if length (in_flight h k past) == 0 then and_then (if_room limit h k past) (λ before. Ok (pull h k before)) else Ok past

-- host k reads the frame that h pulled last, where none of its bytes is in flight any more
abbrev pub read_if_complete : (k h : ℕ) → List Event → List Event
read_if_complete k h past = if length (in_flight h k past) == 0 then read k h past else past

-- some of the bytes in flight from h come to k; with the last of them, k reads the frame
abbrev pub move_piece : (h k count : ℕ) → List Event → List Event
move_piece h k count past = read_if_complete k h (Moved h k count ∷ past)

-- what is in flight from h comes to k, as far as `left` allows
abbrev pub arrive : (limit h k : ℕ) → (left : Option ℕ) → List Event → Course
arrive limit h k left past =
    let flight = length (in_flight h k past) in
    if flight == 0 then Ok past
    else and_then (if_room limit k h past) (λ before. Ok (move_piece h k (portion left flight) before))

-- one turn of a move where `left` bytes are left: none is taken where none are left
abbrev pub turn : (limit h k : ℕ) → (left : Option ℕ) → List Event → Course
turn limit h k (Some zero) past = Ok past
turn limit h k left past = and_then (pull_if_idle limit h k past) (arrive limit h k left)

-- how many bytes are left, where no more than `most` may have been moved in all
abbrev pub bytes_left : (most : Option ℕ) → List Event → Option ℕ
bytes_left most past = option_map (λ n. n - moved_in_all past) most

-- bytes go from h to k until `most` were moved in all, or nothing is owed. Each turn but the first and the last appends
-- an entry to the journal of h with k, so there are enough turns.
abbrev pub move_up_to : (limit h k : ℕ) → (most : Option ℕ) → List Event → Course
move_up_to limit h k most =
    again (limit + 1) (λ past. turn limit h k (bytes_left most past) past)

-- at most so many bytes go from h to k, and a line says how many went
abbrev pub move_and_tell : (limit h k count : ℕ) → List Event → Course
move_and_tell limit h k count past =
    and_then (move_up_to limit h k (Some (moved_in_all past + count)) past)
    (λ later. prints (move_line h k (moved_in_all later - moved_in_all past)) later)

-- `move`: at most so many bytes go from host h to host k
abbrev pub move : (limit h k count : ℕ) → List Event → Course
move limit h k count past =
    on_stream h k (prints (pair_refused_line (codes "move") h k is_down)) (λ stream. move_and_tell limit h k count) past
