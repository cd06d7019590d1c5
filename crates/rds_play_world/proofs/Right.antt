-- When the answer of a turn is right, and which steps move no bytes.
use Rattle.std.proofs.Common.{◌≡◌, ⊎_elim, ℕ, zero, suc, ◌+◌, ◌-◌, ◌<◌, ◌==◌, Bool, true, false, cond, Option, Some, None, Result, Ok, Err, List, [], ◌∷◌, length, refl, sym, ◌∙◌, arith}
use Rattle.std.specs.Prelude.{min, nat_lt}
use Rattle.std.specs.Option.{option_map_or}
use Rattle.std.proofs.lemmas.Bool.{cases_eq, eqb-false, eqb-true}
use Rattle.rds_wire.specs.declared.frame.Frame.{Frame}
use Rattle.rds_model.specs.declared.entry.Entry.TheVariants.{Pull, Read}
use Rattle.rds_model.specs.declared.entry.Outcome.{Outcome}
use Rattle.rds_model.specs.declared.entry.Outcome.TheVariants as outcome
use Rattle.rds_model.specs.Owed.{owed_frame}
use Rattle.rds_model.specs.Past.{open_stream}
use Rattle.rds_model.specs.Reading.{verdict_of}
use Rattle.rds_model.specs.Sums.{last_pulled_frame}
use Rattle.rds_cong.specs.Limit.{congested_after}
use Rattle.rds_history.specs.Events.{Event, Appended, Marked, Moved}
use Rattle.rds_history.specs.Courses.{Course, and_then, if_room}
use Rattle.rds_history.specs.Journals.{in_flight, is_marked, journal, moved_in_all, own_map}
use Rattle.rds_history.specs.Mark.{if_changed, update_mark}
use Rattle.rds_history.specs.Move.{move_piece}
use Rattle.rds_history.specs.PullAndRead.{answer, outcome_at, pull, pull_on, read, read_on}
use Rattle.rds_history.specs.Sockets.{queued, receive_buffer}
use Rattle.rds_play_world.specs.declared.stop.Stop.{Stop}
use Rattle.rds_play_world.specs.declared.stop.Stop.TheVariants as stop
use Rattle.rds_play_world.specs.Coming.{ComesRight, ComesWaiting}
use Rattle.rds_play_world.specs.Readiness.{IsMemory}
use Rattle.rds_play_world.specs.Telling.{State, TellsWaiting, Waiting}

-- what the move says of its answer
abbrev pub IsCount : List Event → List Event → ℕ → Type 0
IsCount past later n = n ≡ min 18446744073709551615 (moved_in_all later - moved_in_all past)

abbrev pub IsMore : List Event → List Event → ℕ → Type 0
IsMore mid later n = moved_in_all later ≡ moved_in_all mid + n

-- there may always be no memory
pub right_lacking : {A : Type 0} (IsRight : List Event → A → Type 0) (w : Waiting) (limit hosts : ℕ) (course : Course) (why : Stop) (s : State) → IsMemory why →
    ComesRight IsRight w limit hosts course (Err why) s
right_lacking IsRight w limit hosts (Ok past) why s lacks = lacks
right_lacking IsRight w limit hosts (Err full) stop.Memory s lacks = tt
right_lacking IsRight w limit hosts (Err full) (stop.Spent at) s lacks = absurd lacks

-- the first step was stopped
pub right_stopped : (A : Type 0) {B : Type 0} (IsRight : List Event → B → Type 0) (v w : Waiting) (limit hosts : ℕ) (first : Course) (next : List Event → Course) (why : Stop) (s t : State) →
    ComesWaiting {A = A} v limit hosts first (Err why) s → ComesRight IsRight w limit hosts (and_then first next) (Err why) t
right_stopped A IsRight v w limit hosts (Ok past) next why s t comes = right_lacking IsRight w limit hosts (next past) why t comes
right_stopped A IsRight v w limit hosts (Err full) next why s t comes = comes

-- the first step went well, and then the next
pub right_then : {A B : Type 0} (IsRight : List Event → B → Type 0) (v w : Waiting) (limit hosts : ℕ) (first : Course) (next : List Event → Course) (x : A) (result : Result B Stop) (s t : State) →
    ComesWaiting v limit hosts first (Ok x) s →
    ((later : List Event) → first ≡ Ok later → TellsWaiting v limit hosts later s → ComesRight IsRight w limit hosts (next later) result t) →
    ComesRight IsRight w limit hosts (and_then first next) result t
right_then IsRight v w limit hosts (Ok later) next x result s t comes step = step later refl comes
right_then IsRight v w limit hosts (Err full) next x result s t comes step = absurd comes

-- a step that led here or lacked memory, and its answer
pub right_made : {A : Type 0} (IsRight : List Event → A → Type 0) (w : Waiting) (limit hosts : ℕ) (later : List Event) (x : A) (t : State) →
    TellsWaiting w limit hosts later t → IsRight later x → ComesRight IsRight w limit hosts (Ok later) (Ok x) t
right_made IsRight w limit hosts later x t told right = (told, right)

-- what is right in one way is right in another
pub right_weaker : {A : Type 0} (P Q : List Event → A → Type 0) (w : Waiting) (limit hosts : ℕ) (course : Course) (result : Result A Stop) (t : State) →
    ((later : List Event) (x : A) → P later x → Q later x) → ComesRight P w limit hosts course result t → ComesRight Q w limit hosts course result t
right_weaker P Q w limit hosts (Ok later) (Ok x) t weaker comes = (comes.0, weaker later x comes.1)
right_weaker P Q w limit hosts (Ok later) (Err why) t weaker comes = comes
right_weaker P Q w limit hosts (Err full) (Ok x) t weaker comes = comes
right_weaker P Q w limit hosts (Err full) (Err why) t weaker comes = comes

-- a call that went well, with the past that it led to
pub record IsTaken (A : Type 0) (P : List Event → A → Type 0) (w : Waiting) (limit hosts : ℕ) (course : Course) (x : A) (t : State) : Type 0 where
  pub later : List Event
  pub is : course ≡ Ok later
  pub tells : TellsWaiting w limit hosts later t
  pub right : P later x

pub taken : {A : Type 0} (P : List Event → A → Type 0) (w : Waiting) (limit hosts : ℕ) (course : Course) (x : A) (t : State) →
    ComesRight P w limit hosts course (Ok x) t → IsTaken A P w limit hosts course x t
taken P w limit hosts (Ok later) x t comes = record { later = later; is = refl; tells = comes.0; right = comes.1 }
taken P w limit hosts (Err full) x t comes = absurd comes

-- where there is room the past stays
pub room_same : (limit h k : ℕ) (past later : List Event) → if_room limit h k past ≡ Ok later → later ≡ past
room_same limit h k past later is = go (nat_lt limit (length (journal h k past) + 2)) is
  where
    go : (b : Bool) → cond {A = Course} b (Err (record { host = h; peer = k; entries = length (journal h k past) })) (Ok past) ≡ Ok later → later ≡ past
    go true e = cc
    go false e = cc

-- neither pulls nor readings move bytes
pub pull_moves_none : (h k : ℕ) (past : List Event) → moved_in_all (pull h k past) ≡ moved_in_all past
pull_moves_none h k past = go (open_stream (journal h k past))
  where
    on : (stream : ℕ) (x : Option Frame) → moved_in_all (option_map_or (λ f. Appended h k (Pull stream f) ∷ past) x past) ≡ moved_in_all past
    on stream None = refl
    on stream (Some f) = refl

    go : (o : Option ℕ) → moved_in_all (option_map_or (λ stream. pull_on h k stream past) o past) ≡ moved_in_all past
    go None = refl
    go (Some stream) = on stream (owed_frame stream (journal h k past) (own_map h past))

mark_moves_none : (h port slot : ℕ) (past : List Event) → moved_in_all (update_mark h port slot past) ≡ moved_in_all past
mark_moves_none h port slot past =
    go (is_marked h port past) (congested_after (is_marked h port past) (queued h slot past) (receive_buffer h slot past))
    (congested_after (is_marked h port past) (queued h slot past) (receive_buffer h slot past))
  where
    go : (was is set : Bool) → moved_in_all (if_changed was is (Marked h port set (queued h slot past) (receive_buffer h slot past)) past) ≡ moved_in_all past
    go true true set = refl
    go true false set = refl
    go false true set = refl
    go false false set = refl

answer_moves_none : (k h : ℕ) (f : Frame) (o : Outcome) (past : List Event) → moved_in_all (answer k h f o past) ≡ moved_in_all past
answer_moves_none k h f (outcome.Slot slot) past = mark_moves_none k f.header.dport slot past
answer_moves_none k h f outcome.Ping past = refl
answer_moves_none k h f outcome.Map past = refl
answer_moves_none k h f outcome.Old past = refl
answer_moves_none k h f outcome.NoSocket past = refl
answer_moves_none k h f outcome.Void past = refl
answer_moves_none k h f outcome.AckOnly past = refl
answer_moves_none k h f outcome.OddMap past = refl

read_moves_none : (k h : ℕ) (past : List Event) → moved_in_all (read k h past) ≡ moved_in_all past
read_moves_none k h past = go (open_stream (journal k h past)) (last_pulled_frame (journal h k past))
  where
    go : (o : Option ℕ) (x : Option Frame) → moved_in_all (option_map_or (λ stream. option_map_or (λ f. read_on k h stream f past) x past) o past) ≡ moved_in_all past
    go None x = refl
    go (Some stream) None = refl
    go (Some stream) (Some f) =
        let became = outcome_at k (verdict_of (journal k h past) f.header) past in
        answer_moves_none k h f became (Appended k h (Read stream f became) ∷ past)

pub piece_moves : (h k count : ℕ) (past : List Event) → moved_in_all (move_piece h k count past) ≡ moved_in_all past + count
piece_moves h k count past = go (length (in_flight h k (Moved h k count ∷ past)) == 0)
  where
    go : (b : Bool) → moved_in_all (cond b (read k h (Moved h k count ∷ past)) (Moved h k count ∷ past)) ≡ moved_in_all past + count
    go true = read_moves_none k h (Moved h k count ∷ past)
    go false = refl

-- some bytes, or none
pub some_bytes : (l : List ℕ) (b : Bool) → b ≡ (length l == 0) → b ≡ false → 0 < length l
some_bytes l b is no_ = let ne = eqb-false (length l) 0 (sym is ∙ no_) in ⊎_elim (λ (e : length l ≡ 0). absurd (ne e)) (λ (e : length l ≡ 0 → ⊥). positive (length l) e) (cases_eq (length l) 0)
  where
    positive : (n : ℕ) → (n ≡ 0 → ⊥) → 0 < n
    positive zero ne = absurd (ne refl)
    positive (suc n) ne = omega arith

pub some_flies : (n seen : ℕ) → n ≡ seen → (seen ≡ 0 → ⊥) → 0 < n
some_flies zero seen is ne = absurd (ne (sym is))
some_flies (suc n) seen is ne = omega arith

pub none_bytes : (l : List ℕ) (b : Bool) → b ≡ (length l == 0) → b ≡ true → length l ≡ 0
none_bytes l b is so = eqb-true (length l) 0 (sym is ∙ so)

pub no_bytes : (l : List ℕ) → length l ≡ 0 → l ≡ []
no_bytes [] none = refl
no_bytes (x ∷ xs) none = absurd (omega (arith, none))
