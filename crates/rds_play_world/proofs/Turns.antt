-- The turns of a move.
use Rattle.std.proofs.Common.{◌≡◌, ℕ, zero, suc, ◌+◌, ◌-◌, ◌<◌, ◌≤◌, ◌==◌, Bool, true, false, cond, Option, Some, None, Ok, Err, List, [], ◌++◌, length, refl, sym, ◌∙◌, ap, subst, arith}
use Rattle.std.specs.Prelude.{is_some, min, nat_eq, nat_lt, not}
use Rattle.std.specs.Option.{option_eq, option_map, option_map_or}
use Rattle.std.proofs.lemmas.Bool.{cond-true, cond-false, eq-eqb, eqb-true, ne_eqb, le-ltb, lt-ltb}
use Rattle.rds_model.specs.Past.{open_stream}
use Rattle.rds_text.specs.Lines.{move_line}
use Rattle.rds_history.specs.Events.{Event}
use Rattle.rds_history.specs.Courses.{Course, again, and_then, if_room, prints}
use Rattle.rds_history.specs.Journals.{in_flight, journal, moved_in_all}
use Rattle.rds_history.specs.Move.{arrive, bytes_left, move_and_tell, move_piece, move_up_to, portion, pull_if_idle, turn}
use Rattle.rds_history.specs.PullAndRead.{pull}
use Rattle.rds_play_world.specs.declared.stop.Stop.{Stop}
use Rattle.rds_play_world.specs.Coming.{Comes, ComesRight}
use Rattle.rds_play_world.specs.Telling.{State, Tells, none_waits}
use Rattle.rds_play_world.proofs.Comings.{comes_lacking, comes_printed}
use Rattle.rds_play_world.proofs.Right.{IsCount, IsMore, right_lacking, right_made, taken, room_same, pull_moves_none, piece_moves}

-- a pull where nothing is in flight
pub idle_pulls : (limit h k : ℕ) (past : List Event) → in_flight h k past ≡ [] →
    and_then (if_room limit h k past) (λ before. Ok (pull h k before)) ≡ pull_if_idle limit h k past
idle_pulls limit h k past none =
    sym (cond-true (length (in_flight h k past) == 0) (and_then (if_room limit h k past) (λ before. Ok (pull h k before))) (Ok past)
    (eq-eqb (length (in_flight h k past)) 0 (ap (λ (l : List ℕ). length l) none)))

pub busy_stays : (limit h k : ℕ) (past : List Event) → 0 < length (in_flight h k past) → Ok past ≡ pull_if_idle limit h k past
busy_stays limit h k past some =
    sym (cond-false (length (in_flight h k past) == 0) (and_then (if_room limit h k past) (λ before. Ok (pull h k before))) (Ok past)
    (ne_eqb (length (in_flight h k past)) 0 (λ e. omega (arith, e, some))))

pub pull_if_idle_moves_none : (limit h k : ℕ) (past later : List Event) → pull_if_idle limit h k past ≡ Ok later → moved_in_all later ≡ moved_in_all past
pull_if_idle_moves_none limit h k past later is = go (length (in_flight h k past) == 0) is
  where
    pulls : (room : Bool) → and_then (cond {A = Course} room (Err (record { host = h; peer = k; entries = length (journal h k past) })) (Ok past)) (λ before. Ok (pull h k before)) ≡ Ok later →
        moved_in_all later ≡ moved_in_all past
    pulls true e = cc
    pulls false e = let same : later ≡ pull h k past = cc in ap moved_in_all same ∙ pull_moves_none h k past

    go : (b : Bool) → cond {A = Course} b (and_then (if_room limit h k past) (λ before. Ok (pull h k before))) (Ok past) ≡ Ok later → moved_in_all later ≡ moved_in_all past
    go true e = pulls (nat_lt limit (length (journal h k past) + 2)) e
    go false e = let same : later ≡ past = cc in ap moved_in_all same

-- what is in flight arrives
pub none_arrives : (limit h k : ℕ) (left : Option ℕ) (past : List Event) → length (in_flight h k past) ≡ 0 → Ok past ≡ arrive limit h k left past
none_arrives limit h k left past none =
    sym (cond-true (length (in_flight h k past) == 0) (Ok past)
    (and_then (if_room limit k h past) (λ before. Ok (move_piece h k (portion left (length (in_flight h k past))) before)))
    (eq-eqb (length (in_flight h k past)) 0 none))

pub some_arrive : (limit h k : ℕ) (left : Option ℕ) (past : List Event) → 0 < length (in_flight h k past) →
    and_then (if_room limit k h past) (λ before. Ok (move_piece h k (portion left (length (in_flight h k past))) before)) ≡ arrive limit h k left past
some_arrive limit h k left past some =
    sym (cond-false (length (in_flight h k past) == 0) (Ok past)
    (and_then (if_room limit k h past) (λ before. Ok (move_piece h k (portion left (length (in_flight h k past))) before)))
    (ne_eqb (length (in_flight h k past)) 0 (λ e. omega (arith, e, some))))

pub portion_fits : (left : Option ℕ) (count : ℕ) → portion left count ≤ count
portion_fits None count = omega arith
portion_fits (Some most) count = omega arith

pub portion_within : (left : Option ℕ) (count n : ℕ) → left ≡ Some n → portion left count ≤ n
portion_within None count n is = cc
portion_within (Some most) count n is = let same : most ≡ n = cc in omega (arith, same)

-- bytes came where there was room
pub arrived : (limit hosts h k count : ℕ) (left : Option ℕ) (past later : List Event) (t : State) → if_room limit k h past ≡ Ok later →
    count ≡ portion left (length (in_flight h k past)) → 0 < length (in_flight h k past) →
    (0 < length (in_flight h k later) → count ≤ length (in_flight h k later) → Tells limit hosts (move_piece h k count later) t) →
    ComesRight (IsMore past) none_waits limit hosts (Ok (move_piece h k (portion left (length (in_flight h k past))) later)) (Ok count) t
arrived limit hosts h k count left past later t room count_is some step =
    let same = room_same limit k h past later room in
    let some_later = subst (λ (p : List Event). 0 < length (in_flight h k p)) (sym same) some in
    let fits : count ≤ length (in_flight h k past) = omega (arith, count_is, portion_fits left (length (in_flight h k past))) in
    let fits_later = subst (λ (p : List Event). count ≤ length (in_flight h k p)) (sym same) fits in
    let n = portion left (length (in_flight h k past)) in
    let before : moved_in_all later ≡ moved_in_all past = ap moved_in_all same in
    right_made (IsMore past) none_waits limit hosts (move_piece h k n later) count t
    (subst (λ (i : ℕ). Tells limit hosts (move_piece h k i later) t) count_is (step some_later fits_later))
    (omega (arith, piece_moves h k n later, before, count_is))

-- a turn where bytes are left
pub turn_goes : (limit h k : ℕ) (left : Option ℕ) (past : List Event) → (left ≡ Some 0 → ⊥) →
    and_then (pull_if_idle limit h k past) (arrive limit h k left) ≡ turn limit h k left past
turn_goes limit h k None past some = refl
turn_goes limit h k (Some zero) past some = absurd (some refl)
turn_goes limit h k (Some (suc n)) past some = refl

pub left_none : (left : Option ℕ) (b : Bool) → b ≡ option_eq nat_eq left (Some 0) → b ≡ true → left ≡ Some 0
left_none None b is yes_ = let odd = sym yes_ ∙ is in cc
left_none (Some n) b is yes_ = ap (λ (x : ℕ). Some x) (eqb-true n 0 (sym is ∙ yes_))

pub left_some : (left : Option ℕ) (b : Bool) → b ≡ option_eq nat_eq left (Some 0) → b ≡ false → left ≡ Some 0 → ⊥
left_some left b is no_ zero_left =
    let yes_ : option_eq nat_eq left (Some 0) ≡ true = ap (λ (o : Option ℕ). option_eq nat_eq o (Some 0)) zero_left in
    let odd = sym no_ ∙ is ∙ yes_ in cc

pub turn_stays : (limit h k : ℕ) (left : Option ℕ) (past : List Event) → left ≡ Some 0 → Ok past ≡ turn limit h k left past
turn_stays limit h k left past none = sym (ap (λ (o : Option ℕ). turn limit h k o past) none)

-- how many bytes may be moved in all
abbrev pub top_of : Option ℕ → List Event → Option ℕ
top_of most past = option_map (λ n. moved_in_all past + n) most

-- one turn of a move that began at a past
abbrev pub step_of : (limit h k : ℕ) → Option ℕ → List Event → List Event → Course
step_of limit h k most past mid = turn limit h k (bytes_left (top_of most past) mid) mid

-- a move, of which so many turns are left, and so many bytes were moved
pub record IsMoving (limit hosts h k : ℕ) (most : Option ℕ) (past : List Event) (times moved : ℕ) (s : State) : Type 0 where
  pub mid : List Event
  pub tells : Tells limit hosts mid s
  pub rest : again times (step_of limit h k most past) mid ≡ move_up_to limit h k (top_of most past) past
  pub counts : moved ≡ min 18446744073709551615 (moved_in_all mid - moved_in_all past)
  pub forward : moved_in_all past ≤ moved_in_all mid

pub moving_begins : (limit hosts h k : ℕ) (most : Option ℕ) (past : List Event) (s : State) → Tells limit hosts past s →
    IsMoving limit hosts h k most past (limit + 1) 0 s
moving_begins limit hosts h k most past s told = record { mid = past; tells = told; rest = refl; counts = omega arith; forward = omega arith }

left_is : (most : Option ℕ) (past mid : List Event) (moved : ℕ) → moved ≡ min 18446744073709551615 (moved_in_all mid - moved_in_all past) →
    moved_in_all past ≤ moved_in_all mid → ((n : ℕ) → most ≡ Some n → n ≤ 18446744073709551615) →
    option_map (λ n. n - moved) most ≡ bytes_left (top_of most past) mid
left_is None past mid moved counts forward fits = refl
left_is (Some n) past mid moved counts forward fits =
    let small = fits n refl in
    let same : n - moved ≡ (moved_in_all past + n) - moved_in_all mid = omega (arith, counts, forward, small) in
    ap (λ (x : ℕ). Some x) same

-- the turn that is next
turn_is : (limit hosts h k : ℕ) (most : Option ℕ) (past : List Event) (times moved : ℕ) (s : State) (left : Option ℕ) (m : IsMoving limit hosts h k most past times moved s) →
    left ≡ option_map (λ n. n - moved) most → ((n : ℕ) → most ≡ Some n → n ≤ 18446744073709551615) →
    turn limit h k left m.mid ≡ step_of limit h k most past m.mid
turn_is limit hosts h k most past times moved s left m is fits =
    ap (λ (o : Option ℕ). turn limit h k o m.mid) (is ∙ left_is most past m.mid moved m.counts m.forward fits)

onward : (limit h k : ℕ) → Option ℕ → List Event → ℕ → List Event → List Event → Course
onward limit h k most past times mid later = cond (nat_lt (moved_in_all mid) (moved_in_all later)) (again times (step_of limit h k most past) later) (Ok later)

pub moving_stopped : (limit hosts h k : ℕ) (most : Option ℕ) (past : List Event) (times moved : ℕ) (s t : State) (left : Option ℕ) (why : Stop)
    (m : IsMoving limit hosts h k most past (suc times) moved s) → left ≡ option_map (λ n. n - moved) most → ((n : ℕ) → most ≡ Some n → n ≤ 18446744073709551615) →
    ComesRight (IsMore m.mid) none_waits limit hosts (turn limit h k left m.mid) (Err why) t →
    ComesRight (IsCount past) none_waits limit hosts (move_up_to limit h k (top_of most past) past) (Err why) t
moving_stopped limit hosts h k most past times moved s t left why m is fits comes =
    subst (λ (c : Course). ComesRight (IsCount past) none_waits limit hosts c (Err why) t) m.rest
    (go (step_of limit h k most past m.mid)
    (subst (λ (c : Course). ComesRight (IsMore m.mid) none_waits limit hosts c (Err why) t) (turn_is limit hosts h k most past (suc times) moved s left m is fits) comes))
  where
    go : (c : Course) → ComesRight (IsMore m.mid) none_waits limit hosts c (Err why) t →
        ComesRight (IsCount past) none_waits limit hosts (and_then c (λ later. cond (nat_lt (moved_in_all m.mid) (moved_in_all later)) (again times (step_of limit h k most past) later) (Ok later))) (Err why) t
    go (Ok later) comes = right_lacking (IsCount past) none_waits limit hosts
        (cond (nat_lt (moved_in_all m.mid) (moved_in_all later)) (again times (step_of limit h k most past) later) (Ok later)) why t comes
    go (Err full) comes = comes

-- what is left of a move after a turn that went well
again_is : (limit h k : ℕ) (most : Option ℕ) (past mid later : List Event) (times : ℕ) (course : Course) → step_of limit h k most past mid ≡ Ok later →
    again (suc times) (step_of limit h k most past) mid
    ≡ cond (nat_lt (moved_in_all mid) (moved_in_all later)) (again times (step_of limit h k most past) later) (Ok later)
again_is limit h k most past mid later times course is =
    ap (λ (c : Course). and_then c (λ x. cond (nat_lt (moved_in_all mid) (moved_in_all x)) (again times (step_of limit h k most past) x) (Ok x))) is

pub moving_ends : (limit hosts h k : ℕ) (most : Option ℕ) (past : List Event) (times moved : ℕ) (s t : State) (left : Option ℕ)
    (m : IsMoving limit hosts h k most past (suc times) moved s) → left ≡ option_map (λ n. n - moved) most → ((n : ℕ) → most ≡ Some n → n ≤ 18446744073709551615) →
    ComesRight (IsMore m.mid) none_waits limit hosts (turn limit h k left m.mid) (Ok 0) t →
    ComesRight (IsCount past) none_waits limit hosts (move_up_to limit h k (top_of most past) past) (Ok moved) t
moving_ends limit hosts h k most past times moved s t left m is fits comes =
    let took = taken (IsMore m.mid) none_waits limit hosts (turn limit h k left m.mid) 0 t comes in
    let step : step_of limit h k most past m.mid ≡ Ok took.later = sym (turn_is limit hosts h k most past (suc times) moved s left m is fits) ∙ took.is in
    let none : nat_lt (moved_in_all m.mid) (moved_in_all took.later) ≡ false = le-ltb (moved_in_all m.mid) (moved_in_all took.later) (omega (arith, took.right)) in
    let whole : Ok took.later ≡ move_up_to limit h k (top_of most past) past =
    sym (again_is limit h k most past m.mid took.later times (Ok past) step
    ∙ cond-false (nat_lt (moved_in_all m.mid) (moved_in_all took.later)) (again times (step_of limit h k most past) took.later) (Ok took.later) none) ∙ m.rest in
    subst (λ (c : Course). ComesRight (IsCount past) none_waits limit hosts c (Ok moved) t) whole
    (right_made (IsCount past) none_waits limit hosts took.later moved t took.tells (omega (arith, m.counts, took.right)))

pub moving_more : (limit hosts h k : ℕ) (most : Option ℕ) (past : List Event) (times moved more total : ℕ) (s t : State) (left : Option ℕ)
    (m : IsMoving limit hosts h k most past (suc times) moved s) → left ≡ option_map (λ n. n - moved) most → ((n : ℕ) → most ≡ Some n → n ≤ 18446744073709551615) →
    0 < more → total ≡ min 18446744073709551615 (moved + more) →
    ComesRight (IsMore m.mid) none_waits limit hosts (turn limit h k left m.mid) (Ok more) t →
    IsMoving limit hosts h k most past times total t
moving_more limit hosts h k most past times moved more total s t left m is fits some adds comes =
    let took = taken (IsMore m.mid) none_waits limit hosts (turn limit h k left m.mid) more t comes in
    let step : step_of limit h k most past m.mid ≡ Ok took.later = sym (turn_is limit hosts h k most past (suc times) moved s left m is fits) ∙ took.is in
    let goes : nat_lt (moved_in_all m.mid) (moved_in_all took.later) ≡ true = lt-ltb (moved_in_all m.mid) (moved_in_all took.later) (omega (arith, took.right, some)) in
    record {
      mid = took.later;
      tells = took.tells;
      rest =
          sym (again_is limit h k most past m.mid took.later times (Ok past) step
          ∙ cond-true (nat_lt (moved_in_all m.mid) (moved_in_all took.later)) (again times (step_of limit h k most past) took.later) (Ok took.later) goes) ∙ m.rest;
      counts = omega (arith, m.counts, m.forward, took.right, adds);
      forward = omega (arith, m.forward, took.right);
    }

pub moving_over : (limit hosts h k : ℕ) (most : Option ℕ) (past : List Event) (moved : ℕ) (s : State) (m : IsMoving limit hosts h k most past 0 moved s) →
    ComesRight (IsCount past) none_waits limit hosts (move_up_to limit h k (top_of most past) past) (Ok moved) s
moving_over limit hosts h k most past moved s m =
    subst (λ (c : Course). ComesRight (IsCount past) none_waits limit hosts c (Ok moved) s) m.rest
    (right_made (IsCount past) none_waits limit hosts m.mid moved s m.tells m.counts)

-- a move, and the line that says how many bytes went
pub moved_and_told : (limit hosts h k count moved : ℕ) (past : List Event) (s t : State) → count < 4294967296 → moved ≤ count →
    ComesRight (IsCount past) none_waits limit hosts (move_up_to limit h k (Some (moved_in_all past + count)) past) (Ok moved) s →
    t ≡ record s { text = s.text ++ move_line h k moved } →
    Comes {A = Unit {0}} limit hosts (move_and_tell limit h k count past) (Ok (tt {0})) t
moved_and_told limit hosts h k count moved past s t small within comes is =
    let took = taken (IsCount past) none_waits limit hosts (move_up_to limit h k (Some (moved_in_all past + count)) past) moved s comes in
    let exact : moved ≡ moved_in_all took.later - moved_in_all past = omega (arith, took.right, within, small) in
    let line : Comes {A = Unit {0}} limit hosts (prints (move_line h k (moved_in_all took.later - moved_in_all past)) took.later) (Ok (tt {0})) t =
    comes_printed none_waits limit hosts took.later (move_line h k (moved_in_all took.later - moved_in_all past)) (tt {0}) s t took.tells
    (is ∙ ap (λ (n : ℕ). record s { text = s.text ++ move_line h k n }) exact) in
    subst (λ (c : Course). Comes {A = Unit {0}} limit hosts (and_then c (λ later. prints (move_line h k (moved_in_all later - moved_in_all past)) later)) (Ok (tt {0})) t) (sym took.is) line

-- the stream is open
pub open_moves : (limit h k count : ℕ) (past : List Event) (stream : Option ℕ) (refused : Course) → open_stream (journal h k past) ≡ stream → (stream ≡ None → ⊥) →
    move_and_tell limit h k count past ≡ option_map_or (λ s. move_and_tell limit h k count past) (open_stream (journal h k past)) refused
open_moves limit h k count past stream refused is some = sym (go (open_stream (journal h k past)) is)
  where
    go : (o : Option ℕ) → o ≡ stream → option_map_or (λ s. move_and_tell limit h k count past) o refused ≡ move_and_tell limit h k count past
    go None e = absurd (some (sym e))
    go (Some s) e = refl

-- the move was stopped
pub told_stopped : {A : Type 0} (B : Type 0) (IsRight : List Event → A → Type 0) (limit hosts : ℕ) (first : Course) (next : List Event → Course) (why : Stop) (s t : State) →
    ComesRight IsRight none_waits limit hosts first (Err why) s → Comes {A = B} limit hosts (and_then first next) (Err why) t
told_stopped B IsRight limit hosts (Ok past) next why s t comes = comes_lacking B none_waits limit hosts (next past) why t comes
told_stopped B IsRight limit hosts (Err full) next why s t comes = comes

pub some_stream : (o : Option ℕ) (b : Bool) → is_some o ≡ not b → b ≡ false → o ≡ None → ⊥
some_stream o b is no_ none =
    let some : is_some o ≡ true = is ∙ ap (λ (x : Bool). not x) no_ in
    let odd : is_some o ≡ false = ap (λ (x : Option ℕ). is_some x) none in
    let both = sym odd ∙ some in cc
