-- What a move without a limit does to what is in flight, and when it does nothing.
use Rattle.std.proofs.Common.{◌≡◌, ◌⊎◌, inl, inr, ⊎_elim, ℕ, suc, ◌+◌, ◌==◌, ◌&&◌, ◌<◌, ◌≤◌, Bool, true, false, cond, Option, Some, None, Ok, Err, List, [], ◌∷◌, length, refl, sym, ◌∙◌, ap, subst, arith}
use Rattle.std.proofs.lemmas.Bool.{cases_Bool, and_parts, eqb-true, eq-eqb, ltb-true, ltb-false, le-ltb, cond-true, cond-false}
use Rattle.std.proofs.lemmas.Option.{none-some}
use Rattle.std.specs.Prelude.{nat_lt, min}
use Rattle.std.specs.Option.{option_map_or, option_and_then}
use Rattle.rds_model.specs.declared.entry.Entry.TheVariants.{Pull}
use Rattle.rds_model.specs.Owed.{owed_frame}
use Rattle.rds_model.specs.Past.{open_stream}
use Rattle.rds_history.specs.Events.{Event, Appended}
use Rattle.rds_history.specs.Courses.{Course, and_then, if_room, again}
use Rattle.rds_history.specs.Journals.{journal, moved_in_all, in_flight, own_map}
use Rattle.rds_history.specs.PullAndRead.{pull, pull_on}
use Rattle.rds_history.specs.Move.{pull_if_idle, arrive, move_up_to, portion, move_piece}
use Rattle.rds_history.specs.Limits.{MovesOnlyWritten, owed_to, turn_up_to}
use Rattle.rds_history.proofs.EventInvariants.{Holds, holds_then, holds_again, holds_weaker}
use Rattle.rds_history.proofs.Again.{IsLast, last_step}
use Rattle.rds_history.proofs.Turns.{IsResting, HasStopped, HasMoved, IsOnward, IsTurned, turned, ends_move}

-- no stream changed, no journal is shorter, and nothing new is in flight
pub record IsSteady (past later : List Event) : Type 0 where
  pub forward : moved_in_all past ≤ moved_in_all later
  pub streams : (a b : ℕ) → open_stream (journal a b later) ≡ open_stream (journal a b past)
  pub longer : (a b : ℕ) → length (journal a b past) ≤ length (journal a b later)
  pub keeps : (a b : ℕ) → in_flight a b past ≡ [] → in_flight a b later ≡ []

pub steady_here : (past : List Event) → IsSteady past past
steady_here past = record { forward = omega arith; streams = λ a b. refl; longer = λ a b. omega arith; keeps = λ a b none. none }

pub steady_then : (past mid later : List Event) → IsSteady past mid → IsSteady mid later → IsSteady past later
steady_then past mid later first second = record {
  forward = omega (arith, first.forward, second.forward);
  streams = λ a b. second.streams a b ∙ first.streams a b;
  longer = λ a b. omega (arith, first.longer a b, second.longer a b);
  keeps = λ a b none. second.keeps a b (first.keeps a b none);
}

-- a move without a limit
pub record IsCarried (limit h k : ℕ) (past later : List Event) : Type 0 where
  pub steady : IsSteady past later
  pub empty : in_flight h k later ≡ []
  pub rises : moved_in_all past < moved_in_all later →
      (2 ≤ limit) × (in_flight h k past ≡ [] → min limit (length (journal h k past)) < min limit (length (journal h k later)))
  pub still : MovesOnlyWritten past → moved_in_all later ≡ moved_in_all past → (later ≡ past) × IsResting limit h k past

module _ (limit h k : ℕ) where
  abbrev step : List Event → Course
  step = turn_up_to limit h k None

  -- so far
  record IsForth (past later : List Event) : Type 0 where
    onward : IsOnward h k past later
    forward : moved_in_all past ≤ moved_in_all later

  forth_turn : (past before later : List Event) → IsForth past before → IsTurned limit h k None before later → IsForth past later
  forth_turn past before later forth is = record {
    onward = record {
      others = λ a b other. is.onward.others a b other ∙ forth.onward.others a b other;
      streams = λ a b. is.onward.streams a b ∙ forth.onward.streams a b;
      longer = λ a b. omega (arith, is.onward.longer a b, forth.onward.longer a b);
    };
    forward = ⊎_elim (λ (stopped : HasStopped limit h k None before later). omega (arith, forth.forward, stopped.same))
        (λ (moved : HasMoved limit h k None before later). omega (arith, forth.forward, moved.more)) is.outcome;
  }

  forth : (turns : ℕ) (past : List Event) → Holds (IsForth past) (again turns step past)
  forth turns past =
      holds_again (IsForth past) turns step past
      (record { onward = record { others = λ a b other. refl; streams = λ a b. refl; longer = λ a b. omega arith }; forward = omega arith })
      (λ before so. holds_weaker (IsTurned limit h k None before) (IsForth past) (step before) (turned limit h k None before)
      (λ later is. forth_turn past before later so is))

  -- what the first turn says
  record HasBegun (past later : List Event) : Type 0 where
    rises : moved_in_all past < moved_in_all later →
        (2 ≤ limit) × (in_flight h k past ≡ [] → min limit (length (journal h k past)) < min limit (length (journal h k later)))
    still : MovesOnlyWritten past → moved_in_all later ≡ moved_in_all past → (later ≡ past) × IsResting limit h k past

  begun_more : (past mid later : List Event) → IsTurned limit h k None past mid → moved_in_all past < moved_in_all mid → IsForth mid later → HasBegun past later
  begun_more past mid later is more so = record {
    rises = λ any. ⊎_elim (λ (stopped : HasStopped limit h k None past mid). absurd (omega (arith, stopped.same, more)))
        (λ (moved : HasMoved limit h k None past mid). (
          moved.room,
          λ none.
              let grown = moved.grown none in omega (arith, grown.0, grown.1, so.onward.longer h k),
        )) is.outcome;
    still = λ written same. absurd (omega (arith, more, so.forward, same));
  }

  begun_none : (past mid : List Event) → IsTurned limit h k None past mid → moved_in_all mid ≤ moved_in_all past → HasBegun past mid
  begun_none past mid is none = record {
    rises = λ more. absurd (omega (arith, more, none));
    still = λ written same. ⊎_elim (λ (stopped : HasStopped limit h k None past mid).
        let still = stopped.still written in (still.0, ⊎_elim (λ (zero_left : None ≡ Some 0). absurd (none-some 0 zero_left)) (λ (rest : IsResting limit h k past). rest) still.1))
        (λ (moved : HasMoved limit h k None past mid). absurd (omega (arith, moved.more, none))) is.outcome;
  }

  begun : (turns : ℕ) (past : List Event) → Holds (HasBegun past) (again (suc turns) step past)
  begun turns past =
      holds_then (IsTurned limit h k None past) (HasBegun past) (step past)
      (λ later. cond (nat_lt (moved_in_all past) (moved_in_all later)) (again turns step later) (Ok later)) (turned limit h k None past)
      (λ mid is. go (nat_lt (moved_in_all past) (moved_in_all mid)) mid refl is)
    where
      go : (b : Bool) (mid : List Event) → nat_lt (moved_in_all past) (moved_in_all mid) ≡ b → IsTurned limit h k None past mid →
          Holds (HasBegun past) (cond b (again turns step mid) (Ok mid))
      go true mid at is =
          holds_weaker (IsForth mid) (HasBegun past) (again turns step mid) (forth turns mid)
          (λ later so. begun_more past mid later is (ltb-true (moved_in_all past) (moved_in_all mid) at) so)
      go false mid at is = begun_none past mid is (ltb-false (moved_in_all past) (moved_in_all mid) at)

  -- what the last turn says
  emptied : (past : List Event) → Holds (λ later. in_flight h k later ≡ []) (move_up_to limit h k None past)
  emptied past =
      holds_weaker (IsLast step (λ (before : List Event). Unit {0})) (λ later. in_flight h k later ≡ []) (move_up_to limit h k None past)
      (last_step step (λ (before : List Event). Unit {0}) (λ before later p is. tt) (limit + 1) past (ends_move limit h k None past) tt)
      (λ later last. go last.before later last.is last.none)
    where
      go : (before later : List Event) → step before ≡ Ok later → nat_lt (moved_in_all before) (moved_in_all later) ≡ false → in_flight h k later ≡ []
      go before later is none =
          let so : IsTurned limit h k None before later = subst (Holds (IsTurned limit h k None before)) is (turned limit h k None before) in
          ⊎_elim (λ (stopped : HasStopped limit h k None before later).
          ⊎_elim (λ (zero_left : None ≡ Some 0). absurd (none-some 0 zero_left)) (λ (empty : in_flight h k later ≡ []). empty) stopped.done)
          (λ (moved : HasMoved limit h k None before later).
          absurd (omega (arith, moved.more, ltb-false (moved_in_all before) (moved_in_all later) none))) so.outcome

  steady_from : (past later : List Event) → IsForth past later → in_flight h k later ≡ [] → IsSteady past later
  steady_from past later so empty = record {
    forward = so.forward;
    streams = so.onward.streams;
    longer = so.onward.longer;
    keeps = λ a b none. go a b none (cases_Bool (h == a && (k == b)));
  }
    where
      go : (a b : ℕ) → in_flight a b past ≡ [] → ((h == a && (k == b)) ≡ true) ⊎ ((h == a && (k == b)) ≡ false) → in_flight a b later ≡ []
      go a b none (inr other) = so.onward.others a b other ∙ none
      go a b none (inl own) =
          let both = and_parts (h == a) (k == b) own in
          ap (λ i. in_flight i b later) (sym (eqb-true h a both.0)) ∙ ap (λ i. in_flight h i later) (sym (eqb-true k b both.1)) ∙ empty

  pub carried : (past : List Event) → Holds (IsCarried limit h k past) (move_up_to limit h k None past)
  carried past = go (move_up_to limit h k None past) (forth (limit + 1) past) first (emptied past)
    where
      first : Holds (HasBegun past) (move_up_to limit h k None past)
      first = let is : suc limit ≡ limit + 1 = omega arith in subst (λ n. Holds (HasBegun past) (again n step past)) is (begun limit past)

      go : (c : Course) → Holds (IsForth past) c → Holds (HasBegun past) c → Holds (λ later. in_flight h k later ≡ []) c → Holds (IsCarried limit h k past) c
      go (Ok later) so began empty = record { steady = steady_from past later so empty; empty = empty; rises = began.rises; still = began.still }
      go (Err full) so began empty = tt

  -- where nothing flies and nothing is owed, a move changes nothing
  pull_none : (past : List Event) → owed_to h k past ≡ None → pull h k past ≡ past
  pull_none past none = go (open_stream (journal h k past)) none
    where
      go : (o : Option ℕ) → option_and_then (λ s. owed_frame s (journal h k past) (own_map h past)) o ≡ None →
          option_map_or (λ stream. pull_on h k stream past) o past ≡ past
      go None e = refl
      go (Some s) e = ap (λ o. option_map_or (λ f. Appended h k (Pull s f) ∷ past) o past) e

  resting_turn : (past : List Event) → IsResting limit h k past → step past ≡ Ok past
  resting_turn past rest =
      let empty : (length (in_flight h k past) == 0) ≡ true = eq-eqb (length (in_flight h k past)) 0 (ap length rest.idle.nothing_flies) in
      let room : nat_lt limit (length (journal h k past) + 2) ≡ false = le-ltb limit (length (journal h k past) + 2) rest.room in
      let pulls : pull_if_idle limit h k past ≡ Ok past =
      cond-true (length (in_flight h k past) == 0) (and_then (if_room limit h k past) (λ before. Ok (pull h k before))) (Ok past) empty
      ∙ ap (λ c. and_then c (λ before. Ok (pull h k before)))
      (cond-false (nat_lt limit (length (journal h k past) + 2)) (Err (record { host = h; peer = k; entries = length (journal h k past) })) (Ok past) room)
      ∙ ap (λ (l : List Event). Ok l) (pull_none past rest.idle.nothing_owed) in
      ap (λ c. and_then c (arrive limit h k None)) pulls
      ∙ cond-true (length (in_flight h k past) == 0) (Ok past)
      (and_then (if_room limit k h past) (λ before. Ok (move_piece h k (portion None (length (in_flight h k past))) before))) empty

  pub resting_move : (past : List Event) → IsResting limit h k past → move_up_to limit h k None past ≡ Ok past
  resting_move past rest =
      let is : limit + 1 ≡ suc limit = omega arith in
      ap (λ n. again n step past) is
      ∙ ap (λ c. and_then c (λ later. cond (nat_lt (moved_in_all past) (moved_in_all later)) (again limit step later) (Ok later))) (resting_turn past rest)
      ∙ cond-false (nat_lt (moved_in_all past) (moved_in_all past)) (again limit step past) (Ok past) (le-ltb (moved_in_all past) (moved_in_all past) (omega arith))
