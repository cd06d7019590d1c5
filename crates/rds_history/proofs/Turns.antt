-- A move has enough turns.
use Rattle.std.proofs.Common.{◌≡◌, ◌⊎◌, inl, inr, ⊎_elim, ℕ, zero, suc, ◌+◌, ◌-◌, ◌==◌, ◌&&◌, ◌<◌, ◌≤◌, Bool, true, false, cond, Option, Some, None, Ok, Err, List, [], ◌∷◌, length, refl, sym, ◌∙◌, ap, subst, arith}
use Rattle.std.proofs.lemmas.Bool.{eqb-true, eqb-false, ltb-false, cases_lt}
use Rattle.std.proofs.lemmas.List.{drop_all, length-drop}
use Rattle.std.proofs.lemmas.Option.{none-some, same_Some}
use Rattle.std.specs.Prelude.{nat_lt, min}
use Rattle.std.specs.Option.{option_map_or, option_and_then}
use Rattle.rds_wire.specs.declared.frame.Frame.{Frame}
use Rattle.rds_model.specs.declared.entry.Entry.TheVariants.{Pull}
use Rattle.rds_model.specs.Owed.{owed_frame}
use Rattle.rds_model.specs.Past.{open_stream}
use Rattle.rds_model.specs.Streams.{written_bytes}
use Rattle.rds_history.specs.Events.{Event, Appended}
use Rattle.rds_history.specs.Courses.{and_then, if_room, again}
use Rattle.rds_history.specs.Journals.{journal, moved_count, moved_in_all, written_to_open, in_flight, own_map}
use Rattle.rds_history.specs.PullAndRead.{pull, pull_on}
use Rattle.rds_history.specs.Move.{move_piece, pull_if_idle, arrive, portion, turn, bytes_left, move_up_to}
use Rattle.rds_history.specs.Limits.{MovesOnlyWritten, HasNothingToSend, IsMoved, owed_to, turn_up_to}
use Rattle.rds_history.proofs.EventInvariants.{Holds, holds_then, keeps_turn}
use Rattle.rds_history.proofs.OnlyWritten.{only_written_is_kept}
use Rattle.rds_history.proofs.Again.{Ends, ends_from, ends_again, IsLast, last_step}
use Rattle.rds_history.proofs.Pieces.{HasCome, come_piece, HasPulled, pulled_one}

empty_of : {X : Type 0} (xs : List X) → (length xs == 0) ≡ true → xs ≡ []
empty_of [] is = refl
empty_of (x ∷ xs) is = absurd (omega (arith, eqb-true (length (x ∷ xs)) 0 is))

some_of : (n : ℕ) → (n == 0) ≡ false → 0 < n
some_of zero is = absurd (eqb-false 0 0 is refl)
some_of (suc n) is = omega arith

not_some : {X : Type 0} (xs : List X) → xs ≡ [] → 0 < length xs → ⊥
not_some xs is some = let e : length xs ≡ 0 = ap length is in omega (arith, e, some)

gains : (left : Option ℕ) (n : ℕ) → 0 < n → (left ≡ Some 0 → ⊥) → 0 < portion left n
gains None n some asked = some
gains (Some zero) n some asked = absurd (asked refl)
gains (Some (suc m)) n some asked = omega (arith, some)

-- nothing flies and nothing is owed, and the journal has room
pub record IsResting (limit h k : ℕ) (past : List Event) : Type 0 where
  pub idle : HasNothingToSend h k past
  pub room : length (journal h k past) + 2 ≤ limit

-- a turn moved nothing
pub record HasStopped (limit h k : ℕ) (left : Option ℕ) (past later : List Event) : Type 0 where
  pub same : moved_in_all later ≡ moved_in_all past
  pub done : (left ≡ Some 0) ⊎ (in_flight h k later ≡ [])
  pub still : MovesOnlyWritten past → (later ≡ past) × ((left ≡ Some 0) ⊎ IsResting limit h k past)

-- a turn moved something: all that was in flight, or all that it might
pub record HasMoved (limit h k : ℕ) (left : Option ℕ) (past later : List Event) : Type 0 where
  pub asked : left ≡ Some 0 → ⊥
  pub more : moved_in_all past < moved_in_all later
  pub room : 2 ≤ limit
  pub settled : (in_flight h k later ≡ []) ⊎ ((n : ℕ) × (left ≡ Some n) × (moved_in_all later ≡ moved_in_all past + n))
  pub grown : in_flight h k past ≡ [] → (length (journal h k past) + 2 ≤ limit) × (length (journal h k past) < length (journal h k later))

-- what each event of a turn keeps
pub record IsOnward (h k : ℕ) (past later : List Event) : Type 0 where
  pub others : (a b : ℕ) → (h == a && (k == b)) ≡ false → in_flight a b later ≡ in_flight a b past
  pub streams : (a b : ℕ) → open_stream (journal a b later) ≡ open_stream (journal a b past)
  pub longer : (a b : ℕ) → length (journal a b past) ≤ length (journal a b later)

pub record IsTurned (limit h k : ℕ) (left : Option ℕ) (past later : List Event) : Type 0 where
  pub onward : IsOnward h k past later
  pub outcome : HasStopped limit h k left past later ⊎ HasMoved limit h k left past later

module _ (limit h k : ℕ) where
  holds_arrive : (Q : List Event → Type 0) (left : Option ℕ) (past : List Event) → (in_flight h k past ≡ [] → Q past) →
      (0 < length (in_flight h k past) → 2 ≤ limit → Q (move_piece h k (portion left (length (in_flight h k past))) past)) →
      Holds Q (arrive limit h k left past)
  holds_arrive Q left past nothing came = go (length (in_flight h k past) == 0) refl
    where
      on : (full : Bool) → nat_lt limit (length (journal k h past) + 2) ≡ full → 0 < length (in_flight h k past) →
          Holds Q (and_then (cond full (Err (record { host = k; peer = h; entries = length (journal k h past) })) (Ok past))
          (λ (before : List Event). Ok (move_piece h k (portion left (length (in_flight h k past))) before)))
      on true is some = tt
      on false is some = came some (omega (arith, ltb-false limit (length (journal k h past) + 2) is))

      go : (idle : Bool) → (length (in_flight h k past) == 0) ≡ idle → Holds Q (cond idle (Ok past)
          (and_then (if_room limit k h past) (λ (before : List Event). Ok (move_piece h k (portion left (length (in_flight h k past))) before))))
      go true is = nothing (empty_of (in_flight h k past) is)
      go false is = on (nat_lt limit (length (journal k h past) + 2)) refl (some_of (length (in_flight h k past)) is)

  of_pull : (R : List Event → Type 0) (past : List Event) → (owed_to h k past ≡ None → R past) →
      ((stream : ℕ) (f : Frame) → open_stream (journal h k past) ≡ Some stream → R (Appended h k (Pull stream f) ∷ past)) → R (pull h k past)
  of_pull R past none some = go (open_stream (journal h k past)) refl
    where
      on : (stream : ℕ) → open_stream (journal h k past) ≡ Some stream → (o : Option Frame) → owed_frame stream (journal h k past) (own_map h past) ≡ o →
          R (option_map_or (λ f. Appended h k (Pull stream f) ∷ past) o past)
      on stream at None is =
          none (ap (option_and_then (λ s. owed_frame s (journal h k past) (own_map h past))) at ∙ is)
      on stream at (Some f) is = some stream f at

      go : (o : Option ℕ) → open_stream (journal h k past) ≡ o → R (option_map_or (λ stream. pull_on h k stream past) o past)
      go None is = none (ap (option_and_then (λ s. owed_frame s (journal h k past) (own_map h past))) is)
      go (Some stream) is = on stream is (owed_frame stream (journal h k past) (own_map h past)) refl

  holds_pull_if_idle : (R : List Event → Type 0) (past : List Event) → (0 < length (in_flight h k past) → R past) →
      (in_flight h k past ≡ [] → length (journal h k past) + 2 ≤ limit → R (pull h k past)) → Holds R (pull_if_idle limit h k past)
  holds_pull_if_idle R past busy idle = go (length (in_flight h k past) == 0) refl
    where
      on : (full : Bool) → nat_lt limit (length (journal h k past) + 2) ≡ full → in_flight h k past ≡ [] →
          Holds R (and_then (cond full (Err (record { host = h; peer = k; entries = length (journal h k past) })) (Ok past))
          (λ (before : List Event). Ok (pull h k before)))
      on true is none = tt
      on false is none = idle none (ltb-false limit (length (journal h k past) + 2) is)

      go : (b : Bool) → (length (in_flight h k past) == 0) ≡ b →
          Holds R (cond b (and_then (if_room limit h k past) (λ (before : List Event). Ok (pull h k before))) (Ok past))
      go true is = on (nat_lt limit (length (journal h k past) + 2)) refl (empty_of (in_flight h k past) is)
      go false is = busy (some_of (length (in_flight h k past)) is)

  settles : (left : Option ℕ) (past later : List Event) → HasCome h k (portion left (length (in_flight h k past))) past later →
      (in_flight h k later ≡ []) ⊎ ((n : ℕ) × (left ≡ Some n) × (moved_in_all later ≡ moved_in_all past + n))
  settles None past later came = inl (came.rest ∙ drop_all (length (in_flight h k past)) (in_flight h k past) (omega arith))
  settles (Some n) past later came = go (cases_lt n (length (in_flight h k past)))
    where
      go : (n < length (in_flight h k past)) ⊎ (length (in_flight h k past) ≤ n) →
          (in_flight h k later ≡ []) ⊎ ((m : ℕ) × (Some n ≡ Some m) × (moved_in_all later ≡ moved_in_all past + m))
      go (inl less) = inr (n, refl, omega (arith, came.all, less))
      go (inr all) = inl (came.rest ∙ drop_all (min n (length (in_flight h k past))) (in_flight h k past) (omega (arith, all)))

  -- a piece came of what was in flight, or of the frame that was pulled
  moved_on : (left : Option ℕ) (past later : List Event) → (left ≡ Some 0 → ⊥) → 2 ≤ limit → 0 < length (in_flight h k past) →
      HasCome h k (portion left (length (in_flight h k past))) past later → IsTurned limit h k left past later
  moved_on left past later asked room some came = record {
    onward = record { others = came.others; streams = came.streams; longer = came.longer };
    outcome = inr (record {
      asked = asked;
      more = omega (arith, came.all, gains left (length (in_flight h k past)) some asked);
      room = room;
      settled = settles left past later came;
      grown = λ none. absurd (not_some (in_flight h k past) none some);
    });
  }

  pulled_and_moved : (left : Option ℕ) (stream : ℕ) (past mid later : List Event) → (left ≡ Some 0 → ⊥) → 2 ≤ limit →
      length (journal h k past) + 2 ≤ limit → HasPulled h k stream past mid → 0 < length (in_flight h k mid) →
      HasCome h k (portion left (length (in_flight h k mid))) mid later → IsTurned limit h k left past later
  pulled_and_moved left stream past mid later asked two room pulled some came = record {
    onward = record {
      others = λ a b other. came.others a b other ∙ pulled.others a b other;
      streams = λ a b. came.streams a b ∙ pulled.streams a b;
      longer = λ a b. omega (arith, came.longer a b, pulled.longer a b);
    };
    outcome = inr (record {
      asked = asked;
      more = omega (arith, came.all, pulled.all, gains left (length (in_flight h k mid)) some asked);
      room = two;
      settled = ⊎_elim (λ none. inl none) (λ spent. inr (spent.0, spent.1, spent.2 ∙ ap (λ n. n + spent.0) pulled.all)) (settles left mid later came);
      grown = λ none. (room, omega (arith, pulled.one_more, came.longer h k));
    });
  }

  -- where no more went than was written, a frame that was pulled is in flight
  flies : (stream : ℕ) (past mid : List Event) → open_stream (journal h k past) ≡ Some stream → HasPulled h k stream past mid →
      MovesOnlyWritten past → in_flight h k mid ≡ [] → ⊥
  flies stream past mid at pulled written none =
      let before : moved_count h k past ≤ length (written_bytes stream (journal h k past)) = written h k stream at in
      let is : written_to_open (journal h k mid) ≡ written_bytes stream (journal h k mid) =
      ap (λ o. option_map_or (λ s. written_bytes s (journal h k mid)) o []) (pulled.streams h k ∙ at) in
      let bytes : length (in_flight h k mid) ≡ length (written_bytes stream (journal h k mid)) - moved_count h k past =
      length-drop (moved_count h k mid) (written_to_open (journal h k mid)) ∙ ap (λ (l : List ℕ). length l - moved_count h k mid) is
      ∙ ap (λ n. length (written_bytes stream (journal h k mid)) - n) pulled.count in
      not_some (in_flight h k mid) none (omega (arith, before, pulled.wrote, bytes))

  pulled_none : (left : Option ℕ) (stream : ℕ) (past mid : List Event) → open_stream (journal h k past) ≡ Some stream → HasPulled h k stream past mid →
      in_flight h k mid ≡ [] → IsTurned limit h k left past mid
  pulled_none left stream past mid at pulled none = record {
    onward = record { others = pulled.others; streams = pulled.streams; longer = pulled.longer };
    outcome = inl (record {
      same = pulled.all;
      done = inr none;
      still = λ written. absurd (flies stream past mid at pulled written none);
    });
  }

  here_onward : (past : List Event) → IsOnward h k past past
  here_onward past = record { others = λ a b other. refl; streams = λ a b. refl; longer = λ a b. omega arith }

  rested : (left : Option ℕ) (past : List Event) → in_flight h k past ≡ [] → length (journal h k past) + 2 ≤ limit → owed_to h k past ≡ None →
      IsTurned limit h k left past past
  rested left past none room owed = record {
    onward = here_onward past;
    outcome = inl (record {
      same = refl;
      done = inr none;
      still = λ written. (refl, inr (record { idle = record { nothing_flies = none; nothing_owed = owed }; room = room }));
    });
  }

  turned_so : (left : Option ℕ) (past : List Event) → (left ≡ Some 0 → ⊥) →
      Holds (IsTurned limit h k left past) (and_then (pull_if_idle limit h k past) (arrive limit h k left))
  turned_so left past asked =
      holds_then (λ mid. Holds (IsTurned limit h k left past) (arrive limit h k left mid)) (IsTurned limit h k left past)
      (pull_if_idle limit h k past) (arrive limit h k left)
      (holds_pull_if_idle (λ mid. Holds (IsTurned limit h k left past) (arrive limit h k left mid)) past
      (λ some. holds_arrive (IsTurned limit h k left past) left past (λ none. absurd (not_some (in_flight h k past) none some))
      (λ more two. moved_on left past (move_piece h k (portion left (length (in_flight h k past))) past) asked two more
      (come_piece h k (portion left (length (in_flight h k past))) past)))
      (λ none room. of_pull (λ mid. Holds (IsTurned limit h k left past) (arrive limit h k left mid)) past
      (λ owed. holds_arrive (IsTurned limit h k left past) left past (λ still. rested left past none room owed)
      (λ more two. absurd (not_some (in_flight h k past) none more)))
      (λ stream f at. holds_arrive (IsTurned limit h k left past) left (Appended h k (Pull stream f) ∷ past)
      (λ nothing. pulled_none left stream past (Appended h k (Pull stream f) ∷ past) at (pulled_one h k stream f past) nothing)
      (λ more two. pulled_and_moved left stream past (Appended h k (Pull stream f) ∷ past)
      (move_piece h k (portion left (length (in_flight h k (Appended h k (Pull stream f) ∷ past)))) (Appended h k (Pull stream f) ∷ past)) asked two room
      (pulled_one h k stream f past) more
      (come_piece h k (portion left (length (in_flight h k (Appended h k (Pull stream f) ∷ past)))) (Appended h k (Pull stream f) ∷ past))))))
      (λ mid there. there)

  pub turned : (left : Option ℕ) (past : List Event) → Holds (IsTurned limit h k left past) (turn limit h k left past)
  turned None past = turned_so None past (none-some 0)
  turned (Some zero) past = record {
    onward = here_onward past;
    outcome = inl (record { same = refl; done = inl refl; still = λ written. (refl, inl refl) });
  }
  turned (Some (suc n)) past = turned_so (Some (suc n)) past (λ is. let e = same_Some (suc n) 0 is in omega (arith, e))

  -- a step changes nothing here, or all that was in flight is gone
  abbrev Settled : Option ℕ → List Event → Type 0
  Settled most past = (bytes_left most past ≡ Some 0) ⊎ (in_flight h k past ≡ [])

  settled_after : (most : Option ℕ) (past later : List Event) → HasMoved limit h k (bytes_left most past) past later → Settled most later
  settled_after most past later moved = ⊎_elim (λ none. inr none) (λ spent. inl (go most spent.0 spent.1 spent.2)) moved.settled
    where
      go : (most : Option ℕ) (n : ℕ) → bytes_left most past ≡ Some n → moved_in_all later ≡ moved_in_all past + n → bytes_left most later ≡ Some 0
      go None n is sum = absurd (none-some n is)
      go (Some m) n is sum = let e = same_Some (m - moved_in_all past) n is in ap (λ (i : ℕ). Some i) (omega (arith, e, sum))

  module _ (most : Option ℕ) where
    ends_settled : (n : ℕ) (past : List Event) → Settled most past → limit < length (journal h k past) + 2 + n → Ends (turn_up_to limit h k most) (suc n) past
    ends_settled zero past settled over =
        ends_from (IsTurned limit h k (bytes_left most past) past) (Ends (turn_up_to limit h k most) zero) past (turn_up_to limit h k most past)
        (turned (bytes_left most past) past)
        (λ later is more. ⊎_elim (λ (stopped : HasStopped limit h k (bytes_left most past) past later). absurd (omega (arith, stopped.same, more)))
        (λ (moved : HasMoved limit h k (bytes_left most past) past later). ⊎_elim (λ none. absurd (moved.asked none))
        (λ empty. let grown = moved.grown empty in absurd (omega (arith, grown.0, over))) settled) is.outcome)
    ends_settled (suc n) past settled over =
        ends_from (IsTurned limit h k (bytes_left most past) past) (Ends (turn_up_to limit h k most) (suc n)) past (turn_up_to limit h k most past)
        (turned (bytes_left most past) past)
        (λ later is more. ⊎_elim (λ (stopped : HasStopped limit h k (bytes_left most past) past later). absurd (omega (arith, stopped.same, more)))
        (λ (moved : HasMoved limit h k (bytes_left most past) past later). ⊎_elim (λ none. absurd (moved.asked none))
        (λ empty. let grown = moved.grown empty in ends_settled n later (settled_after most past later moved) (omega (arith, grown.1, over))) settled) is.outcome)

    ends_first : (n : ℕ) (past : List Event) → n ≡ limit → Ends (turn_up_to limit h k most) (suc n) past
    ends_first zero past same =
        ends_from (IsTurned limit h k (bytes_left most past) past) (Ends (turn_up_to limit h k most) zero) past (turn_up_to limit h k most past)
        (turned (bytes_left most past) past)
        (λ later is more. ⊎_elim (λ (stopped : HasStopped limit h k (bytes_left most past) past later). absurd (omega (arith, stopped.same, more)))
        (λ (moved : HasMoved limit h k (bytes_left most past) past later). absurd (omega (arith, moved.room, same))) is.outcome)
    ends_first (suc n) past same =
        ends_from (IsTurned limit h k (bytes_left most past) past) (Ends (turn_up_to limit h k most) (suc n)) past (turn_up_to limit h k most past)
        (turned (bytes_left most past) past)
        (λ later is more. ⊎_elim (λ (stopped : HasStopped limit h k (bytes_left most past) past later). absurd (omega (arith, stopped.same, more)))
        (λ (moved : HasMoved limit h k (bytes_left most past) past later).
        ends_settled n later (settled_after most past later moved) (omega (arith, same))) is.outcome)

    pub ends_move : (past : List Event) → Ends (turn_up_to limit h k most) (limit + 1) past
    ends_move past = let is : suc limit ≡ limit + 1 = omega arith in subst (λ n. Ends (turn_up_to limit h k most) n past) is (ends_first limit past refl)

    -- more turns come to the same
    pub enough_turns : (turns : ℕ) (past : List Event) → limit + 1 ≤ turns → again turns (turn_up_to limit h k most) past ≡ move_up_to limit h k most past
    enough_turns turns past within = ends_again (turn_up_to limit h k most) (limit + 1) turns past (ends_move past) within

    -- the last turn changed nothing
    pub record HasEnded (later : List Event) : Type 0 where
      pub again_so : turn_up_to limit h k most later ≡ Ok later
      pub moved : IsMoved h k most later

    ended_so : (before later : List Event) → turn_up_to limit h k most before ≡ Ok later → nat_lt (moved_in_all before) (moved_in_all later) ≡ false →
        MovesOnlyWritten before → HasEnded later
    ended_so before later is none written =
        let so : IsTurned limit h k (bytes_left most before) before later =
        subst (Holds (IsTurned limit h k (bytes_left most before) before)) is (turned (bytes_left most before) before) in
        let no : moved_in_all later ≤ moved_in_all before = ltb-false (moved_in_all before) (moved_in_all later) none in
        ⊎_elim (λ (stopped : HasStopped limit h k (bytes_left most before) before later).
        let still = stopped.still written in record {
          again_so = ap (turn_up_to limit h k most) still.0 ∙ is;
          moved = subst (IsMoved h k most) (sym still.0) (⊎_elim (λ spent. inl spent) (λ (rest : IsResting limit h k before). inr rest.idle) still.1);
        })
        (λ (moved : HasMoved limit h k (bytes_left most before) before later). absurd (omega (arith, moved.more, no))) so.outcome

    pub ended : (past later : List Event) → MovesOnlyWritten past → move_up_to limit h k most past ≡ Ok later → HasEnded later
    ended past later written is =
        let last : IsLast (turn_up_to limit h k most) MovesOnlyWritten later =
        subst (Holds (IsLast (turn_up_to limit h k most) MovesOnlyWritten)) is
        (last_step (turn_up_to limit h k most) MovesOnlyWritten
        (λ before mid kept turned_to. subst (Holds MovesOnlyWritten) turned_to (keeps_turn MovesOnlyWritten only_written_is_kept limit h k (bytes_left most before) before kept))
        (limit + 1) past (ends_move past) written) in
        ended_so last.before later last.is last.none last.kept
