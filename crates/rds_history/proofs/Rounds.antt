-- A drain has enough rounds.
use Rattle.std.proofs.Common.{◌≡◌, ◌⊎◌, inl, inr, ℕ, zero, suc, ◌+◌, ◌*◌, ◌<◌, ◌≤◌, false, None, Ok, List, [], ◌∷◌, length, refl, sym, ◌∙◌, ap, subst, arith}
use Rattle.std.proofs.lemmas.Bool.{cases_lt, ltb-false}
use Rattle.std.specs.Prelude.{nat_lt, min}
use Rattle.rds_text.specs.declared.host.TheConstants.{MAX_HOSTS}
use Rattle.rds_text.specs.Lines.{drained_line}
use Rattle.rds_history.specs.Events.{Event, Printed}
use Rattle.rds_history.specs.Courses.{and_then, each, again, prints}
use Rattle.rds_history.specs.Journals.{journal, moved_in_all, in_flight}
use Rattle.rds_history.specs.Move.{move_up_to}
use Rattle.rds_history.specs.Drain.{HostPair, pairs, open_if_closed, both_ways, round, rounds, drain}
use Rattle.rds_history.specs.Limits.{MovesOnlyWritten}
use Rattle.rds_history.proofs.EventInvariants.{Holds, holds_weaker, holds_then, keeps_opening, keeps_round}
use Rattle.rds_history.proofs.Again.{Ends, ends_from, ends_again, IsLast, last_step}
use Rattle.rds_history.proofs.OnlyWritten.{only_written_is_kept}
use Rattle.rds_history.proofs.Turns.{IsResting}
use Rattle.rds_history.proofs.Moves.{IsSteady, steady_here, steady_then, IsCarried, carried, resting_move}

min_le : (limit a b : ℕ) → a ≤ b → min limit a ≤ min limit b
min_le limit a b less = omega (arith, less)

left_rises : (a b c d e f : ℕ) → a < b → b ≤ c → d ≤ e → e ≤ f → a + d < c + f
left_rises a b c d e f one two three four = omega (arith, one, two, three, four)

right_rises : (a b c d e f : ℕ) → a ≤ b → b ≤ c → d ≤ e → e < f → a + d < c + f
right_rises a b c d e f one two three four = omega (arith, one, two, three, four)

module _ (limit : ℕ) where
  -- the entries of a pair's journals, as far as pulls have room
  abbrev rank : HostPair → List Event → ℕ
  rank p past = min limit (length (journal p.low p.high past)) + min limit (length (journal p.high p.low past))

  abbrev ranks : List HostPair → List Event → ℕ
  ranks [] past = 0
  ranks (p ∷ ps) past = rank p past + ranks ps past

  -- no more than these
  abbrev capacity : List HostPair → ℕ
  capacity [] = 0
  capacity (p ∷ ps) = limit + limit + capacity ps

  within_capacity : (ps : List HostPair) (past : List Event) → ranks ps past ≤ capacity ps
  within_capacity [] past = omega arith
  within_capacity (p ∷ ps) past = omega (arith, within_capacity ps past)

  abbrev NothingFlies : List HostPair → List Event → Type 0
  NothingFlies [] past = Unit {0}
  NothingFlies (p ∷ ps) past = (in_flight p.low p.high past ≡ []) × (in_flight p.high p.low past ≡ []) × NothingFlies ps past

  abbrev pub AllResting : List HostPair → List Event → Type 0
  AllResting [] past = Unit {0}
  AllResting (p ∷ ps) past = IsResting limit p.low p.high past × IsResting limit p.high p.low past × AllResting ps past

  rank_grows : (p : HostPair) (past later : List Event) → IsSteady past later → rank p past ≤ rank p later
  rank_grows p past later steady =
      let there = min_le limit (length (journal p.low p.high past)) (length (journal p.low p.high later)) (steady.longer p.low p.high) in
      let back = min_le limit (length (journal p.high p.low past)) (length (journal p.high p.low later)) (steady.longer p.high p.low) in
      add_le (min limit (length (journal p.low p.high past))) (min limit (length (journal p.low p.high later)))
      (min limit (length (journal p.high p.low past))) (min limit (length (journal p.high p.low later))) there back
    where
      add_le : (a b c d : ℕ) → a ≤ b → c ≤ d → a + c ≤ b + d
      add_le a b c d one two = omega (arith, one, two)

  ranks_grow : (ps : List HostPair) (past later : List Event) → IsSteady past later → ranks ps past ≤ ranks ps later
  ranks_grow [] past later steady = omega arith
  ranks_grow (p ∷ ps) past later steady =
      add_le (rank p past) (rank p later) (ranks ps past) (ranks ps later) (rank_grows p past later steady) (ranks_grow ps past later steady)
    where
      add_le : (a b c d : ℕ) → a ≤ b → c ≤ d → a + c ≤ b + d
      add_le a b c d one two = omega (arith, one, two)

  still_nothing_flies : (ps : List HostPair) (past later : List Event) → IsSteady past later → NothingFlies ps past → NothingFlies ps later
  still_nothing_flies [] past later steady none = tt
  still_nothing_flies (p ∷ ps) past later steady none =
      (steady.keeps p.low p.high none.0, steady.keeps p.high p.low none.1, still_nothing_flies ps past later steady none.2)

  -- what a part of a round does to these pairs
  pub record IsSwept (ps : List HostPair) (past later : List Event) : Type 0 where
    pub steady : IsSteady past later
    pub empty : NothingFlies ps later
    pub rises : moved_in_all past < moved_in_all later → (2 ≤ limit) × (NothingFlies ps past → ranks ps past < ranks ps later)
    pub still : MovesOnlyWritten past → moved_in_all later ≡ moved_in_all past → (later ≡ past) × AllResting ps past

  -- both ways of one pair
  record IsPaired (p : HostPair) (past later : List Event) : Type 0 where
    steady : IsSteady past later
    there : in_flight p.low p.high later ≡ []
    back : in_flight p.high p.low later ≡ []
    rises : moved_in_all past < moved_in_all later →
        (2 ≤ limit) × (in_flight p.low p.high past ≡ [] → in_flight p.high p.low past ≡ [] → rank p past < rank p later)
    still : MovesOnlyWritten past → moved_in_all later ≡ moved_in_all past →
        (later ≡ past) × IsResting limit p.low p.high past × IsResting limit p.high p.low past

  both : (p : HostPair) (past mid later : List Event) → IsCarried limit p.low p.high past mid → IsCarried limit p.high p.low mid later → IsPaired p past later
  both p past mid later first second = record {
    steady = steady_then past mid later first.steady second.steady;
    there = second.steady.keeps p.low p.high first.empty;
    back = second.empty;
    rises = λ more. rises more (cases_lt (moved_in_all past) (moved_in_all mid));
    still = λ written same.
        let one = first.still written (omega (arith, same, first.steady.forward, second.steady.forward)) in
        let two = second.still (subst MovesOnlyWritten (sym one.0) written) (omega (arith, same, first.steady.forward, second.steady.forward)) in
        (two.0 ∙ one.0, one.1, subst (IsResting limit p.high p.low) one.0 two.1);
  }
    where
      rises : moved_in_all past < moved_in_all later → (moved_in_all past < moved_in_all mid) ⊎ (moved_in_all mid ≤ moved_in_all past) →
          (2 ≤ limit) × (in_flight p.low p.high past ≡ [] → in_flight p.high p.low past ≡ [] → rank p past < rank p later)
      rises more (inl there) =
          let one = first.rises there in (
            one.0,
            λ out in_.
                left_rises (min limit (length (journal p.low p.high past))) (min limit (length (journal p.low p.high mid))) (min limit (length (journal p.low p.high later)))
                (min limit (length (journal p.high p.low past))) (min limit (length (journal p.high p.low mid))) (min limit (length (journal p.high p.low later)))
                (one.1 out) (min_le limit _ _ (second.steady.longer p.low p.high)) (min_le limit _ _ (first.steady.longer p.high p.low)) (min_le limit _ _ (second.steady.longer p.high p.low)),
          )
      rises more (inr none) =
          let two = second.rises (omega (arith, more, none)) in (
            two.0,
            λ out in_.
                right_rises (min limit (length (journal p.low p.high past))) (min limit (length (journal p.low p.high mid))) (min limit (length (journal p.low p.high later)))
                (min limit (length (journal p.high p.low past))) (min limit (length (journal p.high p.low mid))) (min limit (length (journal p.high p.low later)))
                (min_le limit _ _ (first.steady.longer p.low p.high)) (min_le limit _ _ (second.steady.longer p.low p.high)) (min_le limit _ _ (first.steady.longer p.high p.low))
                (two.1 (first.steady.keeps p.high p.low in_)),
          )

  paired : (p : HostPair) (past : List Event) → Holds (IsPaired p past) (both_ways limit p past)
  paired p past =
      holds_then (IsCarried limit p.low p.high past) (IsPaired p past) (move_up_to limit p.low p.high None past) (move_up_to limit p.high p.low None)
      (carried limit p.low p.high past)
      (λ mid first. holds_weaker (IsCarried limit p.high p.low mid) (IsPaired p past) (move_up_to limit p.high p.low None mid) (carried limit p.high p.low mid)
      (λ later second. both p past mid later first second))

  joined : (p : HostPair) (ps : List HostPair) (past mid later : List Event) → IsPaired p past mid → IsSwept ps mid later → IsSwept (p ∷ ps) past later
  joined p ps past mid later first second = record {
    steady = steady_then past mid later first.steady second.steady;
    empty = (second.steady.keeps p.low p.high first.there, second.steady.keeps p.high p.low first.back, second.empty);
    rises = λ more. rises more (cases_lt (moved_in_all past) (moved_in_all mid));
    still = λ written same.
        let one = first.still written (omega (arith, same, first.steady.forward, second.steady.forward)) in
        let two = second.still (subst MovesOnlyWritten (sym one.0) written) (omega (arith, same, first.steady.forward, second.steady.forward)) in
        (two.0 ∙ one.0, (one.1, one.2, subst (AllResting ps) one.0 two.1));
  }
    where
      rises : moved_in_all past < moved_in_all later → (moved_in_all past < moved_in_all mid) ⊎ (moved_in_all mid ≤ moved_in_all past) →
          (2 ≤ limit) × (NothingFlies (p ∷ ps) past → ranks (p ∷ ps) past < ranks (p ∷ ps) later)
      rises more (inl there) =
          let one = first.rises there in (
            one.0,
            λ none.
                left_rises (rank p past) (rank p mid) (rank p later) (ranks ps past) (ranks ps mid) (ranks ps later) (one.1 none.0 none.1)
                (rank_grows p mid later second.steady) (ranks_grow ps past mid first.steady) (ranks_grow ps mid later second.steady),
          )
      rises more (inr nor) =
          let two = second.rises (omega (arith, more, nor)) in (
            two.0,
            λ none.
                right_rises (rank p past) (rank p mid) (rank p later) (ranks ps past) (ranks ps mid) (ranks ps later)
                (rank_grows p past mid first.steady) (rank_grows p mid later second.steady) (ranks_grow ps past mid first.steady)
                (two.1 (still_nothing_flies ps past mid first.steady none.2)),
          )

  pub swept : (ps : List HostPair) (past : List Event) → Holds (IsSwept ps past) (each ps (both_ways limit) past)
  swept [] past = record {
    steady = steady_here past;
    empty = tt;
    rises = λ more. absurd (omega (arith, more));
    still = λ written same. (refl, tt);
  }
  swept (p ∷ ps) past =
      holds_then (IsPaired p past) (IsSwept (p ∷ ps) past) (both_ways limit p past) (each ps (both_ways limit)) (paired p past)
      (λ mid first. holds_weaker (IsSwept ps mid) (IsSwept (p ∷ ps) past) (each ps (both_ways limit) mid) (swept ps mid)
      (λ later second. joined p ps past mid later first second))

  -- a round where all pairs rest
  resting_round : (ps : List HostPair) (past : List Event) → AllResting ps past → each ps (both_ways limit) past ≡ Ok past
  resting_round [] past rest = refl
  resting_round (p ∷ ps) past rest =
      ap (λ c. and_then (and_then c (move_up_to limit p.high p.low None)) (each ps (both_ways limit))) (resting_move limit p.low p.high past rest.0)
      ∙ ap (λ c. and_then c (each ps (both_ways limit))) (resting_move limit p.high p.low past rest.1)
      ∙ resting_round ps past rest.2

  -- there is room for the pairs of so many hosts
  room_for_pairs : (hosts : ℕ) → hosts ≤ MAX_HOSTS → capacity (pairs hosts) + limit ≤ MAX_HOSTS * MAX_HOSTS * limit
  room_for_pairs zero few = omega arith
  room_for_pairs (suc zero) few = omega arith
  room_for_pairs (suc (suc zero)) few = omega arith
  room_for_pairs (suc (suc (suc zero))) few = omega arith
  room_for_pairs (suc (suc (suc (suc zero)))) few = omega arith
  room_for_pairs (suc (suc (suc (suc (suc zero))))) few = omega arith
  room_for_pairs (suc (suc (suc (suc (suc (suc zero)))))) few = omega arith
  room_for_pairs (suc (suc (suc (suc (suc (suc (suc zero))))))) few = omega arith
  room_for_pairs (suc (suc (suc (suc (suc (suc (suc (suc zero)))))))) few = omega arith
  room_for_pairs (suc (suc (suc (suc (suc (suc (suc (suc (suc n))))))))) few = absurd (omega (arith, few))

  module _ (hosts : ℕ) (few : hosts ≤ MAX_HOSTS) where
    abbrev ps : List HostPair
    ps = pairs hosts

    ends_empty : (n : ℕ) (past : List Event) → NothingFlies ps past → capacity ps ≤ ranks ps past + n → Ends (round limit hosts) (suc n) past
    ends_empty zero past none over =
        ends_from (IsSwept ps past) (Ends (round limit hosts) zero) past (round limit hosts past) (swept ps past)
        (λ later is more. let rises = is.rises more in absurd (omega (arith, rises.1 none, over, within_capacity ps later)))
    ends_empty (suc n) past none over =
        ends_from (IsSwept ps past) (Ends (round limit hosts) (suc n)) past (round limit hosts past) (swept ps past)
        (λ later is more. let rises = is.rises more in ends_empty n later is.empty (omega (arith, rises.1 none, over)))

    ends_first : (n : ℕ) (past : List Event) → n ≡ MAX_HOSTS * MAX_HOSTS * limit → Ends (round limit hosts) (suc n) past
    ends_first zero past is =
        ends_from (IsSwept ps past) (Ends (round limit hosts) zero) past (round limit hosts past) (swept ps past)
        (λ later so more. let rises = so.rises more in absurd (omega (arith, rises.0, is)))
    ends_first (suc n) past is =
        ends_from (IsSwept ps past) (Ends (round limit hosts) (suc n)) past (round limit hosts past) (swept ps past)
        (λ later so more. let rises = so.rises more in
        ends_empty n later so.empty (omega (arith, rises.0, is, room_for_pairs hosts few)))

    ends_rounds : (past : List Event) → Ends (round limit hosts) (rounds limit) past
    ends_rounds past =
        let is : suc (MAX_HOSTS * MAX_HOSTS * limit) ≡ rounds limit = omega arith in
        subst (λ n. Ends (round limit hosts) n past) is (ends_first (MAX_HOSTS * MAX_HOSTS * limit) past refl)

    -- more rounds come to the same
    pub enough_rounds : (times : ℕ) (past : List Event) → rounds limit ≤ times →
        again times (round limit hosts) past ≡ again (rounds limit) (round limit hosts) past
    enough_rounds times past within = ends_again (round limit hosts) (rounds limit) times past (ends_rounds past) within

    -- the last round found all at rest
    rest_in_the_end : (past : List Event) → MovesOnlyWritten past → Holds (AllResting ps) (again (rounds limit) (round limit hosts) past)
    rest_in_the_end past written =
        holds_weaker (IsLast (round limit hosts) MovesOnlyWritten) (AllResting ps) (again (rounds limit) (round limit hosts) past)
        (last_step (round limit hosts) MovesOnlyWritten
        (λ before mid kept is. subst (Holds MovesOnlyWritten) is (keeps_round MovesOnlyWritten only_written_is_kept limit hosts before kept))
        (rounds limit) past (ends_rounds past) written)
        (λ later last. go last.before later last.is last.none last.kept)
      where
        go : (before later : List Event) → round limit hosts before ≡ Ok later → nat_lt (moved_in_all before) (moved_in_all later) ≡ false →
            MovesOnlyWritten before → AllResting ps later
        go before later is none kept =
            let so : IsSwept ps before later = subst (Holds (IsSwept ps before)) is (swept ps before) in
            let still = so.still kept (omega (arith, so.steady.forward, ltb-false (moved_in_all before) (moved_in_all later) none)) in
            subst (AllResting ps) (sym still.0) still.1

    -- so does what is printed then
    printed_rest : (qs : List HostPair) (text : List ℕ) (past : List Event) → AllResting qs past → AllResting qs (Printed text ∷ past)
    printed_rest [] text past rest = tt
    printed_rest (q ∷ qs) text past rest = (printed_one q.low q.high rest.0, printed_one q.high q.low rest.1, printed_rest qs text past rest.2)
      where
        printed_one : (h k : ℕ) → IsResting limit h k past → IsResting limit h k (Printed text ∷ past)
        printed_one h k one = record {
          idle = record { nothing_flies = one.idle.nothing_flies; nothing_owed = one.idle.nothing_owed };
          room = one.room;
        }

    drained_rests : (past : List Event) → MovesOnlyWritten past → Holds (AllResting ps) (drain limit hosts past)
    drained_rests past written =
        holds_then MovesOnlyWritten (AllResting ps) (each (pairs hosts) (open_if_closed limit) past)
        (λ opened. and_then (again (rounds limit) (round limit hosts) opened) (prints drained_line))
        (keeps_opening MovesOnlyWritten only_written_is_kept limit hosts past written)
        (λ opened kept. holds_then (AllResting ps) (AllResting ps) (again (rounds limit) (round limit hosts) opened) (prints drained_line)
        (rest_in_the_end opened kept) (λ later rest. printed_rest ps drained_line later rest))

    pub resting_drained : (past later : List Event) → MovesOnlyWritten past → drain limit hosts past ≡ Ok later → AllResting ps later
    resting_drained past later written is = subst (Holds (AllResting ps)) is (drained_rests past written)

    pub still_drained : (past later : List Event) → MovesOnlyWritten past → drain limit hosts past ≡ Ok later → round limit hosts later ≡ Ok later
    still_drained past later written is = resting_round ps later (resting_drained past later written is)
