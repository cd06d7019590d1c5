-- What the streams of a line keep, call by call.
use Rattle.std.proofs.Common.{◌≡◌, ℕ, ◌+◌, ◌-◌, ◌<◌, ◌≤◌, ◌==◌, Bool, true, false, List, ◌∷◌, length, get_or, Some, slice_get, refl, sym, ap, subst, ◌∙◌, arith}
use Rattle.std.specs.List.Sorted.{IsStrictlyIncreasing}
use Rattle.std.proofs.lemmas.Bool.{eqb-true, eqb-false}
use Rattle.std.proofs.lemmas.Option.{same_Some, slice_get-get_or, slice_get_within}
use Rattle.rds_link.specs.Ends.{Means}
use Rattle.rds_line_channel.specs.Streams.{StreamsView, AreKept, ShutByFaultOnly, numbers, newest_place, with_list}
use Rattle.rds_line_channel.specs.StreamChanges.{ChangesAt, IsShutDown}
use Rattle.rds_line_channel.specs.ChangeLaws.{changed_here, changed_beside, changed_numbers, changed_length, changed_end, same_length}
use Rattle.rds_line_channel.specs.Meeting.{AtEach}
use Rattle.rds_line_channel.specs.MeetingLaws.{MeetsSome}

module _ {E : Type 0} (m : Means E) (s : StreamsView E) (kept : AreKept m s) (on : s.is_open ≡ true) (list new : List (ℕ × E)) (same_list : list ≡ s.list) where
  -- the end of the open stream changed, and has shut only by a fault
  pub kept_changed : {Way : E → E → Type 0} → ChangesAt Way (newest_place s) list new → ((old after : E) → Way old after → ShutByFaultOnly m old → ShutByFaultOnly m after) → AreKept m (with_list s new)
  kept_changed {Way} changed by_fault =
      let change = subst (λ l. ChangesAt Way (newest_place s) l new) same_list changed in
      let some : 1 ≤ s.opened = kept.some on in
      record {
        within = (let same = changed_length change in let old = kept.within in omega arith);
        some = kept.some;
        numbered = subst (λ ns. IsStrictlyIncreasing (0 ∷ ns)) (sym (changed_numbers change)) kept.numbered;
        ended = λ place is. record { at = λ stream stands. (kept.ended place is).at stream (sym (changed_beside change place (is.1 on)) ∙ stands) };
        newest = λ _. changed_end change by_fault (kept.newest on);
        unused = λ place past. record { at = λ stream stands. (kept.unused place past).at stream (sym (changed_beside change place (omega arith)) ∙ stands) };
      }

  -- the end of the open stream was shut, and the stream isn't open any more
  pub kept_ended : ChangesAt (IsShutDown m) (newest_place s) list new → AreKept m (record s { list = new; is_open = false })
  kept_ended changed =
      let change = subst (λ l. ChangesAt (IsShutDown m) (newest_place s) l new) same_list changed in
      let some : 1 ≤ s.opened = kept.some on in
      record {
        within = (let same = changed_length change in let old = kept.within in omega arith);
        some = λ e. absurd (cc);
        numbered = subst (λ ns. IsStrictlyIncreasing (0 ∷ ns)) (sym (changed_numbers change)) kept.numbered;
        ended = λ place is. record { at = λ stream stands. go change place stream stands is.0 (place == newest_place s) refl };
        newest = λ e. absurd (cc);
        unused = λ place past. record { at = λ stream stands. (kept.unused place past).at stream (sym (changed_beside change place (omega arith)) ∙ stands) };
      }
    where
      go : ChangesAt (IsShutDown m) (newest_place s) s.list new → (place : ℕ) (stream : ℕ × E) → slice_get new place ≡ Some stream → place < s.opened → (b : Bool) → (place == newest_place s) ≡ b → (m.stand stream.1).is_shut ≡ true
      go change place stream stands below true e =
          let here = eqb-true place (newest_place s) e in
          let is : (change.number, change.end_after) ≡ stream = same_Some (change.number, change.end_after) stream (sym (changed_here change) ∙ (ap (slice_get new) (sym here) ∙ stands)) in
          subst (λ (x : ℕ × E). (m.stand x.1).is_shut ≡ true) is (ap (λ stand. stand.is_shut) change.way.shut.1)
      go change place stream stands below false e =
          let apart = eqb-false place (newest_place s) e in
          (kept.ended place (below, λ _. apart)).at stream (sym (changed_beside change place apart) ∙ stands)

-- the next stream was opened
pub kept_opened : {E : Type 0} (m : Means E) (s : StreamsView E) → AreKept m s → s.is_open ≡ false → s.opened < length s.list → AreKept m (record s { opened = s.opened + 1; is_open = true })
kept_opened m s kept off left = record {
  within = omega arith;
  some = λ _. omega arith;
  numbered = kept.numbered;
  ended = λ place is. kept.ended place ((let apart = is.1 refl in let below = is.0 in omega arith), λ on. absurd (cc));
  newest = λ _. record { at = λ stream stands shut. absurd (let fresh = ((kept.unused (s.opened + 1 - 1) (omega arith)).at stream stands).1 in cc) };
  unused = λ place past. kept.unused place (omega arith);
}

-- the ends have met those of another line
pub kept_met : {E : Type 0} (m : Means E) (s : StreamsView E) (list new : List (ℕ × E)) → AreKept m s → list ≡ s.list → numbers new ≡ numbers list → AtEach (MeetsSome m) list new → AreKept m (with_list s new)
kept_met {E} m s list new kept same_list same_numbers met = record {
  within = (let count = same_length new s.list names in let old = kept.within in omega arith);
  some = kept.some;
  numbered = subst (λ ns. IsStrictlyIncreasing (0 ∷ ns)) (sym names) kept.numbered;
  ended = λ place is. record { at = λ stream stands. shut place stream stands ∙ (kept.ended place is).at (was place stream) (stood place stream stands) };
  newest = λ on. record {
    at = λ stream stands is.
        let old = (kept.newest on).at (was (newest_place s) stream) (stood (newest_place s) stream stands) (sym (shut (newest_place s) stream stands) ∙ is) in
        subst (λ n. 1 ≤ n) (sym (ap (λ stand. stand.faults) (did (newest_place s) stream stands).1.learns.0)) old;
  };
  unused = λ place past. record {
    at = λ stream stands.
        let one = did place stream stands in
        let old = (kept.unused place past).at (was place stream) (stood place stream stands) in
        (λ tells. (one.1.moves.0 ∙ (old.0 tells).0, one.1.moves.1 ∙ (old.0 tells).1), shut place stream stands ∙ old.1);
  };
}
  where
    names : numbers new ≡ numbers s.list
    names = same_numbers ∙ ap numbers same_list

    was : (place : ℕ) (stream : ℕ × E) → ℕ × E
    was place stream = get_or s.list place stream

    stood : (place : ℕ) (stream : ℕ × E) → slice_get new place ≡ Some stream → slice_get s.list place ≡ Some (was place stream)
    stood place stream stands =
        let small = slice_get_within new place stream stands in
        let count = same_length new s.list names in
        slice_get-get_or s.list place stream (omega arith)

    did : (place : ℕ) (stream : ℕ × E) → slice_get new place ≡ Some stream → MeetsSome m (was place stream).1 stream.1
    did place stream stands = met.at place (was place stream) stream (ap (λ l. slice_get l place) same_list ∙ stood place stream stands) stands

    shut : (place : ℕ) (stream : ℕ × E) → slice_get new place ≡ Some stream → (m.stand stream.1).is_shut ≡ (m.stand (was place stream).1).is_shut
    shut place stream stands = ap (λ stand. stand.is_shut) (did place stream stands).1.learns.0
