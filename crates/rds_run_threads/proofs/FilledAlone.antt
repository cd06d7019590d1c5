-- Of two hosts alone: a map with a port was pulled only where the journal delivered more than the receive buffer of the bind of some slot.
use Rattle.std.proofs.Common.{◌≡◌, ◌≢◌, ◌<◌, ℕ, zero, suc, List, [], ◌∷◌, Some, length, map, option_map, slice_get, refl, sym, ap, subst, ◌∙◌, arith}
use Rattle.std.proofs.lemmas.Option.{same_Some, slice_get-map}
use Rattle.rds_link.specs.Ends.{Means}
use Rattle.rds_fmap.specs.Readers.{WriterView}
use Rattle.rds_model.specs.declared.entry.Entry.{Entry}
use Rattle.rds_text.specs.FinalState.{FinalJournal}
use Rattle.rds_text.specs.Hosts.{address_of}
use Rattle.rds_line.specs.Line.{LineView, line_past}
use Rattle.rds_line.specs.Seats.{HasPulled}
use Rattle.rds_host_end.specs.Grounded.{AreMapsGrounded}
use Rattle.rds_host_end.specs.Sides.{line_side}
use Rattle.rds_run_callers.specs.Places.{CallerView}
use Rattle.rds_script.specs.declared.script.Placed.{Placed}
use Rattle.rds_run_rounds.specs.Done.{AreDone}
use Rattle.rds_run_rounds.specs.Grid.{IsAt, peer_at}
use Rattle.rds_run_settling.specs.Tied.{holdings}
use Rattle.rds_run_threads.specs.Causes.{IsFilledAlone}
use Rattle.rds_run_threads.specs.Outcome.{IsFilled}
use Rattle.rds_run_threads.specs.Settled.{HaveDoneSpared}
use Rattle.rds_run_threads.specs.Taking.{HaveTied, IsGroundedAt, IsJournalOf}
use Rattle.rds_run_threads.proofs.At.{all_at, one_at, stood_at}
use Rattle.rds_run_threads.proofs.Filled.{all_filled}
use Rattle.rds_run_threads.proofs.Hosts.{line_of}
use Rattle.rds_run_threads.proofs.Rows.{peer_after, peer_before, place_within, row_length, stands}

-- a list of one has nothing else
only : {T : Type 0} (xs : List T) (place : ℕ) (x : T) → length xs ≡ 1 → slice_get xs place ≡ Some x → xs ≡ x ∷ []
only [] place x one at = absurd (omega (arith, one))
only (y ∷ []) zero x one at = ap (λ z. z ∷ []) (same_Some y x at)
only (y ∷ []) (suc place) x one at = absurd (cc)
only (y ∷ z ∷ ys) place x one at = absurd (omega (arith, one))

-- the peer of one of two hosts is the other
other_of_two : (host peer : ℕ) → host < 2 → peer < 2 → peer ≢ host → peer_at host zero ≡ peer
other_of_two zero zero known also apart = absurd (apart refl)
other_of_two zero (suc zero) known also apart = peer_after 0 0 (omega arith)
other_of_two zero (suc (suc peer)) known also apart = absurd (omega (arith, also))
other_of_two (suc zero) zero known also apart = peer_before 1 0 (omega arith)
other_of_two (suc zero) (suc zero) known also apart = absurd (apart refl)
other_of_two (suc zero) (suc (suc peer)) known also apart = absurd (omega (arith, also))
other_of_two (suc (suc host)) peer known also apart = absurd (omega (arith, known))

module _ {E : Type 0} where
  -- the lines of a host are so whichever way it is named
  pub grounded_at : (callers : List CallerView) (rows : List (List (LineView E WriterView))) (host : ℕ) (caller : CallerView) (row : List (LineView E WriterView)) →
      slice_get callers host ≡ Some caller → slice_get rows host ≡ Some row → AreMapsGrounded (holdings caller.places) row → IsGroundedAt callers rows host
  grounded_at callers rows host caller row at at_row grounded other there also also_row =
      subst (λ (c : CallerView). AreMapsGrounded (holdings c.places) there) (one_at callers host caller other at also)
      (subst (λ (r : List (LineView E WriterView)). AreMapsGrounded (holdings caller.places) r) (one_at rows host row there at_row also_row) grounded)

  module _ (m : Means E) (limit hosts : ℕ) (callers : List CallerView) (rows : List (List (LineView E WriterView))) (done : AreDone m limit hosts rows)
      (tied : HaveTied callers rows) (commands : List Placed) (did : HaveDoneSpared hosts commands callers rows) where
    -- of the journal of a line
    filled_line : (host place : ℕ) (line : LineView E WriterView) → IsAt rows host place line → IsGroundedAt callers rows host → hosts ≡ 2 →
        IsFilledAlone hosts host (peer_at host place) commands (line_past line)
    filled_line host place line at grounded two =
        let row = at.0 in
        let caller = stood_at callers rows host row (sym tied.count) at.1 in
        let long = row_length hosts rows done.shape host row at.1 in
        let one : row ≡ line ∷ [] = only row place line (omega (arith, long, two)) at.2 in
        let of = line_of m limit hosts rows done host place line at in
        let sides : map line_side row ≡ record { peer = address_of (peer_at host place); past = line_past line } ∷ [] =
        ap (map line_side) one ∙ ap (λ (n : ℕ). record { peer = n; past = line_past line } ∷ []) of.peer_is in
        let mine = did host caller.0 row caller.1 at.1 in
        let all =
        all_filled hosts host commands caller.0.places row
        (λ p l at_l.
        ((line_of m limit hosts rows done host p l (row, at.1, at_l)).peer_is, place_within hosts rows done.shape host p l (row, at.1, at_l)))
        mine (grounded caller.0 row caller.1 at.1) in (
          mine.last,
          mine.did.done,
          λ port small pulled.
              subst (λ (l : List FinalJournal). IsFilled host commands mine.did.done.first mine.last l port) sides
              (all_at (λ (side : FinalJournal). (q : ℕ) → q < 65536 → HasPulled q side.past → IsFilled host commands mine.did.done.first mine.last (map line_side row) q)
              (map line_side row) place (line_side line) all (slice_get-map line_side row place ∙ ap (option_map line_side) at.2) port small pulled),
        )

    -- of the journal of one of the two with the other
    pub filled_alone : (host peer : ℕ) → host < hosts → peer < hosts → peer ≢ host → (past : List Entry) → IsJournalOf rows host peer past →
        IsGroundedAt callers rows host → hosts ≡ 2 → IsFilledAlone hosts host peer commands past
    filled_alone host peer known also apart past is grounded two =
        let line = stands hosts rows done.shape host zero known (omega (arith, two)) in
        let to = other_of_two host peer (omega (arith, known, two)) (omega (arith, also, two)) apart in
        subst (IsFilledAlone hosts host peer commands) (sym (is zero line.0 to line.1).is)
        (subst (λ (n : ℕ). IsFilledAlone hosts host n commands (line_past line.0)) to (filled_line host zero line.0 line.1 grounded two))
