-- What the callers of all hosts do beside each other, and their lines.
use Rattle.std.proofs.Common.{◌≡◌, ⊎_elim, ℕ, ◌+◌, List, [], ◌∷◌, ◌++◌, Some, length, map, slice_get, Result, Ok, IfOk, sym, ap, subst, ◌∙◌, arith}
use Rattle.std.proofs.lemmas.List.{length_push}
use Rattle.std.proofs.lemmas.Option.{same_Some, slice_get_within}
use Rattle.rds_wire.specs.declared.memory.Memory.{Memory}
use Rattle.rds_fmap.specs.Readers.{WriterView}
use Rattle.rds_line.specs.Line.{LineView}
use Rattle.rds_run_callers.specs.Places.{CallerView, Place, PlacesKeep}
use Rattle.rds_run_rounds.specs.Grid.{EachRow}
use Rattle.rds_run_settling.specs.Tied.{AreTied}
use Rattle.rds_run_hosts.specs.Leading.{AreJobs, CallersKeep}
use Rattle.rds_run_hosts.specs.Parties.{AreParties}
use Rattle.rds_run_hosts.proofs.At.{at_end, at_push, at_snoc, length_map, map_at, some_at, stood_at}

-- one more caller got the number of its host
pub jobs_more : (callers : List CallerView) (jobs : List (ℕ × CallerView)) (host : ℕ) (caller : CallerView) → host ≡ length callers → AreJobs callers jobs →
    AreJobs (callers ++ caller ∷ []) (jobs ++ (host, caller) ∷ [])
jobs_more callers jobs host caller number are = record {
  count = length_push jobs (host, caller) ∙ ap (λ n. n + 1) are.count ∙ sym (length_push callers caller);
  each = λ place job at. ⊎_elim
      (λ (stood : slice_get jobs place ≡ Some job).
      let was = are.each place job stood in
      (was.0, at_push callers caller place job.1 was.1))
      (λ (new : (place ≡ length jobs) × (job ≡ (host, caller))).
      let here : place ≡ length callers = new.0 ∙ are.count in (
        ap (λ (j : ℕ × CallerView). j.0) new.1 ∙ number ∙ sym here,
        ap (λ i. slice_get (callers ++ caller ∷ []) i) here ∙ at_end callers caller ∙ ap (λ (j : ℕ × CallerView). Some j.1) (sym new.1),
      ))
      (at_snoc jobs (host, caller) place job at);
}

module _ (Does : ℕ → CallerView → CallerView → Type 0) (callers after : List CallerView) (jobs : List (ℕ × CallerView)) (done : List (Result CallerView Memory))
    (are : AreJobs callers jobs) (size : length done ≡ length jobs) (all : map Ok after ≡ done)
    (each : (host : ℕ) (job : ℕ × CallerView) (r : Result CallerView Memory) → slice_get jobs host ≡ Some job → slice_get done host ≡ Some r → IfOk r (Does job.0 job.1)) where
  pub jobs_count : length after ≡ length callers
  jobs_count = sym (length_map Ok after) ∙ ap length all ∙ size ∙ are.count

  pub jobs_did : (host : ℕ) (caller x : CallerView) → slice_get callers host ≡ Some caller → slice_get after host ≡ Some x → Does host caller x
  jobs_did host caller x stood stands =
      let job = some_at jobs host (let within = slice_get_within callers host caller stood in let n = are.count in omega (arith, within, n)) in
      let is = are.each host job.0 job.1 in
      let at : slice_get done host ≡ Some (Ok x) = subst (λ (l : List (Result CallerView Memory)). slice_get l host ≡ Some (Ok x)) all (map_at Ok after host x stands) in
      let did : Does job.0.0 job.0.1 x = each host job.0 (Ok x) job.1 at in
      subst (λ n. Does n caller x) is.0 (subst (λ (c : CallerView). Does job.0.0 c x) (same_Some job.0.1 caller (sym is.1 ∙ stood)) did)

module _ {E : Type 0}
    (places_law : (places new : List Place) (lines : List (LineView E WriterView)) → AreTied places lines → PlacesKeep places new → AreTied new lines) where
  -- callers that kept their slots belong to the lines still
  pub parties_called : (hosts : ℕ) (callers after : List CallerView) (rows : List (List (LineView E WriterView))) → AreParties hosts callers rows → CallersKeep callers after →
      AreParties hosts after rows
  parties_called hosts callers after rows parties keep = record {
    callers_count = keep.count ∙ parties.callers_count;
    rows_count = parties.rows_count;
    tied = λ host caller row at_caller at_row.
        let was = stood_at callers after host caller keep.count at_caller in
        places_law was.0.places caller.places row (parties.tied host was.0 row was.1 at_row) (keep.each host was.0 caller was.1 at_caller);
  }

module _ {E : Type 0} (Turned : List (LineView E WriterView) → List (LineView E WriterView) → Type 0)
    (lines_law : (places : List Place) (lines after : List (LineView E WriterView)) → AreTied places lines → Turned lines after → AreTied places after) where
  -- lines that turned belong to their callers still
  pub parties_turned : (hosts : ℕ) (callers : List CallerView) (rows after : List (List (LineView E WriterView))) → AreParties hosts callers rows → EachRow Turned rows after →
      AreParties hosts callers after
  parties_turned hosts callers rows after parties turned = record {
    callers_count = parties.callers_count;
    rows_count = turned.count ∙ parties.rows_count;
    tied = λ host caller row at_caller at_row.
        let was = stood_at rows after host row turned.count at_row in
        lines_law caller.places was.0 row (parties.tied host caller was.0 at_caller was.1) (turned.each host was.0 row was.1 at_row);
  }
