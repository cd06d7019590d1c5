use Rattle.std.proofs.Common.{IfOk, Result, Vec, subst, sym, ◌∙◌}
use Rattle.std.specs.Global.{Global}
use Rattle.std.proofs.lemmas.Option.{get_or_from_slice_get, slice_get_within}
use Rattle.rds_run_callers.specs.Places.{CallerView}
use Rattle.rds_text.specs.declared.final_state.Kept.{Kept}
use Rattle.rds_fmap.specs.Readers.{ReaderView}
use Rattle.rds_socket.specs.Holding.{Holding}
use Rattle.rds_wire.specs.declared.memory.Memory.{Memory}
use Rattle.rds_run_threads.specs.Settled.{HasEnded}
use Rattle.rds_run_threads.proofs.leaving.end_beside.Goals as goal

-- refused where the ends of two hosts' slots are exchanged
pub returns : goal.returns
returns g c =
    let callers = c.args.callers.items in
    let left = c.in_ok-left.left.items in record {
      count = sym c.in_ok-left.left.ok.0 ∙ c.in_ok-left.ensures.len ∙ c.args.callers.ok.0;
      each = λ host caller one at_caller at_one.
          let gives = (c.in_ok-left.ensures.each host one (slice_get_within callers host caller at_caller)).1 in
          let is = sym (gives.job_is caller) ∙ get_or_from_slice_get callers host caller caller at_caller in
          let came = get_or_from_slice_get left host one one at_one in
          subst (λ (x : CallerView). IfOk one (HasEnded x.places)) is
          (subst (λ (r : Result (Vec Kept Global × Vec (Holding ReaderView) Global) Memory). IfOk r (HasEnded gives.job.places)) came gives.call.met);
    }
