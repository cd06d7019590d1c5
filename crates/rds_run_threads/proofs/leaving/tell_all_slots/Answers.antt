use Rattle.std.proofs.Common.{List, Vec, subst, ◌∙◌, arith}
use Rattle.std.specs.Global.{Global}
use Rattle.rds_fmap.specs.Readers.{WriterView}
use Rattle.rds_line.specs.Line.{LineView}
use Rattle.rds_socket_parts.specs.PlaceLaws.{map_same}
use Rattle.rds_run_rounds.specs.Grid.{rows_of}
use Rattle.rds_run_settling.specs.Tied.{AreSlotsTold, AreTied, holdings}
use Rattle.rds_run_threads.proofs.Keeping.{next_at, one_heard}
use Rattle.rds_run_threads.proofs.leaving.tell_all_slots.Goals as goal

pub tell_slots-requires-clause-tied : goal.tell_slots-requires-clause-tied
tell_slots-requires-clause-tied g c =
    let next =
    next_at c.loop-host.host c.args.callers.now.items c.loop-host.callers.items c.args.lines.now.items c.loop-host.lines.items c.index_mut.result.now
    c.index_mut-in-loop-host.result.now c.requires c.loop-host.invariant.0 c.loop-host.invariant.1 (omega arith) c.index_mut.ensures.value
    c.index_mut-in-loop-host.ensures.value in
    next.settled.tied

pub tell_slots-requires-clause-used : goal.tell_slots-requires-clause-used
tell_slots-requires-clause-used g c =
    let next =
    next_at c.loop-host.host c.args.callers.now.items c.loop-host.callers.items c.args.lines.now.items c.loop-host.lines.items c.index_mut.result.now
    c.index_mut-in-loop-host.result.now c.requires c.loop-host.invariant.0 c.loop-host.invariant.1 (omega arith) c.index_mut.ensures.value
    c.index_mut-in-loop-host.ensures.value in
    next.settled.used

-- refused where a host's slots aren't told
pub loop-host-preserved : goal.loop-host-preserved
loop-host-preserved g c =
    let next =
    next_at c.loop-host.host c.args.callers.now.items c.loop-host.callers.items c.args.lines.now.items c.loop-host.lines.items c.index_mut.result.now
    c.index_mut-in-loop-host.result.now c.requires c.loop-host.invariant.0 c.loop-host.invariant.1 (omega arith) c.index_mut.ensures.value
    c.index_mut-in-loop-host.ensures.value in
    let told = c.tell_slots.ensures in
    let places = c.tell_slots.new.caller.places in (
      one_heard c.loop-host.host c.args.callers.now.items c.loop-host.callers.items (rows_of c.args.lines.now.items) c.index_mut.result.now
          c.tell_slots.new.caller c.index_mut-in-loop-host.result.now.items c.loop-host.invariant.0 next.at_caller next.at_row (record {
            hear = told.places;
            told = subst (λ (l : List (LineView g.row.E.Denot WriterView)). AreSlotsTold (holdings places) l) told.lines told.told;
            tied = subst (λ (l : List (LineView g.row.E.Denot WriterView)). AreTied places l) told.lines told.tied;
          }),
      map_same (λ (list : Vec (LineView g.row.E.Denot WriterView) Global). list.items) c.loop-host.lines.items c.loop-host.host
          c.index_mut-in-loop-host.result.now c.tell_slots.new.lines next.at_line told.lines
          ∙ c.loop-host.invariant.1,
    )
