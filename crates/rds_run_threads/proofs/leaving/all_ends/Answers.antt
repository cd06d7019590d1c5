use Rattle.std.proofs.Common.{◌≡◌, IfOk, List, Vec, ap, length, subst, sym, arith}
use Rattle.std.specs.Global.{Global}
use Rattle.rds_text.specs.declared.final_state.HostEnd.{HostEnd}
use Rattle.rds_fmap.specs.Readers.{WriterView}
use Rattle.rds_line.specs.Line.{LineView}
use Rattle.rds_run_rounds.specs.Grid.{rows_of}
use Rattle.rds_run_threads.specs.Settled.{AreLeftOf, HaveHeardBelow, HaveSettled}
use Rattle.rds_run_threads.specs.Taking.{HaveTied}
use Rattle.rds_run_threads.proofs.Keeping.{heard_tied}
use Rattle.rds_run_threads.proofs.Rows.{rows_count}
use Rattle.rds_run_threads.proofs.leaving.all_ends.Goals as goal

pub gather_all-requires-clause-few : goal.gather_all-requires-clause-few
gather_all-requires-clause-few g c =
    let few = c.requires.few in
    let before = rows_count c.args.lines.items in
    let now = rows_count c.tell_all_slots.new.lines.items in
    let same : length (rows_of c.tell_all_slots.new.lines.items) ≡ length (rows_of c.args.lines.items) = ap length c.tell_all_slots.ensures.lines in
    omega (arith, few, before, now, same)

pub gather_all-requires-clause-ended : goal.gather_all-requires-clause-ended
gather_all-requires-clause-ended g c =
    let callers = c.args.callers.items in
    let told = c.tell_all_slots.new.callers.items in
    let tied = heard_tied callers told (rows_of c.args.lines.items) c.requires.settled.count c.tell_all_slots.ensures.heard in
    (told, subst (λ (l : List (List (LineView g.row.W-End.Denot WriterView))). HaveTied told l) (sym c.tell_all_slots.ensures.lines) tied, c.in-Ok.ensures)

pub returns-clause-left : goal.returns-clause-left
returns-clause-left g c =
    let callers = c.args.callers.items in
    let told = c.tell_all_slots.new.callers.items in
    let same = c.tell_all_slots.ensures.lines in
    let heard =
    subst (λ (l : List (List (LineView g.row.W-End.Denot WriterView))). HaveHeardBelow (length callers) callers told l) (sym same)
    c.tell_all_slots.ensures.heard in
    let settled = subst (λ (l : List (List (LineView g.row.W-End.Denot WriterView))). HaveSettled callers l) (sym same) c.requires.settled in
    subst (λ (l : List (List (LineView g.row.W-End.Denot WriterView))).
    IfOk c.gather_all.result (λ (ends : Vec HostEnd Global). AreLeftOf callers l ends.items)) same
    (c.gather_all.ensures.left callers told settled heard c.in-Ok.ensures)
