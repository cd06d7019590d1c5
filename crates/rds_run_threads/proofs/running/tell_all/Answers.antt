use Rattle.std.proofs.Common.{◌<◌, ◌+◌, List, Vec, length, refl, set, sym, subst, ◌∙◌, arith}
use Rattle.std.specs.Global.{Global}
use Rattle.std.proofs.lemmas.List.{map-set}
use Rattle.rds_fmap.specs.Readers.{WriterView}
use Rattle.rds_line.specs.Line.{LineView}
use Rattle.rds_run_rounds.specs.Grid.{rows_of}
use Rattle.rds_run_threads.specs.Settled.{AreToldBelow}
use Rattle.rds_run_threads.proofs.Keeping.{one_told}
use Rattle.rds_run_threads.proofs.Rows.{read_at, row_at, rows_count}
use Rattle.rds_run_threads.proofs.running.tell_all.Goals as goal

pub tell_lines-requires : goal.tell_lines-requires
tell_lines-requires g c =
    let host = c.loop-host.host in
    let callers = c.loop-host.callers.items in
    let lines = c.loop-host.lines.items in
    let parties = c.requires.1 in
    let all = c.loop-host.invariant in
    let now_count = rows_count lines in
    let rows = all.row_count in
    let callers_now = all.caller_count in
    let callers_then = parties.callers_count in
    let rows_then = parties.rows_count in
    let below : host < length callers = omega arith in
    let below_rows : host < length lines = omega (arith, now_count, rows, callers_now, callers_then, rows_then, below) in
    let rest = all.others host (omega arith) in
    let at = read_at callers host host c.index_mut.result.now refl below c.index_mut.ensures.value in
    let at_row = read_at lines host host c.index_mut-in-loop-host.result.now refl below_rows c.index_mut-in-loop-host.ensures.value in
    parties.tied host c.index_mut.result.now c.index_mut-in-loop-host.result.now.items (sym rest.0 ∙ at)
    (sym rest.1 ∙ row_at lines host c.index_mut-in-loop-host.result.now at_row)

pub loop-host-preserved : goal.loop-host-preserved
loop-host-preserved g c =
    let host = c.loop-host.host in
    let callers = c.loop-host.callers.items in
    let lines = c.loop-host.lines.items in
    let parties = c.requires.1 in
    let all = c.loop-host.invariant in
    let now_count = rows_count lines in
    let rows = all.row_count in
    let callers_now = all.caller_count in
    let callers_then = parties.callers_count in
    let rows_then = parties.rows_count in
    let below : host < length callers = omega arith in
    let below_rows : host < length lines = omega (arith, now_count, rows, callers_now, callers_then, rows_then, below) in
    let at = read_at callers host host c.index_mut.result.now refl below c.index_mut.ensures.value in
    let at_row = read_at lines host host c.index_mut-in-loop-host.result.now refl below_rows c.index_mut-in-loop-host.ensures.value in
    subst (λ (l : List (List (LineView g.row.E.Denot WriterView))).
    AreToldBelow (host + 1) c.args.callers.now.items (set callers host c.tell_lines.new.caller) (rows_of c.args.lines.now.items) l)
    (sym (map-set (λ (list : Vec (LineView g.row.E.Denot WriterView) Global). list.items) lines host c.tell_lines.new.lines))
    (one_told host c.args.callers.now.items callers (rows_of c.args.lines.now.items) (rows_of lines) c.index_mut.result.now c.tell_lines.new.caller
    c.index_mut-in-loop-host.result.now.items c.tell_lines.new.lines.items all at (row_at lines host c.index_mut-in-loop-host.result.now at_row)
    c.tell_lines.ensures)
