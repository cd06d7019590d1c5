use Rattle.std.proofs.Common.{◌≡◌, ◌+◌, ◌<◌, Vec, Some, length, set, slice_get, sym, subst, arith}
use Rattle.std.specs.Global.{Global}
use Rattle.std.proofs.lemmas.List.{map-set}
use Rattle.rds_fmap.specs.Readers.{WriterView}
use Rattle.rds_line.specs.Line.{LineView}
use Rattle.rds_run_rounds.specs.Grid.{rows_of}
use Rattle.rds_run_hosts.proofs.At.{length_map, map_at, stands_at}
use Rattle.rds_run_hosts.proofs.Telling.{AreToldBelow, told_lines, told_more, told_next, told_none, told_parties, told_ports, told_same}
use Rattle.rds_run_hosts.proofs.leading.tell_all.Goals as goal
use Rattle.rds_run_hosts.proofs.leading.tell_all.Goals.{After-index_mut-in-loop-host}

abbrev LinesOf : Type 0 → Type 0
LinesOf E = Vec (LineView E WriterView) Global

pub loop-host-init : goal.loop-host-init
loop-host-init g c = told_none c.args.callers.now.items (rows_of c.args.lines.now.items)

caller_within : (g : _) (c : After-index_mut-in-loop-host g) → c.loop-host.host < length c.loop-host.callers.items
caller_within g c =
    let n = c.loop-host.invariant.callers_count in let t = c.loop-host-test.true in let e = c.len-host-end.ensures in
    omega (arith, n, t, e, c.args.callers.now.ok.0)

row_within : (g : _) (c : After-index_mut-in-loop-host g) → c.loop-host.host < length c.loop-host.lines.items
row_within g c =
    let a = c.requires.1.callers_count in let b = c.requires.1.rows_count in let k = c.loop-host.invariant.rows_count in
    let n = c.loop-host.invariant.callers_count in let l = caller_within g c in
    let s = length_map (λ (v : LinesOf g.row.E.Denot). v.items) c.loop-host.lines.items in
    omega (arith, a, b, k, n, l, s)

caller_at : (g : _) (c : After-index_mut-in-loop-host g) → slice_get c.loop-host.callers.items c.loop-host.host ≡ Some c.index_mut.result.now
caller_at g c = stands_at c.loop-host.callers.items c.loop-host.host c.index_mut.result.now (caller_within g c) c.index_mut.ensures.value

row_at : (g : _) (c : After-index_mut-in-loop-host g) → slice_get (rows_of c.loop-host.lines.items) c.loop-host.host ≡ Some c.index_mut-in-loop-host.result.now.items
row_at g c =
    map_at (λ (v : LinesOf g.row.E.Denot). v.items) c.loop-host.lines.items c.loop-host.host c.index_mut-in-loop-host.result.now
    (stands_at c.loop-host.lines.items c.loop-host.host c.index_mut-in-loop-host.result.now (row_within g c) c.index_mut-in-loop-host.ensures.value)

pub tell_ports-requires : goal.tell_ports-requires
tell_ports-requires g c =
    told_next c.loop-host.host c.requires.0 c.args.callers.now.items c.loop-host.callers.items (rows_of c.args.lines.now.items) (rows_of c.loop-host.lines.items)
    c.index_mut.result.now c.index_mut-in-loop-host.result.now.items c.loop-host.invariant c.requires.1 (caller_at g c) (row_at g c)

pub loop-host-preserved : goal.loop-host-preserved
loop-host-preserved g c =
    let d = (goal.at.loop-host-preserved g c).After-index_mut-in-loop-host in
    subst (AreToldBelow (c.loop-host.host + 1) c.args.callers.now.items (set c.loop-host.callers.items c.loop-host.host c.tell_ports.new.caller) (rows_of c.args.lines.now.items))
    (sym (map-set (λ (v : LinesOf g.row.E.Denot). v.items) c.loop-host.lines.items c.loop-host.host c.tell_ports.new.lines))
    (told_more c.loop-host.host c.args.callers.now.items c.loop-host.callers.items (rows_of c.args.lines.now.items) (rows_of c.loop-host.lines.items)
    c.index_mut.result.now c.tell_ports.new.caller c.index_mut-in-loop-host.result.now.items c.tell_ports.new.lines.items c.loop-host.invariant
    (caller_at g d) (row_at g d) c.tell_ports.ensures.places c.tell_ports.ensures.told c.tell_ports.ensures.lines c.tell_ports.ensures.tied)

pub returns-clause-places : goal.returns-clause-places
returns-clause-places g c =
    let n = c.loop-host.invariant.callers_count in let t = c.loop-host-test.false in let e = c.len-host-end.ensures in let a = c.loop-host.auto.host-end in
    told_same c.loop-host.host c.args.callers.now.items c.loop-host.callers.items (rows_of c.args.lines.now.items) (rows_of c.loop-host.lines.items)
    (omega (arith, n, t, e, a, c.args.callers.now.ok.0)) c.requires.0 c.requires.1 c.loop-host.invariant

pub returns-clause-told : goal.returns-clause-told
returns-clause-told g c =
    let n = c.loop-host.invariant.callers_count in let t = c.loop-host-test.false in let e = c.len-host-end.ensures in let a = c.loop-host.auto.host-end in
    told_ports c.loop-host.host c.args.callers.now.items c.loop-host.callers.items (rows_of c.args.lines.now.items) (rows_of c.loop-host.lines.items)
    (omega (arith, n, t, e, a, c.args.callers.now.ok.0)) c.requires.0 c.requires.1 c.loop-host.invariant

pub returns-clause-lines : goal.returns-clause-lines
returns-clause-lines g c =
    let n = c.loop-host.invariant.callers_count in let t = c.loop-host-test.false in let e = c.len-host-end.ensures in let a = c.loop-host.auto.host-end in
    told_lines c.loop-host.host c.args.callers.now.items c.loop-host.callers.items (rows_of c.args.lines.now.items) (rows_of c.loop-host.lines.items)
    (omega (arith, n, t, e, a, c.args.callers.now.ok.0)) c.requires.0 c.requires.1 c.loop-host.invariant

pub returns-clause-parties : goal.returns-clause-parties
returns-clause-parties g c =
    let n = c.loop-host.invariant.callers_count in let t = c.loop-host-test.false in let e = c.len-host-end.ensures in let a = c.loop-host.auto.host-end in
    told_parties c.loop-host.host c.args.callers.now.items c.loop-host.callers.items (rows_of c.args.lines.now.items) (rows_of c.loop-host.lines.items)
    (omega (arith, n, t, e, a, c.args.callers.now.ok.0)) c.requires.0 c.requires.1 c.loop-host.invariant
