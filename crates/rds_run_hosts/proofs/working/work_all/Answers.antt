use Rattle.std.proofs.Common.{◌≡◌, List, Vec, length, rules, subst, sym, ◌∙◌}
use Rattle.std.specs.Global.{Global}
use Rattle.std.proofs.lemmas.Option.{get_or_from_slice_get, slice_get_within}
use Rattle.rds_fmap.specs.Readers.{WriterView}
use Rattle.rds_line.specs.Line.{LineView}
use Rattle.rds_host.specs.Lines.{AreTurned, pair_of}
use Rattle.rds_run_rounds.specs.Grid.{EachRow, rows_of}
use Rattle.rds_run_hosts.proofs.At.{at_map, length_map}
use Rattle.rds_run_hosts.proofs.Keeping.{back_of}
use Rattle.rds_run_hosts.proofs.working.work_all.Goals as goal

-- refused where a host's lines are lost
pub returns : goal.returns
returns g c =
    let Lines = List (LineView g.row.E.Denot WriterView) in
    let Row = Vec (LineView g.row.E.Denot WriterView) Global in
    let Turned = AreTurned g.E.End.means pair_of in
    let items = λ (v : Row). v.items in
    let old = c.args.lines.items in
    let lent = c.deref_mut.result.now in
    let new = c.for_each_mut.new.list in
    let len : c.args.lines.len ≡ length old = search rules in
    let each : EachRow Turned (rows_of lent) (rows_of new) = record {
      count = length_map items new ∙ c.for_each_mut.auto.list ∙ sym (length_map items lent);
      each = λ host row after stood stands.
          let was = at_map items lent host row stood in
          let is = at_map items new host after stands in
          let change = (c.for_each_mut.ensures host was.0 (slice_get_within lent host was.0 was.1)).1 in
          let before : change.argument.now ≡ was.0 = change.argument_is ∙ get_or_from_slice_get lent host was.0 was.0 was.1 in
          let later : change.after_call.now ≡ is.0 = change.left ∙ get_or_from_slice_get new host is.0 was.0 is.1 in
          subst (λ (l : Lines). Turned l after) (sym was.2)
          (subst (λ (l : Lines). Turned was.0.items l) (sym is.2)
          (subst (λ (v : Row). Turned v.items is.0.items) before
          (subst (λ (v : Row). Turned change.argument.now.items v.items) later change.call)));
    } in
    let turned = subst (λ (l : List Row). EachRow Turned (rows_of l) (rows_of new)) c.deref_mut.ensures.value each in
    let same : length new ≡ length old = sym (length_map items new) ∙ (turned.count ∙ length_map items old) in
    subst (λ (l : List Row). EachRow Turned (rows_of old) (rows_of l)) (sym (back_of old new c.args.lines.len len same)) turned
