use Rattle.std.proofs.Common.{◌≡◌, List, length, rules, subst, sym, ◌∙◌}
use Rattle.std.proofs.lemmas.Option.{get_or_from_slice_get, slice_get_within}
use Rattle.rds_fmap.specs.Readers.{WriterView}
use Rattle.rds_line.specs.Line.{LineView}
use Rattle.rds_line.specs.Stays.{LineStays}
use Rattle.rds_host.specs.Lines.{AreTurned, pair_of}
use Rattle.rds_run_hosts.proofs.Keeping.{back_of}
use Rattle.rds_run_hosts.proofs.working.work_row.Goals as goal

pub returns : goal.returns
returns g c =
    let View = LineView g.row.E.Denot WriterView in
    let m = g.E.End.means in
    let old = c.args.row.now.items in
    let lent = c.deref_mut.result.now in
    let new = c.for_each_mut.new.s in
    let len : c.args.row.now.len ≡ length old = search rules in
    let each : AreTurned m pair_of lent new = record {
      count = c.for_each_mut.auto.s;
      each = λ place line after stood stands.
          let change = (c.for_each_mut.ensures place line (slice_get_within lent place line stood)).1 in
          let before : change.argument.now ≡ line = change.argument_is ∙ get_or_from_slice_get lent place line line stood in
          let later : change.after_call.now ≡ after = change.left ∙ get_or_from_slice_get new place after line stands in
          subst (λ (v : View). LineStays m pair_of v after) before
          (subst (λ (v : View). LineStays m pair_of change.argument.now v) later change.call);
    } in
    let turned = subst (λ (l : List View). AreTurned m pair_of l new) c.deref_mut.ensures.value each in
    let same = back_of old new c.args.row.now.len len turned.count in
    subst (λ (l : List View). AreTurned m pair_of old l) (sym same) turned
