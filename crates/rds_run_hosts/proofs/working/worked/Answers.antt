use Rattle.std.proofs.Common.{◌≡◌, [], ◌∷◌, ◌++◌, List, ap, slice_get, ◌∙◌}
use Rattle.rds_fmap.specs.Readers.{WriterView}
use Rattle.rds_line.specs.Line.{LineView}
use Rattle.rds_run_hosts.proofs.working.worked.Goals as goal

pub returns-in-Ok : goal.returns-in-Ok
returns-in-Ok g c =
    let View = LineView g.row.E.Denot WriterView in
    let one : c.push.new.self.items ≡ c.args.line ∷ [] = c.in-Ok.ensures.items ∙ ap (λ (l : List View). l ++ c.args.line ∷ []) c.new-list.ensures.items in
    c.work.ensures.each 0 c.args.line c.only.result (ap (λ (l : List View). slice_get l 0) one) (ap (λ (l : List View). slice_get l 0) c.only.ensures)
