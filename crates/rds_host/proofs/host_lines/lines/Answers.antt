use Rattle.std.proofs.Common.{◌≡◌, ℕ, List, Vec, [], ◌∷◌, ◌++◌, All, Some, length, map, slice_get, sym, ap, subst, ◌∙◌, arith}
use Rattle.std.specs.Arc.{arc_value}
use Rattle.std.specs.Global.{Global}
use Rattle.std.proofs.lemmas.List.{length-map, length_push, map_push}
use Rattle.std.proofs.lemmas.List.Elements.{All-pop}
use Rattle.rds_seats.specs.Views.{Table}
use Rattle.rds_fmap.specs.Readers.{WriterView}
use Rattle.rds_line.specs.Line.{LineView}
use Rattle.rds_line_channel.specs.Streams.{AreNumbered, IsUnused}
use Rattle.rds_host.specs.Ties.{ColumnView, AreLinesOf}
use Rattle.rds_host.proofs.Columns.{pushed_here}
use Rattle.rds_host.proofs.ColumnLines.{line_at, lines_among, lines_push}
use Rattle.rds_host.proofs.host_lines.lines.Goals as goal

pub first_lines-requires-clause-unused : goal.first_lines-requires-clause-unused
first_lines-requires-clause-unused g c =
    (All-pop (λ (v : Vec (ℕ × g.row.E.Denot) Global). All (λ stream. IsUnused g.E.End.means stream.1) v.items) c.args.streams.items c.pop-2.new.self.items (Some c.in-Some-pop.list)
    c.in-Some-pop.ensures.items c.requires.unused).0

pub add_line-requires-clause-boxes : goal.add_line-requires-clause-boxes
add_line-requires-clause-boxes g c =
    (All-pop (λ (x : ColumnView). length x.boxes ≡ (arc_value c.args.seats.table).slots) c.args.columns.items c.pop.new.self.items (Some c.in-Some.column)
    c.in-Some.ensures.items c.requires.boxes).1
    ∙ sym (ap (λ (t : Table). t.slots) (c.last.ensures.table ∙ c.in_ok-lines.ensures.table))

pub add_line-requires-clause-numbered : goal.add_line-requires-clause-numbered
add_line-requires-clause-numbered g c =
    (All-pop (λ (v : Vec (ℕ × g.row.E.Denot) Global). AreNumbered v.items) c.args.streams.items c.pop-2.new.self.items (Some c.in-Some-pop.list)
    c.in-Some-pop.ensures.items c.requires.numbered).1

pub add_line-requires-clause-unused : goal.add_line-requires-clause-unused
add_line-requires-clause-unused g c =
    (All-pop (λ (v : Vec (ℕ × g.row.E.Denot) Global). All (λ stream. IsUnused g.E.End.means stream.1) v.items) c.args.streams.items c.pop-2.new.self.items (Some c.in-Some-pop.list)
    c.in-Some-pop.ensures.items c.requires.unused).1

pub returns-clause-lines : goal.returns-clause-lines
returns-clause-lines g c =
    let me = c.args.addr in
    let limit = c.args.limit in
    let table = arc_value c.args.seats.table in
    let meter = arc_value c.args.seats.meter in
    let items : Vec (ℕ × g.row.E.Denot) Global → List (ℕ × g.row.E.Denot) = λ (v : Vec (ℕ × g.row.E.Denot) Global). v.items in
    let front = c.pop.new.self.items in
    let column = c.in-Some.column in
    let first = c.pop-2.new.self.items in
    let list = c.in-Some-pop.list in
    let lines = c.in_ok-lines.lines.items in
    let line = c.in_ok-add_line.ensures.line in
    let streams = map items first ++ list.items ∷ [] in
    let one = ap length c.in-Some.ensures.items in
    let two = ap length c.in-Some-pop.ensures.items in
    let three = length_push front column in
    let four = length_push first list in
    let five = length-map first items in
    let all = c.requires.streams in
    let size : length (map items first) ≡ length front = omega (arith, one, two, three, four, five, all) in
    let among : AreLinesOf me limit table meter front streams lines = lines_among me limit table meter front (map items first) list.items lines size c.in_ok-lines.ensures.lines in
    let next : slice_get streams (length front) ≡ Some list.items = ap (slice_get streams) (sym size) ∙ pushed_here (map items first) list.items in
    let last = line_at me limit (arc_value c.last.result.table) (arc_value c.last.result.meter) table meter column list.items line.0
    (c.last.ensures.table ∙ c.in_ok-lines.ensures.table) (c.last.ensures.meter ∙ c.in_ok-lines.ensures.meter) line.2 in
    let pushed : AreLinesOf me limit table meter (front ++ column ∷ []) streams (lines ++ line.0 ∷ []) = lines_push me limit table meter front streams lines column list.items line.0 among next last in
    let named : map items c.args.streams.items ≡ streams = ap (map items) c.in-Some-pop.ensures.items ∙ map_push items first list in
    subst (λ (l : List (LineView g.row.E.Denot WriterView)). AreLinesOf me limit table meter c.args.columns.items (map items c.args.streams.items) l) (sym line.1)
    (subst (λ (l : List (List (ℕ × g.row.E.Denot))). AreLinesOf me limit table meter c.args.columns.items l (lines ++ line.0 ∷ [])) (sym named)
    (subst (λ (l : List ColumnView). AreLinesOf me limit table meter l streams (lines ++ line.0 ∷ [])) (sym c.in-Some.ensures.items) pushed))
