use Rattle.std.proofs.Common.{◌≡◌, ℕ, ◌+◌, ◌<◌, List, Vec, [], ◌∷◌, ◌++◌, All, length, map, drop, option_map, sym, ap, subst, ◌∙◌, arith}
use Rattle.std.specs.Arc.{arc_value}
use Rattle.std.specs.Global.{Global}
use Rattle.std.proofs.lemmas.List.Elements.{All-head, All-tail}
use Rattle.std.proofs.lemmas.Option.{slice_get-map}
use Rattle.std.proofs.lemmas.Iterator.Adapters.{YieldsList-from_vec}
use Rattle.std.proofs.lemmas.Iterator.Consumers.{YieldsList-turn, YieldsList-end}
use Rattle.std.proofs.lemmas.List.{map-id}
use Rattle.rds_seats.specs.Views.{Table}
use Rattle.rds_line_channel.specs.Streams.{AreNumbered, IsUnused}
use Rattle.rds_host.specs.Ties.{ColumnView, AreLinesOf}
use Rattle.rds_host.proofs.Pushing.{counted_on, next_of, one_left, push_one}
use Rattle.rds_host.proofs.ColumnLines.{line_at, lines_push}
use Rattle.rds_host.proofs.host_lines.first_lines.Goals as goal

pub add_line-requires-clause-boxes : goal.add_line-requires-clause-boxes
add_line-requires-clause-boxes g c =
    let turn = YieldsList-turn (YieldsList-from_vec c.args.columns.items c.into_iter-column-iterator.ensures.into_iter_gives.0 (c.into_iter-column-iterator.ensures.into_iter_gives.1 ∙ c.args.columns.ok.0)) c.loop-column.yielded c.loop-column.column-iterator c.loop-column.yielded_by c.next.result c.next.new.self c.in-Some.column c.in-Some.is c.next.ensures.steps in
    let n = length c.loop-column.yielded in
    ap (λ (x : ColumnView). length x.boxes) turn.1
    ∙ (c.requires.boxes n c.in-Some.column turn.0
    ∙ sym (ap (λ (t : Table). t.slots) (c.in_ok-own.ensures.same_table ∙ c.loop-column.invariant.0)))

pub split-requires-clause-seats : goal.split-requires-clause-seats
split-requires-clause-seats g c =
    let turn = YieldsList-turn (YieldsList-from_vec c.args.columns.items c.into_iter-column-iterator.ensures.into_iter_gives.0 (c.into_iter-column-iterator.ensures.into_iter_gives.1 ∙ c.args.columns.ok.0)) c.loop-column.yielded c.loop-column.column-iterator c.loop-column.yielded_by c.next.result c.next.new.self c.in-Some.column c.in-Some.is c.next.ensures.steps in
    one_left c.loop-column.seats.seat.view.splits (length c.loop-column.yielded) c.args.seats.now.seat.view.splits (length c.args.columns.items) c.loop-column.invariant.2 c.requires.seats turn.0

pub split-requires-clause-words : goal.split-requires-clause-words
split-requires-clause-words g c =
    let turn = YieldsList-turn (YieldsList-from_vec c.args.columns.items c.into_iter-column-iterator.ensures.into_iter_gives.0 (c.into_iter-column-iterator.ensures.into_iter_gives.1 ∙ c.args.columns.ok.0)) c.loop-column.yielded c.loop-column.column-iterator c.loop-column.yielded_by c.next.result c.next.new.self c.in-Some.column c.in-Some.is c.next.ensures.steps in
    one_left c.loop-column.seats.own.view.splits (length c.loop-column.yielded) c.args.seats.now.own.view.splits (length c.args.columns.items) c.loop-column.invariant.3 c.requires.words turn.0

pub add_line-requires-clause-numbered : goal.add_line-requires-clause-numbered
add_line-requires-clause-numbered g c =
    All-head (λ (list : Vec (ℕ × g.row.E.Denot) Global). AreNumbered list.items) c.in-Some-next.list c.next-in-loop-column.new.self.rest.items
    (subst (All (λ (list : Vec (ℕ × g.row.E.Denot) Global). AreNumbered list.items)) c.in-Some-next.ensures.items c.loop-column.invariant.6)

pub add_line-requires-clause-unused : goal.add_line-requires-clause-unused
add_line-requires-clause-unused g c =
    All-head (λ (list : Vec (ℕ × g.row.E.Denot) Global). All (λ stream. IsUnused g.E.End.means stream.1) list.items) c.in-Some-next.list c.next-in-loop-column.new.self.rest.items
    (subst (All (λ (list : Vec (ℕ × g.row.E.Denot) Global). All (λ stream. IsUnused g.E.End.means stream.1) list.items)) c.in-Some-next.ensures.items c.loop-column.invariant.7)

pub loop-column-preserved : goal.loop-column-preserved
loop-column-preserved g c =
    let turn = YieldsList-turn (YieldsList-from_vec c.args.columns.items c.into_iter-column-iterator.ensures.into_iter_gives.0 (c.into_iter-column-iterator.ensures.into_iter_gives.1 ∙ c.args.columns.ok.0)) c.loop-column.yielded c.loop-column.column-iterator c.loop-column.yielded_by c.next.result c.next.new.self c.in-Some.column c.in-Some.is c.next.ensures.steps in
    let inv = c.loop-column.invariant in
    let seen = c.loop-column.yielded in
    let column = c.in-Some.column in
    let list = c.in-Some-next.list in
    let all = c.args.streams.items in
    let rest = c.next-in-loop-column.new.self.rest.items in
    let own = c.in_ok-own.ensures in
    let made = c.in_ok-add_line.ensures in
    let inside : length seen < length all = subst (λ (n : ℕ). length seen < n) (sym c.requires.streams) turn.0 in
    let left : drop (length seen) all ≡ list ∷ rest = sym inv.5 ∙ c.in-Some-next.ensures.items in
    let next = next_of all rest (length seen) list inside left in
    let size = push_one seen column in
    let line = made.line in
    let stand = made.stand in
    let split = own.stand in
    let items : Vec (ℕ × g.row.E.Denot) Global → List (ℕ × g.row.E.Denot) = λ (v : Vec (ℕ × g.row.E.Denot) Global). v.items in (
      c.split.ensures.table ∙ inv.0,
      c.split.ensures.meter ∙ inv.1,
      counted_on c.split.new.self.seat.view.splits c.loop-column.seats.seat.view.splits (length (seen ++ column ∷ [])) (length seen) c.args.seats.now.seat.view.splits (length c.args.columns.items) own.seats size inv.2 c.requires.seats turn.0,
      counted_on c.split.new.self.own.view.splits c.loop-column.seats.own.view.splits (length (seen ++ column ∷ [])) (length seen) c.args.seats.now.own.view.splits (length c.args.columns.items) own.words size inv.3 c.requires.words turn.0,
      omega (arith, stand, split, inv.4),
      next.1 ∙ ap (λ (i : ℕ). drop i all) (sym size),
      All-tail (λ (v : Vec (ℕ × g.row.E.Denot) Global). AreNumbered v.items) list rest
          (subst (All (λ (v : Vec (ℕ × g.row.E.Denot) Global). AreNumbered v.items)) c.in-Some-next.ensures.items inv.6),
      All-tail (λ (v : Vec (ℕ × g.row.E.Denot) Global). All (λ stream. IsUnused g.E.End.means stream.1) v.items) list rest
          (subst (All (λ (v : Vec (ℕ × g.row.E.Denot) Global). All (λ stream. IsUnused g.E.End.means stream.1) v.items)) c.in-Some-next.ensures.items inv.7),
      subst (AreLinesOf c.args.addr c.args.limit (arc_value c.args.seats.now.table) (arc_value c.args.seats.now.meter) (seen ++ column ∷ []) (map items all)) (sym line.1)
          (lines_push c.args.addr c.args.limit (arc_value c.args.seats.now.table) (arc_value c.args.seats.now.meter) seen (map items all) c.loop-column.lines.items column list.items line.0 inv.8
          (slice_get-map items all (length seen) ∙ ap (option_map items) next.0)
          (line_at c.args.addr c.args.limit (arc_value c.in_ok-own.own.table) (arc_value c.in_ok-own.own.meter) (arc_value c.args.seats.now.table) (arc_value c.args.seats.now.meter) column list.items line.0 (own.same_table ∙ inv.0) (own.same_meter ∙ inv.1) line.2)),
    )

pub returns-clause-lines : goal.returns-clause-lines
returns-clause-lines g c =
    let all = YieldsList-end (YieldsList-from_vec c.args.columns.items c.into_iter-column-iterator.ensures.into_iter_gives.0 (c.into_iter-column-iterator.ensures.into_iter_gives.1 ∙ c.args.columns.ok.0)) c.loop-column.yielded c.loop-column.column-iterator c.loop-column.yielded_by c.next.result c.next.new.self c.in-None.is c.next.ensures.steps in
    subst (λ (l : List ColumnView). AreLinesOf c.args.addr c.args.limit (arc_value c.args.seats.now.table) (arc_value c.args.seats.now.meter) l (map (λ (v : Vec (ℕ × g.row.E.Denot) Global). v.items) c.args.streams.items) c.loop-column.lines.items)
    (sym (map-id c.loop-column.yielded) ∙ all.0) c.loop-column.invariant.8

pub returns-clause-seats : goal.returns-clause-seats
returns-clause-seats g c =
    let all = YieldsList-end (YieldsList-from_vec c.args.columns.items c.into_iter-column-iterator.ensures.into_iter_gives.0 (c.into_iter-column-iterator.ensures.into_iter_gives.1 ∙ c.args.columns.ok.0)) c.loop-column.yielded c.loop-column.column-iterator c.loop-column.yielded_by c.next.result c.next.new.self c.in-None.is c.next.ensures.steps in
    ap (λ (l : List ColumnView). c.loop-column.seats.seat.view.splits + length l) (sym (sym (map-id c.loop-column.yielded) ∙ all.0)) ∙ c.loop-column.invariant.2
