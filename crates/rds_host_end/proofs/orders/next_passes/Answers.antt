use Rattle.std.proofs.Common.{◌≡◌, ℕ, ◌+◌, ◌<◌, ◌++◌, List, take, length, get_or, refl, sym, ap, subst, ◌∙◌, arith, rules}
use Rattle.std.specs.declared.vec.IntoIter.{IntoIter}
use Rattle.std.specs.Global.{Global}
use Rattle.std.specs.Option.{option_to_list}
use Rattle.std.specs.Vec.Iter.{into_iter_items}
use Rattle.std.proofs.lemmas.List.{get_or-map, length-map, map-append, map-set, take_all}
use Rattle.std.proofs.lemmas.List.Elements.{All-append}
use Rattle.rds_model.specs.declared.order.Order.{Order}
use Rattle.rds_mail.specs.Passes.{Putter}
use Rattle.rds_fmap.specs.Readers.{ReaderView, WriterView}
use Rattle.rds_socket_parts.specs.Lanes.{Lane}
use Rattle.rds_host_end.specs.Columns.{column, passes_of, rows_left}
use Rattle.rds_host_end.specs.Shown.{AreReadersOf, HasLookedAt, HaveLookedAt}
use Rattle.rds_host_end.proofs.Columns.{column_has, row_next, row_taken}
use Rattle.rds_host_end.proofs.orders.next_passes.Goals as goal

-- refused where a route isn't the one of the line
pub add_pass-requires : goal.add_pass-requires
add_pass-requires c =
    let old = c.loop-i.routes in
    let row = get_or old c.loop-i.i c.index-routes-i.result in
    let route = c.next-route.result in
    let i = c.loop-i.i in
    let rows = rows_left c.args.routes.now in
    let f : IntoIter (Lane ReaderView) Global → List (Lane ReaderView) = λ (it : IntoIter (Lane ReaderView) Global). into_iter_items it in
    let count = length-map c.args.routes.now f in
    let same = c.loop-i.auto.routes in
    let small : i < length old = omega (arith, c.loop-i-test.true, same) in
    let next = row_next row c.next-route.new.self route c.next-route.ensures.cases in
    subst (λ (w : WriterView). AreReadersOf w (option_to_list route)) (sym c.loop-i.invariant.0)
    (column_has (λ (lane : Lane ReaderView). lane.reader.pair ≡ c.args.writer.now.pair) rows (rows_left old) i (f row) route (omega (arith, count, small, same)) c.loop-i.invariant.1
    (sym (get_or-map f old i c.index-routes-i.result (f row) small)) next.1 c.requires)

pub loop-i-preserved : goal.loop-i-preserved
loop-i-preserved c =
    let old = c.loop-i.routes in
    let row = get_or old c.loop-i.i c.index-routes-i.result in
    let new = c.next-route.new.self in
    let route = c.next-route.result in
    let i = c.loop-i.i in
    let rows = rows_left c.args.routes.now in
    let f : IntoIter (Lane ReaderView) Global → List (Lane ReaderView) = λ (it : IntoIter (Lane ReaderView) Global). into_iter_items it in
    let pass : Lane ReaderView → Putter Order = λ (lane : Lane ReaderView). lane.pass in
    let count = length-map c.args.routes.now f in
    let same = c.loop-i.auto.routes in
    let small : i < length old = omega (arith, c.loop-i-test.true, same) in
    let next = row_next row new route c.next-route.ensures.cases in
    let got = column 0 (take i rows) in
    let taken = row_taken rows (rows_left old) i (f row) (f new) route got (omega (arith, count, small, same)) c.loop-i.invariant.1
    (sym (get_or-map f old i c.index-routes-i.result (f row) small)) next.0 next.1 refl in
    let looked = subst (λ (w : WriterView). HaveLookedAt w.published (option_to_list route)) c.loop-i.invariant.0 c.in_ok-add_pass.ensures.looks in (
      c.in_ok-add_pass.ensures.same ∙ c.loop-i.invariant.0,
      map-set f old i new ∙ taken.0,
      c.in_ok-add_pass.ensures.passes ∙ (ap (λ (l : List (Putter Order)). l ++ passes_of (option_to_list route)) c.loop-i.invariant.2
          ∙ (sym (map-append pass got (option_to_list route)) ∙ ap passes_of taken.1)),
      subst (λ (l : List (Lane ReaderView)). HaveLookedAt c.args.writer.now.published l) taken.1
          (All-append (λ (lane : Lane ReaderView). HasLookedAt c.args.writer.now.published lane.reader) got (option_to_list route) c.loop-i.invariant.3 looked),
    )

-- refused where the putters of the first slot stay
pub loop-i-init : goal.loop-i-init
loop-i-init c = search rules

pub returns-clause-looks : goal.returns-clause-looks
returns-clause-looks c =
    let rows = rows_left c.args.routes.now in
    let f : IntoIter (Lane ReaderView) Global → List (Lane ReaderView) = λ (it : IntoIter (Lane ReaderView) Global). into_iter_items it in
    let count = length-map c.args.routes.now f in
    let same = c.loop-i.auto.routes in
    subst (λ (l : List (List (Lane ReaderView))). HaveLookedAt c.args.writer.now.published (column 0 l))
    (take_all c.loop-i.i rows (omega (arith, c.loop-i-test.false, same, count))) c.loop-i.invariant.3
