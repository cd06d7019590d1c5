use Rattle.std.proofs.Common.{◌≡◌, ℕ, ◌+◌, List, [], ◌∷◌, ◌++◌, Some, length, map, drop, sym, ap, subst, ◌∙◌}
use Rattle.std.proofs.lemmas.Iterator.Adapters.{YieldsList-from_vec}
use Rattle.std.proofs.lemmas.Iterator.Consumers.{YieldsList-end, YieldsList-turn}
use Rattle.std.proofs.lemmas.List.{length_push, map-id}
use Rattle.std.proofs.lemmas.Option.{slice_get-get_or}
use Rattle.rds_model.specs.declared.order.Order.{Order}
use Rattle.rds_mail.specs.Passes.{Getter, Putter}
use Rattle.rds_fmap.specs.Readers.{ReaderView, WriterView}
use Rattle.rds_socket_parts.specs.Lanes.{IsOf, Lane}
use Rattle.rds_host_end.specs.Joins.{slot_of_order}
use Rattle.rds_host_end.specs.Columns.{AtEachPlace, column, passes_of, rows_left}
use Rattle.rds_host_end.specs.Shown.{ArePuttersOf, AreReadersOf, HaveLookedAt, ShowsAllPuts}
use Rattle.rds_host_end.proofs.Columns.{at_none, at_one_more, column_left, none_left, one_more_left}
use Rattle.rds_host_end.proofs.orders.join_all_orders.Goals as goal

-- what a line's queue and the routes to it show
abbrev Shows : Getter Order × WriterView → List (Lane ReaderView) → Type 0
Shows line lanes = ShowsAllPuts slot_of_order IsOf line.0 (passes_of lanes)

abbrev Looks : Getter Order × WriterView → List (Lane ReaderView) → Type 0
Looks line lanes = HaveLookedAt line.1.published lanes

pub loop-line-init : goal.loop-line-init
loop-line-init g c =
    let rows = rows_left c.args.routes.now in
    (sym (none_left rows), at_none Shows rows, at_none Looks rows)

-- refused where a line gets another one's readers
pub next_passes-requires : goal.next_passes-requires
next_passes-requires g c =
    let lines = c.args.lines.items in
    let line = c.in-Some.line in
    let turn = YieldsList-turn (YieldsList-from_vec lines c.into_iter-line-iterator.ensures.into_iter_gives.0 (c.into_iter-line-iterator.ensures.into_iter_gives.1 ∙ c.args.lines.ok.0)) c.loop-line.yielded c.loop-line.line-iterator c.loop-line.yielded_by c.next.result c.next.new.self line c.in-Some.is c.next.ensures.steps in
    let n = length c.loop-line.yielded in
    let rows = rows_left c.args.routes.now in
    subst (λ (l : List (Lane ReaderView)). AreReadersOf line.1 l) (sym (ap (column 0) c.loop-line.invariant.0 ∙ column_left n rows))
    (c.requires.readers n line (slice_get-get_or lines n line turn.0 ∙ ap Some (sym turn.1)))

-- refused where a line gets another one's putters
pub join_line-requires : goal.join_line-requires
join_line-requires g c =
    let lines = c.args.lines.items in
    let line = c.in-Some.line in
    let turn = YieldsList-turn (YieldsList-from_vec lines c.into_iter-line-iterator.ensures.into_iter_gives.0 (c.into_iter-line-iterator.ensures.into_iter_gives.1 ∙ c.args.lines.ok.0)) c.loop-line.yielded c.loop-line.line-iterator c.loop-line.yielded_by c.next.result c.next.new.self line c.in-Some.is c.next.ensures.steps in
    let n = length c.loop-line.yielded in
    let rows = rows_left c.args.routes.now in
    let puts : c.in_ok-passes.passes.items ≡ passes_of (column n rows) = c.in_ok-passes.ensures.next ∙ ap passes_of (ap (column 0) c.loop-line.invariant.0 ∙ column_left n rows) in
    record {
      putters = subst (λ (l : List (Putter Order)). ArePuttersOf line.0 l) (sym puts)
          (c.requires.putters n line (slice_get-get_or lines n line turn.0 ∙ ap Some (sym turn.1)));
    }

pub loop-line-preserved : goal.loop-line-preserved
loop-line-preserved g c =
    let seen = c.loop-line.yielded in
    let line = c.in-Some.line in
    let n = length seen in
    let rows = rows_left c.args.routes.now in
    let lanes : column 0 (rows_left c.loop-line.routes) ≡ column n rows = ap (column 0) c.loop-line.invariant.0 ∙ column_left n rows in
    let puts : c.in_ok-passes.passes.items ≡ passes_of (column n rows) = c.in_ok-passes.ensures.next ∙ ap passes_of lanes in
    let size : length (seen ++ line ∷ []) ≡ n + 1 = length_push seen line in (
      c.in_ok-passes.ensures.left ∙ (ap (map (drop 1)) c.loop-line.invariant.0 ∙ (one_more_left n rows ∙ ap (λ (m : ℕ). map (drop m) rows) (sym size))),
      at_one_more Shows seen line rows c.loop-line.invariant.1
          (subst (λ (l : List (Putter Order)). ShowsAllPuts slot_of_order IsOf line.0 l) puts c.join_line.ensures.shown),
      at_one_more Looks seen line rows c.loop-line.invariant.2
          (subst (λ (l : List (Lane ReaderView)). HaveLookedAt line.1.published l) lanes c.in_ok-passes.ensures.looks),
    )

-- the lines that were gone through are all lines
pub returns-clause-looks : goal.returns-clause-looks
returns-clause-looks g c =
    let lines = c.args.lines.items in
    let all = YieldsList-end (YieldsList-from_vec lines c.into_iter-line-iterator.ensures.into_iter_gives.0 (c.into_iter-line-iterator.ensures.into_iter_gives.1 ∙ c.args.lines.ok.0)) c.loop-line.yielded c.loop-line.line-iterator c.loop-line.yielded_by c.next.result c.next.new.self c.in-None.is c.next.ensures.steps in
    subst (λ (l : List (Getter Order × WriterView)). AtEachPlace Looks l (rows_left c.args.routes.now)) (sym (map-id c.loop-line.yielded) ∙ all.0) c.loop-line.invariant.2
