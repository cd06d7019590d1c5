use Rattle.std.proofs.Common.{◌≡◌, ℕ, ◌+◌, List, [], ◌∷◌, ◌++◌, Some, length, map, drop, option_map, sym, ap, subst, ◌∙◌}
use Rattle.std.proofs.lemmas.Iterator.Adapters.{YieldsList-from_vec}
use Rattle.std.proofs.lemmas.Iterator.Consumers.{YieldsList-turn}
use Rattle.std.proofs.lemmas.List.{length-map, length_push, map_push}
use Rattle.std.proofs.lemmas.Option.{slice_get-get_or, slice_get-map}
use Rattle.rds_model.specs.declared.order.Datagram.{Datagram}
use Rattle.rds_mail.specs.Passes.{Getter, Putter}
use Rattle.rds_socket_parts.specs.Boxes.{Box}
use Rattle.rds_host_end.specs.Joins.{IsFrom, sender_in}
use Rattle.rds_host_end.specs.Columns.{AtEachPlace, column, rows_left}
use Rattle.rds_host_end.specs.Shown.{ArePuttersOf, ShowsAllPuts}
use Rattle.rds_host_end.proofs.Columns.{at_none, at_one_more, column_left, none_left, one_more_left}
use Rattle.rds_host_end.proofs.receipts.join_all_receipts.Goals as goal

pub loop-own-init : goal.loop-own-init
loop-own-init g c =
    let rows = rows_left c.args.boxes.now in
    (sym (none_left rows), at_none (ShowsAllPuts sender_in IsFrom) rows)

-- refused where a slot gets another one's putters
pub join_slot-requires : goal.join_slot-requires
join_slot-requires g c =
    let inboxes = c.args.inboxes.items in
    let own = c.in-Some.own in
    let turn = YieldsList-turn (YieldsList-from_vec inboxes c.into_iter-own-iterator.ensures.into_iter_gives.0 (c.into_iter-own-iterator.ensures.into_iter_gives.1 ∙ c.args.inboxes.ok.0)) c.loop-own.yielded c.loop-own.own-iterator c.loop-own.yielded_by c.next.result c.next.new.self own c.in-Some.is c.next.ensures.steps in
    let n = length c.loop-own.yielded in
    let rows = rows_left c.args.boxes.now in
    let get : Box → Getter Datagram = λ (b : Box). b.get in
    let puts : c.in_ok-passes.passes.items ≡ column n rows = c.in_ok-passes.ensures.next ∙ (ap (column 0) c.loop-own.invariant.0 ∙ column_left n rows) in
    record {
      putters = subst (λ (l : List (Putter Datagram)). ArePuttersOf own.get l) (sym puts)
          (c.requires.putters n own.get (slice_get-map get inboxes n ∙ ap (option_map get) (slice_get-get_or inboxes n own turn.0 ∙ ap Some (sym turn.1))));
    }

pub loop-own-preserved : goal.loop-own-preserved
loop-own-preserved g c =
    let seen = c.loop-own.yielded in
    let own = c.in-Some.own in
    let n = length seen in
    let rows = rows_left c.args.boxes.now in
    let get : Box → Getter Datagram = λ (b : Box). b.get in
    let puts : c.in_ok-passes.passes.items ≡ column n rows = c.in_ok-passes.ensures.next ∙ (ap (column 0) c.loop-own.invariant.0 ∙ column_left n rows) in
    let size : length (seen ++ own ∷ []) ≡ n + 1 = length_push seen own in
    let shown : ShowsAllPuts sender_in IsFrom own.get (column (length (map get seen)) rows) =
    subst (λ (m : ℕ). ShowsAllPuts sender_in IsFrom own.get (column m rows)) (sym (length-map seen get))
    (subst (λ (l : List (Putter Datagram)). ShowsAllPuts sender_in IsFrom own.get l) puts c.join_slot.ensures.shown) in (
      c.in_ok-passes.ensures.left ∙ (ap (map (drop 1)) c.loop-own.invariant.0 ∙ (one_more_left n rows ∙ ap (λ (m : ℕ). map (drop m) rows) (sym size))),
      subst (λ (l : List (Getter Datagram)). AtEachPlace (ShowsAllPuts sender_in IsFrom) l rows) (sym (map_push get seen own))
          (at_one_more (ShowsAllPuts sender_in IsFrom) (map get seen) own.get rows c.loop-own.invariant.1 shown),
    )
