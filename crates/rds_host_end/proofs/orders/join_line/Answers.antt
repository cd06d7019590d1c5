use Rattle.std.proofs.Common.{map, sym, ap, ap, ◌∙◌}
use Rattle.std.proofs.lemmas.Bool.{eqb-true}
use Rattle.std.proofs.lemmas.List.{nil_from_length}
use Rattle.rds_socket_parts.specs.Lanes.{IsOf}
use Rattle.rds_mail.specs.Passes.{Getter, account_of, with_joined}
use Rattle.rds_model.specs.declared.order.Order.{Order}
use Rattle.rds_host_end.specs.Joins.{slot_of_order}
use Rattle.rds_host_end.proofs.Showing.{shown_by, shown_by_none}
use Rattle.rds_host_end.proofs.orders.join_line.Goals as goal

-- refused where the putters aren't joined
pub returns : goal.returns
returns g c =
    let joined = c.join_orders.ensures in
    record {
      shown = shown_by slot_of_order IsOf c.args.own c.join_orders.new.get c.args.passes.items
          (joined.joined ∙ ap (λ (x : Getter Order). with_joined x (map account_of c.args.passes.items)) c.into_parts-mail.ensures.get) c.requires.putters.none
          (record { merged = joined.merged; begin = joined.begin; all = joined.emptied });
    }

pub returns-then-is_empty : goal.returns-then-is_empty
returns-then-is_empty g c =
    let passes = c.args.passes in
    record {
      shown = shown_by_none slot_of_order IsOf c.args.own passes.items
          (nil_from_length passes.items (sym passes.ok.0 ∙ eqb-true passes.len 0 (sym c.is_empty.ensures ∙ c.if-is_empty.true)));
    }
