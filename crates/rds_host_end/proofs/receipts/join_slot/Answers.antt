use Rattle.std.proofs.Common.{map, sym, ap, ap, ◌∙◌}
use Rattle.std.proofs.lemmas.Bool.{eqb-true}
use Rattle.std.proofs.lemmas.List.{nil_from_length}
use Rattle.rds_mail.specs.Passes.{Getter, account_of, with_joined}
use Rattle.rds_model.specs.declared.order.Datagram.{Datagram}
use Rattle.rds_host_end.specs.Joins.{IsFrom, sender_in}
use Rattle.rds_host_end.proofs.Showing.{shown_by, shown_by_none}
use Rattle.rds_host_end.proofs.receipts.join_slot.Goals as goal

-- refused where the putters aren't joined
pub returns : goal.returns
returns g c =
    let joined = c.join_receipts.ensures in
    record {
      shown = shown_by sender_in IsFrom c.args.own.get c.join_receipts.new.get c.args.passes.items
          (joined.joined ∙ ap (λ (x : Getter Datagram). with_joined x (map account_of c.args.passes.items)) c.into_parts-mail.ensures.get) c.requires.putters.none
          (record { merged = joined.merged; begin = joined.begin; all = joined.emptied });
    }

pub returns-then-is_empty : goal.returns-then-is_empty
returns-then-is_empty g c =
    let passes = c.args.passes in
    record {
      shown = shown_by_none sender_in IsFrom c.args.own.get passes.items
          (nil_from_length passes.items (sym passes.ok.0 ∙ eqb-true passes.len 0 (sym c.is_empty.ensures ∙ c.if-is_empty.true)));
    }
