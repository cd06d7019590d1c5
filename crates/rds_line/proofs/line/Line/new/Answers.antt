use Rattle.std.proofs.Common.{refl, ap}
use Rattle.rds_model.specs.declared.entry.TheConstants.{MAX_SLOTS}
use Rattle.rds_line_parts.specs.Own.{Own}
use Rattle.rds_line.specs.Line.{LineView}
use Rattle.rds_line.proofs.Starting.{keeps_at_first, same_line}
use Rattle.rds_line.proofs.line.Line.new.Goals as goal

pub invariant_of-result : goal.invariant_of-result
invariant_of-result g c =
    let parts = c.args.parts in
    let made = c.in_ok-channel.ensures {u = tt} in
    let v : LineView g.row.E.Denot g.row.M.Denot = record { channel = c.in_ok-channel.channel; orders = parts.orders; boxes = parts.inboxes; ports = parts.ports; words = parts.words; own = c.in_ok-channel.own; map = parts.map } in (
      keeps_at_first g.M.MapWriter.published parts.me parts.peer MAX_SLOTS c.args.limit parts.streams.items v made.channel refl
          c.requires.got c.requires.put c.requires.boxes c.requires.few c.requires.looks c.requires.steps c.requires.checks c.requires.published
          (ap (λ (o : Own). o.change) made.own),
      λ yes_pulled. absurd (cc),
    )

pub returns : goal.returns
returns g c =
    let made = c.in_ok-channel.ensures {u = tt} in
    same_line made.channel refl refl refl refl made.own refl
