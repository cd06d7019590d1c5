use Rattle.std.proofs.Common.{rules, ◌≢◌, ◌-◌, sym, ◌∙◌, arith}
use Rattle.rds_bindtab.proofs.Seated.{same_table}
use Rattle.rds_bindtab.proofs.Looks.{looks, slot_at}
use Rattle.rds_bindtab.proofs.table.BindTable.look.Goals as goal

pub load-word-requires : goal.load-word-requires
load-word-requires c =
    let of = same_table _ _ _ _ _ _ c.seat.view_is c.self.view_is c.requires in
    let port = c.ranges.port.fits in
    let from = c.from.ensures in
    (of.0, (let w = c.self.invariant.1 in omega arith), looks _ _ _ c.from.result c.seat.inside.seat.me (omega arith) (of.1 ∙ sym c.self.invariant.0))

pub overflow_cast-result : goal.overflow_cast-result
overflow_cast-result c =
    let of = same_table _ _ _ _ _ _ c.seat.view_is c.self.view_is c.requires in
    let found = c.load-word.result in
    let some : found ≢ 0 = c.if-word-eq0.false in
    let below = c.load-word.ensures.2.1 (found - 1) (slot_at found (found - 1) (omega arith)) in
    let few = c.self.invariant.3 in
    let same = of.1 in
    record { fits = omega arith }

pub returns-clause-seat : goal.returns-clause-seat
returns-clause-seat c = search rules
