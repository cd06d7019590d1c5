use Rattle.std.proofs.Common.{length, ◌∙◌}
use Rattle.std.proofs.lemmas.Iterator.Adapters.{YieldsList-from_vec}
use Rattle.std.proofs.lemmas.Iterator.Consumers.{YieldsList-turn}
use Rattle.rds_bindtab.specs.Seats.{PortSeat}
use Rattle.rds_host_end.specs.Heard.{ClaimsNothing}
use Rattle.rds_host_end.proofs.Owning.{at_turn, none_heard, one_more_heard}
use Rattle.rds_host_end.proofs.owners.hear_lines.Goals as goal

pub loop-line-init : goal.loop-line-init
loop-line-init c = none_heard c.args.seen.now c.requires.own

pub loop-line-preserved : goal.loop-line-preserved
loop-line-preserved c =
    let lines = c.args.lines.items in
    let seen = c.loop-line.yielded in
    let line = c.in-Some.line in
    let turn = YieldsList-turn (YieldsList-from_vec lines c.into_iter-line-iterator.ensures.into_iter_gives.0 (c.into_iter-line-iterator.ensures.into_iter_gives.1 ∙ c.args.lines.ok.0)) seen c.loop-line.line-iterator c.loop-line.yielded_by c.next.result c.next.new.self line c.in-Some.is c.next.ensures.steps in
    one_more_heard c.args.seen.now c.loop-line.seen c.hear_line.new.seen seen line c.hear_line.ensures
    (at_turn (λ (l : PortSeat). ClaimsNothing l.view.steps) lines (length seen) line turn.0 turn.1 c.requires.claims) c.loop-line.invariant
