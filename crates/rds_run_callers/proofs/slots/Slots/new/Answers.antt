use Rattle.std.proofs.Common.{map, sym, ap, ◌∙◌, length, arith}
use Rattle.std.proofs.lemmas.Iterator.Adapters.{YieldsList-from_vec}
use Rattle.std.proofs.lemmas.Iterator.Consumers.{YieldsList-end}
use Rattle.std.proofs.lemmas.List.{length-map}
use Rattle.rds_run_callers.specs.declared.state.State.TheVariants as state
use Rattle.rds_run_callers.proofs.Sparing.{map_self}
use Rattle.rds_run_callers.proofs.slots.Slots.new.Goals as goal

pub returns-clause-states : goal.returns-clause-states
returns-clause-states c =
    let all = YieldsList-end (YieldsList-from_vec c.args.vacants.items (cc) (cc)) c.loop-vacant.yielded c.loop-vacant.vacant-iterator c.loop-vacant.yielded_by c.next.result c.next.new.self c.in-None.is c.next.ensures.steps in
    c.loop-vacant.invariant.0 ∙ ap (map state.Vacant) (sym (map_self c.loop-vacant.yielded) ∙ all.0)

pub returns-clause-count : goal.returns-clause-count
returns-clause-count c =
    let all = YieldsList-end (YieldsList-from_vec c.args.vacants.items (cc) (cc)) c.loop-vacant.yielded c.loop-vacant.vacant-iterator c.loop-vacant.yielded_by c.next.result c.next.new.self c.in-None.is c.next.ensures.steps in
    let size = ap length c.loop-vacant.invariant.0 ∙ length-map c.loop-vacant.yielded state.Vacant in
    omega (arith, size, all.1, c.args.vacants.ok.0, c.len.ensures, c.from.ensures, c.if-len-from.false)
