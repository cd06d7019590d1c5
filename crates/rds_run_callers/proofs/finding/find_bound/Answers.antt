use Rattle.std.proofs.Common.{sym}
use Rattle.rds_run_callers.proofs.Marks.{found_marked, none_marked, none_zero, within_marked}
use Rattle.rds_run_callers.proofs.finding.find_bound.Goals as goal

pub returns-then-port-eq0-clause-none : goal.returns-then-port-eq0-clause-none
returns-then-port-eq0-clause-none c = none_zero c.args.port c.args.slots.now.states.items c.if-port-eq0.true

pub returns-clause-none : goal.returns-clause-none
returns-clause-none c = none_marked c.args.port c.args.slots.now.ports.items c.args.slots.now.states.items c.args.slots.now.marked c.place_of.result c.place_of.ensures.none

pub returns-clause-found : goal.returns-clause-found
returns-clause-found c =
    found_marked c.args.port c.args.slots.now.ports.items c.args.slots.now.states.items c.args.slots.now.marked c.place_of.result c.if-port-eq0.false c.place_of.ensures.found

pub returns-clause-within : goal.returns-clause-within
returns-clause-within c =
    within_marked c.args.port c.args.slots.now.ports.items c.args.slots.now.states.items c.args.slots.now.marked c.place_of.result c.args.slots.now.states.len (sym c.args.slots.now.states.ok.0) c.place_of.ensures.found
