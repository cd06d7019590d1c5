use Rattle.std.proofs.Common.{rules}
use Rattle.rds_script_gen.proofs.route.Route.next.Goals as goal

pub returns-clause-state : goal.returns-clause-state
returns-clause-state c = search rules

pub returns-clause-host : goal.returns-clause-host
returns-clause-host c = search rules

pub returns-clause-to : goal.returns-clause-to
returns-clause-to c = search rules
