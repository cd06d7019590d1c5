use Rattle.std.proofs.Common.{rules}
use Rattle.rds_line.proofs.line.taking.obey.Goals as goal

pub returns-in-Cut-clause-shut : goal.returns-in-Cut-clause-shut
returns-in-Cut-clause-shut g c = search rules

pub returns-in-Cut-clause-late : goal.returns-in-Cut-clause-late
returns-in-Cut-clause-late g c = search rules
