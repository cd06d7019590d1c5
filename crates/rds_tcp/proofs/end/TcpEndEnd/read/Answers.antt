use Rattle.std.proofs.Common.{rules}
use Rattle.rds_tcp.proofs.end.TcpEndEnd.read.Goals as goal

pub returns-in_default-clause-nothing : goal.returns-in_default-clause-nothing
returns-in_default-clause-nothing c = search rules

pub returns-in_default-clause-nothings : goal.returns-in_default-clause-nothings
returns-in_default-clause-nothings c = search rules

pub returns-in_default-clause-got : goal.returns-in_default-clause-got
returns-in_default-clause-got c = search rules

pub returns-then-came-gt0-clause-got : goal.returns-then-came-gt0-clause-got
returns-then-came-gt0-clause-got c = search rules
