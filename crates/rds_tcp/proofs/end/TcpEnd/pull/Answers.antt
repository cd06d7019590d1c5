use Rattle.std.proofs.Common.{rules}
use Rattle.rds_tcp.proofs.end.TcpEnd.pull.Goals as goal

pub returns-then-count-gt0-clause-got : goal.returns-then-count-gt0-clause-got
returns-then-count-gt0-clause-got c = search rules

pub returns-then-count-gt0-clause-rest : goal.returns-then-count-gt0-clause-rest
returns-then-count-gt0-clause-rest c = search rules

pub returns-else-count-gt0-clause-got : goal.returns-else-count-gt0-clause-got
returns-else-count-gt0-clause-got c = search rules

pub returns-else-count-gt0-clause-rest : goal.returns-else-count-gt0-clause-rest
returns-else-count-gt0-clause-rest c = search rules
