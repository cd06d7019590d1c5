use Rattle.rds_host.specs.Lines.{pair_of}
use Rattle.rds_run_rounds.proofs.Connected.{hosts_same, hosts_turn}
use Rattle.rds_run_rounds.proofs.laws.connected_keeps.Goals as goal

pub returns-clause-hosts : goal.returns-clause-hosts
returns-clause-hosts g c = hosts_turn g.E.End.means pair_of

pub returns-clause-same : goal.returns-clause-same
returns-clause-same g c = hosts_same g.E.End.means
