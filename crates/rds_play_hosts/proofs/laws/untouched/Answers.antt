use Rattle.rds_play_hosts.specs.HostLaws.{untouched}
use Rattle.rds_play_hosts.proofs.laws.untouched.Goals as goal

pub returns : goal.returns
returns c = untouched
