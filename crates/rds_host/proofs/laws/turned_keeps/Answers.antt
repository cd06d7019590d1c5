use Rattle.rds_host.proofs.Kept.{turned_kept}
use Rattle.rds_host.proofs.laws.turned_keeps.Goals as goal

pub returns : goal.returns
returns g c old new turned = turned_kept g.E.End.means old new turned
