use Rattle.std.proofs.Common.{rules}
use Rattle.rds_fmap.proofs.copies.shown.Shown.renew.Goals as goal

pub returns-else-self-other : goal.returns-else-self-other
returns-else-self-other c = search rules
