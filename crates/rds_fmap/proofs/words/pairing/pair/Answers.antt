use Rattle.std.proofs.Common.{rules}
use Rattle.rds_fmap.proofs.words.pairing.pair.Goals as goal

pub loop-init : goal.loop-init
loop-init c = search rules
