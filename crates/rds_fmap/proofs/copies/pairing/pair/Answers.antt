use Rattle.rds_fmap.proofs.Entering.{admits}
use Rattle.rds_fmap.proofs.copies.pairing.pair.Goals as goal

pub reader-requires : goal.reader-requires
reader-requires g c = admits
