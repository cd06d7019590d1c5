use Rattle.std.proofs.Common.{replicate, refl}
use Rattle.rds_bindtab.proofs.Opening.{opens_zeros}
use Rattle.rds_bindtab.proofs.table.BindTable.new.Goals as goal

pub of_words-requires : goal.of_words-requires
of_words-requires c = opens_zeros c.args.slots 65537 (replicate 65537 0) refl refl
