use Rattle.std.proofs.Common.{arith}
use Rattle.rds_link.proofs.Steps.{draws}
use Rattle.rds_link.proofs.words.seat.draw.Goals as goal

pub fetch_add-requires : goal.fetch_add-requires
fetch_add-requires c = (c.requires.words.0, (let w = c.requires.words.1 in omega arith), draws _ _ _ c.requires.draws.0 c.requires.draws.1)
