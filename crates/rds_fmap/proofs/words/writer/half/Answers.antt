use Rattle.std.proofs.Common.{arith}
use Rattle.rds_cong.specs.HalfLaws.{low_half, high_half}
use Rattle.rds_fmap.proofs.words.writer.half.Goals as goal

pub returns-then-j-eq0 : goal.returns-then-j-eq0
returns-then-j-eq0 c = low_half c.args.map.now c.args.j c.word-two.result c.word-two.type_inv c.word-two.ensures.ports c.if-j-eq0.true

pub returns-else-j-eq0 : goal.returns-else-j-eq0
returns-else-j-eq0 c = let odd = c.if-j-eq0.false in high_half c.args.map.now c.args.j c.word-two.result c.word-two.type_inv c.word-two.ensures.ports (omega arith)
