use Rattle.std.proofs.Common.{arith}
use Rattle.rds_line_parts.proofs.Reading.{read_more}
use Rattle.rds_line_parts.proofs.own.read_words.Goals as goal

pub loop-i-preserved : goal.loop-i-preserved
loop-i-preserved c =
    read_more c.loop-i.i c.word-word.result c.loop-i.map _ _ c.loop-i.words _ c.loop-i.invariant (omega arith) c.word-word.ensures c.put_word.ensures.words
