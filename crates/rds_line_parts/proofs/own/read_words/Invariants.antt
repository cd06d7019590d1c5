use Rattle.rds_line_parts.proofs.Reading.{ReadUpTo}
use Rattle.rds_line_parts.proofs.own.read_words.Given as goal

abbrev pub invariant-loop-i : goal.invariant-loop-i
invariant-loop-i l = ReadUpTo l.i l.map l.initial.words l.words
