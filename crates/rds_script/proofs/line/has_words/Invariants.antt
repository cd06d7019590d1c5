use Rattle.std.proofs.Common.{◌≡◌, ◌+◌, length}
use Rattle.rds_script.specs.Text.{words}
use Rattle.rds_script.proofs.line.has_words.Given as goal

-- the words so far and those of the rest are all words
abbrev pub invariant-words : goal.invariant-words
invariant-words l = length (words l.line) ≡ l.counter + length (words l.rest)
