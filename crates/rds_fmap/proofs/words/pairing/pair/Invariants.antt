use Rattle.std.proofs.Common.{◌≡◌, [], replicate}
use Rattle.rds_fmap.proofs.words.pairing.pair.Given as goal

abbrev pub invariant-loop : goal.invariant-loop
invariant-loop l = record { writer : l.writer ≡ l.initial.writer; readers : l.all.items ≡ replicate l.counter (record { pair = l.writer.pair; found = [] }) }
