use Rattle.std.proofs.Common.{◌+◌, ◌/◌, ◌%◌, ◌∙◌, sym}
use Rattle.std.proofs.lemmas.Nat.Bits.{shr_and_one}
use Rattle.rds_meter.specs.Places.{taken_word}
use Rattle.rds_socket_parts.specs.TiedLaws.{tied_on, part-after_load}
use Rattle.rds_socket_parts.proofs.Receipts.{relieved}
use Rattle.rds_socket_parts.proofs.words.Words.relieve.Goals as goal

pub invariant_of-self : goal.invariant_of-self
invariant_of-self c =
    let s = c.self.inside in
    tied_on s.seat _ _ _ s.slot s.added c.word-word.ensures (part-after_load (taken_word s.slot) _ c.word-word.result s.seat.view) c.self.invariant

pub invariant_of-self-else-word-port-eq1 : goal.invariant_of-self-else-word-port-eq1
invariant_of-self-else-word-port-eq1 c =
    let s = c.self.inside in
    tied_on s.seat _ _ _ s.slot s.added c.word-word.ensures (part-after_load (taken_word s.slot) _ c.word-word.result s.seat.view) c.self.invariant

pub returns-then-word-port-eq1 : goal.returns-then-word-port-eq1
returns-then-word-port-eq1 c =
    let s = c.self.inside in
    (c.word-word.result, c.clear.ensures.0, relieved (record { slot = s.slot; seat = s.seat }) c.args.self.now c.word-word.new.seat _ c.args.port c.from.result c.word-word.result c.clear.ensures.0 c.self.view_is c.from.ensures c.word-word.ensures (sym (shr_and_one c.word-word.result (c.args.port % 64)) ∙ c.if-word-port-eq1.true) c.clear.ensures.1)
