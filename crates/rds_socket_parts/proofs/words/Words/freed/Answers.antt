use Rattle.rds_meter.specs.Places.{freed_word, taken_word}
use Rattle.rds_socket_parts.specs.TiedLaws.{tied_on, part-after_load}
use Rattle.rds_socket_parts.proofs.words.Words.freed.Goals as goal

pub invariant_of-self : goal.invariant_of-self
invariant_of-self c =
    let s = c.self.inside in
    tied_on s.seat _ _ _ s.slot s.added c.freed.ensures.seat (part-after_load (taken_word s.slot) (freed_word s.slot) c.freed.result s.seat.view) c.self.invariant
