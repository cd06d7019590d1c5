use Rattle.rds_meter.specs.Places.{taken_word}
use Rattle.rds_socket_parts.specs.TiedLaws.{tied_on, part-after_store}
use Rattle.rds_socket_parts.proofs.words.Words.set_limit.Goals as goal

pub invariant_of-self : goal.invariant_of-self
invariant_of-self c =
    let s = c.self.inside in
    tied_on s.seat _ _ _ s.slot s.added c.limit_set.ensures (part-after_store (taken_word s.slot) s.slot c.args.limit s.seat.view) c.self.invariant
