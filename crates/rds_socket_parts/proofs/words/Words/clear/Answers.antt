use Rattle.rds_meter.specs.Places.{taken_word}
use Rattle.rds_socket_parts.specs.TiedLaws.{tied_on, part-after_lower, part-after_bump}
use Rattle.rds_socket_parts.proofs.words.Words.clear.Goals as goal

pub invariant_of-self : goal.invariant_of-self
invariant_of-self c =
    let s = c.self.inside in
    let w = taken_word s.slot in
    let low = tied_on s.seat c.lower_changed.new.seat _ _ s.slot s.added c.lower_changed.ensures (part-after_lower w c.args.port s.seat.view) c.self.invariant in
    tied_on c.lower_changed.new.seat _ _ _ s.slot s.added c.bump.ensures (part-after_bump w c.bump.result c.lower_changed.new.seat.view) low
