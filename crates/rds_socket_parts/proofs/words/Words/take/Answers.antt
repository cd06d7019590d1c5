use Rattle.std.proofs.Common.{◌≡◌, ◌+◌, ◌≤◌, ◌∙◌, ap, sym, arith}
use Rattle.rds_meter.specs.Places.{taken_word}
use Rattle.rds_meter.specs.Seats.{knowing, after_add}
use Rattle.rds_socket_parts.specs.TiedLaws.{tied_on, tied_more, part-after_load}
use Rattle.rds_socket_parts.proofs.words.Words.take.Goals as goal

pub invariant_of-self : goal.invariant_of-self
invariant_of-self c =
    let s = c.self.inside in
    tied_on s.seat _ _ _ s.slot s.added c.taken.ensures.seat (part-after_load (taken_word s.slot) _ c.taken.result s.seat.view) c.self.invariant

pub invariant_of-self-2 : goal.invariant_of-self-2
invariant_of-self-2 c =
    let s = c.self.inside in
    let most : s.added + c.from-2.result ≤ 4503599627370496 = (let a = c.if-self-from-gt-MOST_OF_A_SEAT.false in let x = c.from.ensures in let y = c.from-2.ensures in omega arith) in
    tied_more s.seat _ _ s.slot s.added c.from-2.result c.take_add.result (c.take_add.ensures.seat ∙ ap (λ n. knowing s.seat (after_add s.seat.view (taken_word s.slot) n c.take_add.result)) (sym c.from-2.ensures)) most c.self.invariant
