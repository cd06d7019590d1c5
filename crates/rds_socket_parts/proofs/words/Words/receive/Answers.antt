use Rattle.std.proofs.Common.{◌≡◌, ◌+◌, ◌/◌, nat_lt, true, false, ◌∙◌, ap, sym}
use Rattle.rds_meter.specs.Places.{taken_word, put_word}
use Rattle.rds_socket_parts.specs.TiedLaws.{tied_on, part-after_load}
use Rattle.rds_socket_parts.proofs.Receipts.{received_low, received_high}
use Rattle.rds_socket_parts.proofs.words.Words.receive.Goals as goal

pub invariant_of-self : goal.invariant_of-self
invariant_of-self c =
    let s = c.self.inside in
    tied_on s.seat _ _ _ s.slot s.added c.put-put.ensures.seat (part-after_load (taken_word s.slot) _ c.put-put.result s.seat.view) c.self.invariant

pub invariant_of-self-else-is_below_half : goal.invariant_of-self-else-is_below_half
invariant_of-self-else-is_below_half c =
    let s = c.self.inside in
    tied_on s.seat _ _ _ s.slot s.added c.put-put.ensures.seat (part-after_load (taken_word s.slot) _ c.put-put.result s.seat.view) c.self.invariant

pub returns-then-is_below_half : goal.returns-then-is_below_half
returns-then-is_below_half c =
    let s = c.self.inside in
    let below : nat_lt c.put-put.result (c.take-taken.result + c.args.limit / 2) ≡ true =
    ap (λ k. nat_lt c.put-put.result (c.take-taken.result + k / 2)) (sym c.from-limit.ensures) ∙ (sym c.is_below_half.ensures ∙ c.if-is_below_half.true) in (
      c.take-taken.result,
      c.put-put.result,
      c.relieve.ensures.0,
      c.relieve.ensures.1,
      received_low c.args.self.now (record { slot = s.slot; seat = s.seat }) c.put-put.new.seat c.args.port c.args.limit c.args.n c.take-taken.result c.put-put.result
          (c.self.view_is ∙ c.take-taken.ensures) c.put-put.ensures.seat _ c.relieve.ensures.0 c.relieve.ensures.1 below c.relieve.ensures.2,
    )

pub returns-else-is_below_half : goal.returns-else-is_below_half
returns-else-is_below_half c =
    let s = c.self.inside in
    let below : nat_lt c.put-put.result (c.take-taken.result + c.args.limit / 2) ≡ false =
    ap (λ k. nat_lt c.put-put.result (c.take-taken.result + k / 2)) (sym c.from-limit.ensures) ∙ (sym c.is_below_half.ensures ∙ c.if-is_below_half.false) in (
      c.take-taken.result,
      c.put-put.result,
      0,
      0,
      received_high c.args.self.now (record { slot = s.slot; seat = s.seat }) c.put-put.new.seat c.args.port c.args.limit c.args.n c.take-taken.result c.put-put.result
          (c.self.view_is ∙ c.take-taken.ensures) c.put-put.ensures.seat below,
    )
