-- The steps of a receipt, taken together.
use Rattle.std.proofs.Common.{◌≡◌, ℕ, ◌+◌, ◌/◌, ◌%◌, eqb, eq-eqb, nat_lt, cond, Bool, true, false, refl, sym, ap, ◌∙◌}
use Rattle.std.specs.Int.{bit_at}
use Rattle.rds_meter.specs.declared.view.View.{View}
use Rattle.rds_meter.specs.Places.{put_word}
use Rattle.rds_meter.specs.Seats.{MeterSeat, knowing, after_load}
use Rattle.rds_socket_parts.specs.Words.{Purse, purse_with, after_taking, after_relief, after_clearing, after_receipt}

-- the bit was found set, and lowered
pub relieved : (v z : Purse) (seat : MeterSeat) (now : Purse) (port i bits change : ℕ) → v ≡ z → i ≡ port / 64 → seat ≡ knowing v.seat (after_load v.seat.view (4096 + i) bits) → bit_at bits (port % 64) ≡ 1
    → now ≡ purse_with (record { slot = v.slot; seat = seat }) (after_clearing seat.view port change) → now ≡ purse_with z (after_relief z.seat.view port bits change)
relieved v z seat now port i bits change is e loaded set cleared =
    let w : View = after_load v.seat.view (4096 + port / 64) bits in
    let at : seat ≡ knowing v.seat w = loaded ∙ ap (λ j. knowing v.seat (after_load v.seat.view (4096 + j) bits)) e in
    let low : now ≡ purse_with v (after_clearing w port change) = cleared ∙ ap (λ (h : MeterSeat). purse_with (record { slot = v.slot; seat = h }) (after_clearing h.view port change)) at in
    low
    ∙ sym (ap (λ (b : Bool). purse_with v (cond b (after_clearing w port change) w)) (eq-eqb (bit_at bits (port % 64)) 1 set))
    ∙ ap (λ (p : Purse). purse_with p (after_relief p.seat.view port bits change)) is

module _ (z t : Purse) (seat : MeterSeat) (port limit n taken put : ℕ) (took : t ≡ purse_with z (after_taking z.seat.view z.slot n taken)) (loaded : seat ≡ knowing t.seat (after_load t.seat.view (put_word t.slot) put)) where
  abbrev w : View
  w = after_load (after_taking z.seat.view z.slot n taken) (put_word z.slot) put

  both : record { slot = t.slot; seat = seat } ≡ purse_with z w
  both = ap (λ (h : MeterSeat). record { slot = t.slot; seat = h }) loaded ∙ ap (λ (p : Purse). purse_with p (after_load p.seat.view (put_word p.slot) put)) took

  -- fewer bytes were queued than half the limit
  pub received_low : (now : Purse) (bits change : ℕ) → nat_lt put (taken + limit / 2) ≡ true → now ≡ purse_with (record { slot = t.slot; seat = seat }) (after_relief seat.view port bits change)
      → now ≡ purse_with z (after_receipt z.seat.view z.slot port limit n taken put bits change)
  received_low now bits change below done =
      done
      ∙ ap (λ (p : Purse). purse_with p (after_relief p.seat.view port bits change)) both
      ∙ sym (ap (λ (b : Bool). purse_with z (cond b (after_relief w port bits change) w)) below)

  pub received_high : nat_lt put (taken + limit / 2) ≡ false → record { slot = t.slot; seat = seat } ≡ purse_with z (after_receipt z.seat.view z.slot port limit n taken put 0 0)
  received_high below = both ∙ sym (ap (λ (b : Bool). purse_with z (cond b (after_relief w port 0 0) w)) below)
