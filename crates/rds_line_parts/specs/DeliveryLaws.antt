-- Laws, each proved: proofs in other crates use them. Nothing here has to be believed.
-- What a delivery adds to the words and to the checks of a line's seat, and what it leaves as it was.
use Rattle.std.proofs.Common.{◌≡◌, ℕ, ◌+◌, ◌-◌, ◌<◌, ◌≤◌, ◌&&◌, ◌==◌, nat_lt, if◌then◌else◌, Bool, true, false, [], ◌∷◌, ◌++◌, None, refl, sym, ap, ◌∙◌, subst, arith}
use Rattle.std.proofs.lemmas.Bool.Decides.{nat_tests}
use Rattle.rds_bindtab.specs.Seats.{PortSeat}
use Rattle.rds_cong.specs.Limit.{congested_after}
use Rattle.rds_meter.specs.declared.mark.Mark.{Mark}
use Rattle.rds_meter.specs.declared.view.Step.TheVariants.{Loaded}
use Rattle.rds_meter.specs.Places.{part, limit_word, put_word, taken_word}
use Rattle.rds_meter.specs.Seats.{MeterSeat, must_raise}
use Rattle.rds_meter.specs.PartLaws.{part-append}
use Rattle.rds_line_parts.specs.Words.{AddsTo}
use Rattle.rds_line_parts.specs.Own.{Own, own_word, found_of, newer, last_found, IsAsRead}
use Rattle.rds_line_parts.specs.OwnLaws.{found_there, still_read}
use Rattle.rds_line_parts.specs.Delivery.{check_of, raising, lowering, counting_steps, CountsBytes, IsSecondLook, IsDelivery, must_lower}

either_set : {Goal : Type 0} (b : Bool) → (b ≡ true → Goal) → (b ≡ false → Goal) → Goal
either_set true set unset = set refl
either_set false set unset = unset refl

raising_part : (w : ℕ) (set : Bool) (port number : ℕ) → part w (raising set port number) ≡ 0
raising_part w false port number = refl
raising_part w true port number = refl

lowering_part : (w : ℕ) (lower : Bool) (port number : ℕ) → part w (lowering lower port number) ≡ 0
lowering_part w false port number = refl
lowering_part w true port number = refl

module _ {slot : ℕ} where
  pub counted_part : {port n : ℕ} {old new : MeterSeat} {mark : Mark} → CountsBytes slot port n old new mark → AddsTo (put_word slot) n old.view new.view
  counted_part {port} {n} {old} {new} {mark} c w =
      let raised = raising_part w mark.set mark.port c.number in
      ap (λ (h : MeterSeat). part w h.view.steps) c.seat ∙ part-append w old.view.steps (counting_steps slot n mark c.number)
      ∙ ap (λ k. part w old.view.steps + k) (let e : (if put_word slot == w then n else 0) + (0 + (0 + part w (raising mark.set mark.port c.number))) ≡ (if put_word slot == w then n else 0) = omega arith in e)

  pub second_part : {mark : Mark} {old new : MeterSeat} {ports after : PortSeat} → IsSecondLook slot mark old new ports after → (w : ℕ) → part w new.view.steps ≡ part w old.view.steps
  second_part {mark} {old} {new} {ports} {after} s w =
      let lowered = lowering_part w (must_lower slot mark s.taken s.holder) mark.port s.number in
      ap (λ (h : MeterSeat). part w h.view.steps) s.seat ∙ part-append w old.view.steps _ ∙ omega arith

-- a delivery adds its bytes to the put word of its slot, and to no other
pub delivery_part : (slot port n : ℕ) (old new : MeterSeat) (ports after : PortSeat) → IsDelivery slot port n old new ports after → AddsTo (put_word slot) n old.view new.view
delivery_part slot port n old new ports after d w =
    either_set d.mark.set (λ set. second_part (d.raised set) w) (λ unset. ap (λ (h : MeterSeat). part w h.view.steps) (d.other unset).0) ∙ counted_part d.counts w

-- exactly one check more, which raised the bit of the port exactly where it had to
pub one_check : (slot port n : ℕ) (old new : MeterSeat) (ports after : PortSeat) → IsDelivery slot port n old new ports after
    → (mark : Mark) × (mark.port ≡ port) × (mark.set ≡ must_raise (check_of slot mark)) × (new.view.checks ≡ old.view.checks ++ check_of slot mark ∷ [])
one_check slot port n old new ports after d =
    let counted : d.counted.view.checks ≡ old.view.checks ++ check_of slot d.mark ∷ [] = ap (λ (h : MeterSeat). h.view.checks) d.counts.seat in
    let same : new.view.checks ≡ d.counted.view.checks =
    either_set d.mark.set (λ set. ap (λ (h : MeterSeat). h.view.checks) (d.raised set).seat) (λ unset. ap (λ (h : MeterSeat). h.view.checks) (d.other unset).0) in
    (d.mark, d.counts.port_is, d.counts.rule, same ∙ counted)

-- where a limit of at least 2 was found, and no more was taken than put, the rule is that of a port whose bit is clear
pub same_rule : (put taken limit : ℕ) → 2 ≤ limit → taken ≤ put → (nat_lt 0 limit && nat_lt (taken + limit) put) ≡ congested_after false (put - taken) limit
same_rule put taken limit least within = grind (arith, nat_tests)

raising_loads : (w : ℕ) (set : Bool) (port number : ℕ) → last_found w (raising set port number) ≡ None
raising_loads w false port number = refl
raising_loads w true port number = refl

lowering_loads : (w : ℕ) (lower : Bool) (port number : ℕ) → last_found w (lowering lower port number) ≡ None
lowering_loads w false port number = refl
lowering_loads w true port number = refl

module _ (own : Own) (slot : ℕ) (small : slot < 1024) where
  counted_read : (port n : ℕ) (old new : MeterSeat) (mark : Mark) → CountsBytes slot port n old new mark → IsAsRead own old.view.steps → IsAsRead own new.view.steps
  counted_read port n old new mark c read =
      subst (λ (h : MeterSeat). IsAsRead own h.view.steps) (sym c.seat)
      (still_read own old.view.steps (counting_steps slot n mark c.number) (λ i below.
      ap (λ f. newer (newer (newer f (found_of (own_word i) (Loaded (taken_word slot) mark.taken))) (found_of (own_word i) (Loaded (limit_word slot) mark.limit))) None) (raising_loads (own_word i) mark.set mark.port c.number)
      ∙ ap (λ f. newer (newer f (found_of (own_word i) (Loaded (limit_word slot) mark.limit))) None) (found_there (own_word i) (taken_word slot) mark.taken (λ e. absurd (omega arith)))
      ∙ ap (λ f. newer f None) (found_there (own_word i) (limit_word slot) mark.limit (λ e. absurd (omega arith)))) read)

  second_read : (mark : Mark) (old new : MeterSeat) (ports after : PortSeat) → IsSecondLook slot mark old new ports after → IsAsRead own old.view.steps → IsAsRead own new.view.steps
  second_read mark old new ports after s read =
      subst (λ (h : MeterSeat). IsAsRead own h.view.steps) (sym s.seat)
      (still_read own old.view.steps (Loaded (taken_word slot) s.taken ∷ lowering (must_lower slot mark s.taken s.holder) mark.port s.number) (λ i below.
      ap (λ f. newer f (found_of (own_word i) (Loaded (taken_word slot) s.taken))) (lowering_loads (own_word i) (must_lower slot mark s.taken s.holder) mark.port s.number)
      ∙ found_there (own_word i) (taken_word slot) s.taken (λ e. absurd (omega arith))) read)

  -- a delivery leaves each word of the own map what its last load found
  pub read_after_delivery : (port n : ℕ) (old new : MeterSeat) (ports after : PortSeat) → IsDelivery slot port n old new ports after → IsAsRead own old.view.steps → IsAsRead own new.view.steps
  read_after_delivery port n old new ports after d read =
      let counted = counted_read port n old d.counted d.mark d.counts read in
      either_set d.mark.set
      (λ set. second_read d.mark d.counted new ports after (d.raised set) counted)
      (λ unset. subst (λ (h : MeterSeat). IsAsRead own h.view.steps) (sym (d.other unset).0) counted)
