-- Laws, each proved: proofs in other crates use them. Nothing here has to be believed.
-- What was delivered to a slot: how it grows from one moment to a later one, how large it may get, and how its datagrams,
-- their number and their bytes hang together.
use Rattle.std.proofs.Common.{◌≡◌, inl, inr, ℕ, suc, ◌+◌, ◌*◌, ◌≤◌, ◌==◌, ◌&&◌, true, false, List, [], ◌∷◌, ◌++◌, length, refl, sym, ◌∙◌, ap, length-append, arith}
use Rattle.std.specs.Prelude.{sum_by}
use Rattle.std.proofs.lemmas.Bool.{cases_Bool, cond_both, cond-true, cond-false, and_from, and_parts, eq-eqb}
use Rattle.std.proofs.lemmas.List.Sums.{sum_by_push}
use Rattle.rds_wire.specs.declared.frame.Frame.{Frame}
use Rattle.rds_wire.specs.declared.kind.TheConstants.{MAX_LENGTH}
use Rattle.rds_wire.specs.CauseLaws.{len-cause}
use Rattle.rds_model.specs.declared.entry.Entry.{Entry}
use Rattle.rds_model.specs.declared.entry.Entry.TheVariants.{Read}
use Rattle.rds_model.specs.declared.entry.Outcome.{Outcome}
use Rattle.rds_model.specs.declared.entry.Outcome.TheVariants as outcome
use Rattle.rds_model.specs.declared.order.Datagram.{Datagram}
use Rattle.rds_model.specs.Past.{Moment, now, before}
use Rattle.rds_model.specs.Pairs.{is_delivery_to}
use Rattle.rds_model.specs.Deliveries.{datagram_from, delivered_datagrams, deliveries, put_bytes, port_bytes}
use Rattle.rds_model.specs.Honest.{Begins}
use Rattle.rds_model.specs.Legal.{IsLegal}
use Rattle.rds_model.specs.LegalityLaws.{lawful_read}
use Rattle.rds_model.specs.SumLaws.{same_list, one_more, begins_at, rises_at}

delivered_step : (from slot : ℕ) (e : Entry) (past : List Entry) → Begins (delivered_datagrams from slot past) (delivered_datagrams from slot (e ∷ past))
delivered_step from slot (Read stream frame outcome) past =
    let earlier = delivered_datagrams from slot past in
    cond_both (is_delivery_to slot outcome) (earlier ++ datagram_from from frame ∷ []) earlier (Begins earlier)
    (λ _. one_more earlier (datagram_from from frame)) (λ _. same_list earlier)
delivered_step from slot _ past = same_list (delivered_datagrams from slot past)

pub delivered_grow : (from slot : ℕ) {p j : List Entry} → Moment p j → Begins (delivered_datagrams from slot p) (delivered_datagrams from slot j)
delivered_grow from slot m = begins_at (delivered_datagrams from slot) (delivered_step from slot) m

deliveries_step : (slot : ℕ) (e : Entry) (past : List Entry) → deliveries slot past ≤ deliveries slot (e ∷ past)
deliveries_step slot (Read stream frame outcome) past =
    cond_both (is_delivery_to slot outcome) (suc (deliveries slot past)) (deliveries slot past) (λ n. deliveries slot past ≤ n)
    (λ _. omega arith) (λ _. omega arith)
deliveries_step slot _ past = omega arith

pub deliveries_rise : (slot : ℕ) {p j : List Entry} → Moment p j → deliveries slot p ≤ deliveries slot j
deliveries_rise slot m = rises_at (deliveries slot) (deliveries_step slot) m

put_step : (slot : ℕ) (e : Entry) (past : List Entry) → put_bytes slot past ≤ put_bytes slot (e ∷ past)
put_step slot (Read stream frame outcome) past =
    cond_both (is_delivery_to slot outcome) (put_bytes slot past + length frame.payload) (put_bytes slot past) (λ n. put_bytes slot past ≤ n)
    (λ _. omega arith) (λ _. omega arith)
put_step slot _ past = omega arith

pub put_rises : (slot : ℕ) {p j : List Entry} → Moment p j → put_bytes slot p ≤ put_bytes slot j
put_rises slot m = rises_at (put_bytes slot) (put_step slot) m

pub few_deliveries : (slot : ℕ) (past : List Entry) → deliveries slot past ≤ length past
few_deliveries slot [] = omega arith
few_deliveries slot (Read stream frame outcome ∷ past) =
    let within = few_deliveries slot past in
    cond_both (is_delivery_to slot outcome) (suc (deliveries slot past)) (deliveries slot past) (λ n. n ≤ suc (length past))
    (λ _. omega (arith, within)) (λ _. omega (arith, within))
few_deliveries slot (_ ∷ past) = omega (arith, few_deliveries slot past)

-- a payload that is read has at most 1,048,576 bytes, so no more go to a slot than that for each entry
pub short_read : (s : ℕ) (f : Frame) (o : Outcome) {p j : List Entry} → IsLegal j → Moment (Read s f o ∷ p) j → length f.payload ≤ MAX_LENGTH
short_read s f o legal m =
    let lawful = lawful_read s f o legal m in
    omega (arith, lawful.whole, len-cause f.header _ 0 lawful.sound)

pub put_bound : (slot : ℕ) (past : List Entry) → IsLegal past → put_bytes slot past ≤ MAX_LENGTH * length past
put_bound slot [] legal = omega arith
put_bound slot (Read stream frame outcome ∷ past) legal =
    let within = put_bound slot past legal.1 in
    let short = short_read stream frame outcome legal now in
    cond_both (is_delivery_to slot outcome) (put_bytes slot past + length frame.payload) (put_bytes slot past) (λ n. n ≤ MAX_LENGTH * suc (length past))
    (λ _. omega (arith, within, short)) (λ _. omega (arith, within))
put_bound slot (_ ∷ past) legal = omega (arith, put_bound slot past legal.1)

-- the bytes that came to one port are among all
pub port_within : (port slot : ℕ) (past : List Entry) → port_bytes port slot past ≤ put_bytes slot past
port_within port slot [] = omega arith
port_within port slot (Read stream frame outcome ∷ past) =
    let within = port_within port slot past in
    let more = put_step slot (Read stream frame outcome) past in
    elim (cases_Bool (is_delivery_to slot outcome && (frame.header.dport == port))) [
      | inl both ↦
          let delivered = (and_parts (is_delivery_to slot outcome) (frame.header.dport == port) both).0 in
          omega (
            arith,
            within,
            cond-true _ (port_bytes port slot past + length frame.payload) (port_bytes port slot past) both,
            cond-true _ (put_bytes slot past + length frame.payload) (put_bytes slot past) delivered,
          )
      | inr other ↦ omega (arith, within, more, cond-false _ (port_bytes port slot past + length frame.payload) (port_bytes port slot past) other)
    ]
port_within port slot (_ ∷ past) = port_within port slot past

-- and where all deliveries to the slot were to that port, they are all
pub port_all : (port slot : ℕ) (past : List Entry) →
    ((s : ℕ) (f : Frame) (o : Outcome) (p : List Entry) → Moment (Read s f o ∷ p) past → is_delivery_to slot o ≡ true → f.header.dport ≡ port) →
    port_bytes port slot past ≡ put_bytes slot past
port_all port slot [] one = refl
port_all port slot (Read stream frame outcome ∷ past) one =
    let earlier = port_all port slot past (λ s f o p m. one s f o p (before m)) in
    elim (cases_Bool (is_delivery_to slot outcome)) [
      | inl delivered ↦
          let at_port = eq-eqb frame.header.dport port (one stream frame outcome past now delivered) in
          omega (
            arith,
            earlier,
            cond-true _ (port_bytes port slot past + length frame.payload) (port_bytes port slot past) (and_from (is_delivery_to slot outcome) _ delivered at_port),
            cond-true _ (put_bytes slot past + length frame.payload) (put_bytes slot past) delivered,
          )
      | inr other ↦ grind (arith, earlier, other)
    ]
port_all port slot (_ ∷ past) one = port_all port slot past (λ s f o p m. one s f o p (before m))

-- the datagrams that were delivered are so many, and have so many bytes
pub delivered_count : (from slot : ℕ) (past : List Entry) → length (delivered_datagrams from slot past) ≡ deliveries slot past
delivered_count from slot [] = refl
delivered_count from slot (Read stream frame outcome ∷ past) =
    let earlier = delivered_count from slot past in
    let list = delivered_datagrams from slot past in
    elim (cases_Bool (is_delivery_to slot outcome)) [
      | inl delivered ↦
          ap length (cond-true _ (list ++ datagram_from from frame ∷ []) list delivered)
          ∙ omega (arith, earlier, length-append list (datagram_from from frame ∷ []), cond-true _ (suc (deliveries slot past)) (deliveries slot past) delivered)
      | inr other ↦
          ap length (cond-false _ (list ++ datagram_from from frame ∷ []) list other) ∙ earlier
          ∙ sym (cond-false _ (suc (deliveries slot past)) (deliveries slot past) other)
    ]
delivered_count from slot (_ ∷ past) = delivered_count from slot past

pub delivered_bytes : (from slot : ℕ) (past : List Entry) →
    sum_by (λ (d : Datagram). length d.payload) (delivered_datagrams from slot past) ≡ put_bytes slot past
delivered_bytes from slot [] = refl
delivered_bytes from slot (Read stream frame outcome ∷ past) =
    let earlier = delivered_bytes from slot past in
    let list = delivered_datagrams from slot past in
    let size = sum_by (λ (d : Datagram). length d.payload) in
    elim (cases_Bool (is_delivery_to slot outcome)) [
      | inl delivered ↦
          ap size (cond-true _ (list ++ datagram_from from frame ∷ []) list delivered)
          ∙ sum_by_push (λ (d : Datagram). length d.payload) list (datagram_from from frame)
          ∙ ap (λ n. n + length frame.payload) earlier
          ∙ sym (cond-true _ (put_bytes slot past + length frame.payload) (put_bytes slot past) delivered)
      | inr other ↦
          ap size (cond-false _ (list ++ datagram_from from frame ∷ []) list other) ∙ earlier
          ∙ sym (cond-false _ (put_bytes slot past + length frame.payload) (put_bytes slot past) other)
    ]
delivered_bytes from slot (_ ∷ past) = delivered_bytes from slot past

-- a delivery to the slot adds its datagram and its bytes
pub delivered_here : (from slot s : ℕ) (f : Frame) (past : List Entry) →
    delivered_datagrams from slot (Read s f (outcome.Slot slot) ∷ past) ≡ delivered_datagrams from slot past ++ datagram_from from f ∷ []
delivered_here from slot s f past =
    cond-true (slot == slot) (delivered_datagrams from slot past ++ datagram_from from f ∷ []) (delivered_datagrams from slot past) (eq-eqb slot slot refl)

pub put_here : (slot s : ℕ) (f : Frame) (past : List Entry) → put_bytes slot (Read s f (outcome.Slot slot) ∷ past) ≡ put_bytes slot past + length f.payload
put_here slot s f past = cond-true (slot == slot) (put_bytes slot past + length f.payload) (put_bytes slot past) (eq-eqb slot slot refl)

-- and a read with another outcome adds nothing
pub delivered_elsewhere : (from slot s : ℕ) (f : Frame) (o : Outcome) (past : List Entry) → is_delivery_to slot o ≡ false →
    delivered_datagrams from slot (Read s f o ∷ past) ≡ delivered_datagrams from slot past
delivered_elsewhere from slot s f o past other =
    cond-false (is_delivery_to slot o) (delivered_datagrams from slot past ++ datagram_from from f ∷ []) (delivered_datagrams from slot past) other

pub put_elsewhere : (slot s : ℕ) (f : Frame) (o : Outcome) (past : List Entry) → is_delivery_to slot o ≡ false → put_bytes slot (Read s f o ∷ past) ≡ put_bytes slot past
put_elsewhere slot s f o past other = cond-false (is_delivery_to slot o) (put_bytes slot past + length f.payload) (put_bytes slot past) other
