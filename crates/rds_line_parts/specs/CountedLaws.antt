-- Laws, each proved: proofs in other crates use them. Nothing here has to be believed.
-- One delivery more, in the journal, in a mailbox and in the counts of a line.
use Rattle.std.proofs.Common.{◌≡◌, ◌≢◌, ℕ, zero, suc, ◌+◌, ◌*◌, ◌<◌, ◌≤◌, if◌then◌else◌, Bool, true, false, List, [], ◌∷◌, ◌++◌, length, set, sum, slice_index, Option, Some, None, slice_get, filter, sum_by, length-append, eq-eqb, ne_eqb, refl, sym, ap, ◌∙◌, subst, arith, ⊎_elim}
use Rattle.std.proofs.lemmas.Bool.{cases_eq, cases_lt}
use Rattle.std.proofs.lemmas.List.{get_or_past}
use Rattle.std.proofs.lemmas.List.Sums.{sum_by-set, sum_by-cons}
use Rattle.std.proofs.lemmas.Option.{same_Some, slice_get_within}
use Rattle.rds_wire.specs.declared.frame.Frame.{Frame}
use Rattle.rds_bindtab.specs.Seats.{PortSeat}
use Rattle.rds_model.specs.declared.entry.Entry.{Entry}
use Rattle.rds_model.specs.declared.entry.Entry.TheVariants.{Accept, Read}
use Rattle.rds_model.specs.declared.entry.Outcome.{Outcome}
use Rattle.rds_model.specs.declared.entry.Outcome.TheVariants as outcome
use Rattle.rds_model.specs.declared.entry.TheConstants.{MAX_SLOTS}
use Rattle.rds_model.specs.Pairs.{is_delivery}
use Rattle.rds_model.specs.Past.{Accepted, accepted, datagram}
use Rattle.rds_model.specs.Alive.{payload_bytes, up_to}
use Rattle.rds_model.specs.Legal.{IsLegal}
use Rattle.rds_model.specs.BoundLaws.{datagram_fits}
use Rattle.rds_wire.specs.declared.kind.TheConstants.{MAX_LENGTH}
use Rattle.rds_model.specs.declared.order.Datagram.{Datagram}
use Rattle.rds_model.specs.Deliveries.{datagram_from, delivered_datagrams, put_bytes}
use Rattle.rds_mail.specs.Passes.{Putter, after_put}
use Rattle.rds_conn.specs.Connection.{Connection, freed_bytes_of}
use Rattle.rds_conn.specs.Released.{is_released, released_bytes}
use Rattle.rds_meter.specs.declared.view.View.{View}
use Rattle.rds_meter.specs.Places.{part, put_word}
use Rattle.rds_meter.specs.Seats.{MeterSeat, must_raise}
use Rattle.rds_line_parts.specs.Boxes.{IsBoxOf, IsPutInto}
use Rattle.rds_line_parts.specs.Counted.{AreChecksOf, IsCountedFor, IsPutFor, IsFreedFor}
use Rattle.rds_line_parts.specs.Delivery.{check_of, IsDelivery}
use Rattle.rds_line_parts.specs.DeliveryLaws.{one_check, delivery_part}
use Rattle.rds_line_parts.specs.Relief.{IsRelief}
use Rattle.rds_line_parts.specs.ReliefLaws.{relieved_part}

set_here : {X : Type 0} (xs : List X) (i : ℕ) (y : X) → i < length xs → slice_get (set xs i y) i ≡ Some y
set_here [] i y h = absurd (omega arith)
set_here (x ∷ xs) zero y h = refl
set_here (x ∷ xs) (suc i) y h = set_here xs i y (omega arith)

set_there : {X : Type 0} (xs : List X) (i j : ℕ) (y : X) → j ≢ i → slice_get (set xs i y) j ≡ slice_get xs j
set_there [] i j y other = refl
set_there (x ∷ xs) zero zero y other = absurd (other refl)
set_there (x ∷ xs) zero (suc j) y other = refl
set_there (x ∷ xs) (suc i) zero y other = refl
set_there (x ∷ xs) (suc i) (suc j) y other = set_there xs i j y (λ e. other (ap suc e))

no_element : (xs : List ℕ) (i : ℕ) → sum xs ≡ 0 → slice_index xs i ≡ 0
no_element xs i none =
    ⊎_elim
    (λ inside. let e : sum (set xs i 0) + slice_index xs i ≡ sum xs + 0 = sum_by-set (λ x. x) xs i 0 0 inside in omega arith)
    (λ past. get_or_past xs i 0 past)
    (cases_lt i (length xs))

module _ (stream slot : ℕ) (frame : Frame) (past : List Entry) where
  -- the past with the delivery of the frame
  abbrev pub delivered : List Entry
  delivered = Read stream frame (outcome.Slot slot) ∷ past

  -- the frame was passed, its datagram put and counted
  pub counted_for_more : (old new : MeterSeat) (ports after : PortSeat) → IsDelivery slot frame.header.dport (length frame.payload) old new ports after
      → IsCountedFor past old.view → IsCountedFor delivered new.view
  counted_for_more old new ports after d was = record {
    put = λ s small.
        let more = delivery_part slot frame.header.dport (length frame.payload) old new ports after d (put_word s) in
        let before = was.put s small in
        ⊎_elim
        (λ (same : slot ≡ s).
        more ∙ ap (λ (b : Bool). part (put_word s) old.view.steps + (if b then length frame.payload else 0)) (eq-eqb (put_word slot) (put_word s) (ap put_word same))
        ∙ ap (λ n. n + length frame.payload) before
        ∙ sym (ap (λ (b : Bool). if b then put_bytes s past + length frame.payload else put_bytes s past) (eq-eqb slot s same)))
        (λ (other : slot ≢ s).
        let apart : put_word slot ≢ put_word s = λ e. other (omega arith) in
        let none : part (put_word s) old.view.steps + 0 ≡ part (put_word s) old.view.steps = omega arith in
        more ∙ ap (λ (b : Bool). part (put_word s) old.view.steps + (if b then length frame.payload else 0)) (ne_eqb (put_word slot) (put_word s) apart)
        ∙ none ∙ before
        ∙ sym (ap (λ (b : Bool). if b then put_bytes s past + length frame.payload else put_bytes s past) (ne_eqb slot s other)))
        (cases_eq slot s);
    checks =
        let one = one_check slot frame.header.dport (length frame.payload) old new ports after d in (
          old.view.checks,
          check_of slot one.0,
          one.3,
          record {
            slot_is = refl;
            raised =
                ap (λ (b : Bool). if b then Some one.0.port else None) one.2
                ∙ ap (λ port. if must_raise (check_of slot one.0) then Some port else None) one.1;
          },
          was.checks,
        );
  }

  -- its datagram was put into the box of the slot
  pub put_for_more : (from : ℕ) (old new : List (Putter Datagram)) → IsPutInto slot (datagram_from from frame) old new → IsPutFor from past old → IsPutFor from delivered new
  put_for_more from old new put was s box at =
      let here = subst (λ (boxes : List (Putter Datagram)). IsBoxOf boxes s box) put.2 at in
      let list = delivered_datagrams from s past in
      ⊎_elim
      (λ (same : slot ≡ s).
      let stands : slice_get (set old slot (after_put put.0 (datagram_from from frame))) slot ≡ Some (after_put put.0 (datagram_from from frame)) =
      set_here old slot (after_put put.0 (datagram_from from frame)) (slice_get_within old slot put.0 put.1) in
      let is : box ≡ after_put put.0 (datagram_from from frame) =
      same_Some box (after_put put.0 (datagram_from from frame)) (sym here ∙ ap (slice_get (set old slot (after_put put.0 (datagram_from from frame)))) (sym same) ∙ stands) in
      ap (λ (b : Putter Datagram). b.put) is
      ∙ ap (λ l. l ++ datagram_from from frame ∷ []) (was slot put.0 put.1 ∙ ap (λ k. delivered_datagrams from k past) same)
      ∙ sym (ap (λ (b : Bool). if b then list ++ datagram_from from frame ∷ [] else list) (eq-eqb slot s same)))
      (λ (other : slot ≢ s).
      was s box (sym (set_there old slot s (after_put put.0 (datagram_from from frame)) (λ e. other (sym e))) ∙ here)
      ∙ sym (ap (λ (b : Bool). if b then list ++ datagram_from from frame ∷ [] else list) (ne_eqb slot s other)))
      (cases_eq slot s)

-- a read that is no delivery changes none of this
pub counted_for_read : (stream : ℕ) (frame : Frame) (o : Outcome) (past : List Entry) (v : View) → is_delivery o ≡ false → IsCountedFor past v → IsCountedFor (Read stream frame o ∷ past) v
counted_for_read stream frame outcome.Old past v none was = record { put = was.put; checks = was.checks }
counted_for_read stream frame outcome.NoSocket past v none was = record { put = was.put; checks = was.checks }
counted_for_read stream frame (outcome.Slot slot) past v none was = absurd (cc)
counted_for_read stream frame outcome.Ping past v none was = record { put = was.put; checks = was.checks }
counted_for_read stream frame outcome.Void past v none was = record { put = was.put; checks = was.checks }
counted_for_read stream frame outcome.AckOnly past v none was = record { put = was.put; checks = was.checks }
counted_for_read stream frame outcome.Map past v none was = record { put = was.put; checks = was.checks }
counted_for_read stream frame outcome.OddMap past v none was = record { put = was.put; checks = was.checks }

pub put_for_read : (stream : ℕ) (frame : Frame) (o : Outcome) (from : ℕ) (past : List Entry) (boxes : List (Putter Datagram)) → is_delivery o ≡ false → IsPutFor from past boxes → IsPutFor from (Read stream frame o ∷ past) boxes
put_for_read stream frame outcome.Old from past boxes none was = was
put_for_read stream frame outcome.NoSocket from past boxes none was = was
put_for_read stream frame (outcome.Slot slot) from past boxes none was = absurd (cc)
put_for_read stream frame outcome.Ping from past boxes none was = was
put_for_read stream frame outcome.Void from past boxes none was = was
put_for_read stream frame outcome.AckOnly from past boxes none was = was
put_for_read stream frame outcome.Map from past boxes none was = was
put_for_read stream frame outcome.OddMap from past boxes none was = was

-- nor do steps that add nothing to a put word and make no check
pub counted_for_steps : (past : List Entry) (v w : View) → ((slot : ℕ) → slot < MAX_SLOTS → part (put_word slot) w.steps ≡ part (put_word slot) v.steps) → w.checks ≡ v.checks
    → IsCountedFor past v → IsCountedFor past w
counted_for_steps past v w same checks was = record {
  put = λ slot small. same slot small ∙ was.put slot small;
  checks = subst (AreChecksOf past) (sym checks) was.checks;
}

-- relief adds all that the connection held
pub freed_for_relief : (old new : Connection) (seat after : MeterSeat) → new ≡ record old { freed = new.freed } → sum new.freed ≡ 0 → IsRelief old.freed seat after
    → IsFreedFor old seat.view → IsFreedFor new after.view
freed_for_relief old new seat after rest none relief was slot small =
    let before = was slot (subst (λ (c : Connection). slot < c.slots) rest small) in
    let added = relieved_part old.freed seat after relief slot in
    let held = no_element new.freed slot none in
    let past : released_bytes slot new.log.past ≡ released_bytes slot old.log.past = ap (λ (c : Connection). released_bytes slot c.log.past) rest in
    omega arith

-- and it may: what was freed is at most 1,048,576 bytes for each entry
bounded : (f : ℕ → ℕ) (test : ℕ → Bool) (most : ℕ) (xs : List ℕ) → ((n : ℕ) → f n ≤ most) → sum_by f (filter test xs) ≤ most * length xs
bounded f test most [] each = omega arith
bounded f test most (x ∷ xs) each =
    let rest = bounded f test most xs each in
    let first = each x in
    let with_it = sum_by-cons f x (filter test xs) in
    let go : (b : Bool) → sum_by f (if b then x ∷ filter test xs else filter test xs) ≤ most * suc (length xs) = elim [ true ↦ omega (arith, rest, first, with_it) | false ↦ omega (arith, rest, first) ] in
    go (test x)

so_many : (n : ℕ) → length (up_to n) ≡ n
so_many zero = refl
so_many (suc n) = let e = length-append (up_to n) (suc n ∷ []) in let before = so_many n in omega arith

accepted_within : (past : List Entry) → accepted past ≤ length past
accepted_within [] = omega arith
accepted_within (Accept slot sport dport payload ∷ past) = let before = accepted_within past in omega arith
accepted_within (_ ∷ past) = let before = accepted_within past in omega arith

short : (past : List Entry) → IsLegal past → (n : ℕ) → payload_bytes (datagram past n) ≤ MAX_LENGTH
short past legal n =
    let go : (d : Option Accepted) → datagram past n ≡ d → payload_bytes d ≤ MAX_LENGTH = elim [
      | None ↦ (λ e. omega arith)
      | Some d ↦ (λ e. (datagram_fits past n d legal e).short)
    ] in go (datagram past n) refl

pub released_bound : (slot : ℕ) (past : List Entry) → IsLegal past → released_bytes slot past ≤ MAX_LENGTH * length past
released_bound slot past legal =
    let all = bounded (λ n. payload_bytes (datagram past n)) (is_released slot past) MAX_LENGTH (up_to (accepted past)) (short past legal) in
    let many = so_many (accepted past) in
    let within = accepted_within past in
    omega arith

-- an order or a frame that is passed keeps it too, since what it frees is held
pub freed_for_account : (old new : Connection) (v : View) → new.slots ≡ old.slots
    → ((slot : ℕ) → slot < old.slots → freed_bytes_of slot new + released_bytes slot old.log.past ≡ freed_bytes_of slot old + released_bytes slot new.log.past)
    → IsFreedFor old v → IsFreedFor new v
freed_for_account old new v slots account was slot small =
    let inside = subst (λ n. slot < n) slots small in
    let before = was slot inside in
    let more = account slot inside in
    omega arith
