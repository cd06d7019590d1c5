-- A seat that has added to its slot's taken word alone stays so.
use Rattle.std.proofs.Common.{◌≡◌, ℕ, ◌+◌, ◌-◌, ◌/◌, ◌%◌, ◌==◌, ◌&&◌, nat_le, nat_lt, cond, Bool, true, false, [], ◌++◌, refl, sym, ap, ◌∙◌, arith}
use Rattle.std.proofs.lemmas.Bool.{le-ltb}
use Rattle.std.specs.Int.{bit_at}
use Rattle.rds_meter.specs.declared.view.View.{View}
use Rattle.rds_meter.specs.declared.view.Stage.{Stage}
use Rattle.rds_meter.specs.declared.view.Stage.TheVariants.{Put}
use Rattle.rds_meter.specs.declared.view.Step.TheVariants.{Added}
use Rattle.rds_meter.specs.Grounds.{seats_of}
use Rattle.rds_meter.specs.Places.{part, put_word, taken_word, map_word}
use Rattle.rds_meter.specs.Seats.{after_add, after_store, after_load, after_lower, after_bump, is_put_word, stage_after, completed, opening, closing}
use Rattle.rds_meter.specs.PartLaws.{part-push, amount_there}
use Rattle.rds_socket_parts.specs.Words.{IsQuietSeat, after_taking, after_clearing, after_relief, after_putting, after_receipt}
use Rattle.rds_socket_parts.specs.TiedLaws.{part-after_load, part-after_store, part-after_lower, part-after_bump}

and_none : (a b : Bool) → b ≡ false → (a && b) ≡ false
and_none true b e = e
and_none false b e = refl

either_of : {X : Type 0} (P : X → Type 0) (b : Bool) (x y : X) → P x → P y → P (cond b x y)
either_of P true x y p q = p
either_of P false x y p q = q

module _ (slot : ℕ) where
  pub quiet_load : (v : View) (q found : ℕ) → IsQuietSeat slot v → IsQuietSeat slot (after_load v q found)
  quiet_load v q found k = record {
    stage = ap (λ (s : Stage). stage_after s q found) k.stage;
    checks = ap (λ (s : Stage). v.checks ++ closing (completed s q found)) k.stage ∙ ap (λ l. l ++ []) k.checks;
    pending = ap (λ (s : Stage). opening (completed s q found) ++ v.pending) k.stage ∙ k.pending;
    parts = λ word ne. part-after_load word q found v ∙ k.parts word ne;
  }

  pub quiet_store : (v : View) (s limit : ℕ) → IsQuietSeat slot v → IsQuietSeat slot (after_store v s limit)
  quiet_store v s limit k = record { stage = k.stage; checks = k.checks; pending = k.pending; parts = λ word ne. part-after_store word s limit v ∙ k.parts word ne }

  quiet_lower : (v : View) (port : ℕ) → IsQuietSeat slot v → IsQuietSeat slot (after_lower v port)
  quiet_lower v port k = record { stage = k.stage; checks = k.checks; pending = k.pending; parts = λ word ne. part-after_lower word port v ∙ k.parts word ne }

  quiet_bump : (v : View) (change : ℕ) → IsQuietSeat slot v → IsQuietSeat slot (after_bump v change)
  quiet_bump v change k = record { stage = k.stage; checks = k.checks; pending = k.pending; parts = λ word ne. part-after_bump word change v ∙ k.parts word ne }

  pub quiet_clear : (v : View) (port change : ℕ) → IsQuietSeat slot v → IsQuietSeat slot (after_clearing v port change)
  quiet_clear v port change k = quiet_bump (after_lower v port) change (quiet_lower v port k)

  no_put : is_put_word (taken_word slot) ≡ false
  no_put = and_none (nat_le 2048 (taken_word slot)) (nat_lt (taken_word slot) 3072) (le-ltb (taken_word slot) 3072 (omega arith))

  quiet_add : (v : View) (n taken : ℕ) → IsQuietSeat slot v → IsQuietSeat slot (after_add v (taken_word slot) n taken)
  quiet_add v n taken k = record {
    stage = ap (λ (b : Bool). cond b (Put (taken_word slot - 2048) taken) v.stage) no_put ∙ k.stage;
    checks = k.checks;
    pending = k.pending;
    parts = λ word ne. (let p = part-push word v.steps (Added (taken_word slot) n taken) in let z = amount_there word (taken_word slot) n taken (λ e. ne (sym e)) in let s = k.parts word ne in omega arith);
  }

  quiet_taking : (v : View) (n taken : ℕ) → IsQuietSeat slot v → IsQuietSeat slot (after_taking v slot n taken)
  quiet_taking v n taken k = either_of (IsQuietSeat slot) (nat_le (part (taken_word slot) v.steps + n) 4503599627370496) (after_add v (taken_word slot) n taken) (after_load v (taken_word slot) taken) (quiet_add v n taken k) (quiet_load v (taken_word slot) taken k)

  quiet_relief : (v : View) (port bits change : ℕ) → IsQuietSeat slot v → IsQuietSeat slot (after_relief v port bits change)
  quiet_relief v port bits change k =
      let loaded = quiet_load v (map_word port) bits k in
      either_of (IsQuietSeat slot) (bit_at bits (port % 64) == 1) (after_clearing (after_load v (map_word port) bits) port change) (after_load v (map_word port) bits) (quiet_clear _ port change loaded) loaded

  quiet_putting : (v : View) (port limit taken put bits change : ℕ) → IsQuietSeat slot v → IsQuietSeat slot (after_putting v slot port limit taken put bits change)
  quiet_putting v port limit taken put bits change k =
      let loaded = quiet_load v (put_word slot) put k in
      either_of (IsQuietSeat slot) (nat_lt put (taken + limit / 2)) (after_relief (after_load v (put_word slot) put) port bits change) (after_load v (put_word slot) put) (quiet_relief _ port bits change loaded) loaded

  pub quiet_receipt : (v : View) (port limit n taken put bits change : ℕ) → IsQuietSeat slot v → IsQuietSeat slot (after_receipt v slot port limit n taken put bits change)
  quiet_receipt v port limit n taken put bits change k = quiet_putting (after_taking v slot n taken) port limit taken put bits change (quiet_taking v n taken k)

  -- the seat stands for as many
  seats_relief : (v : View) (port bits change : ℕ) → seats_of (after_relief v port bits change) ≡ seats_of v
  seats_relief v port bits change =
      either_of (λ (w : View). seats_of w ≡ seats_of v) (bit_at bits (port % 64) == 1) (after_clearing (after_load v (map_word port) bits) port change) (after_load v (map_word port) bits) refl refl

  seats_taking : (v : View) (n taken : ℕ) → seats_of (after_taking v slot n taken) ≡ seats_of v
  seats_taking v n taken =
      either_of (λ (w : View). seats_of w ≡ seats_of v) (nat_le (part (taken_word slot) v.steps + n) 4503599627370496) (after_add v (taken_word slot) n taken) (after_load v (taken_word slot) taken) refl refl

  seats_putting : (v : View) (port limit taken put bits change : ℕ) → seats_of (after_putting v slot port limit taken put bits change) ≡ seats_of v
  seats_putting v port limit taken put bits change =
      either_of (λ (w : View). seats_of w ≡ seats_of v) (nat_lt put (taken + limit / 2)) (after_relief (after_load v (put_word slot) put) port bits change) (after_load v (put_word slot) put)
      (seats_relief (after_load v (put_word slot) put) port bits change) refl

  pub seats_receipt : (v : View) (port limit n taken put bits change : ℕ) → seats_of (after_receipt v slot port limit n taken put bits change) ≡ seats_of v
  seats_receipt v port limit n taken put bits change = seats_putting (after_taking v slot n taken) port limit taken put bits change ∙ seats_taking v n taken
