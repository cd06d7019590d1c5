-- Laws, each proved: proofs in other crates use them. Nothing here has to be believed.
-- A receipt stores no receive limit.
use Rattle.std.proofs.Common.{◌≡◌, ◌≢◌, inl, inr, ◌⊎◌, ℕ, ◌+◌, ◌/◌, ◌%◌, ◌==◌, nat_le, nat_lt, cond, Bool, true, false, List, [], ◌∷◌, ◌++◌, ap, subst, ◌∙◌}
use Rattle.std.specs.Prelude.{Contains}
use Rattle.std.specs.Int.{bit_at}
use Rattle.std.proofs.lemmas.List.Elements.{Contains-push_cases}
use Rattle.rds_meter.specs.declared.view.View.{View}
use Rattle.rds_meter.specs.declared.view.Step.{Step}
use Rattle.rds_meter.specs.declared.view.Step.TheVariants.{Added, Stored, Loaded, Lowered, Bumped}
use Rattle.rds_meter.specs.Places.{limit_word, map_word, part, put_word, taken_word}
use Rattle.rds_meter.specs.Seats.{after_add, after_bump, after_load, after_lower}
use Rattle.rds_meter.specs.Shared.{HasStored}
use Rattle.rds_model.specs.declared.order.Datagram.{Datagram}
use Rattle.rds_fmap.specs.Readers.{ReaderView}
use Rattle.rds_socket_parts.specs.Words.{Purse, IsReceipt, after_clearing, after_putting, after_receipt, after_relief, after_taking, purse_with}
use Rattle.rds_socket.specs.Holding.{Holding, Open}
use Rattle.rds_socket.specs.Calls.{IsClosed, IsReceived}
use Rattle.rds_run_callers.specs.Ends.{StoresNoMore}

either_of : {X : Type 0} (P : X → Type 0) (b : Bool) (x y : X) → P x → P y → P (cond b x y)
either_of P true x y p q = p
either_of P false x y p q = q

pub stores_same : (old new : Holding ReaderView) → new.words ≡ old.words → StoresNoMore old new
stores_same old new same slot limit has = subst (λ (p : Purse). HasStored slot limit p.seat.view) same has

pub stores_then : (a b c : Holding ReaderView) → StoresNoMore a b → StoresNoMore b c → StoresNoMore a c
stores_then a b c x y slot limit has = x slot limit (y slot limit has)

module _ (v : View) where
  -- what was stored by these steps was stored before
  abbrev Before : View → Type 0
  Before w = (slot limit : ℕ) → HasStored slot limit w → HasStored slot limit v

  unpushed : (xs : List Step) (s t : Step) → s ≢ t → Contains (xs ++ s ∷ []) t → Contains xs t
  unpushed xs s t other has = go (Contains-push_cases xs s t has)
    where
      go : Contains xs t ⊎ (s ≡ t) → Contains xs t
      go (inl was) = was
      go (inr is) = absurd (other is)

  before_load : (w : View) (q found : ℕ) → Before w → Before (after_load w q found)
  before_load w q found was slot limit has = was slot limit (unpushed w.steps (Loaded q found) (Stored (limit_word slot) limit) (λ is. absurd (cc)) has)

  before_add : (w : View) (q n found : ℕ) → Before w → Before (after_add w q n found)
  before_add w q n found was slot limit has = was slot limit (unpushed w.steps (Added q n found) (Stored (limit_word slot) limit) (λ is. absurd (cc)) has)

  before_lower : (w : View) (port : ℕ) → Before w → Before (after_lower w port)
  before_lower w port was slot limit has = was slot limit (unpushed w.steps (Lowered port) (Stored (limit_word slot) limit) (λ is. absurd (cc)) has)

  before_bump : (w : View) (change : ℕ) → Before w → Before (after_bump w change)
  before_bump w change was slot limit has = was slot limit (unpushed w.steps (Bumped change) (Stored (limit_word slot) limit) (λ is. absurd (cc)) has)

  before_clear : (w : View) (port change : ℕ) → Before w → Before (after_clearing w port change)
  before_clear w port change was = before_bump (after_lower w port) change (before_lower w port was)

  before_relief : (w : View) (port bits change : ℕ) → Before w → Before (after_relief w port bits change)
  before_relief w port bits change was =
      let loaded = before_load w (map_word port) bits was in
      either_of Before (bit_at bits (port % 64) == 1) (after_clearing (after_load w (map_word port) bits) port change) (after_load w (map_word port) bits)
      (before_clear (after_load w (map_word port) bits) port change loaded) loaded

  before_taking : (w : View) (own n taken : ℕ) → Before w → Before (after_taking w own n taken)
  before_taking w own n taken was =
      either_of Before (nat_le (part (taken_word own) w.steps + n) 4503599627370496) (after_add w (taken_word own) n taken) (after_load w (taken_word own) taken)
      (before_add w (taken_word own) n taken was) (before_load w (taken_word own) taken was)

  before_putting : (w : View) (own port limit taken put bits change : ℕ) → Before w → Before (after_putting w own port limit taken put bits change)
  before_putting w own port limit taken put bits change was =
      let loaded = before_load w (put_word own) put was in
      either_of Before (nat_lt put (taken + limit / 2)) (after_relief (after_load w (put_word own) put) port bits change) (after_load w (put_word own) put)
      (before_relief (after_load w (put_word own) put) port bits change loaded) loaded

  pub before_receipt : (own port limit n taken put bits change : ℕ) → Before (after_receipt v own port limit n taken put bits change)
  before_receipt own port limit n taken put bits change =
      before_putting (after_taking v own n taken) own port limit taken put bits change (before_taking v own n taken (λ slot l has. has))

  pub before_closing : (port change : ℕ) → Before (after_clearing v port change)
  before_closing port change = before_clear v port change (λ slot l has. has)

-- a receipt of a socket
pub stores_received : (item : Datagram) (old new : Open ReaderView) → IsReceived item old new → StoresNoMore old.own new.own
stores_received item old new got slot limit has =
    let words : new.own.words ≡ got.1 = ap (λ (o : Open ReaderView). o.own.words) got.3 in
    let receipt : IsReceipt old.port old.rcvbuf _ old.own.words got.1 = got.2 in
    before_receipt old.own.words.seat.view old.own.words.slot old.port old.rcvbuf _ receipt.0 receipt.1 receipt.2 receipt.3 slot limit
    (subst (λ (p : Purse). HasStored slot limit p.seat.view) (words ∙ receipt.4) has)

-- one load more, and the end of a socket
pub stores_load : (old new : Holding ReaderView) (q found : ℕ) → new.words ≡ purse_with old.words (after_load old.words.seat.view q found) → StoresNoMore old new
stores_load old new q found is slot limit has =
    before_load old.words.seat.view old.words.seat.view q found (λ s l h. h) slot limit (subst (λ (p : Purse). HasStored slot limit p.seat.view) is has)

pub stores_closed : (old : Open ReaderView) (new : Holding ReaderView) → IsClosed old new → StoresNoMore old.own new
stores_closed old new closed slot limit has =
    before_closing old.own.words.seat.view old.port closed.1.0 slot limit
    (subst (λ (p : Purse). HasStored slot limit p.seat.view) (ap (λ (h : Holding ReaderView). h.words) closed.1.1) has)
