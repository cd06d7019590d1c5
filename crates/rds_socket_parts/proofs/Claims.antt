-- The claims of a search, one after another.
use Rattle.std.proofs.Common.{◌≡◌, ◌≢◌, ℕ, suc, ◌+◌, ◌-◌, ◌%◌, ◌<◌, ◌≤◌, List, [], ◌∷◌, ◌++◌, length, All, eqb, ne_eqb, cond, Bool, IsSome, Some, None, Option, Result, Ok, Err, is_ok, true, false, refl, sym, ap, subst, ◌∙◌, arith}
use Rattle.std.proofs.lemmas.List.{length_push}
use Rattle.std.proofs.lemmas.List.Elements.{All-push}
use Rattle.rds_bindtab.specs.declared.view.View.{View}
use Rattle.rds_bindtab.specs.declared.error.BindError.{BindError}
use Rattle.rds_bindtab.specs.declared.error.BindError.TheVariants.{Reserved, InUse, NoneFree}
use Rattle.rds_bindtab.specs.Seats.{PortSeat, knowing, after_exchange}
use Rattle.rds_bindtab.specs.Answers.{ClaimFits, after_claim}
use Rattle.rds_socket_parts.specs.Ports.{port_after, after_claims, IsTaken}

-- a claim of a port from 2 on that is refused has found another word than 0
pub refused : (v : View) (port : ℕ) (r : Result (Unit {0}) BindError) → 2 ≤ port → ClaimFits port r → is_ok r ≡ false → (word : ℕ) × IsTaken word × (after_claim v port r ≡ after_exchange v port word)
refused v port (Ok u) low fits e = absurd (cc)
refused v port (Err (Reserved named)) low fits e = absurd (let l = fits.1 in omega arith)
refused v port (Err (InUse word)) low fits e = (word, fits.1, refl)
refused v port (Err NoneFree) low fits e = absurd fits

pub accepted : (v : View) (port : ℕ) (r : Result (Unit {0}) BindError) → is_ok r ≡ true → after_claim v port r ≡ after_exchange v port 0
accepted v port (Ok u) e = refl
accepted v port (Err b) e = absurd (cc)

pub port_next : (p n port : ℕ) → port ≡ port_after p n → port_after port 1 ≡ port_after p (n + 1)
port_next p n port e = omega arith

pub claims_more : (v : View) (p n : ℕ) (words : List ℕ) (word : ℕ) → after_claims v p n (words ++ word ∷ []) ≡ after_exchange (after_claims v p n words) (port_after p (n + length words)) word
claims_more v p n [] word = ap (λ k. after_exchange v (port_after p k) word) (omega arith)
claims_more v p n (x ∷ words) word = claims_more (after_exchange v (port_after p n) x) p (n + 1) words word
    ∙ ap (λ k. after_exchange (after_claims (after_exchange v (port_after p n) x) p (n + 1) words) (port_after p k) word) (omega arith)

pub search_more : (old self now : PortSeat) (p counter port next : ℕ) (words : List ℕ) (r : Result (Unit {0}) BindError)
    → length words ≡ counter → All IsTaken words → port ≡ port_after p counter → self ≡ knowing old (after_claims old.view p 0 words) → IsSome self.view.slot
    → ClaimFits port r → is_ok r ≡ false → now ≡ knowing self (after_claim self.view port r) → next ≡ port_after port 1
    → (more : List ℕ) × (length more ≡ counter + 1) × All IsTaken more × (next ≡ port_after p (counter + 1)) × (now ≡ knowing old (after_claims old.view p 0 more)) × IsSome now.view.slot × (now.view.port ≡ None)
search_more old self now p counter port next words r size all at is slot fits not_ok made then =
    let low : 2 ≤ port = omega arith in
    let k = refused self.view port r low fits not_ok in
    let one : now ≡ knowing self (after_exchange self.view port k.0) = made ∙ ap (knowing self) k.2 in
    let place : port ≡ port_after p (0 + length words) = at ∙ ap (port_after p) (omega arith) in
    let before : View = after_claims old.view p 0 words in
    let free : (if_zero : Bool) → if_zero ≡ false → cond if_zero (Some port) None ≡ None = λ b e. ap (λ (t : Bool). cond t (Some port) None) e in (
      words ++ k.0 ∷ [],
      length_push words k.0 ∙ ap (λ n. n + 1) size,
      All-push IsTaken words k.0 all k.1,
      then ∙ port_next p counter port at,
      one ∙ ap (λ (h : PortSeat). knowing h (after_exchange h.view port k.0)) is ∙ ap (λ q. knowing old (after_exchange before q k.0)) place ∙ sym (ap (knowing old) (claims_more old.view p 0 words k.0)),
      subst (λ (h : PortSeat). IsSome h.view.slot) (sym one) slot,
      ap (λ (h : PortSeat). h.view.port) one ∙ free (eqb k.0 0) (ne_eqb k.0 0 k.1),
    )
