-- Which ports a slot's claims have found free.
use Rattle.std.proofs.Common.{◌≡◌, ℕ, ◌+◌, List, [], ◌∷◌, All, Option, Some, None, ne_eqb, cond, Bool, refl, sym, ap, subst, ⊎_elim, arith}
use Rattle.std.proofs.lemmas.List.Elements.{Contains-push_cases, at_from_Contains, All-head, All-tail}
use Rattle.rds_bindtab.specs.declared.view.View.{View}
use Rattle.rds_bindtab.specs.declared.view.Step.TheVariants.{Drew, Claimed, Released}
use Rattle.rds_bindtab.specs.Seats.{PortSeat, knowing, first_view, after_draw, after_exchange, after_release, slot_of, port_of}
use Rattle.rds_socket_parts.specs.Ports.{HasClaimedOnly, port_after, after_claims, IsTaken}

-- a slot that had claimed none claims a port
pub claims_first : (v : View) (port found : ℕ) → HasClaimedOnly None v → HasClaimedOnly (Some port) (after_exchange v port found)
claims_first v port found none q s m =
    ⊎_elim
    (λ was. absurd (let e = none q s was in cc))
    (λ (e : Claimed port (slot_of v) found ≡ Claimed q s 0). let same : port ≡ q = cc in ap Some same)
    (Contains-push_cases v.steps (Claimed port (slot_of v) found) (Claimed q s 0) m)

-- a claim that found another word than 0
pub claims_none : (v : View) (port found : ℕ) → IsTaken found → HasClaimedOnly None v → HasClaimedOnly None (after_exchange v port found)
claims_none v port found taken none q s m =
    ⊎_elim
    (λ was. none q s was)
    (λ (e : Claimed port (slot_of v) found ≡ Claimed q s 0). let zero_found : found ≡ 0 = cc in absurd (taken zero_found))
    (Contains-push_cases v.steps (Claimed port (slot_of v) found) (Claimed q s 0) m)

pub claims_many : (v : View) (p n : ℕ) (words : List ℕ) → All IsTaken words → HasClaimedOnly None v → HasClaimedOnly None (after_claims v p n words)
claims_many v p n [] all none = none
claims_many v p n (word ∷ words) all none = claims_many (after_exchange v (port_after p n) word) p (n + 1) words (All-tail IsTaken word words all) (claims_none v (port_after p n) word (All-head IsTaken word words all) none)

pub claims_slot : (v : View) (p n : ℕ) (words : List ℕ) → (after_claims v p n words).slot ≡ v.slot
claims_slot v p n [] = refl
claims_slot v p n (word ∷ words) = claims_slot (after_exchange v (port_after p n) word) p (n + 1) words

not_held : (v : View) (port word : ℕ) → IsTaken word → (after_exchange v port word).port ≡ None
not_held v port word taken = ap (λ (b : Bool). cond b (Some port) None) (ne_eqb word 0 taken)

pub claims_port : (v : View) (p n : ℕ) (words : List ℕ) → All IsTaken words → v.port ≡ None → (after_claims v p n words).port ≡ None
claims_port v p n [] all none = none
claims_port v p n (word ∷ words) all none = claims_port (after_exchange v (port_after p n) word) p (n + 1) words (All-tail IsTaken word words all) (not_held v (port_after p n) word (All-head IsTaken word words all))

-- a release claims nothing
pub claims_released : (v : View) (port : Option ℕ) → HasClaimedOnly port v → HasClaimedOnly port (after_release v)
claims_released v port only q s m =
    ⊎_elim (λ was. only q s was) (λ (e : Released (port_of v) ≡ Claimed q s 0). absurd (cc)) (Contains-push_cases v.steps (Released (port_of v)) (Claimed q s 0) m)

-- a seat that has only drawn its slot
pub claims_drawn : (old new : PortSeat) (slots found : ℕ) → old.view ≡ first_view slots → new ≡ knowing old (after_draw old.view found) → HasClaimedOnly None new.view
claims_drawn old new slots found first is =
    let fresh_only : HasClaimedOnly None (first_view slots) = λ q s m. absurd (let k = at_from_Contains [] (Claimed q s 0) m in let l = k.1 in omega arith) in
    let before : HasClaimedOnly None old.view = subst (HasClaimedOnly None) (sym first) fresh_only in
    subst (λ (h : PortSeat). HasClaimedOnly None h.view) (sym is)
    (λ q s m. ⊎_elim (λ was. before q s was) (λ (e : Drew found ≡ Claimed q s 0). absurd (cc)) (Contains-push_cases old.view.steps (Drew found) (Claimed q s 0) m))
