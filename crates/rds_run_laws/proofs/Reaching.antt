-- What is delivered to a slot of one host was sent by the other's commands.
use Rattle.std.proofs.Common.{◌≡◌, ◌+◌, ◌≤◌, ◌==◌, ℕ, List, [], ◌∷◌, ◌++◌, Option, Some, None, Bool, true, false, cond, length, refl, ap, arith}
use Rattle.std.proofs.lemmas.Bool.{eqb-true}
use Rattle.rds_model.specs.declared.entry.Entry.{Entry}
use Rattle.rds_model.specs.declared.entry.Entry.TheVariants.{Accept, Bad, Cancel, Open, Pull, Read, Shut}
use Rattle.rds_model.specs.declared.entry.TheConstants.{NO_SLOT}
use Rattle.rds_model.specs.declared.order.Order.{Order}
use Rattle.rds_model.specs.declared.order.Order.TheVariants as order
use Rattle.rds_model.specs.Deliveries.{put_bytes}
use Rattle.rds_model.specs.Legal.{IsLawful, IsLegal, IsPong, pong_to}
use Rattle.rds_model.specs.Past.{passes}
use Rattle.rds_model.specs.Pairs.{is_delivery_to}
use Rattle.rds_model.specs.Sums.{cancellation, orders}
use Rattle.std.specs.Prelude.{MatchOption}
use Rattle.rds_run_laws.specs.Weights.{by_length, accepted_sum, orders_sum, passed_sum}
use Rattle.rds_run_laws.proofs.Plain.{delivery_passes}

-- what was delivered to a slot was passed
pub delivered_passed : (slot : ℕ) (past : List Entry) → put_bytes slot past ≤ passed_sum by_length past
delivered_passed slot [] = omega arith
delivered_passed slot (Read stream frame outcome ∷ past) =
    either (is_delivery_to slot outcome) (passes outcome) (delivery_passes slot outcome) (put_bytes slot past) (passed_sum by_length past) (length frame.payload)
    (delivered_passed slot past)
  where
    either : (to passed : Bool) → (to ≡ true → passed ≡ true) → (put sum bytes : ℕ) → put ≤ sum → cond to (put + bytes) put ≤ cond passed (sum + bytes) sum
    either true true so put sum bytes less = omega (arith, less)
    either true false so put sum bytes less = absurd (let e = so refl in cc)
    either false true so put sum bytes less = omega (arith, less)
    either false false so put sum bytes less = less
delivered_passed slot (Accept s sport dport payload ∷ past) = delivered_passed slot past
delivered_passed slot (Cancel s target ∷ past) = delivered_passed slot past
delivered_passed slot (Open stream ∷ past) = delivered_passed slot past
delivered_passed slot (Shut stream ∷ past) = delivered_passed slot past
delivered_passed slot (Bad stream header cause ∷ past) = delivered_passed slot past
delivered_passed slot (Pull stream frame ∷ past) = delivered_passed slot past

no_less : (xs ys : List Order) → orders_sum by_length xs ≤ orders_sum by_length (xs ++ ys)
no_less [] ys = omega arith
no_less (order.Send slot sport dport payload ∷ xs) ys = let rest = no_less xs ys in omega (arith, rest)
no_less (order.Cancel slot dport ∷ xs) ys = no_less xs ys
no_less (order.CloseSocket slot ∷ xs) ys = no_less xs ys
no_less (order.Cut ∷ xs) ys = no_less xs ys

one_sent : (xs : List Order) (slot sport dport : ℕ) (payload : List ℕ) →
    orders_sum by_length (xs ++ order.Send slot sport dport payload ∷ []) ≡ orders_sum by_length xs + length payload
one_sent [] slot sport dport payload = omega arith
one_sent (order.Send s p d bytes ∷ xs) slot sport dport payload = let rest = one_sent xs slot sport dport payload in omega (arith, rest)
one_sent (order.Cancel s d ∷ xs) slot sport dport payload = one_sent xs slot sport dport payload
one_sent (order.CloseSocket s ∷ xs) slot sport dport payload = one_sent xs slot sport dport payload
one_sent (order.Cut ∷ xs) slot sport dport payload = one_sent xs slot sport dport payload

-- the bytes of an acceptance's payload
abbrev entry_bytes : Entry → ℕ
entry_bytes (Accept slot sport dport payload) = length payload
entry_bytes _ = 0

-- what was accepted was ordered, or is an empty pong
pub accepted_ordered : (past : List Entry) → IsLegal past → accepted_sum by_length past ≤ orders_sum by_length (orders past)
accepted_ordered [] legal = omega arith
accepted_ordered (Accept slot sport dport payload ∷ past) legal =
    let rest = accepted_ordered past legal.1 in
    either (slot == NO_SLOT) refl rest
  where
    empty : (p : Option ℕ) → MatchOption p (IsLawful past (Accept slot sport dport payload)) (λ port. IsPong past port (Accept slot sport dport payload)) →
        slot ≡ NO_SLOT → length payload ≡ 0
    empty None lawful is = absurd (lawful.socket is)
    empty (Some port) pong is = ap entry_bytes pong.is

    either : (b : Bool) → (slot == NO_SLOT) ≡ b → accepted_sum by_length past ≤ orders_sum by_length (orders past) →
        accepted_sum by_length past + length payload ≤ orders_sum by_length (cond b (orders past) (orders past ++ order.Send slot sport dport payload ∷ []))
    either true is rest = let none = empty (pong_to past) legal.0 (eqb-true slot NO_SLOT is) in omega (arith, rest, none)
    either false is rest = let more = one_sent (orders past) slot sport dport payload in omega (arith, rest, more)
accepted_ordered (Cancel slot target ∷ past) legal =
    let rest = accepted_ordered past legal.1 in
    let more = no_less (orders past) (cancellation slot target ∷ []) in
    omega (arith, rest, more)
accepted_ordered (Open stream ∷ past) legal = accepted_ordered past legal.1
accepted_ordered (Shut stream ∷ past) legal = accepted_ordered past legal.1
accepted_ordered (Bad stream header cause ∷ past) legal = accepted_ordered past legal.1
accepted_ordered (Pull stream frame ∷ past) legal = accepted_ordered past legal.1
accepted_ordered (Read stream frame outcome ∷ past) legal = accepted_ordered past legal.1
