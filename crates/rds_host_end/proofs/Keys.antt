-- Orders by their slot, and datagrams by their sender.
use Rattle.std.proofs.Common.{◌≡◌, ◌≢◌, ℕ, zero, suc, ◌<◌, ◌≤◌, Bool, true, false, cond, List, [], ◌∷◌, ◌++◌, All, Some, slice_get, refl, ap, subst, ◌∙◌, arith}
use Rattle.std.proofs.lemmas.Bool.{cond-false, cond-true, eq-eqb, ne_eqb}
use Rattle.std.proofs.lemmas.List.Elements.{All-head, All-nil, All-push, All-tail}
use Rattle.std.proofs.lemmas.Option.{none-some, same_Some}
use Rattle.rds_model.specs.declared.entry.Entry.{Entry}
use Rattle.rds_model.specs.declared.entry.Entry.TheVariants.{Accept, Bad, Cancel, Open, Pull, Read, Shut}
use Rattle.rds_model.specs.declared.order.Datagram.{Datagram}
use Rattle.rds_model.specs.declared.order.Order.{Order}
use Rattle.rds_model.specs.declared.order.Order.TheVariants as order
use Rattle.rds_model.specs.Deliveries.{datagram_from, delivered_datagrams}
use Rattle.rds_model.specs.Pairs.{is_delivery_to}
use Rattle.rds_mail.specs.Merging.{by_key, is_key}
use Rattle.rds_socket_parts.specs.Lanes.{Ascend, IsOf}
use Rattle.rds_host_end.specs.Joins.{IsFrom, sender_in, slot_of_order}
use Rattle.rds_line.specs.Keeps.{uncut}

with_key : (slot : ℕ) (o : Order) (xs ys : List Order) → xs ≡ ys → cond (is_key (slot_of_order o) slot) (o ∷ xs) xs ≡ cond (is_key (slot_of_order o) slot) (o ∷ ys) ys
with_key slot o xs ys same = ap (λ (l : List Order). cond (is_key (slot_of_order o) slot) (o ∷ l) l) same

-- cuts have no slot
pub key_uncut : (slot : ℕ) (list : List Order) → by_key slot_of_order slot (uncut list) ≡ by_key slot_of_order slot list
key_uncut slot [] = refl
key_uncut slot (order.Cut ∷ list) = key_uncut slot list
key_uncut slot (order.Send s sport dport payload ∷ list) =
    with_key slot (order.Send s sport dport payload) (by_key slot_of_order slot (uncut list)) (by_key slot_of_order slot list) (key_uncut slot list)
key_uncut slot (order.Cancel s dport ∷ list) =
    with_key slot (order.Cancel s dport) (by_key slot_of_order slot (uncut list)) (by_key slot_of_order slot list) (key_uncut slot list)
key_uncut slot (order.CloseSocket s ∷ list) =
    with_key slot (order.CloseSocket s) (by_key slot_of_order slot (uncut list)) (by_key slot_of_order slot list) (key_uncut slot list)

own_first : (slot s : ℕ) (o : Order) (xs ys : List Order) → s ≡ slot → slot_of_order o ≡ Some s → xs ≡ ys → cond (is_key (slot_of_order o) slot) (o ∷ xs) xs ≡ o ∷ ys
own_first slot s o xs ys own has same =
    cond-true (is_key (slot_of_order o) slot) (o ∷ xs) xs (ap (λ k. is_key k slot) has ∙ eq-eqb s slot own) ∙ ap (λ (l : List Order). o ∷ l) same

-- all orders of one slot and cuts
pub key_own : (slot : ℕ) (list : List Order) → All (IsOf slot) list → by_key slot_of_order slot list ≡ uncut list
key_own slot [] all = refl
key_own slot (order.Cut ∷ list) all = key_own slot list (All-tail (IsOf slot) order.Cut list all)
key_own slot (order.Send s sport dport payload ∷ list) all =
    let o = order.Send s sport dport payload in
    own_first slot s o (by_key slot_of_order slot list) (uncut list) (All-head (IsOf slot) o list all) refl (key_own slot list (All-tail (IsOf slot) o list all))
key_own slot (order.Cancel s dport ∷ list) all =
    let o = order.Cancel s dport in
    own_first slot s o (by_key slot_of_order slot list) (uncut list) (All-head (IsOf slot) o list all) refl (key_own slot list (All-tail (IsOf slot) o list all))
key_own slot (order.CloseSocket s ∷ list) all =
    let o = order.CloseSocket s in
    own_first slot s o (by_key slot_of_order slot list) (uncut list) (All-head (IsOf slot) o list all) refl (key_own slot list (All-tail (IsOf slot) o list all))

other_first : (slot s : ℕ) (o : Order) (xs : List Order) → s ≢ slot → slot_of_order o ≡ Some s → cond (is_key (slot_of_order o) slot) (o ∷ xs) xs ≡ xs
other_first slot s o xs other has = cond-false (is_key (slot_of_order o) slot) (o ∷ xs) xs (ap (λ k. is_key k slot) has ∙ ne_eqb s slot other)

-- no order of a slot is among cuts and orders of slots below it
pub key_none : (count slot : ℕ) (list : List Order) → count ≤ slot →
    ((k : ℕ) (o : Order) → slice_get list k ≡ Some o → (i : ℕ) × (i < count) × IsOf i o) → by_key slot_of_order slot list ≡ []
key_none count slot [] few each = refl
key_none count slot (order.Cut ∷ list) few each = key_none count slot list few (λ k o at. each (suc k) o at)
key_none count slot (order.Send s sport dport payload ∷ list) few each =
    let o = order.Send s sport dport payload in
    let first = each 0 o refl in
    other_first slot s o (by_key slot_of_order slot list) (λ same. let less = first.1 in let is = first.2 in absurd (omega (arith, few, less, is, same))) refl
    ∙ key_none count slot list few (λ k x at. each (suc k) x at)
key_none count slot (order.Cancel s dport ∷ list) few each =
    let o = order.Cancel s dport in
    let first = each 0 o refl in
    other_first slot s o (by_key slot_of_order slot list) (λ same. let less = first.1 in let is = first.2 in absurd (omega (arith, few, less, is, same))) refl
    ∙ key_none count slot list few (λ k x at. each (suc k) x at)
key_none count slot (order.CloseSocket s ∷ list) few each =
    let o = order.CloseSocket s in
    let first = each 0 o refl in
    other_first slot s o (by_key slot_of_order slot list) (λ same. let less = first.1 in let is = first.2 in absurd (omega (arith, few, less, is, same))) refl
    ∙ key_none count slot list few (λ k x at. each (suc k) x at)

-- all datagrams of one host
pub key_from : (host : ℕ) (list : List Datagram) → All (IsFrom host) list → by_key sender_in host list ≡ list
key_from host [] all = refl
key_from host (d ∷ list) all =
    cond-true (is_key (sender_in d) host) (d ∷ by_key sender_in host list) (by_key sender_in host list) (eq-eqb d.from host (All-head (IsFrom host) d list all))
    ∙ ap (λ (l : List Datagram). d ∷ l) (key_from host list (All-tail (IsFrom host) d list all))

-- what a journal delivered is of its peer
pub delivered_from : (host slot : ℕ) (past : List Entry) → All (IsFrom host) (delivered_datagrams host slot past)
delivered_from host slot [] = All-nil (IsFrom host)
delivered_from host slot (Accept from sport dport payload ∷ past) = delivered_from host slot past
delivered_from host slot (Cancel from target ∷ past) = delivered_from host slot past
delivered_from host slot (Open stream ∷ past) = delivered_from host slot past
delivered_from host slot (Pull stream frame ∷ past) = delivered_from host slot past
delivered_from host slot (Shut stream ∷ past) = delivered_from host slot past
delivered_from host slot (Bad stream header cause ∷ past) = delivered_from host slot past
delivered_from host slot (Read stream frame outcome ∷ past) =
    one_or_none (is_delivery_to slot outcome) (delivered_datagrams host slot past) (datagram_from host frame) (delivered_from host slot past) refl
  where
    one_or_none : (b : Bool) (list : List Datagram) (d : Datagram) → All (IsFrom host) list → IsFrom host d → All (IsFrom host) (cond b (list ++ d ∷ []) list)
    one_or_none true list d all is = All-push (IsFrom host) list d all is
    one_or_none false list d all is = all

-- addresses that ascend stand at one place each
above : (hosts : List ℕ) (i host : ℕ) (first : ℕ) → All (λ later. first < later) hosts → slice_get hosts i ≡ Some host → first < host
above [] i host first all at = absurd (none-some host at)
above (h ∷ hosts) zero host first all at = subst (λ (n : ℕ). first < n) (same_Some h host at) (All-head (λ later. first < later) h hosts all)
above (h ∷ hosts) (suc i) host first all at = above hosts i host first (All-tail (λ later. first < later) h hosts all) at

pub one_place : (hosts : List ℕ) → Ascend hosts → (i j host : ℕ) → slice_get hosts i ≡ Some host → slice_get hosts j ≡ Some host → i ≡ j
one_place [] ascend i j host at at' = absurd (none-some host at)
one_place (h ∷ hosts) ascend zero zero host at at' = refl
one_place (h ∷ hosts) ascend zero (suc j) host at at' = absurd (let more = above hosts j host h ascend.0 at' in let is = same_Some h host at in omega arith)
one_place (h ∷ hosts) ascend (suc i) zero host at at' = absurd (let more = above hosts i host h ascend.0 at in let is = same_Some h host at' in omega arith)
one_place (h ∷ hosts) ascend (suc i) (suc j) host at at' = ap suc (one_place hosts ascend.1 i j host at at')
