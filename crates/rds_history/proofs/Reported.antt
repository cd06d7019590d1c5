-- What the report says was received for a port pair was sent under rising numbers.
use Rattle.std.proofs.Common.{◌≡◌, ◌≢◌, ℕ, zero, suc, ◌+◌, ◌<◌, ◌≤◌, ◌==◌, ◌&&◌, Bool, true, false, Option, Some, List, [], ◌∷◌, ◌++◌, length, take, drop, map, refl, sym, ◌∙◌, ap, subst, arith, ⊎_elim, append_assoc}
use Rattle.std.proofs.Math.Seq.{take-append_seam}
use Rattle.std.proofs.lemmas.Bool.{cases_eq, cond-true, cond-false, eq-eqb}
use Rattle.std.proofs.lemmas.List.{append-nil, map-append, take-append-drop, take-map}
use Rattle.std.proofs.lemmas.List.Elements.{All-nil, All-cons, All-head, All-tail, All-append, All-take, All-weaker, All-contains_itself, filter-append, filter_agree}
use Rattle.std.proofs.lemmas.List.Folds.{flat_map-map}
use Rattle.std.proofs.lemmas.List.Kept.{AllPairs-cons, AllPairs-from_increasing}
use Rattle.std.specs.List.{All, AllPairs, Contains, filter, flat_map}
use Rattle.std.specs.List.Sorted.{IsStrictlyIncreasing}
use Rattle.rds_model.specs.declared.order.Datagram.{Datagram}
use Rattle.rds_model.specs.Pairs.{delivered, delivered_to}
use Rattle.rds_text.specs.Ports.{below}
use Rattle.rds_text.specs.FinalState.{FinalSocket, FinalHost, sockets_of}
use Rattle.rds_text.specs.Hosts.{address_of}
use Rattle.rds_text.specs.Report.{of_group, received}
use Rattle.rds_history.specs.Events.{Event}
use Rattle.rds_history.specs.History.{final_host, final_hosts, socket, sockets}
use Rattle.rds_history.specs.Journals.{journal}
use Rattle.rds_history.specs.Sockets.{handed_out, next_slot, queue}
use Rattle.rds_history.specs.Sound.{IsHandedOut, IsReportedInOrder, delivered_by_slot, is_of_ports, of_ports, port_pair, sent}
use Rattle.rds_history.proofs.HandedOut.{address_apart}
use Rattle.rds_history.proofs.SlotOrder.{slots_more}

-- each number is below all later ones
abbrev Rises : List ℕ → Type 0
Rises [] = Unit {0}
Rises (x ∷ xs) = All (λ y. x < y) xs × Rises xs

rises_from : (xs : List ℕ) → AllPairs (λ x y. x < y) xs → Rises xs
rises_from [] pairs = tt
rises_from (x ∷ xs) pairs = (
  λ k d within. pairs zero (suc k) d (omega arith) (omega arith),
  rises_from xs (λ i j d lower within. pairs (suc i) (suc j) d (omega arith) (omega arith)),
)

pairs_from : (xs : List ℕ) → Rises xs → AllPairs (λ x y. x < y) xs
pairs_from [] rises = λ i j d lower within. absurd (omega arith)
pairs_from (x ∷ xs) rises = AllPairs-cons (λ x y. x < y) x xs rises.0 (pairs_from xs rises.1)

all_parts : (P : ℕ → Type 0) (xs ys : List ℕ) → All P (xs ++ ys) → All P xs × All P ys
all_parts P [] ys all = (All-nil P, all)
all_parts P (x ∷ xs) ys all =
    let rest = all_parts P xs ys (All-tail P x (xs ++ ys) all) in
    (All-cons P x xs (All-head P x (xs ++ ys) all) rest.0, rest.1)

-- each number is below all of these
abbrev AreBelow : (ys xs : List ℕ) → Type 0
AreBelow ys xs = All (λ x. All (λ y. x < y) ys) xs

rises_parts : (xs ys : List ℕ) → Rises (xs ++ ys) → Rises xs × Rises ys × AreBelow ys xs
rises_parts [] ys rises = (tt, rises, All-nil (λ x. All (λ y. x < y) ys))
rises_parts (x ∷ xs) ys rises =
    let here = all_parts (λ y. x < y) xs ys rises.0 in
    let rest = rises_parts xs ys rises.1 in
    ((here.0, rest.0), rest.1, All-cons (λ x. All (λ y. x < y) ys) x xs here.1 rest.2)

rises_joined : (xs ys : List ℕ) → Rises xs → Rises ys → AreBelow ys xs → Rises (xs ++ ys)
rises_joined [] ys low high apart = high
rises_joined (x ∷ xs) ys low high apart = (
  All-append (λ y. x < y) xs ys low.0 (All-head (λ x. All (λ y. x < y) ys) x xs apart),
  rises_joined xs ys low.1 high (All-tail (λ x. All (λ y. x < y) ys) x xs apart),
)

-- of the numbers at each slot the first ones
module _ (all : ℕ → List ℕ) (count : ℕ → ℕ) where
  abbrev first : ℕ → List ℕ
  first slot = take (count slot) (all slot)

  all_first : (P : ℕ → Type 0) (n : ℕ) → All P (flat_map all (below n)) → All P (flat_map first (below n))
  all_first P zero each = each
  all_first P (suc n) each =
      let parts = all_parts P (flat_map all (below n)) (all n) (subst (All P) (slots_more all n) each) in
      subst (All P) (sym (slots_more first n))
      (All-append P (flat_map first (below n)) (first n) (all_first P n parts.0) (All-take P (count n) (all n) parts.1))

  rises_first : (n : ℕ) → Rises (flat_map all (below n)) → Rises (flat_map first (below n))
  rises_first zero rises = rises
  rises_first (suc n) rises =
      let parts = rises_parts (flat_map all (below n)) (all n) (subst Rises (slots_more all n) rises) in
      let here = rises_parts (first n) (drop (count n) (all n)) (subst Rises (sym (take-append-drop (count n) (all n))) parts.1) in
      subst Rises (sym (slots_more first n))
      (rises_joined (flat_map first (below n)) (first n) (rises_first n parts.0) here.0
      (All-weaker (λ x. All (λ y. x < y) (all n)) (λ x. All (λ y. x < y) (first n)) (λ x under. All-take (λ y. x < y) (count n) (all n) under)
      (flat_map first (below n)) (all_first (λ x. All (λ y. x < y) (all n)) n parts.2)))

-- what is shown at a slot, behind which more waits
shown_first : (send : ℕ → Option Datagram) (shown waiting : List Datagram) (numbers : List ℕ) →
    map (λ (d : Datagram). Some d) (shown ++ waiting) ≡ map send numbers → map (λ (d : Datagram). Some d) shown ≡ map send (take (length shown) numbers)
shown_first send shown waiting numbers same =
    ap (map (λ (d : Datagram). Some d)) (sym (take-append_seam shown waiting))
    ∙ sym (take-map (λ (d : Datagram). Some d) (length shown) (shown ++ waiting))
    ∙ ap (take (length shown)) same
    ∙ take-map send (length shown) numbers

shown_by_slot : (send : ℕ → Option Datagram) (shown : ℕ → List Datagram) (numbers : ℕ → List ℕ) →
    ((slot : ℕ) → map (λ (d : Datagram). Some d) (shown slot) ≡ map send (numbers slot)) →
    (n : ℕ) → map (λ (d : Datagram). Some d) (flat_map shown (below n)) ≡ map send (flat_map numbers (below n))
shown_by_slot send shown numbers same zero = refl
shown_by_slot send shown numbers same (suc n) =
    ap (map (λ (d : Datagram). Some d)) (slots_more shown n)
    ∙ map-append (λ (d : Datagram). Some d) (flat_map shown (below n)) (shown n)
    ∙ (λ i. shown_by_slot send shown numbers same n i ++ same n i)
    ∙ sym (map-append send (flat_map numbers (below n)) (numbers n))
    ∙ sym (ap (map send) (slots_more numbers n))

filter_by_slot : (test : Datagram → Bool) (at : ℕ → List Datagram) (n : ℕ) → filter test (flat_map at (below n)) ≡ flat_map (λ slot. filter test (at slot)) (below n)
filter_by_slot test at zero = refl
filter_by_slot test at (suc n) =
    ap (filter test) (slots_more at n)
    ∙ filter-append test (flat_map at (below n)) (at n)
    ∙ ap (λ (l : List Datagram). l ++ filter test (at n)) (filter_by_slot test at n)
    ∙ sym (slots_more (λ slot. filter test (at slot)) n)

-- the sockets of host k among all hosts
module _ (hosts k : ℕ) (past : List Event) where
  abbrev one : ℕ → FinalHost
  one h = final_host hosts h past

  one_more : (m : ℕ) (rest : List FinalHost) → map one (below (suc m)) ++ rest ≡ map one (below m) ++ (one m ∷ rest)
  one_more m rest = ap (λ (l : List FinalHost). l ++ rest) (map-append one (below m) (m ∷ [])) ∙ append_assoc (map one (below m)) (one m ∷ []) rest

  skipped : (m : ℕ) (rest : List FinalHost) → m ≤ k → sockets_of (address_of k) (map one (below m) ++ rest) ≡ sockets_of (address_of k) rest
  skipped zero rest low = refl
  skipped (suc m) rest low =
      ap (sockets_of (address_of k)) (one_more m rest)
      ∙ skipped m (one m ∷ rest) (omega arith)
      ∙ cond-false (address_of m == address_of k) (sockets m past) (sockets_of (address_of k) rest) (address_apart m k (λ same. omega arith))

  found : (m : ℕ) (rest : List FinalHost) → k < m → sockets_of (address_of k) (map one (below m) ++ rest) ≡ sockets k past
  found zero rest low = absurd (omega arith)
  found (suc m) rest low =
      ap (sockets_of (address_of k)) (one_more m rest)
      ∙ ⊎_elim
      (λ (same : k ≡ m).
      skipped m (one m ∷ rest) (omega arith)
      ∙ cond-true (address_of m == address_of k) (sockets m past) (sockets_of (address_of k) rest) (eq-eqb (address_of m) (address_of k) (ap address_of (sym same)))
      ∙ ap (λ (i : ℕ). sockets i past) (sym same))
      (λ (apart : k ≢ m). found m (one m ∷ rest) (omega arith))
      (cases_eq k m)

  -- what they handed out
  got : k < hosts → flat_map (λ (s : FinalSocket). s.got) (sockets_of (address_of k) (final_hosts hosts past)) ≡ flat_map (λ slot. handed_out k slot past) (below (next_slot k past))
  got known =
      ap (λ (all : List FinalHost). flat_map (λ (s : FinalSocket). s.got) (sockets_of (address_of k) all)) (sym (append-nil (final_hosts hosts past)))
      ∙ ap (flat_map (λ (s : FinalSocket). s.got)) (found hosts [] known)
      ∙ flat_map-map (λ (s : FinalSocket). s.got) (socket k past) (below (next_slot k past))

and_regrouped : (x y z : Bool) → ((x && y) && z) ≡ (x && (y && z))
and_regrouped true y z = refl
and_regrouped false y z = refl

-- what the report says was received, by slot
received_by_slot : (hosts h sport k dport : ℕ) (past : List Event) → k < hosts →
    received (final_hosts hosts past) (port_pair h sport k dport) ≡ flat_map (λ slot. of_ports h sport dport (handed_out k slot past)) (below (next_slot k past))
received_by_slot hosts h sport k dport past known =
    ap (of_group (port_pair h sport k dport)) (got hosts k past known)
    ∙ filter_agree (λ (d : Datagram). (d.from == address_of h && (d.sport == sport)) && (d.dport == dport)) (is_of_ports h sport dport)
    (λ d. and_regrouped (d.from == address_of h) (d.sport == sport) (d.dport == dport)) (flat_map (λ slot. handed_out k slot past) (below (next_slot k past)))
    ∙ filter_by_slot (is_of_ports h sport dport) (λ slot. handed_out k slot past) (next_slot k past)

pub reported_in_order : (hosts h sport k dport : ℕ) (past : List Event) → k < hosts → delivered_by_slot h sport k dport past ≡ delivered sport dport (journal k h past) →
    IsStrictlyIncreasing (delivered sport dport (journal k h past)) → ((slot : ℕ) → IsHandedOut h sport k dport slot past) →
    IsReportedInOrder hosts h sport k dport past
reported_in_order hosts h sport k dport past known by_slot rise each =
    let shown : ℕ → List Datagram = λ slot. of_ports h sport dport (handed_out k slot past) in
    let all : ℕ → List ℕ = λ slot. delivered_to slot sport dport (journal k h past) in
    let count : ℕ → ℕ = λ slot. length (shown slot) in
    let numbers : List ℕ = flat_map (first all count) (below (next_slot k past)) in
    let came : List ℕ = delivered sport dport (journal k h past) in
    let rises : Rises numbers =
    rises_first all count (next_slot k past) (subst Rises (sym by_slot) (rises_from came (AllPairs-from_increasing came rise))) in
    record {
      numbers = numbers;
      rise = λ place within. pairs_from numbers rises place (place + 1) 0 (omega arith) within;
      came = all_first all count (Contains came) (next_slot k past) (subst (All (Contains came)) (sym by_slot) (All-contains_itself came));
      printed =
          ap (map (λ (d : Datagram). Some d)) (received_by_slot hosts h sport k dport past known)
          ∙ shown_by_slot (sent h k past) shown (first all count)
          (λ slot. shown_first (sent h k past) (shown slot) (of_ports h sport dport (queue k slot past)) (all slot)
          (ap (map (λ (d : Datagram). Some d)) (sym (filter-append (is_of_ports h sport dport) (handed_out k slot past) (queue k slot past))) ∙ each slot))
          (next_slot k past);
    }
