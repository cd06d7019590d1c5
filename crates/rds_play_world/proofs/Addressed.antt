-- What the hosts hand out in the end is what a report takes: each address is one host's.
use Rattle.std.proofs.Common.{◌≡◌, ◌≢◌, ℕ, zero, suc, ◌<◌, ◌≤◌, ◌==◌, Bool, true, false, cond, not, List, [], ◌∷◌, ◌++◌, map, refl, sym, ap, subst, arith}
use Rattle.std.specs.List.{All, AllPairs, filter}
use Rattle.std.proofs.lemmas.List.{map-append}
use Rattle.std.proofs.lemmas.List.Elements.{All-nil, All-cons, All-append, All-map, All-filter, All-get_or, filter-append}
use Rattle.std.proofs.lemmas.List.Quantifiers.{all_pairs_push}
use Rattle.rds_text.specs.Ports.{below}
use Rattle.rds_text.specs.FinalState.{FinalJournal, FinalHost}
use Rattle.rds_history.specs.Events.{Event}
use Rattle.rds_history.specs.History.{final_hosts, final_host}
use Rattle.rds_text.specs.Hosts.{address_of, IsAddress}
use Rattle.rds_history.specs.Journals.{journal}
use Rattle.rds_text.specs.FinalViews.{AreFinalHosts, AreSides}

below_less : (n m : ℕ) → n ≤ m → All (λ k. k < m) (below n)
below_less zero m few = All-nil (λ k. k < m)
below_less (suc n) m few =
    All-append (λ k. k < m) (below n) (n ∷ []) (below_less n m (omega arith)) (All-cons (λ k. k < m) n [] (omega arith) (All-nil (λ k. k < m)))

-- the numbers below n that pass a test, seen as something of which two are apart
pairs_apart : {Y : Type 0} (R : Y → Y → Type 0) (f : ℕ → Y) (p : ℕ → Bool) → ((a b : ℕ) → a < b → R (f a) (f b)) → (n : ℕ) →
    AllPairs R (map f (filter p (below n)))
pairs_apart R f p apart zero = λ i j d i_in j_in. absurd (omega arith)
pairs_apart {Y} R f p apart (suc n) =
    subst (AllPairs R) (sym (ap (map f) (filter-append p (below n) (n ∷ [])))) (go (p n) (pairs_apart R f p apart n))
  where
    front : List ℕ
    front = filter p (below n)

    append_nil : {X : Type 0} (xs : List X) → xs ++ [] ≡ xs
    append_nil [] = refl
    append_nil (x ∷ xs) = ap (λ l. x ∷ l) (append_nil xs)

    less : All (λ k. k < n) front
    less = All-filter p (λ k. k < n) (below n) (below_less n n (omega arith))

    later : (xs : List ℕ) → All (λ k. k < n) xs → All (λ y. R y (f n)) (map f xs)
    later xs all = All-map (λ y. R y (f n)) f xs (λ k d k_in. apart _ n (all k d k_in))

    go : (b : Bool) → AllPairs R (map f front) → AllPairs R (map f (front ++ cond b (n ∷ []) []))
    go true before =
        subst (AllPairs R) (sym (map-append f front (n ∷ [])))
        (all_pairs_push R (map f front) (f n) before
        (λ k d k_in. All-get_or (λ y. R y (f n)) (map f front) k d k_in (later front less)))
    go false before = subst (λ l. AllPairs R (map f l)) (sym (append_nil front)) before

all_apart : {Y : Type 0} (R : Y → Y → Type 0) (f : ℕ → Y) → ((a b : ℕ) → a < b → R (f a) (f b)) → (n : ℕ) → AllPairs R (map f (below n))
all_apart R f apart zero = λ i j d i_in j_in. absurd (omega arith)
all_apart R f apart (suc n) =
    subst (AllPairs R) (sym (map-append f (below n) (n ∷ [])))
    (all_pairs_push R (map f (below n)) (f n) (all_apart R f apart n)
    (λ k d k_in. All-get_or (λ y. R y (f n)) (map f (below n)) k d k_in
    (All-map (λ y. R y (f n)) f (below n) (λ i e i_in. apart _ n (below_less n n (omega arith) i e i_in)))))

is_address : (h : ℕ) → h < 8 → IsAddress (address_of h)
is_address h h_in = record { least = omega arith; most = omega arith }

are_sides : (hosts h : ℕ) (past : List Event) → hosts ≤ 8 → AreSides (final_host hosts h past).sides
are_sides hosts h past few = record {
  once = pairs_apart (λ (a b : FinalJournal). a.peer ≢ b.peer) (λ k. record { peer = address_of k; past = journal h k past }) (λ k. not (k == h))
      (λ a b less e. omega arith) hosts;
  peers = All-map (λ (s : FinalJournal). IsAddress s.peer) (λ k. record { peer = address_of k; past = journal h k past }) (filter (λ k. not (k == h)) (below hosts))
      (λ i d i_in. is_address _ (All-filter (λ k. not (k == h)) (λ k. k < 8) (below hosts) (below_less hosts 8 few) i d i_in));
}

pub are_ends : (hosts : ℕ) (past : List Event) → hosts ≤ 8 → AreFinalHosts (final_hosts hosts past)
are_ends hosts past few = record {
  once = all_apart (λ (a b : FinalHost). a.addr ≢ b.addr) (λ h. final_host hosts h past) (λ a b less e. omega arith) hosts;
  addresses = All-map (λ (e : FinalHost). IsAddress e.addr) (λ h. final_host hosts h past) (below hosts) (λ i d i_in. is_address _ (below_less hosts 8 few i d i_in));
  sides = All-map (λ (e : FinalHost). AreSides e.sides) (λ h. final_host hosts h past) (below hosts) (λ i d i_in. are_sides hosts _ past few);
}
