-- The hosts of a script: the peers of one, and the pairs.
use Rattle.std.proofs.Common.{◌≡◌, ◌≢◌, ℕ, zero, suc, ◌<◌, ◌==◌, not, true, List, [], ◌∷◌, map, sym, arith}
use Rattle.std.specs.Prelude.{nat_lt, All, filter}
use Rattle.std.specs.List.{flat_map}
use Rattle.std.proofs.lemmas.Bool.{ltb-true, not-true, eq-eqb, both_ways as never_both}
use Rattle.std.proofs.lemmas.List.Elements.{All-head, All-tail, All-nil, All-append, All-filter, All-map, All-push, All-weaker, filter_passes}
use Rattle.rds_text.specs.Ports.{below}
use Rattle.rds_history.specs.Events.{Event}
use Rattle.rds_history.specs.Courses.{Course, each}
use Rattle.rds_history.specs.Journals.{peers}
use Rattle.rds_history.specs.Drain.{HostPair, pairs}
use Rattle.rds_history.proofs.EventInvariants.{Holds, holds_then}
use Rattle.rds_history.proofs.PastEnds.{AreTwo}

-- acts on each of some things that have a property
pub holds_each_where : {X : Type 0} (P : List Event → Type 0) (ok : X → Type 0) (xs : List X) (act : X → List Event → Course) (past : List Event) → P past →
    All ok xs → ((x : X) → ok x → (before : List Event) → P before → Holds P (act x before)) → Holds P (each xs act past)
holds_each_where P ok [] act past here all step = here
holds_each_where P ok (x ∷ xs) act past here all step =
    holds_then P P (act x past) (each xs act) (step x (All-head ok x xs all) past here)
    (λ later there. holds_each_where P ok xs act later there (All-tail ok x xs all) step)

-- the hosts below a number
below_all : (n : ℕ) → All (λ k. k < n) (below n)
below_all zero = All-nil (λ k. k < 0)
below_all (suc n) =
    All-push (λ k. k < suc n) (below n) n (All-weaker (λ k. k < n) (λ k. k < suc n) (λ k less. omega (arith, less)) (below n) (below_all n)) (omega arith)

-- a peer of a host is another host
abbrev pub IsPeer : (hosts h k : ℕ) → Type 0
IsPeer hosts h k = (k < hosts) × (h ≢ k)

both_all : {X : Type 0} (P Q : X → Type 0) (xs : List X) → All P xs → All Q xs → All (λ x. P x × Q x) xs
both_all P Q xs p q = λ i d within. (p i d within, q i d within)

pub peers_are : (hosts h : ℕ) → All (IsPeer hosts h) (peers hosts h)
peers_are hosts h =
    both_all (λ k. k < hosts) (λ k. h ≢ k) (peers hosts h) (All-filter (λ k. not (k == h)) (λ k. k < hosts) (below hosts) (below_all hosts))
    (All-weaker (λ k. not (k == h) ≡ true) (λ k. h ≢ k)
    (λ k is same. never_both (k == h) (not-true (k == h) is) (eq-eqb k h (sym same)))
    (peers hosts h) (filter_passes (λ k. not (k == h)) (below hosts)))

-- a pair is of two hosts
abbrev pub IsOfTwo : ℕ → HostPair → Type 0
IsOfTwo hosts p = AreTwo hosts p.low p.high

pairs_of : (hosts low : ℕ) → low < hosts → All (IsOfTwo hosts) (map (λ high. record { low = low; high = high }) (filter (nat_lt low) (below hosts)))
pairs_of hosts low known =
    All-map (IsOfTwo hosts) (λ high. record { low = low; high = high }) (filter (nat_lt low) (below hosts))
    (All-weaker (λ high. (high < hosts) × (nat_lt low high ≡ true)) (λ high. AreTwo hosts low high)
    (λ high is. record { first = known; second = is.0; apart = λ same. omega (arith, ltb-true low high is.1, same) })
    (filter (nat_lt low) (below hosts))
    (both_all (λ high. high < hosts) (λ high. nat_lt low high ≡ true) (filter (nat_lt low) (below hosts))
    (All-filter (nat_lt low) (λ k. k < hosts) (below hosts) (below_all hosts)) (filter_passes (nat_lt low) (below hosts))))

pairs_from : (hosts : ℕ) (lows : List ℕ) → All (λ low. low < hosts) lows →
    All (IsOfTwo hosts) (flat_map (λ low. map (λ high. record { low = low; high = high }) (filter (nat_lt low) (below hosts))) lows)
pairs_from hosts [] known = All-nil (IsOfTwo hosts)
pairs_from hosts (low ∷ lows) known =
    All-append (IsOfTwo hosts) _ _ (pairs_of hosts low (All-head (λ low. low < hosts) low lows known))
    (pairs_from hosts lows (All-tail (λ low. low < hosts) low lows known))

pub pairs_are_two : (hosts : ℕ) → All (IsOfTwo hosts) (pairs hosts)
pairs_are_two hosts = pairs_from hosts (below hosts) (below_all hosts)
