-- All cuts of a script are between two of its hosts.
use Rattle.std.proofs.Common.{◌≡◌, ◌≢◌, ◌<◌, ◌≤◌, ◌+◌, ◌*◌, ◌==◌, ◌&&◌, ⊎_elim, ℕ, zero, suc, Bool, true, false, ◌⊎◌, inl, inr, List, [], ◌∷◌, filter, length, if◌then◌else◌, sum_by, refl, sym, ap, ◌∙◌, subst, arith}
use Rattle.std.specs.List.{All, range_with_len}
use Rattle.std.proofs.lemmas.Bool.{and_from, and_parts, cases_lt, eq-eqb, eqb-true, or_cases, or_left, or_right}
use Rattle.std.proofs.lemmas.List.Sums.{sum_by-cons}
use Rattle.rds_script.specs.Script.{IsCommand, cut_count, cut_total}
use Rattle.rds_script.specs.declared.script.Command.{Command}
use Rattle.rds_script.specs.declared.script.Command.TheVariants.{Bind, BindAny, Send, Recv, Cancel, Close, Open, Move, Cut, Drain}
use Rattle.rds_script.specs.declared.script.Placed.{Placed}
use Rattle.rds_run_hosts.specs.Cuts.{is_cut}
use Rattle.rds_run_hosts.specs.Streams.{is_cut_between, streams_below, streams_between}
use Rattle.rds_run_hosts.proofs.Cuts.{sum_below_more}

-- what the numbers below n add up to
abbrev below : (ℕ → ℕ) → ℕ → ℕ
below f n = sum_by f (range_with_len 0 n)

below_suc : (f : ℕ → ℕ) (n : ℕ) → below f (suc n) ≡ below f n + f n
below_suc f n = let next : suc n ≡ n + 1 = omega arith in ap (λ (k : ℕ). below f k) next ∙ sum_below_more f n

-- what is the same for each below n adds up to the same
same_below : (f g : ℕ → ℕ) (n : ℕ) → ((i : ℕ) → i < n → f i ≡ g i) → below f n ≡ below g n
same_below f g zero same = refl
same_below f g (suc n) same =
    let one = below_suc f n in
    let other = below_suc g n in
    let rest = same_below f g n (λ i lt. same i (omega (arith, lt))) in
    let here = same n (omega arith) in
    omega (arith, one, other, rest, here)

-- and what is one more for one of them adds up to one more
one_more_below : (f g : ℕ → ℕ) (n k : ℕ) → k < n → f k ≡ g k + 1 → ((i : ℕ) → i < n → i ≢ k → f i ≡ g i) → below f n ≡ below g n + 1
one_more_below f g zero k within more same = absurd (omega (arith, within))
one_more_below f g (suc n) k within more same =
    by_place (λ lower. one_more_below f g n k lower more (λ i lt ne. same i (omega (arith, lt)) ne)) (cases_lt k n)
  where
    one : below f (suc n) ≡ below f n + f n
    one = below_suc f n

    other : below g (suc n) ≡ below g n + g n
    other = below_suc g n

    by_place : ((k < n) → below f n ≡ below g n + 1) → (k < n) ⊎ (n ≤ k) → below f (suc n) ≡ below g (suc n) + 1
    by_place lesser (inl lower) =
        let a = one in
        let b = other in
        let rest = lesser lower in
        let here = same n (omega arith) (λ e. omega (arith, e, lower)) in
        omega (arith, a, b, rest, here)
    by_place lesser (inr upper) =
        let a = one in
        let b = other in
        let is : k ≡ n = omega (arith, upper, within) in
        let here = subst (λ (j : ℕ). f j ≡ g j + 1) is more in
        let rest = same_below f g n (λ i lt. same i (omega (arith, lt)) (λ e. omega (arith, e, is, lt))) in
        omega (arith, a, b, rest, here)

-- which two hosts a cut is between
is_between : (low high host to : ℕ) → is_cut_between low high (Cut host to) ≡ true → ((host ≡ low) × (to ≡ high)) ⊎ ((host ≡ high) × (to ≡ low))
is_between low high host to is = ⊎_elim
    (λ one. let both = and_parts (host == low) (to == high) one in inl (eqb-true host low both.0, eqb-true to high both.1))
    (λ other. let both = and_parts (host == high) (to == low) other in inr (eqb-true host high both.0, eqb-true to low both.1))
    (or_cases (host == low && (to == high)) (host == high && (to == low)) is)

-- one command more
abbrev with_one : (low high : ℕ) → Command → Placed → List Placed → ℕ
with_one low high command p commands =
    length (if is_cut_between low high command then p ∷ filter (λ (placed : Placed). is_cut_between low high placed.command) commands
    else filter (λ (placed : Placed). is_cut_between low high placed.command) commands) + 3

counted_here : (chosen : Bool) (p : Placed) (rest : List Placed) → chosen ≡ true → length (if chosen then p ∷ rest else rest) + 3 ≡ length rest + 3 + 1
counted_here true p rest is = omega arith
counted_here false p rest is = absurd (cc)

not_here : (chosen : Bool) (p : Placed) (rest : List Placed) → (chosen ≡ true → ⊥) → length (if chosen then p ∷ rest else rest) + 3 ≡ length rest + 3
not_here true p rest none = absurd (none refl)
not_here false p rest none = refl

-- a cut between two of the hosts is counted once
one_cut : (hosts low high : ℕ) (command : Command) (p : Placed) (commands : List Placed) → low < high → high < hosts → is_cut_between low high command ≡ true →
    ((l h : ℕ) → l < h → is_cut_between l h command ≡ true → (l ≡ low) × (h ≡ high)) →
    below (λ h. below (λ l. with_one l h command p commands) h) hosts ≡ below (λ h. streams_below h commands) hosts + 1
one_cut hosts low high command p commands order within here only =
    one_more_below (λ h. below (λ l. with_one l h command p commands) h) (λ h. streams_below h commands) hosts high within
    (one_more_below (λ l. with_one l high command p commands) (λ l. streams_between l high commands) high low order
    (counted_here (is_cut_between low high command) p (filter (λ (placed : Placed). is_cut_between low high placed.command) commands) here)
    (λ l lt ne. not_here (is_cut_between l high command) p (filter (λ (placed : Placed). is_cut_between l high placed.command) commands)
    (λ is. ne (only l high lt is).0)))
    (λ h lt ne. same_below (λ l. with_one l h command p commands) (λ l. streams_between l h commands) h
    (λ l less. not_here (is_cut_between l h command) p (filter (λ (placed : Placed). is_cut_between l h placed.command) commands)
    (λ is. ne (only l h less is).1)))

-- a command of a script is counted once if it is a cut
one_command : (hosts : ℕ) (command : Command) (p : Placed) (commands : List Placed) → IsCommand hosts command →
    below (λ h. below (λ l. with_one l h command p commands) h) hosts ≡ below (λ h. streams_below h commands) hosts + cut_count command
one_command hosts (Bind host port sndbuf rcvbuf) p commands known = omega arith
one_command hosts (BindAny host port sndbuf rcvbuf) p commands known = omega arith
one_command hosts (Send host port to dport payload) p commands known = omega arith
one_command hosts (Recv host port) p commands known = omega arith
one_command hosts (Cancel host port to dport) p commands known = omega arith
one_command hosts (Close host port) p commands known = omega arith
one_command hosts (Open host to) p commands known = omega arith
one_command hosts (Move host to bytes) p commands known = omega arith
one_command hosts (Cut host to) p commands known = by_order (cases_lt host to)
  where
    by_order : (host < to) ⊎ (to ≤ host) →
        below (λ h. below (λ l. with_one l h (Cut host to) p commands) h) hosts ≡ below (λ h. streams_below h commands) hosts + 1
    by_order (inl lower) =
        one_cut hosts host to (Cut host to) p commands lower known.second
        (or_left (host == host && (to == to)) (host == to && (to == host)) (and_from (host == host) (to == to) (eq-eqb host host refl) (eq-eqb to to refl)))
        (λ l h lt is. ⊎_elim (λ one. (sym one.0, sym one.1)) (λ other. absurd (omega (arith, other.0, other.1, lt, lower))) (is_between l h host to is))
    by_order (inr upper) =
        let apart = known.apart in
        let lower : to < host = omega (arith, upper, apart) in
        one_cut hosts to host (Cut host to) p commands lower known.first
        (or_right (host == to && (to == host)) (host == host && (to == to)) (and_from (host == host) (to == to) (eq-eqb host host refl) (eq-eqb to to refl)))
        (λ l h lt is. ⊎_elim (λ one. absurd (omega (arith, one.0, one.1, lt, lower))) (λ other. (sym other.1, sym other.0)) (is_between l h host to is))
one_command hosts Drain p commands known = omega arith

-- all streams that are prepared: one for each cut, and those that are prepared where there is none
pub streams_in_all : (hosts : ℕ) (commands : List Placed) → All (λ p. IsCommand hosts p.command) commands →
    sum_by (λ host. streams_below host commands) (range_with_len 0 hosts) ≡ cut_total commands + sum_by (λ host. streams_below host []) (range_with_len 0 hosts)
streams_in_all hosts [] known = omega arith
streams_in_all hosts (p ∷ commands) known =
    let rest = streams_in_all hosts commands (λ k d within. known (suc k) d (omega (arith, within))) in
    let here = one_command hosts p.command p commands (known 0 p (omega arith)) in
    let total = sum_by-cons (λ (placed : Placed). cut_count placed.command) p commands in
    omega (arith, rest, here, total)

-- those of a host where there is no cut
pub three_each : (n host : ℕ) → sum_by (λ low. streams_between low host []) (range_with_len 0 n) ≡ n * 3
three_each zero host = refl
three_each (suc n) host =
    let more = below_suc (λ low. streams_between low host []) n in
    let rest = three_each n host in
    omega (arith, more, rest)

-- how many cuts there are
counted_once : (command : Command) (p : Placed) (rest : List Placed) → length (if is_cut command then p ∷ rest else rest) ≡ cut_count command + length rest
counted_once (Bind host port sndbuf rcvbuf) p rest = omega arith
counted_once (BindAny host port sndbuf rcvbuf) p rest = omega arith
counted_once (Send host port to dport payload) p rest = omega arith
counted_once (Recv host port) p rest = omega arith
counted_once (Cancel host port to dport) p rest = omega arith
counted_once (Close host port) p rest = omega arith
counted_once (Open host to) p rest = omega arith
counted_once (Move host to bytes) p rest = omega arith
counted_once (Cut host to) p rest = omega arith
counted_once Drain p rest = omega arith

pub cuts_in_all : (commands : List Placed) → length (filter (λ (placed : Placed). is_cut placed.command) commands) ≡ cut_total commands
cuts_in_all [] = refl
cuts_in_all (p ∷ commands) =
    let here = counted_once p.command p (filter (λ (placed : Placed). is_cut placed.command) commands) in
    let rest = cuts_in_all commands in
    let total = sum_by-cons (λ (placed : Placed). cut_count placed.command) p commands in
    omega (arith, here, rest, total)
