-- A generated script is calm.
use Rattle.std.proofs.Common.{◌≡◌, ◌≢◌, inl, inr, ℕ, zero, suc, ◌+◌, ◌*◌, ◌%◌, ◌<◌, ◌≤◌, ◌==◌, ◌&&◌, Bool, true, false, cond, All, List, [], ◌∷◌, ◌++◌, filter, length, refl, sym, ap, subst, ◌∙◌, arith}
use Rattle.std.specs.Prelude.{Contains, flat_map, map, sum_by}
use Rattle.std.specs.List.{AllByRecursion, enumerate_from, range_with_len}
use Rattle.std.proofs.lemmas.Bool.{cases_eq}
use Rattle.std.proofs.lemmas.List.Elements.{All-append, All-cons, All-from_recursion, All-head, All-nil, All-tail, Contains-append_left, Contains-append_right}
use Rattle.std.proofs.lemmas.List.FromFn.{length-map-range_with_len}
use Rattle.std.proofs.lemmas.List.Sums.{sum_by-cons}
use Rattle.rds_script.specs.declared.script.Command.{Command}
use Rattle.rds_script.specs.declared.script.Command.TheVariants as script
use Rattle.rds_script.specs.declared.script.Placed.{Placed}
use Rattle.rds_script.specs.Reading.{counting}
use Rattle.rds_script_gen.specs.Generator.{bind, binds, binds_of, generated, placed, receiver, sender, state_after, the_send, turn, turns}
use Rattle.rds_run_callers.specs.Commands.{binds as is_bind, commander}
use Rattle.rds_run_hosts.specs.Obeyed.{after_binds, is_bind_of, is_host, leading_binds}
use Rattle.rds_run_laws.specs.Calm.{BindsAmply, BindsPort, HasBind, IsCalm, IsCalmAfter}
use Rattle.rds_run_laws.specs.Sent.{sent_sum}
use Rattle.rds_run_laws.specs.Weights.{by_length}
use Rattle.rds_run_laws.proofs.Generated.{bytes_generated}

-- commands on lines that follow one another
abbrev lines : ℕ → List Command → List Placed
lines n commands = map placed (enumerate_from n commands)

all_lines : (P : Command → Type 0) (n : ℕ) (commands : List Command) → All P commands → All (λ (p : Placed). P p.command) (lines n commands)
all_lines P n [] all = All-nil (λ (p : Placed). P p.command)
all_lines P n (c ∷ commands) all =
    All-cons (λ (p : Placed). P p.command) (placed (n, c)) (lines (n + 1) commands) (All-head P c commands all) (all_lines P (n + 1) commands (All-tail P c commands all))

on_line : (n : ℕ) (commands : List Command) (c : Command) → Contains commands c → (p : Placed) × Contains (lines n commands) p × (p.command ≡ c)
on_line n [] c (k, within, is) = absurd (omega (arith, within))
on_line n (x ∷ commands) c (zero, within, is) = (placed (n, x), (0, omega arith, refl), is)
on_line n (x ∷ commands) c (suc k, within, is) =
    let rest = on_line (n + 1) commands c (k, omega (arith, within), is) in
    let inside = rest.1 in
    let less = inside.1 in
    (rest.0, (suc inside.0, omega (arith, less), inside.2), rest.2)

-- where binds come first and nothing binds behind them

abbrev AreBinds : List Command → Type 0
AreBinds [] = Unit {0}
AreBinds (c ∷ commands) = (is_bind c ≡ true) × AreBinds commands

abbrev AreOthers : List Command → Type 0
AreOthers [] = Unit {0}
AreOthers (c ∷ commands) = (is_bind c ≡ false) × AreOthers commands

none_lead : (n : ℕ) (others : List Command) → AreOthers others → (leading_binds (lines n others) ≡ []) × (after_binds (lines n others) ≡ lines n others)
none_lead n [] are = (refl, refl)
none_lead n (c ∷ others) are = (
  ap (λ (b : Bool). cond b (placed (n, c) ∷ leading_binds (lines (n + 1) others)) []) are.0,
  ap (λ (b : Bool). cond b (after_binds (lines (n + 1) others)) (placed (n, c) ∷ lines (n + 1) others)) are.0,
)

split : (n : ℕ) (first others : List Command) → AreBinds first → AreOthers others →
    (leading_binds (lines n (first ++ others)) ≡ lines n first) × ((k : ℕ) × (after_binds (lines n (first ++ others)) ≡ lines k others))
split n [] others are not = let none = none_lead n others not in (none.0, (n, none.1))
split n (c ∷ first) others are not =
    let rest = split (n + 1) first others are.1 not in (
      ap (λ (b : Bool). cond b (placed (n, c) ∷ leading_binds (lines (n + 1) (first ++ others))) []) are.0 ∙ ap (λ (l : List Placed). placed (n, c) ∷ l) rest.0,
      (rest.1.0, ap (λ (b : Bool). cond b (after_binds (lines (n + 1) (first ++ others))) (placed (n, c) ∷ lines (n + 1) (first ++ others))) are.0 ∙ rest.1.1),
    )

not_of : (host : ℕ) (n : ℕ) (c : Command) → is_bind c ≡ false → is_bind_of host (placed (n, c)) ≡ false
not_of host n c is = ap (λ (b : Bool). b && is_host host (commander c)) is

few_binds : (host n : ℕ) (first others : List Command) → AreOthers others → length (filter (is_bind_of host) (lines n (first ++ others))) ≤ length first
few_binds host n [] [] not = omega arith
few_binds host n [] (c ∷ others) not =
    let rest = few_binds host (n + 1) [] others not.1 in
    let list = filter (is_bind_of host) (lines (n + 1) others) in
    let none = ap (λ (b : Bool). length (cond b (placed (n, c) ∷ list) list)) (not_of host n c not.0) in
    omega (arith, rest, none)
few_binds host n (c ∷ first) others not = go (is_bind_of host (placed (n, c))) (few_binds host (n + 1) first others not)
  where
    list : List Placed
    list = filter (is_bind_of host) (lines (n + 1) (first ++ others))

    go : (b : Bool) → length list ≤ length first → length (cond b (placed (n, c) ∷ list) list) ≤ suc (length first)
    go true few = omega (arith, few)
    go false few = omega (arith, few)

-- the binds of a generated script

all_binds : (from n : ℕ) → AreBinds (flat_map binds_of (range_with_len from n))
all_binds from zero = tt
all_binds from (suc n) = (refl, (refl, (refl, (refl, all_binds (from + 1) n))))

binds_are : (P : Command → Type 0) → ((host port : ℕ) → 4000 ≤ port → P (bind host port)) → (from n : ℕ) → All P (flat_map binds_of (range_with_len from n))
binds_are P each from zero = All-nil P
binds_are P each from (suc n) =
    All-append P (binds_of from) (flat_map binds_of (range_with_len (from + 1) n))
    (All-from_recursion P (binds_of from)
    (each from 4000 (omega arith), (each from 4001 (omega arith), (each from 4002 (omega arith), (each from 4003 (omega arith), tt)))))
    (binds_are P each (from + 1) n)

-- each of their ports is there
port_there : (host k : ℕ) → k < 4 → Contains (binds_of host) (bind host (4000 + k))
port_there host zero less = (0, omega arith, refl)
port_there host (suc zero) less = (1, omega arith, refl)
port_there host (suc (suc zero)) less = (2, omega arith, refl)
port_there host (suc (suc (suc zero))) less = (3, omega arith, refl)
port_there host (suc (suc (suc (suc k)))) less = absurd (omega (arith, less))

bind_there : (from n host k : ℕ) → from ≤ host → host < from + n → k < 4 → Contains (flat_map binds_of (range_with_len from n)) (bind host (4000 + k))
bind_there from zero host k low high less = absurd (omega (arith, low, high))
bind_there from (suc n) host k low high less =
    elim (cases_eq from host) [
      | inl here ↦
          Contains-append_left (binds_of from) (flat_map binds_of (range_with_len (from + 1) n)) (bind host (4000 + k))
          (subst (λ (h : ℕ). Contains (binds_of h) (bind host (4000 + k))) (sym here) (port_there host k less))
      | inr apart ↦
          Contains-append_right (binds_of from) (flat_map binds_of (range_with_len (from + 1) n)) (bind host (4000 + k))
          (bind_there (from + 1) n host k (omega (arith, low, apart)) (omega (arith, high)) less)
    ]

has_bind : (host k : ℕ) → host < 8 → k < 4 → HasBind host (4000 + k) (lines 2 binds)
has_bind host k known less =
    let there = on_line 2 binds (bind host (4000 + k)) (bind_there 0 8 host k (omega arith) (omega (arith, known)) less) in
    (there.0, there.1, subst (BindsPort host (4000 + k)) (sym there.2) (refl, refl))

-- its sends and cuts

apart_from : (h e : ℕ) → (h % 8 + 1 + e % 7) % 8 ≢ h % 8
apart_from h e = λ same. omega arith

counting_few : (i : ℕ) → length (counting (i % 64)) ≤ 63
counting_few i = subst (λ (k : ℕ). k ≤ 63) (sym (length-map-range_with_len (λ (k : ℕ). k % 256) 0 (i % 64))) (omega arith)

send_calm : (x i : ℕ) → IsCalmAfter 8 (lines 2 binds) (the_send x i)
send_calm x i = record {
  from = has_bind (sender x) _ (omega arith) (omega arith);
  into = has_bind (receiver x) _ (omega arith) (omega arith);
  known = omega arith;
  to_known = omega arith;
  apart = apart_from _ _;
  short = let few = counting_few i in omega (arith, few);
}

turn_calm : (x i : ℕ) → All (IsCalmAfter 8 (lines 2 binds)) (turn x i)
turn_calm x i = All-from_recursion (IsCalmAfter 8 (lines 2 binds)) (turn x i) (go ((i + 1) % 500 == 0))
  where
    go : (b : Bool) → AllByRecursion (IsCalmAfter 8 (lines 2 binds)) (the_send x i ∷ cond b (script.Cut (sender x) (receiver x) ∷ []) [])
    go true = (send_calm x i, (tt, tt))
    go false = (send_calm x i, tt)

turns_calm : (seed from n : ℕ) → All (IsCalmAfter 8 (lines 2 binds)) (flat_map (λ i. turn (state_after (4 * i) seed) i) (range_with_len from n))
turns_calm seed from zero = All-nil (IsCalmAfter 8 (lines 2 binds))
turns_calm seed from (suc n) =
    All-append (IsCalmAfter 8 (lines 2 binds)) (turn (state_after (4 * from) seed) from) (flat_map (λ i. turn (state_after (4 * i) seed) i) (range_with_len (from + 1) n))
    (turn_calm (state_after (4 * from) seed) from) (turns_calm seed (from + 1) n)

turns_others : (seed from n : ℕ) → AreOthers (flat_map (λ i. turn (state_after (4 * i) seed) i) (range_with_len from n))
turns_others seed from zero = tt
turns_others seed from (suc n) = go ((from + 1) % 500 == 0) (turns_others seed (from + 1) n)
  where
    rest : List Command
    rest = flat_map (λ i. turn (state_after (4 * i) seed) i) (range_with_len (from + 1) n)

    x : ℕ
    x = state_after (4 * from) seed

    go : (b : Bool) → AreOthers rest → AreOthers ((the_send x from ∷ cond b (script.Cut (sender x) (receiver x) ∷ []) []) ++ rest)
    go true are = (refl, (refl, are))
    go false are = (refl, are)

few_bytes : (from n : ℕ) → sum_by (λ (i : ℕ). i % 64) (range_with_len from n) ≤ 63 * n
few_bytes from zero = omega arith
few_bytes from (suc n) =
    let whole = sum_by-cons (λ (i : ℕ). i % 64) from (range_with_len (from + 1) n) in
    let rest = few_bytes (from + 1) n in
    omega (arith, whole, rest)

pub generated_calm : (sends seed : ℕ) → sends ≤ 100000 → IsCalm 8 (generated sends seed).commands
generated_calm sends seed few = record {
  binds = subst (λ (l : List Placed). All (λ (p : Placed). BindsAmply bytes p.command) l) (sym parts.0)
      (all_lines (BindsAmply bytes) 2 binds (binds_are (BindsAmply bytes) (λ host port least. (omega (arith, least), short, short)) 0 8));
  slots = λ host. let most = few_binds host 2 binds (turns sends seed) others in omega (arith, most);
  rest = subst (λ (l : List Placed). All (λ (p : Placed). IsCalmAfter 8 l p.command) (after_binds commands)) (sym parts.0)
      (subst (λ (l : List Placed). All (λ (p : Placed). IsCalmAfter 8 (lines 2 binds) p.command) l) (sym parts.1.1)
      (all_lines (IsCalmAfter 8 (lines 2 binds)) parts.1.0 (turns sends seed) (turns_calm seed 0 sends)));
}
  where
    commands : List Placed
    commands = (generated sends seed).commands

    bytes : ℕ
    bytes = sent_sum by_length commands

    others : AreOthers (turns sends seed)
    others = turns_others seed 0 sends

    parts : (leading_binds commands ≡ lines 2 binds) × ((k : ℕ) × (after_binds commands ≡ lines k (turns sends seed)))
    parts = split 2 binds (turns sends seed) (all_binds 0 8) others

    short : bytes ≤ 16777216
    short = let is = bytes_generated sends seed in let most = few_bytes 0 sends in omega (arith, is, most, few)
