-- The script is in range.
use Rattle.std.proofs.Common.{◌≡◌, ◌≢◌, ℕ, zero, suc, ◌+◌, ◌*◌, ◌%◌, ◌<◌, ◌≤◌, Bool, true, false, cond, List, [], ◌∷◌, ◌++◌, length, All, refl, ap, sym, subst, ◌∙◌, zero-add, arith}
use Rattle.std.specs.Prelude.{map, flat_map, sum_by, ◌==◌}
use Rattle.std.specs.List.{range_with_len, enumerate_from, AllByRecursion}
use Rattle.std.proofs.lemmas.Bool.{eqb-true}
use Rattle.std.proofs.lemmas.List.Elements.{All-nil, All-append, All-from_recursion, recursion_from_All}
use Rattle.std.proofs.lemmas.List.FromFn.{length-map-range_with_len}
use Rattle.std.proofs.lemmas.List.Sums.{sum_by-append, sum_by-cons, sum_by-le}
use Rattle.rds_script.specs.declared.script.Script.{Script}
use Rattle.rds_script.specs.declared.script.Placed.{Placed}
use Rattle.rds_script.specs.declared.script.Command.{Command}
use Rattle.rds_script.specs.declared.script.Command.TheVariants.{Cut}
use Rattle.rds_script.specs.Script.{IsCommand, IsScript, payload_len, payload_total, cut_count, cut_total}
use Rattle.rds_script.specs.Reading.{counting}
use Rattle.rds_script_gen.specs.Generator.{state_after, sender, receiver, the_send, turn, turns, bind, binds_of, binds, placed, on_lines}
use Rattle.rds_script_gen.proofs.Turns.{below_more, turns_count}

-- ---- a fact of what stands for each number

all_below : {A : Type 0} (P : A → Type 0) (f : ℕ → List A) (a n top : ℕ) → a + n ≤ top → ((k : ℕ) → k < top → All P (f k)) → All P (flat_map f (range_with_len a n))
all_below P f a zero top le h = All-nil P
all_below P f a (suc n) top le h =
    All-append P (f a) (flat_map f (range_with_len (a + 1) n)) (h a (omega arith)) (all_below P f (a + 1) n top (omega arith) h)

-- ---- commands on lines

all_placed : (P : Command → Type 0) (n : ℕ) (cs : List Command) → AllByRecursion P cs → AllByRecursion (λ p. P p.command) (map placed (enumerate_from n cs))
all_placed P n [] h = tt
all_placed P n (c ∷ cs) h = (h.0, all_placed P (n + 1) cs h.1)

sum_placed : (g : Command → ℕ) (n : ℕ) (cs : List Command) → sum_by (λ p. g p.command) (map placed (enumerate_from n cs)) ≡ sum_by g cs
sum_placed g n [] = refl
sum_placed g n (c ∷ cs) =
    sum_by-cons (λ (p : Placed). g p.command) (placed (n, c)) (map placed (enumerate_from (n + 1) cs))
    ∙ ap (λ (k : ℕ). g c + k) (sum_placed g (n + 1) cs)
    ∙ sym (sum_by-cons g c cs)

-- ---- the binds

bind_range : (host port : ℕ) → host < 8 → port ≤ 65535 → IsCommand 8 (bind host port)
bind_range host port h p = record {
  socket = record { known = h; fits = p };
  sndbuf_low = omega arith;
  sndbuf_high = omega arith;
  rcvbuf_low = omega arith;
  rcvbuf_high = omega arith;
}

binds_of_range : (host : ℕ) → host < 8 → All (IsCommand 8) (binds_of host)
binds_of_range host h =
    All-from_recursion (IsCommand 8) (binds_of host)
    (bind_range host 4000 h (omega arith), (bind_range host 4001 h (omega arith), (bind_range host 4002 h (omega arith), (bind_range host 4003 h (omega arith), tt))))

-- ---- the sends and cuts

below_8 : (n : ℕ) → n % 8 < 8
below_8 n = omega arith

port_fits : (n : ℕ) → 4000 + n % 4 ≤ 65535
port_fits n = omega arith

-- the receiver isn't the sender
apart : (h e : ℕ) → (h % 8 + 1 + e % 7) % 8 ≢ h % 8
apart h e = λ same. omega arith

counting_few : (i : ℕ) → length (counting (i % 64)) ≤ 63
counting_few i = subst (λ (k : ℕ). k ≤ 63) (sym (length-map-range_with_len (λ (k : ℕ). k % 256) 0 (i % 64))) (omega arith)

send_range : (x i : ℕ) → IsCommand 8 (the_send x i)
send_range x i =
    (record { known = below_8 _; fits = port_fits _ }, record { known = below_8 _; fits = port_fits _ }, few)
  where
    few : length (counting (i % 64)) ≤ 2097152
    few = omega (arith, counting_few i)

turn_range : (x i : ℕ) → All (IsCommand 8) (turn x i)
turn_range x i = All-from_recursion (IsCommand 8) (turn x i) (go ((i + 1) % 500 == 0))
  where
    go : (b : Bool) → AllByRecursion (IsCommand 8) (the_send x i ∷ cond b (Cut (sender x) (receiver x) ∷ []) [])
    go true = (send_range x i, (record { first = below_8 _; second = below_8 _; apart = apart _ _ }, tt))
    go false = (send_range x i, tt)

turn_short : (x i : ℕ) → All (λ c. payload_len c ≤ 63) (turn x i)
turn_short x i = All-from_recursion (λ c. payload_len c ≤ 63) (turn x i) (go ((i + 1) % 500 == 0))
  where
    go : (b : Bool) → AllByRecursion (λ c. payload_len c ≤ 63) (the_send x i ∷ cond b (Cut (sender x) (receiver x) ∷ []) [])
    go true = (counting_few i, (omega arith, tt))
    go false = (counting_few i, tt)

each_in_range : (sends seed : ℕ) → All (IsCommand 8) (binds ++ turns sends seed)
each_in_range sends seed =
    All-append (IsCommand 8) binds (turns sends seed)
    (all_below (IsCommand 8) binds_of 0 8 8 (omega arith) binds_of_range)
    (all_below (IsCommand 8) (λ i. turn (state_after (4 * i) seed) i) 0 sends sends (omega arith) (λ i lt. turn_range (state_after (4 * i) seed) i))

-- ---- the two totals

payloads_few : (sends seed : ℕ) → sends ≤ 100000 → sum_by payload_len (turns sends seed) ≤ 16777216
payloads_few sends seed le =
    omega (arith, turns_count sends seed, sum_by-le payload_len 63 (turns sends seed) (all_below (λ c. payload_len c ≤ 63) (λ i. turn (state_after (4 * i) seed) i) 0 sends sends (omega arith) (λ i lt. turn_short (state_after (4 * i) seed) i)))

turns_more : (n seed : ℕ) → turns (suc n) seed ≡ turns n seed ++ turn (state_after (4 * n) seed) n
turns_more n seed =
    ap (λ (k : ℕ). turns k seed) next ∙ sym (below_more (λ i. turn (state_after (4 * i) seed) i) [] n)
  where
    next : suc n ≡ n + 1
    next = omega arith

-- a cut stands for 500 sends
cuts_few : (n seed : ℕ) → 500 * sum_by cut_count (turns n seed) ≤ n
cuts_few zero seed = omega arith
cuts_few (suc n) seed =
    subst (λ (l : List Command). 500 * sum_by cut_count l ≤ suc n) (sym (turns_more n seed)) (go ((n + 1) % 500 == 0) refl (cuts_few n seed))
  where
    go : (b : Bool) → ((n + 1) % 500 == 0) ≡ b → 500 * sum_by cut_count (turns n seed) ≤ n → 500 * sum_by cut_count (turns n seed ++ the_send (state_after (4 * n) seed) n ∷ cond b (Cut (sender (state_after (4 * n) seed)) (receiver (state_after (4 * n) seed)) ∷ []) []) ≤ suc n
    go true e le = omega (arith, eqb-true _ _ e, sum_by-append cut_count (turns n seed) (the_send (state_after (4 * n) seed) n ∷ Cut (sender (state_after (4 * n) seed)) (receiver (state_after (4 * n) seed)) ∷ []))
    go false e le = omega (arith, sum_by-append cut_count (turns n seed) (the_send (state_after (4 * n) seed) n ∷ []))

-- ---- the script

total_of : (g : Command → ℕ) (sends seed : ℕ) → sum_by g binds ≡ 0 → sum_by (λ p. g p.command) (on_lines (binds ++ turns sends seed)) ≡ sum_by g (turns sends seed)
total_of g sends seed none =
    sum_placed g 2 (binds ++ turns sends seed)
    ∙ sum_by-append g binds (turns sends seed)
    ∙ ap (λ (k : ℕ). k + sum_by g (turns sends seed)) none
    ∙ zero-add (sum_by g (turns sends seed))

pub is_script : (s : Script) (sends seed : ℕ) → sends ≤ 100000 → s.hosts ≡ 8 → s.commands.items ≡ on_lines (binds ++ turns sends seed) → IsScript s
is_script s sends seed le hosts-is items-is =
    record {
      hosts_low = omega (arith, hosts-is);
      hosts_high = omega (arith, hosts-is);
      each = subst (λ (h : ℕ). All (λ p. IsCommand h p.command) s.commands.items) (sym hosts-is) (subst (All (λ (p : Placed). IsCommand 8 p.command)) (sym items-is) each);
      total = subst (λ (l : List Placed). payload_total l ≤ 16777216) (sym items-is) (subst (λ (k : ℕ). k ≤ 16777216) (sym (total_of payload_len sends seed refl)) (payloads_few sends seed le));
      cuts = subst (λ (l : List Placed). cut_total l ≤ 1024) (sym items-is) (subst (λ (k : ℕ). k ≤ 1024) (sym (total_of cut_count sends seed refl)) few);
    }
  where
    each : All (λ (p : Placed). IsCommand 8 p.command) (on_lines (binds ++ turns sends seed))
    each = All-from_recursion (λ (p : Placed). IsCommand 8 p.command) (on_lines (binds ++ turns sends seed))
        (all_placed (IsCommand 8) 2 (binds ++ turns sends seed) (recursion_from_All (IsCommand 8) (binds ++ turns sends seed) (each_in_range sends seed)))

    few : sum_by cut_count (turns sends seed) ≤ 1024
    few = omega (arith, cuts_few sends seed)
