-- One socket, host or send more, and how many commands there are then.
use Rattle.std.proofs.Common.{◌≡◌, ℕ, suc, ◌+◌, ◌*◌, ◌%◌, ◌≤◌, Bool, true, false, cond, List, [], ◌∷◌, ◌++◌, length, refl, ap, sym, subst, ◌∙◌, arith}
use Rattle.std.specs.Prelude.{map, flat_map, sum_by, ◌==◌}
use Rattle.std.specs.List.{range_with_len}
use Rattle.std.proofs.lemmas.List.{append_assoc, flat_map_more, map-id}
use Rattle.std.proofs.lemmas.List.Concat.{length-flat_map}
use Rattle.std.proofs.lemmas.List.FromFn.{map-range_with_len_more, length-range_with_len}
use Rattle.std.proofs.lemmas.List.Sums.{sum_by-le}
use Rattle.rds_script.specs.declared.script.Command.{Command}
use Rattle.rds_script.specs.declared.script.Command.TheVariants.{Cut}
use Rattle.rds_script_gen.specs.Generator.{state_after, sender, receiver, the_send, turn, turns, bind, binds_of}

range_more : (n : ℕ) → range_with_len 0 (n + 1) ≡ range_with_len 0 n ++ n ∷ []
range_more n =
    sym (map-id (range_with_len 0 (n + 1)))
    ∙ map-range_with_len_more (λ (k : ℕ). k) 0 n n (omega arith)
    ∙ ap (λ (l : List ℕ). l ++ n ∷ []) (map-id (range_with_len 0 n))

-- what stands for each number below n, and then what stands for n
pub below_more : {A : Type 0} (f : ℕ → List A) (front : List A) (n : ℕ) → (front ++ flat_map f (range_with_len 0 n)) ++ f n ≡ front ++ flat_map f (range_with_len 0 (n + 1))
below_more f front n =
    flat_map_more f front (range_with_len 0 n) n ∙ ap (λ (l : List ℕ). front ++ flat_map f l) (sym (range_more n))

-- the sockets of a host, one socket longer
pub bind_more : (front : List Command) (host n : ℕ) → (front ++ map (bind host) (range_with_len 4000 n)) ++ bind host (4000 + n) ∷ [] ≡ front ++ map (bind host) (range_with_len 4000 (n + 1))
bind_more front host n =
    append_assoc front (map (bind host) (range_with_len 4000 n)) (bind host (4000 + n) ∷ [])
    ∙ ap (λ (l : List Command). front ++ l) (sym (map-range_with_len_more (bind host) 4000 n (4000 + n) refl))

-- four draws more
pub state_more : (n x : ℕ) → state_after 4 (state_after (4 * n) x) ≡ state_after (4 * (n + 1)) x
state_more n x = ap (λ (k : ℕ). state_after k x) plus
  where
    plus : suc (suc (suc (suc (4 * n)))) ≡ 4 * (n + 1)
    plus = omega arith

-- ---- how many commands

-- where so many stand at most for each number below n
count_below : {A : Type 0} (f : ℕ → List A) (m n : ℕ) → ((k : ℕ) → length (f k) ≤ m) → length (flat_map f (range_with_len 0 n)) ≤ n * m
count_below f m n h =
    subst (λ (k : ℕ). k ≤ n * m) (sym (length-flat_map f (range_with_len 0 n)))
    (subst (λ (k : ℕ). sum_by (λ i. length (f i)) (range_with_len 0 n) ≤ k * m) (length-range_with_len 0 n)
    (sum_by-le (λ k. length (f k)) m (range_with_len 0 n) (λ i d lt. h _)))

turn_count : (x i : ℕ) → length (turn x i) ≤ 2
turn_count x i = go ((i + 1) % 500 == 0)
  where
    go : (b : Bool) → length (the_send x i ∷ cond b (Cut (sender x) (receiver x) ∷ []) []) ≤ 2
    go true = omega arith
    go false = omega arith

pub turns_count : (sends seed : ℕ) → length (turns sends seed) ≤ sends * 2
turns_count sends seed = count_below (λ i. turn (state_after (4 * i) seed) i) 2 sends (λ i. turn_count (state_after (4 * i) seed) i)

pub binds_count : (n : ℕ) → length (flat_map binds_of (range_with_len 0 n)) ≤ n * 4
binds_count n = count_below binds_of 4 n (λ host. omega arith)
