-- What a generated script sends.
use Rattle.std.proofs.Common.{◌≡◌, ℕ, zero, suc, ◌+◌, ◌*◌, ◌%◌, ◌==◌, Bool, true, false, cond, List, [], ◌∷◌, ◌++◌, length, refl, sym, ap, ◌∙◌, arith}
use Rattle.std.specs.Prelude.{flat_map, map, sum_by}
use Rattle.std.specs.List.{enumerate_from, range_with_len}
use Rattle.std.proofs.lemmas.List.FromFn.{length-map-range_with_len}
use Rattle.std.proofs.lemmas.List.Sums.{sum_by-append, sum_by-cons}
use Rattle.rds_script.specs.declared.script.Command.{Command}
use Rattle.rds_script.specs.declared.script.Command.TheVariants.{Cut}
use Rattle.rds_script.specs.Reading.{counting}
use Rattle.rds_script_gen.specs.Generator.{binds, generated, placed, receiver, sender, state_after, the_send, turn, turns}
use Rattle.rds_run_laws.specs.Sent.{generated_bytes, sent_by, sent_sum}
use Rattle.rds_run_laws.specs.Weights.{by_length, by_one}

module _ (w : List ℕ → ℕ) where
  abbrev v : (sport dport : ℕ) → List ℕ → ℕ
  v sport dport payload = w payload

  sum_on_lines : (line : ℕ) (commands : List Command) → sent_sum v (map placed (enumerate_from line commands)) ≡ sum_by (sent_by v) commands
  sum_on_lines line [] = refl
  sum_on_lines line (c ∷ commands) = ap (λ (n : ℕ). sent_by v c + n) (sum_on_lines (line + 1) commands) ∙ sym (sum_by-cons (sent_by v) c commands)

  sum_turn : (x i : ℕ) → sum_by (sent_by v) (turn x i) ≡ w (counting (i % 64))
  sum_turn x i = sum_by-cons (sent_by v) (the_send x i) (cond ((i + 1) % 500 == 0) (Cut (sender x) (receiver x) ∷ []) []) ∙ go ((i + 1) % 500 == 0)
    where
      go : (b : Bool) → w (counting (i % 64)) + sum_by (sent_by v) (cond b (Cut (sender x) (receiver x) ∷ []) []) ≡ w (counting (i % 64))
      go true = omega arith
      go false = omega arith

  sum_turns : (seed from n : ℕ) →
      sum_by (sent_by v) (flat_map (λ i. turn (state_after (4 * i) seed) i) (range_with_len from n)) ≡ sum_by (λ i. w (counting (i % 64))) (range_with_len from n)
  sum_turns seed from zero = refl
  sum_turns seed from (suc n) =
      sum_by-append (sent_by v) (turn (state_after (4 * from) seed) from) (flat_map (λ i. turn (state_after (4 * i) seed) i) (range_with_len (from + 1) n))
      ∙ ap (λ (k : ℕ). k + sum_by (sent_by v) (flat_map (λ i. turn (state_after (4 * i) seed) i) (range_with_len (from + 1) n))) (sum_turn (state_after (4 * from) seed) from)
      ∙ ap (λ (k : ℕ). w (counting (from % 64)) + k) (sum_turns seed (from + 1) n)
      ∙ sym (sum_by-cons (λ i. w (counting (i % 64))) from (range_with_len (from + 1) n))

  pub sum_generated : (sends seed : ℕ) → sent_sum v (generated sends seed).commands ≡ sum_by (λ i. w (counting (i % 64))) (range_with_len 0 sends)
  sum_generated sends seed =
      sum_on_lines 2 (binds ++ turns sends seed) ∙ sum_by-append (sent_by v) binds (turns sends seed)
      ∙ ap (λ (n : ℕ). n + sum_by (sent_by v) (turns sends seed)) no_binds ∙ ap (λ (n : ℕ). 0 + n) (sum_turns seed 0 sends) ∙ none_more (sum_by (λ i. w (counting (i % 64))) (range_with_len 0 sends))
    where
      no_binds : sum_by (sent_by v) binds ≡ 0
      no_binds = refl

      none_more : (n : ℕ) → 0 + n ≡ n
      none_more n = omega arith

pub count_generated : (sends seed : ℕ) → sent_sum by_one (generated sends seed).commands ≡ sends
count_generated sends seed = sum_generated (λ payload. 1) sends seed ∙ ones 0 sends
  where
    ones : (from n : ℕ) → sum_by (λ (i : ℕ). 1) (range_with_len from n) ≡ n
    ones from zero = refl
    ones from (suc n) =
        let ih = ones (from + 1) n in
        let first = sum_by-cons (λ (i : ℕ). 1) from (range_with_len (from + 1) n) in
        omega (arith, ih, first)

pub bytes_generated : (sends seed : ℕ) → sent_sum by_length (generated sends seed).commands ≡ generated_bytes sends
bytes_generated sends seed = sum_generated length sends seed ∙ lengths 0 sends
  where
    lengths : (from n : ℕ) → sum_by (λ i. length (counting (i % 64))) (range_with_len from n) ≡ sum_by (λ i. i % 64) (range_with_len from n)
    lengths from zero = refl
    lengths from (suc n) =
        let ih = lengths (from + 1) n in
        let first = sum_by-cons (λ i. length (counting (i % 64))) from (range_with_len (from + 1) n) in
        let second = sum_by-cons (λ (i : ℕ). i % 64) from (range_with_len (from + 1) n) in
        let here = length-map-range_with_len (λ (k : ℕ). k % 256) 0 (from % 64) in
        omega (arith, ih, first, second, here)
