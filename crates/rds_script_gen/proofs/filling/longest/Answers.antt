use Rattle.std.proofs.Common.{◌≡◌, ap, sym, ◌∙◌, ◌++◌, ◌∷◌, [], List, ℕ, ◌%◌, arith}
use Rattle.std.proofs.lemmas.List.FromFn.{map-range_with_len_more}
use Rattle.rds_script.specs.Reading.{counting}
use Rattle.rds_script_gen.proofs.filling.longest.Goals as goal

pub loop-byte-preserved : goal.loop-byte-preserved
loop-byte-preserved c =
    let n = c.loop-byte.byte in
    let e : n ≡ n % 256 = omega (arith, c.loop-byte-test.true) in
    c.in_ok-push.ensures.items
    ∙ ap (λ (l : List ℕ). l ++ n ∷ []) c.loop-byte.invariant
    ∙ ap (λ (b : ℕ). counting n ++ b ∷ []) e
    ∙ sym (map-range_with_len_more (λ (k : ℕ). k % 256) 0 n n (omega arith))
