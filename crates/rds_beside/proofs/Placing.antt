-- What holds of the first place of a list and of the others holds of all.
use Rattle.std.proofs.Common.{◌≡◌, ◌+◌, ◌-◌, ◌++◌, ◌∙◌, ℕ, List, ap, sym, subst, length, slice_index_or, arith}
use Rattle.std.proofs.lemmas.List.{length-append, get_or_append_left, get_or-append_right}
use mathlib.Core.Logic.{⊎_elim}
use Rattle.std.proofs.lemmas.Bool.{cases_lt}
use Rattle.rds_beside.specs.Places.{AllFrom, ChangesFrom}

module _ {T : Type 0} where
  pub first_of : (P : ℕ → T → Type 0) (from : ℕ) (all xs ys : List T) → all ≡ xs ++ ys → AllFrom P from all → AllFrom P from xs
  first_of P from all xs ys is each =
      let long = ap length is ∙ length-append xs ys in
      let room = each.room in record {
        room = omega (arith, long, room);
        each = λ k d low. subst (P (from + k)) (ap (λ (l : List T). slice_index_or l k d) is ∙ get_or_append_left xs ys d k low)
            (each.each k d (omega (arith, long, low)));
      }

  pub others_of : (P : ℕ → T → Type 0) (from : ℕ) (all xs ys : List T) → all ≡ xs ++ ys → length xs ≡ 1 → AllFrom P from all → AllFrom P (from + 1) ys
  others_of P from all xs ys is one each =
      let long = ap length is ∙ length-append xs ys in
      let room = each.room in record {
        room = omega (arith, long, room, one);
        each = λ k d low.
            let read = ap (λ (l : List T). slice_index_or l (1 + k) d) is ∙ get_or-append_right xs ys 1 (1 + k) d one (omega arith) in
            subst (λ n. P n (slice_index_or ys k d)) {x = from + (1 + k)} (omega arith)
            (subst (λ n. P (from + (1 + k)) (slice_index_or ys n d)) {x = 1 + k - 1} (omega arith)
            (subst (P (from + (1 + k))) read (each.each (1 + k) d (omega (arith, long, low, one)))));
      }

  pub all_of : (R : ℕ → T → T → Type 0) (from : ℕ) (all xs ys xs' ys' : List T) → all ≡ xs ++ ys → length xs ≡ 1 →
      ChangesFrom R from xs xs' → ChangesFrom R (from + 1) ys ys' → ChangesFrom R from all (xs' ++ ys')
  all_of R from all xs ys xs' ys' is one a b =
      let long = ap length is ∙ length-append xs ys in
      let first = a.count in
      let one' : length xs' ≡ 1 = first ∙ one in record {
        count = let after = length-append xs' ys' in let last = b.count in omega (arith, long, after, first, last);
        each = λ k d low. ⊎_elim
            (λ p.
            let was = ap (λ (l : List T). slice_index_or l k d) is ∙ get_or_append_left xs ys d k (omega (arith, p, one)) in
            let came = get_or_append_left xs' ys' d k (omega (arith, p, one')) in
            subst (R (from + k) (slice_index_or all k d)) (sym came)
            (subst (λ x. R (from + k) x (slice_index_or xs' k d)) (sym was) (a.each k d (omega (arith, p, one)))))
            (λ p.
            let was = ap (λ (l : List T). slice_index_or l k d) is ∙ get_or-append_right xs ys 1 k d one p in
            let came = get_or-append_right xs' ys' 1 k d one' p in
            subst (R (from + k) (slice_index_or all k d)) (sym came)
            (subst (λ x. R (from + k) x (slice_index_or ys' (k - 1) d)) (sym was)
            (subst (λ n. R n (slice_index_or ys (k - 1) d) (slice_index_or ys' (k - 1) d)) {x = from + 1 + (k - 1)} (omega (arith, p))
            (b.each (k - 1) d (omega (arith, long, low, one, p))))))
            (cases_lt k 1);
      }
