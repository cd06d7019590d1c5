-- What stands at a place of several rows, and rows whose first items were taken.
use Rattle.std.proofs.Common.{◌≡◌, ℕ, zero, suc, ◌+◌, ◌<◌, List, [], ◌∷◌, ◌++◌, All, Option, Some, None, length, map, take, drop, set, get_or, slice_get, refl, sym, ap, subst, ⊎_elim, ◌∙◌, arith}
use Rattle.std.specs.declared.vec.IntoIter.{IntoIter}
use Rattle.std.specs.Global.{Global}
use Rattle.std.specs.List.{cons_option}
use Rattle.std.specs.Option.{option_map, option_to_list}
use Rattle.std.specs.Vec.Iter.{into_iter_items, into_iter_steps}
use Rattle.std.proofs.lemmas.List.{drop-drop, drop_more, get_or-append-add, get_or_append_left, get_or_at, length-append, length-map, length-take, map_push, nil_from_length, take-append-drop, take_more}
use Rattle.std.proofs.lemmas.List.Edits.{map_over_more}
use Rattle.std.proofs.lemmas.List.Elements.{filter_map-append}
use Rattle.std.proofs.lemmas.Option.{same_Some, slice_get-map, slice_get_within}
use Rattle.rds_host_end.proofs.Places.{mapped_at, pushed_at, there_is}
use Rattle.rds_host_end.specs.Columns.{AtEachPlace, column}

-- what holds of a list holds of its front and of its back
all_front : {X : Type 0} (P : X → Type 0) (xs ys : List X) → All P (xs ++ ys) → All P xs
all_front P xs ys all k d small =
    subst P (get_or_append_left xs ys d k small) (all k d (let long = length-append xs ys in omega arith))

all_back : {X : Type 0} (P : X → Type 0) (xs ys : List X) → All P (xs ++ ys) → All P ys
all_back P xs ys all k d small =
    subst P (get_or-append-add xs ys k d) (all (length xs + k) d (let long = length-append xs ys in omega arith))

-- each row has something at this place
abbrev pub AreFull : {X : Type 0} → ℕ → List (List X) → Type 0
AreFull {X} n rows = (i : ℕ) (cells : List X) → slice_get rows i ≡ Some cells → n < length cells

module _ {X : Type 0} where
  -- a row with something there gives its first to the column
  column_with : (n : ℕ) (cells : List X) (x : X) (rows : List (List X)) → slice_get cells n ≡ Some x → column n (cells ∷ rows) ≡ x ∷ column n rows
  column_with n cells x rows is = ap (λ o. cons_option o (column n rows)) is

  rest_full : (n : ℕ) (cells : List X) (rows : List (List X)) → AreFull n (cells ∷ rows) → AreFull n rows
  rest_full n cells rows full i r at = full (suc i) r at

  pub column_count : (n : ℕ) (rows : List (List X)) → AreFull n rows → length (column n rows) ≡ length rows
  column_count n [] full = refl
  column_count n (cells ∷ rows) full =
      let first = there_is cells n (full zero cells refl) in
      ap length (column_with n cells first.0 rows first.1) ∙ ap suc (column_count n rows (rest_full n cells rows full))

  -- what stands in the column stands in the row of that place
  pub column_row : (n : ℕ) (rows : List (List X)) → AreFull n rows → (i : ℕ) (x : X) → slice_get (column n rows) i ≡ Some x →
      (cells : List X) × (slice_get rows i ≡ Some cells) × (slice_get cells n ≡ Some x)
  column_row n [] full i x at = absurd (let small = slice_get_within [] i x at in omega arith)
  column_row n (cells ∷ rows) full zero x at =
      let first = there_is cells n (full zero cells refl) in
      let is : Some first.0 ≡ Some x = sym (ap (λ (l : List X). slice_get l 0) (column_with n cells first.0 rows first.1)) ∙ at in
      (cells, refl, first.1 ∙ is)
  column_row n (cells ∷ rows) full (suc i) x at =
      let first = there_is cells n (full zero cells refl) in
      column_row n rows (rest_full n cells rows full) i x (sym (ap (λ (l : List X). slice_get l (suc i)) (column_with n cells first.0 rows first.1)) ∙ at)

  -- and the other way round
  pub row_column : (n : ℕ) (rows : List (List X)) → AreFull n rows → (i : ℕ) (cells : List X) (x : X) → slice_get rows i ≡ Some cells → slice_get cells n ≡ Some x →
      slice_get (column n rows) i ≡ Some x
  row_column n [] full i cells x at is = absurd (let small = slice_get_within [] i cells at in omega arith)
  row_column n (r ∷ rows) full zero cells x at is =
      let same : r ≡ cells = same_Some r cells at in
      ap (λ (l : List X). slice_get l 0) (column_with n r x rows (ap (λ (l : List X). slice_get l n) same ∙ is))
  row_column n (r ∷ rows) full (suc i) cells x at is =
      let first = there_is r n (full zero r refl) in
      ap (λ (l : List X). slice_get l (suc i)) (column_with n r first.0 rows first.1) ∙ row_column n rows (rest_full n r rows full) i cells x at is

  first_left : (n : ℕ) (cells : List X) → slice_get (drop n cells) 0 ≡ slice_get cells n
  first_left zero cells = refl
  first_left (suc n) [] = refl
  first_left (suc n) (x ∷ cells) = first_left n cells

  -- the first column of what is left of the rows
  pub column_left : (n : ℕ) (rows : List (List X)) → column 0 (map (drop n) rows) ≡ column n rows
  column_left n [] = refl
  column_left n (cells ∷ rows) =
      ap (λ (o : Option X). cons_option o (column 0 (map (drop n) rows))) (first_left n cells)
      ∙ ap (λ (l : List X). cons_option (slice_get cells n) l) (column_left n rows)

  pub none_left : (rows : List (List X)) → map (drop 0) rows ≡ rows
  none_left [] = refl
  none_left (cells ∷ rows) = ap (λ (l : List (List X)). cells ∷ l) (none_left rows)

  pub one_more_left : (n : ℕ) (rows : List (List X)) → map (drop 1) (map (drop n) rows) ≡ map (drop (n + 1)) rows
  one_more_left n [] = refl
  one_more_left n (cells ∷ rows) =
      ap (λ (l : List X). l ∷ map (drop 1) (map (drop n) rows)) (drop-drop 1 n cells)
      ∙ ap (λ (l : List (List X)). drop (n + 1) cells ∷ l) (one_more_left n rows)

  pub at_none : {Y : Type 0} (P : Y → List X → Type 0) (rows : List (List X)) → AtEachPlace P [] rows
  at_none P rows place y at = absurd (let small = slice_get_within [] place y at in omega arith)

  -- one more value suits its column
  pub at_one_more : {Y : Type 0} (P : Y → List X → Type 0) (ys : List Y) (y : Y) (rows : List (List X)) → AtEachPlace P ys rows → P y (column (length ys) rows) → AtEachPlace P (ys ++ y ∷ []) rows
  at_one_more {Y} P ys y rows all more place z at =
      ⊎_elim
      (λ (there : slice_get ys place ≡ Some z). all place z there)
      (λ (new : (place ≡ length ys) × (y ≡ z)).
      subst (λ (v : Y). P v (column place rows)) new.1 (subst (λ (n : ℕ). P y (column n rows)) (sym new.0) more))
      (pushed_at ys y z place at)

  option_list : (o : Option X) → cons_option o [] ≡ option_to_list o
  option_list None = refl
  option_list (Some x) = refl

  -- one more row gives what stands there, if anything does
  column_more : (rows : List (List X)) (i : ℕ) (cells : List X) → i < length rows → cells ≡ get_or rows i cells → column 0 (take (i + 1) rows) ≡ column 0 (take i rows) ++ option_to_list (slice_get cells 0)
  column_more rows i cells small is =
      ap (column 0) (take_more rows i cells small)
      ∙ (filter_map-append (λ (r : List X). slice_get r 0) (take i rows) (get_or rows i cells ∷ [])
      ∙ ap (λ (l : List X). column 0 (take i rows) ++ l) (option_list (slice_get (get_or rows i cells) 0) ∙ ap (λ (r : List X). option_to_list (slice_get r 0)) (sym is)))

  -- the first item of one more row was taken, if it has one
  pub row_taken : (rows ys : List (List X)) (i : ℕ) (cells new : List X) (o : Option X) (got : List X) → i < length rows → ys ≡ map (drop 1) (take i rows) ++ drop i rows → cells ≡ get_or ys i cells
      → new ≡ drop 1 cells → o ≡ slice_get cells 0 → got ≡ column 0 (take i rows)
      → (set ys i new ≡ map (drop 1) (take (i + 1) rows) ++ drop (i + 1) rows) × (got ++ option_to_list o ≡ column 0 (take (i + 1) rows))
  row_taken rows ys i cells new o got small before at left first is =
      let front = map (drop 1) (take i rows) in
      let long : length front ≡ i = length-map (take i rows) (drop 1) ∙ omega (arith, length-take i rows) in
      let parts : ys ≡ front ++ get_or rows i cells ∷ drop (i + 1) rows = before ∙ ap (λ (l : List (List X)). front ++ l) (drop_more rows i cells small) in
      let here : cells ≡ get_or rows i cells = at ∙ (ap (λ (l : List (List X)). get_or l i cells) parts ∙ get_or_at front (get_or rows i cells) (drop (i + 1) rows) cells i long) in (
        ap (set ys i) left ∙ map_over_more (drop 1) rows ys i cells small before at,
        ap (λ (l : List X). l ++ option_to_list o) is
            ∙ (ap (λ (p : Option X). column 0 (take i rows) ++ option_to_list p) first ∙ sym (column_more rows i cells small here)),
      )

  -- what holds of the whole first column holds of the item that one more row gives
  pub column_has : (P : X → Type 0) (rows ys : List (List X)) (i : ℕ) (cells : List X) (o : Option X) → i < length rows → ys ≡ map (drop 1) (take i rows) ++ drop i rows → cells ≡ get_or ys i cells
      → o ≡ slice_get cells 0 → All P (column 0 rows) → All P (option_to_list o)
  column_has P rows ys i cells o small before at first all =
      let front = map (drop 1) (take i rows) in
      let long : length front ≡ i = length-map (take i rows) (drop 1) ∙ omega (arith, length-take i rows) in
      let parts : ys ≡ front ++ get_or rows i cells ∷ drop (i + 1) rows = before ∙ ap (λ (l : List (List X)). front ++ l) (drop_more rows i cells small) in
      let here : cells ≡ get_or rows i cells = at ∙ (ap (λ (l : List (List X)). get_or l i cells) parts ∙ get_or_at front (get_or rows i cells) (drop (i + 1) rows) cells i long) in
      let is : option_to_list o ≡ option_to_list (slice_get cells 0) = ap option_to_list first in
      let whole : column 0 rows ≡ (column 0 (take i rows) ++ option_to_list o) ++ column 0 (drop (i + 1) rows) =
      ap (column 0) (sym (take-append-drop (i + 1) rows))
      ∙ (filter_map-append (λ (r : List X). slice_get r 0) (take (i + 1) rows) (drop (i + 1) rows)
      ∙ ap (λ (l : List X). l ++ column 0 (drop (i + 1) rows)) (column_more rows i cells small here ∙ ap (λ (l : List X). column 0 (take i rows) ++ l) (sym is))) in
      all_back P (column 0 (take i rows)) (option_to_list o)
      (all_front P (column 0 (take i rows) ++ option_to_list o) (column 0 (drop (i + 1) rows)) (subst (λ (l : List X). All P l) whole all))

  -- what a row gives next, and what is left of it
  pub row_next : (old new : IntoIter X Global) (o : Option X) → into_iter_steps old o new → (into_iter_items new ≡ drop 1 (into_iter_items old)) × (o ≡ slice_get (into_iter_items old) 0)
  row_next old new None is =
      let none : into_iter_items old ≡ [] = nil_from_length (into_iter_items old) (omega (arith, is.0, old.rest.ok.0)) in
      let left : into_iter_items new ≡ [] = nil_from_length (into_iter_items new) (omega (arith, is.1, new.rest.ok.0)) in
      (left ∙ ap (drop 1) (sym none), ap (λ (l : List X). slice_get l 0) (sym none))
  row_next old new (Some x) is = (ap (drop 1) (sym is.0), ap (λ (l : List X). slice_get l 0) (sym is.0))

pub list_of_map : {X Y : Type 0} (f : X → Y) (o : Option X) → map f (option_to_list o) ≡ option_to_list (option_map f o)
list_of_map f None = refl
list_of_map f (Some x) = refl

-- one more item in each of two lists
pub mapped_push : {X Y Z : Type 0} (f : X → Z) (g : Y → Z) (xs new : List X) (ys : List Y) (x : X) (y : Y) → new ≡ xs ++ x ∷ [] → map f xs ≡ map g ys → f x ≡ g y → map f new ≡ map g (ys ++ y ∷ [])
mapped_push {X} {Y} {Z} f g xs new ys x y is same one =
    ap (map f) is ∙ (map_push f xs x ∙ (ap (λ (l : List Z). l ++ f x ∷ []) same ∙ (ap (λ (z : Z). map g ys ++ z ∷ []) one ∙ sym (map_push g ys y))))

pub pushed_map : {Y Z : Type 0} (g : Y → Z) (xs new : List Z) (ys : List Y) (x : Z) (y : Y) → new ≡ xs ++ x ∷ [] → xs ≡ map g ys → x ≡ g y → new ≡ map g (ys ++ y ∷ [])
pushed_map {Y} {Z} g xs new ys x y is same one =
    is ∙ (ap (λ (l : List Z). l ++ x ∷ []) same ∙ (ap (λ (z : Z). map g ys ++ z ∷ []) one ∙ sym (map_push g ys y)))

-- the same values and the same rows
pub each_same : {Y X : Type 0} (P : Y → List X → Type 0) (ys zs : List Y) (rows others : List (List X)) → ys ≡ zs → rows ≡ others → AtEachPlace P ys rows → AtEachPlace P zs others
each_same {Y} {X} P ys zs rows others same alike all =
    subst (λ (l : List Y). AtEachPlace P l others) same (subst (λ (r : List (List X)). AtEachPlace P ys r) alike all)

-- the column of rows whose items were mapped
mapped_column : {X Z : Type 0} (t : X → Z) (n : ℕ) (rows : List (List X)) → column n (map (map t) rows) ≡ map t (column n rows)
mapped_column t n [] = refl
mapped_column {X} {Z} t n (cells ∷ rows) =
    ap (λ (o : Option Z). cons_option o (column n (map (map t) rows))) (slice_get-map t cells n)
    ∙ (ap (λ (l : List Z). cons_option (option_map t (slice_get cells n)) l) (mapped_column t n rows) ∙ mapped_cons (slice_get cells n) (column n rows))
  where
    mapped_cons : (o : Option X) (xs : List X) → cons_option (option_map t o) (map t xs) ≡ map t (cons_option o xs)
    mapped_cons None xs = refl
    mapped_cons (Some x) xs = refl

-- what suits the first of two values at each place suits the pair of them, and the other way round
module _ {L A B X Z : Type 0} (f : L → A) (g : L → B) (t : X → Z) (P : A → List Z → Type 0) (ls : List L) (rows : List (List X)) where
  pub each_paired : AtEachPlace P (map f ls) (map (map t) rows) → AtEachPlace (λ (two : A × B) (cells : List X). P two.0 (map t cells)) (map (λ (l : L). (f l, g l)) ls) rows
  each_paired all place two at =
      let l = mapped_at (λ (x : L). (f x, g x)) ls two place at in
      subst (λ (y : A × B). P y.0 (map t (column place rows))) l.2
      (subst (P (f l.0)) (mapped_column t place rows) (all place (f l.0) (slice_get-map f ls place ∙ ap (option_map f) l.1)))

  pub each_first : AtEachPlace (λ (two : A × B) (cells : List X). P two.0 (map t cells)) (map (λ (l : L). (f l, g l)) ls) rows → AtEachPlace P (map f ls) (map (map t) rows)
  each_first all place a at =
      let l = mapped_at f ls a place at in
      let pair : L → A × B = λ (x : L). (f x, g x) in
      subst (λ (y : A). P y (column place (map (map t) rows))) l.2
      (subst (P (f l.0)) (sym (mapped_column t place rows)) (all place (pair l.0) (slice_get-map pair ls place ∙ ap (option_map pair) l.1)))
