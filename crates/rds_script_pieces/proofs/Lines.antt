-- The lines of a text that is put together from two, and how many there are.
use Rattle.std.proofs.Common.{◌≡◌, ℕ, ◌+◌, ◌-◌, ◌<◌, Bool, true, false, cond, eqb, List, [], ◌∷◌, ◌++◌, length, map, take, Some, arith, refl, sym, ap, subst, ◌∙◌}
use Rattle.std.specs.List.{slice_split, onto_first, count_by, slice_get}
use Rattle.std.specs.Str.Lines.{lines, lines_of_parts, strip_carriage_return}
use Rattle.std.proofs.lemmas.Bool.{ne_eqb}
use Rattle.std.proofs.lemmas.List.{append_assoc, take_more, take_all, append-nil, length-append, length-map}
use Rattle.std.proofs.lemmas.List.Splits.{length-slice_split}
use Rattle.std.proofs.lemmas.List.Sums.{sum_by-append}
use Rattle.std.proofs.lemmas.Option.{slice_get_within, get_or_from_slice_get}
use Rattle.rds_script.specs.Text.{is_end}
use Rattle.rds_script_pieces.specs.Pieces.{EndsLine}

onto_front : (x : ℕ) (front back : List (List ℕ)) → 0 < length front → onto_first x (front ++ back) ≡ onto_first x front ++ back
onto_front x [] back some = absurd (omega arith)
onto_front x (part ∷ front) back some = refl

-- the parts before an end and those behind it
split_at_end : (xs ys : List ℕ) → slice_split is_end (xs ++ 10 ∷ ys) ≡ slice_split is_end xs ++ slice_split is_end ys
split_at_end [] ys = refl
split_at_end (x ∷ xs) ys = go (is_end x) (split_at_end xs ys)
  where
    go : (b : Bool) → slice_split is_end (xs ++ 10 ∷ ys) ≡ slice_split is_end xs ++ slice_split is_end ys
        → cond b ([] ∷ slice_split is_end (xs ++ 10 ∷ ys)) (onto_first x (slice_split is_end (xs ++ 10 ∷ ys))) ≡ cond b ([] ∷ slice_split is_end xs) (onto_first x (slice_split is_end xs)) ++ slice_split is_end ys
    go true e = ap (λ (l : List (List ℕ)). [] ∷ l) e
    go false e =
        let some = length-slice_split is_end xs in
        ap (onto_first x) e ∙ onto_front x (slice_split is_end xs) (slice_split is_end ys) (omega arith)

parts_append : (front back : List (List ℕ)) → 0 < length back → lines_of_parts (front ++ back) ≡ map strip_carriage_return front ++ lines_of_parts back
parts_append [] back some = refl
parts_append (a ∷ []) [] some = absurd (omega arith)
parts_append (a ∷ []) (b ∷ back) some = refl
parts_append (a ∷ b ∷ front) back some = ap (λ (l : List (List ℕ)). strip_carriage_return a ∷ l) (parts_append (b ∷ front) back some)

lines_at_end : (front text : List ℕ) → lines (front ++ 10 ∷ text) ≡ map strip_carriage_return (slice_split is_end front) ++ lines text
lines_at_end front text =
    let some = length-slice_split is_end text in
    ap lines_of_parts (split_at_end front text) ∙ parts_append (slice_split is_end front) (slice_split is_end text) (omega arith)

-- the lines of two texts one behind the other, where the first ends behind a line
pub lines-append : (first second : List ℕ) → EndsLine first → lines (first ++ second) ≡ lines first ++ lines second
lines-append first second ends =
    let front = ends.0 in
    let parts = map strip_carriage_return (slice_split is_end front) in
    let alone : lines first ≡ parts = ap lines ends.1 ∙ lines_at_end front [] ∙ append-nil parts in
    ap (λ (t : List ℕ). lines (t ++ second)) ends.1 ∙ ap lines (append_assoc front (10 ∷ []) second) ∙ lines_at_end front second ∙ ap (λ (l : List (List ℕ)). l ++ lines second) (sym alone)

-- a text that ends behind a line has as many lines as ends
pub count-ended : (text : List ℕ) → EndsLine text → count_by is_end text ≡ length (lines text)
count-ended text ends =
    let front = ends.0 in
    let parts = slice_split is_end front in
    let alone : length (lines text) ≡ length parts = ap length (ap lines ends.1 ∙ lines_at_end front [] ∙ append-nil (map strip_carriage_return parts)) ∙ length-map parts strip_carriage_return in
    let ends-are : count_by is_end text ≡ count_by is_end front + 1 = ap (count_by is_end) ends.1 ∙ sum_by-append (λ (b : ℕ). cond (is_end b) 1 0) front (10 ∷ []) in
    let parts-are = length-slice_split is_end front in
    omega arith

-- the last part of a text that doesn't end behind a line isn't empty
record Unended (text : List ℕ) (x : ℕ) : Type 0 where
  before : List (List ℕ)
  last : List ℕ
  parts : slice_split is_end (text ++ x ∷ []) ≡ before ++ (last ++ x ∷ []) ∷ []

unended : (text : List ℕ) (x : ℕ) → is_end x ≡ false → Unended text x
unended [] x no_end = record { before = []; last = []; parts = rw no_end refl }
unended (b ∷ text) x no_end = go (is_end b) refl (unended text x no_end)
  where
    put : (before : List (List ℕ)) (last : List ℕ) → slice_split is_end (text ++ x ∷ []) ≡ before ++ (last ++ x ∷ []) ∷ [] → is_end b ≡ false → Unended (b ∷ text) x
    put [] last e t = record { before = []; last = b ∷ last; parts = rw (t, e) refl }
    put (part ∷ before) last e t = record { before = (b ∷ part) ∷ before; last = last; parts = rw (t, e) refl }

    go : (t : Bool) → is_end b ≡ t → Unended text x → Unended (b ∷ text) x
    go true t u = record { before = [] ∷ u.before; last = u.last; parts = rw (t, u.parts) refl }
    go false t u = put u.before u.last u.parts t

-- a text that doesn't end behind a line has a line more than ends
pub count-unended : (front : List ℕ) (x : ℕ) → is_end x ≡ false → count_by is_end (front ++ x ∷ []) + 1 ≡ length (lines (front ++ x ∷ []))
count-unended front x no_end =
    let u = unended front x no_end in
    let last = u.last ++ x ∷ [] in
    let some = length-append u.last (x ∷ []) in
    let parts = length-slice_split is_end (front ++ x ∷ []) in
    let many : length (slice_split is_end (front ++ x ∷ [])) ≡ length u.before + 1 = ap length u.parts ∙ length-append u.before (last ∷ []) in
    let kept : lines_of_parts (last ∷ []) ≡ last ∷ [] = whole last (omega arith) in
    let lines-are : length (lines (front ++ x ∷ [])) ≡ length u.before + 1 =
    ap (λ (l : List (List ℕ)). length (lines_of_parts l)) u.parts ∙ ap length (parts_append u.before (last ∷ []) (omega arith) ∙ ap (λ (l : List (List ℕ)). map strip_carriage_return u.before ++ l) kept)
    ∙ length-append (map strip_carriage_return u.before) (last ∷ []) ∙ ap (λ (n : ℕ). n + 1) (length-map u.before strip_carriage_return) in
    omega arith
  where
    whole : (last : List ℕ) → 0 < length last → lines_of_parts (last ∷ []) ≡ last ∷ []
    whole [] some = absurd (omega arith)
    whole (b ∷ last) some =
        let filled : eqb (length (b ∷ last)) 0 ≡ false = ne_eqb _ _ (λ e. absurd (omega arith)) in
        rw filled refl

-- a text in front of its last byte
last_is : (text : List ℕ) (x : ℕ) → slice_get text (length text - 1) ≡ Some x → text ≡ take (length text - 1) text ++ x ∷ []
last_is text x e =
    let i = length text - 1 in
    let lt = slice_get_within text i x e in
    let all : i + 1 ≡ length text = omega arith in
    sym (take_all (i + 1) text (omega arith)) ∙ take_more text i x lt ∙ ap (λ (b : ℕ). take i text ++ b ∷ []) (get_or_from_slice_get text i x x e)

pub count-last_end : (text : List ℕ) → Some 10 ≡ slice_get text (length text - 1) → count_by is_end text ≡ length (lines text)
count-last_end text e = count-ended text (take (length text - 1) text, last_is text 10 (sym e))

pub count-last_other : (text : List ℕ) (x : ℕ) → Some x ≡ slice_get text (length text - 1) → is_end x ≡ false → count_by is_end text + 1 ≡ length (lines text)
count-last_other text x e no_end =
    subst (λ (t : List ℕ). count_by is_end t + 1 ≡ length (lines t)) (sym (last_is text x (sym e))) (count-unended (take (length text - 1) text) x no_end)
