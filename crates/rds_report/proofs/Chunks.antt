-- Items that stand in the order of their pairs, pair by pair.
use Rattle.std.proofs.Common.{◌≡◌, ◌<◌, ◌+◌, ℕ, suc, Bool, true, false, not, ◌&&◌, ◌||◌, ◌==◌, if◌then◌else◌, cond, List, [], ◌∷◌, ◌++◌, length, map, filter, take, drop, get_or, arith, refl, sym, ap, ◌∙◌, subst}
use Rattle.std.specs.Bool.{⊤}
use Rattle.std.specs.List.{flat_map, prefix_len}
use Rattle.std.proofs.lemmas.Bool.{true≢false, ne_eqb}
use Rattle.std.proofs.lemmas.List.{map-append, append-nil, take-append-drop}
use Rattle.std.proofs.lemmas.List.Elements.{filter-append}
use Rattle.std.proofs.lemmas.List.Folds.{list_any-append}
use Rattle.rds_report.specs.Item.{Item}
use Rattle.rds_text.specs.Hosts.{IsAddress}
use Rattle.rds_text.specs.Report.{Group, is_before, ascending}
use Rattle.rds_report.specs.Items.{seen}
use Rattle.rds_report.specs.ItemReport.{is_same, is_of, is_accepted, count_of, of_pair, accepted_pairs, AreKnown, AreNotBefore, IsUp}
use Rattle.rds_report.proofs.Orders.{same_is, same_itself, same_sym, before_either, before_differs, not_before_trans, before_then_not, Above, has, rising_one, rising_ascending, has_ascending}

pub filter_tests : {X : Type 0} (p q : X → Bool) → ((x : X) → p x ≡ q x) → (xs : List X) → filter p xs ≡ filter q xs
filter_tests p q h [] = refl
filter_tests {X} p q h (x ∷ xs) =
    ap (λ (b : Bool). cond b (x ∷ filter p xs) (filter p xs)) (h x)
    ∙ ap (λ (l : List X). cond (q x) (x ∷ l) l) (filter_tests p q h xs)

-- neighbours in order are in order
not_before_all : (a b : Group) (items : List Item) → is_before b a ≡ false → AreNotBefore b items → AreNotBefore a items
not_before_all a b [] is h = tt
not_before_all a b (i ∷ items) is h = (not_before_trans a b (seen i.group) is h.0, not_before_all a b items is h.1)

pub up_of : (items : List Item) → ((k : ℕ) (d : Item) → k + 1 < length items →
    is_before (seen (get_or items (k + 1) d).group) (seen (get_or items k d).group) ≡ false) → IsUp items
up_of [] h = tt
up_of (i ∷ []) h = (tt, tt)
up_of (i ∷ j ∷ items) h =
    let rest = up_of (j ∷ items) (λ k d more.
    let e : suc (k + 1) ≡ suc k + 1 = omega arith in
    ap (λ (n : ℕ). is_before (seen (get_or (i ∷ j ∷ items) n d).group) (seen (get_or (j ∷ items) k d).group)) e
    ∙ h (suc k) d (omega arith)) in
    let first : is_before (seen j.group) (seen i.group) ≡ false = h 0 i (omega arith) in
    ((first, not_before_all (seen i.group) (seen j.group) items first rest.0), rest)

-- the items of a run are of its pair, and those after it are of later ones

abbrev pub AreOf : Group → List Item → Type 0
AreOf g [] = ⊤
AreOf g (i ∷ items) = (is_of g i ≡ true) × AreOf g items

abbrev pub AreAfter : Group → List Item → Type 0
AreAfter g [] = ⊤
AreAfter g (i ∷ items) = (is_before g (seen i.group) ≡ true) × AreAfter g items

one_more : (n : ℕ) → 1 + n ≡ suc n
one_more n = omega arith

pub run_of : (g : Group) (items : List Item) → AreOf g (take (prefix_len (is_of g) items) items)
run_of g [] = tt
run_of g (i ∷ items) = go (is_of g i) refl (run_of g items)
  where
    go : (b : Bool) → is_of g i ≡ b → AreOf g (take (prefix_len (is_of g) items) items) →
        AreOf g (take (prefix_len (is_of g) (i ∷ items)) (i ∷ items))
    go true is ih = subst (λ (b : Bool). AreOf g (take (cond b (1 + prefix_len (is_of g) items) 0) (i ∷ items))) (sym is)
        (subst (λ (m : ℕ). AreOf g (take m (i ∷ items))) (sym (one_more (prefix_len (is_of g) items))) (is, ih))
    go false is ih = subst (λ (b : Bool). AreOf g (take (cond b (1 + prefix_len (is_of g) items) 0) (i ∷ items))) (sym is) tt

after_all : (g b : Group) (items : List Item) → is_before g b ≡ true → AreNotBefore b items → AreAfter g items
after_all g b [] less h = tt
after_all g b (i ∷ items) less h = (before_then_not g b (seen i.group) less h.0, after_all g b items less h.1)

abbrev Rest : Group → Item → List Item → Bool → Type 0
Rest g i items b = AreAfter g (drop (cond b (1 + prefix_len (is_of g) items) 0) (i ∷ items)) × IsUp (drop (cond b (1 + prefix_len (is_of g) items) 0) (i ∷ items))

pub rest_after : (g : Group) (items : List Item) → AreNotBefore g items → IsUp items →
    AreAfter g (drop (prefix_len (is_of g) items) items) × IsUp (drop (prefix_len (is_of g) items) items)
rest_after g [] h up = (tt, tt)
rest_after g (i ∷ items) h up = go (is_of g i) refl (rest_after g items h.1 up.1)
  where
    go : (b : Bool) → is_of g i ≡ b → (AreAfter g (drop (prefix_len (is_of g) items) items) × IsUp (drop (prefix_len (is_of g) items) items)) → Rest g i items (is_of g i)
    go true is ih =
        subst (Rest g i items) (sym is)
        (subst (λ (m : ℕ). AreAfter g (drop m (i ∷ items)) × IsUp (drop m (i ∷ items))) (sym (one_more (prefix_len (is_of g) items))) ih)
    go false is ih =
        let less : is_before g (seen i.group) ≡ true = later (is_before g (seen i.group)) refl in
        subst (Rest g i items) (sym is) ((less, after_all g (seen i.group) items less up.0), up)
      where
        later : (b : Bool) → is_before g (seen i.group) ≡ b → is_before g (seen i.group) ≡ true
        later true is' = is'
        later false is' = absurd (true≢false (sym (before_either g (seen i.group) is' h.0) ∙ is))

-- the items of a pair in a run of it, and after a run of an earlier one

filter_of : (g : Group) (items : List Item) → AreOf g items → of_pair g items ≡ items
filter_of g [] h = refl
filter_of g (i ∷ items) h =
    ap (λ (b : Bool). cond b (i ∷ of_pair g items) (of_pair g items)) h.0 ∙ ap (λ (l : List Item). i ∷ l) (filter_of g items h.1)

filter_other : (g k : Group) (items : List Item) → is_same k g ≡ false → AreOf g items → of_pair k items ≡ []
filter_other g k [] differs h = refl
filter_other g k (i ∷ items) differs h =
    let this : is_of k i ≡ false = ap (is_same k) (sym (same_is g (seen i.group) h.0)) ∙ differs in
    ap (λ (b : Bool). cond b (i ∷ of_pair k items) (of_pair k items)) this ∙ filter_other g k items differs h.1

filter_after : (g : Group) (items : List Item) → AreAfter g items → of_pair g items ≡ []
filter_after g [] h = refl
filter_after g (i ∷ items) h =
    ap (λ (b : Bool). cond b (i ∷ of_pair g items) (of_pair g items)) (before_differs g (seen i.group) h.0) ∙ filter_after g items h.1

or_true : (b : Bool) → (b || true) ≡ true
or_true true = refl
or_true false = refl

abbrev pub accepting : Item → Bool
accepting i = is_accepted i.what

pub pairs_append : (xs ys : List Item) → accepted_pairs (xs ++ ys) ≡ accepted_pairs xs ++ accepted_pairs ys
pairs_append xs ys =
    ap (map (λ (i : Item). seen i.group)) (filter-append accepting xs ys)
    ∙ map-append (λ (i : Item). seen i.group) (filter accepting xs) (filter accepting ys)

-- the accepted pairs after a run are after its pair
pairs_after : (g : Group) (items : List Item) → AreAfter g items → Above g (accepted_pairs items)
pairs_after g [] h = tt
pairs_after g (i ∷ items) h = go (accepting i) (pairs_after g items h.1)
  where
    go : (b : Bool) → Above g (accepted_pairs items) → Above g (map (λ (j : Item). seen j.group) (cond b (i ∷ filter accepting items) (filter accepting items)))
    go true ih = (h.0, ih)
    go false ih = ih

-- those of a run are its pair, where one was accepted
pairs_of : (g : Group) (items : List Item) → AreOf g items → (k : Group) →
    has k (accepted_pairs items) ≡ (not (count_of is_accepted items == 0) && is_same k g)
pairs_of g [] h k = refl
pairs_of g (i ∷ items) h k = go (accepting i) (pairs_of g items h.1 k)
  where
    this : is_same k (seen i.group) ≡ is_same k g
    this = ap (is_same k) (sym (same_is g (seen i.group) h.0))

    absorb : (a b : Bool) → (a || (b && a)) ≡ a
    absorb true b = refl
    absorb false true = refl
    absorb false false = refl

    go : (b : Bool) → has k (accepted_pairs items) ≡ (not (count_of is_accepted items == 0) && is_same k g) →
        has k (map (λ (j : Item). seen j.group) (cond b (i ∷ filter accepting items) (filter accepting items)))
        ≡ (not (length (cond b (i ∷ filter accepting items) (filter accepting items)) == 0) && is_same k g)
    go true ih =
        ap (λ (x : Bool). is_same k (seen i.group) || x) ih
        ∙ ap (λ (x : Bool). x || (not (count_of is_accepted items == 0) && is_same k g)) this
        ∙ absorb (is_same k g) (not (count_of is_accepted items == 0))
        ∙ ap (λ (x : Bool). not x && is_same k g) (sym (ne_eqb (suc (count_of is_accepted items)) 0 (λ e. omega arith)))
    go false ih = ih

above_has : (g a : Group) (l : List Group) → Above g l → has a l ≡ true → is_before g a ≡ true
above_has g a [] h in' = absurd (true≢false (sym in'))
above_has g a (b ∷ l) h in' = go (is_same a b) refl (above_has g a l h.1)
  where
    go : (x : Bool) → is_same a b ≡ x → (has a l ≡ true → is_before g a ≡ true) → is_before g a ≡ true
    go true is ih = ap (is_before g) (same_is a b is) ∙ h.0
    go false is ih = ih (ap (λ (x : Bool). x || has a l) (sym is) ∙ in')

above_members : (g : Group) (l m : List Group) → Above g l → ((k : Group) → has k m ≡ true → has k l ≡ true) → Above g m
above_members g l [] h from = tt
above_members g l (a ∷ m) h from = (
  above_has g a l h (from a (ap (λ (x : Bool). x || has a m) (same_itself a))),
  above_members g l m h (λ k in'. from k (ap (λ (x : Bool). is_same k a || x) in' ∙ or_true (is_same k a))),
)

-- a list for each pair that has an item that was accepted, and that of a run
abbrev pub parts : {T : Type 0} → (Group → List Item → List T) → List Item → List T
parts f items = flat_map (λ g. f g (of_pair g items)) (ascending (accepted_pairs items))

abbrev pub part : {T : Type 0} → (Group → List Item → List T) → Group → List Item → List T
part f g items = if count_of is_accepted items == 0 then [] else f g items

module _ (g : Group) (run rest : List Item) (of' : AreOf g run) (after : AreAfter g rest) where
  own : of_pair g (run ++ rest) ≡ run
  own = filter-append (is_of g) run rest ∙ ap (λ (l : List Item). l ++ of_pair g rest) (filter_of g run of') ∙ ap (λ (l : List Item). run ++ l) (filter_after g rest after) ∙ append-nil run

  other : (k : Group) → is_before g k ≡ true → of_pair k (run ++ rest) ≡ of_pair k rest
  other k less =
      filter-append (is_of k) run rest
      ∙ ap (λ (l : List Item). l ++ of_pair k rest) (filter_other g k run (same_sym k g ∙ before_differs g k less) of')

  others : {T : Type 0} (f : Group → List Item → List T) (l : List Group) → Above g l →
      flat_map (λ k. f k (of_pair k (run ++ rest))) l ≡ flat_map (λ k. f k (of_pair k rest)) l
  others f [] h = refl
  others {T} f (k ∷ l) h =
      ap (λ (items : List Item). f k items ++ flat_map (λ k. f k (of_pair k (run ++ rest))) l) (other k h.0)
      ∙ ap (λ (t : List T). f k (of_pair k rest) ++ t) (others f l h.1)

  all_above : Above g (ascending (accepted_pairs rest))
  all_above = above_members g (accepted_pairs rest) (ascending (accepted_pairs rest)) (pairs_after g rest after) (λ k in'. sym (has_ascending k (accepted_pairs rest)) ∙ in')

  -- what has the pairs of both
  members : (k : Group) → has k (ascending (accepted_pairs (run ++ rest))) ≡ ((not (count_of is_accepted run == 0) && is_same k g) || has k (accepted_pairs rest))
  members k =
      has_ascending k (accepted_pairs (run ++ rest)) ∙ ap (has k) (pairs_append run rest)
      ∙ list_any-append (is_same k) (accepted_pairs run) (accepted_pairs rest)
      ∙ ap (λ (b : Bool). b || has k (accepted_pairs rest)) (pairs_of g run of' k)

  pub split_parts : {T : Type 0} (f : Group → List Item → List T) → parts f (run ++ rest) ≡ part f g run ++ parts f rest
  split_parts {T} f = go (count_of is_accepted run == 0) refl
    where
      go : (b : Bool) → (count_of is_accepted run == 0) ≡ b → parts f (run ++ rest) ≡ part f g run ++ parts f rest
      go true none =
          let same : ascending (accepted_pairs (run ++ rest)) ≡ ascending (accepted_pairs rest) =
          rising_one (ascending (accepted_pairs (run ++ rest))) (ascending (accepted_pairs rest)) (rising_ascending (accepted_pairs (run ++ rest))) (rising_ascending (accepted_pairs rest))
          (λ k. members k ∙ ap (λ (b : Bool). (not b && is_same k g) || has k (accepted_pairs rest)) none ∙ sym (has_ascending k (accepted_pairs rest))) in
          ap (flat_map (λ k. f k (of_pair k (run ++ rest)))) same ∙ others f (ascending (accepted_pairs rest)) all_above
          ∙ ap (λ (b : Bool). (if b then [] else f g run) ++ parts f rest) (sym none)
      go false some =
          let same : ascending (accepted_pairs (run ++ rest)) ≡ g ∷ ascending (accepted_pairs rest) =
          rising_one (ascending (accepted_pairs (run ++ rest))) (g ∷ ascending (accepted_pairs rest)) (rising_ascending (accepted_pairs (run ++ rest)))
          (all_above, rising_ascending (accepted_pairs rest))
          (λ k. members k ∙ ap (λ (b : Bool). (not b && is_same k g) || has k (accepted_pairs rest)) some ∙ ap (λ (b : Bool). is_same k g || b) (sym (has_ascending k (accepted_pairs rest)))) in
          ap (flat_map (λ k. f k (of_pair k (run ++ rest)))) same
          ∙ ap (λ (items : List Item). f g items ++ flat_map (λ k. f k (of_pair k (run ++ rest))) (ascending (accepted_pairs rest))) own
          ∙ ap (λ (t : List T). f g run ++ t) (others f (ascending (accepted_pairs rest)) all_above)
          ∙ ap (λ (b : Bool). (if b then [] else f g run) ++ parts f rest) (sym some)

  -- the accepted pairs of both are known
  pub known_rest : AreKnown (run ++ rest) → AreKnown rest
  known_rest known k in' = known k (
      ap (has k) (pairs_append run rest) ∙ list_any-append (is_same k) (accepted_pairs run) (accepted_pairs rest)
      ∙ ap (λ (b : Bool). has k (accepted_pairs run) || b) in' ∙ or_true (has k (accepted_pairs run)))

  pub known_run : AreKnown (run ++ rest) → (count_of is_accepted run == 0) ≡ false → IsAddress g.to × IsAddress g.from
  known_run known some = known g (
      ap (has g) (pairs_append run rest) ∙ list_any-append (is_same g) (accepted_pairs run) (accepted_pairs rest)
      ∙ ap (λ (b : Bool). b || has g (accepted_pairs rest)) (pairs_of g run of' g)
      ∙ ap (λ (b : Bool). (not b && is_same g g) || has g (accepted_pairs rest)) some
      ∙ ap (λ (b : Bool). b || has g (accepted_pairs rest)) (same_itself g))

-- a turn of the loop
pub peel : {T : Type 0} (f : Group → List Item → List T) (g : Group) (items : List Item) → AreNotBefore g items → IsUp items →
    parts f items ≡ part f g (take (prefix_len (is_of g) items) items) ++ parts f (drop (prefix_len (is_of g) items) items)
peel f g items first up =
    ap (parts f) (sym (take-append-drop (prefix_len (is_of g) items) items))
    ∙ split_parts g (take (prefix_len (is_of g) items) items) (drop (prefix_len (is_of g) items) items) (run_of g items) (rest_after g items first up).0 f
