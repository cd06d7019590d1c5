-- The report by parts, one for each host that datagrams went to.
use Rattle.std.proofs.Common.{◌≡◌, ◌<◌, ◌≤◌, ◌+◌, inl, inr, ℕ, zero, suc, Bool, true, false, ◌||◌, ◌&&◌, ◌==◌, nat_lt, cond, List, [], ◌∷◌, ◌++◌, filter, Some, length, slice_get, subst, if◌then◌else◌, append_assoc, arith, refl, sym, ap, ◌∙◌}
use Rattle.std.specs.List.{flat_map, list_any}
use Rattle.std.proofs.lemmas.Bool.{true≢false, cases_order, lt-ltb, le-ltb, ne_eqb, eq-eqb, eqb-true}
use Rattle.std.proofs.lemmas.List.{append-nil}
use Rattle.std.proofs.lemmas.Grind.{flat_map-append}
use Rattle.rds_text.specs.declared.host.TheConstants.{MAX_HOSTS}
use Rattle.rds_report.specs.Item.{Item}
use Rattle.rds_text.specs.Hosts.{IsAddress, address_of}
use Rattle.rds_text.specs.FinalState.{FinalHost}
use Rattle.rds_text.specs.Report.{Group, is_before, ascending, groups, group_text}
use Rattle.rds_text.specs.FinalViews.{AreFinalHosts}
use Rattle.rds_report.specs.Items.{is_to, items, items_to}
use Rattle.rds_report.specs.ItemReport.{is_same, is_of, of_pair, pair_lines, accepted_pairs, groups_text, AreKnown, groups_to, job_end, part, parts}
use Rattle.rds_report.proofs.Orders.{Above, Rising, lex_more, has, has_ascending, rising_ascending, rising_one, same_itself}
use Rattle.rds_report.proofs.Chunks.{accepting}
use Rattle.rds_report.proofs.Chosen.{ends_once}
use Rattle.rds_report.proofs.Tallied.{pair_is}
use Rattle.rds_report.proofs.Pairs.{all_once, end_groups, has_items, has_pairs, known_groups}

-- the items of a pair among those of the pairs to one host

pub pair_kept : (g : Group) (to : ℕ) (xs : List Item) → g.to ≡ to → of_pair g (filter (is_to to) xs) ≡ of_pair g xs
pair_kept g to [] is = refl
pair_kept g to (x ∷ xs) is = go (is_to to x) refl (pair_kept g to xs is)
  where
    go : (b : Bool) → is_to to x ≡ b → of_pair g (filter (is_to to) xs) ≡ of_pair g xs → of_pair g (filter (is_to to) (x ∷ xs)) ≡ of_pair g (x ∷ xs)
    go true kept ih =
        ap (λ (b : Bool). of_pair g (cond b (x ∷ filter (is_to to) xs) (filter (is_to to) xs))) kept
        ∙ ap (λ (l : List Item). cond (is_of g x) (x ∷ l) l) ih
    go false other ih =
        let differs : is_of g x ≡ false = ap (λ (b : Bool). (b && (g.dport == x.group.dport)) && ((g.from == x.group.from) && (g.sport == x.group.sport)))
        (ne_eqb g.to x.group.to (λ e. true≢false (sym (eq-eqb x.group.to to (sym e ∙ is)) ∙ other))) in
        ap (λ (b : Bool). of_pair g (cond b (x ∷ filter (is_to to) xs) (filter (is_to to) xs))) other ∙ ih
        ∙ sym (ap (λ (b : Bool). cond b (x ∷ of_pair g xs) (of_pair g xs)) differs)

pub pair_gone : (g : Group) (to : ℕ) (xs : List Item) → (g.to == to) ≡ false → of_pair g (filter (is_to to) xs) ≡ []
pair_gone g to [] is = refl
pair_gone g to (x ∷ xs) is = go (is_to to x) refl (pair_gone g to xs is)
  where
    go : (b : Bool) → is_to to x ≡ b → of_pair g (filter (is_to to) xs) ≡ [] → of_pair g (filter (is_to to) (x ∷ xs)) ≡ []
    go true kept ih =
        let differs : is_of g x ≡ false = ap (λ (b : Bool). (b && (g.dport == x.group.dport)) && ((g.from == x.group.from) && (g.sport == x.group.sport)))
        (ne_eqb g.to x.group.to (λ e. true≢false (sym (eq-eqb g.to to (e ∙ eqb-true x.group.to to kept)) ∙ is))) in
        ap (λ (b : Bool). of_pair g (cond b (x ∷ filter (is_to to) xs) (filter (is_to to) xs))) kept
        ∙ ap (λ (b : Bool). cond b (x ∷ of_pair g (filter (is_to to) xs)) (of_pair g (filter (is_to to) xs))) differs ∙ ih
    go false other ih = ap (λ (b : Bool). of_pair g (cond b (x ∷ filter (is_to to) xs) (filter (is_to to) xs))) other ∙ ih

-- pairs that pass a test still rise

above_filter : (p : Group → Bool) (a : Group) (gs : List Group) → Above a gs → Above a (filter p gs)
above_filter p a [] h = tt
above_filter p a (b ∷ gs) h = go (p b) (above_filter p a gs h.1)
  where
    go : (x : Bool) → Above a (filter p gs) → Above a (cond x (b ∷ filter p gs) (filter p gs))
    go true ih = (h.0, ih)
    go false ih = ih

rising_filter : (p : Group → Bool) (gs : List Group) → Rising gs → Rising (filter p gs)
rising_filter p [] h = tt
rising_filter p (a ∷ gs) h = go (p a) (rising_filter p gs h.1)
  where
    go : (x : Bool) → Rising (filter p gs) → Rising (cond x (a ∷ filter p gs) (filter p gs))
    go true ih = (above_filter p a gs h.0, ih)
    go false ih = ih

-- a pair is among those to its host where it is among all, and among those to another host never

has_kept : (g : Group) (to : ℕ) (gs : List Group) → g.to ≡ to → has g (filter (λ (k : Group). k.to == to) gs) ≡ has g gs
has_kept g to [] is = refl
has_kept g to (k ∷ gs) is = go (k.to == to) refl (has_kept g to gs is)
  where
    go : (b : Bool) → (k.to == to) ≡ b → has g (filter (λ (k : Group). k.to == to) gs) ≡ has g gs → has g (filter (λ (k : Group). k.to == to) (k ∷ gs)) ≡ has g (k ∷ gs)
    go true kept ih =
        ap (λ (b : Bool). has g (cond b (k ∷ filter (λ (k : Group). k.to == to) gs) (filter (λ (k : Group). k.to == to) gs))) kept
        ∙ ap (λ (b : Bool). is_same g k || b) ih
    go false other ih =
        let differs : is_same g k ≡ false = ap (λ (b : Bool). (b && (g.dport == k.dport)) && ((g.from == k.from) && (g.sport == k.sport)))
        (ne_eqb g.to k.to (λ e. true≢false (sym (eq-eqb k.to to (sym e ∙ is)) ∙ other))) in
        ap (λ (b : Bool). has g (cond b (k ∷ filter (λ (k : Group). k.to == to) gs) (filter (λ (k : Group). k.to == to) gs))) other ∙ ih
        ∙ sym (ap (λ (b : Bool). b || has g gs) differs)

has_gone : (g : Group) (to : ℕ) (gs : List Group) → (g.to == to) ≡ false → has g (filter (λ (k : Group). k.to == to) gs) ≡ false
has_gone g to [] is = refl
has_gone g to (k ∷ gs) is = go (k.to == to) refl (has_gone g to gs is)
  where
    go : (b : Bool) → (k.to == to) ≡ b → has g (filter (λ (k : Group). k.to == to) gs) ≡ false → has g (filter (λ (k : Group). k.to == to) (k ∷ gs)) ≡ false
    go true kept ih =
        let differs : is_same g k ≡ false = ap (λ (b : Bool). (b && (g.dport == k.dport)) && ((g.from == k.from) && (g.sport == k.sport)))
        (ne_eqb g.to k.to (λ e. true≢false (sym (eq-eqb g.to to (e ∙ eqb-true k.to to kept)) ∙ is))) in
        ap (λ (b : Bool). has g (cond b (k ∷ filter (λ (k : Group). k.to == to) gs) (filter (λ (k : Group). k.to == to) gs))) kept
        ∙ ap (λ (b : Bool). b || has g (filter (λ (k : Group). k.to == to) gs)) differs ∙ ih
    go false other ih =
        ap (λ (b : Bool). has g (cond b (k ∷ filter (λ (k : Group). k.to == to) gs) (filter (λ (k : Group). k.to == to) gs))) other ∙ ih

-- what is made of pairs to one host depends on those alone
pub to_same : {X : Type 0} (to : ℕ) (f h : Group → List X) → ((g : Group) → g.to ≡ to → f g ≡ h g) → (gs : List Group) →
    flat_map f (filter (λ (g : Group). g.to == to) gs) ≡ flat_map h (filter (λ (g : Group). g.to == to) gs)
to_same to f h same [] = refl
to_same {X} to f h same (g ∷ gs) = go (g.to == to) refl (to_same to f h same gs)
  where
    rest : List Group
    rest = filter (λ (g : Group). g.to == to) gs

    go : (b : Bool) → (g.to == to) ≡ b → flat_map f rest ≡ flat_map h rest → flat_map f (cond (g.to == to) (g ∷ rest) rest) ≡ flat_map h (cond (g.to == to) (g ∷ rest) rest)
    go true is ih =
        ap (λ (b : Bool). flat_map f (cond b (g ∷ rest) rest)) is
        ∙ ap (λ (t : List X). t ++ flat_map f rest) (same g (eqb-true g.to to is)) ∙ ap (λ (t : List X). h g ++ t) ih
        ∙ sym (ap (λ (b : Bool). flat_map h (cond b (g ∷ rest) rest)) is)
    go false is ih =
        ap (λ (b : Bool). flat_map f (cond b (g ∷ rest) rest)) is ∙ ih ∙ sym (ap (λ (b : Bool). flat_map h (cond b (g ∷ rest) rest)) is)

-- the items of the pairs to one host in another order, where those of each pair are in their order
module _ (ends : List FinalHost) (are : AreFinalHosts ends) (to : ℕ) (sorted : List Item) (stable : (g : Group) → of_pair g sorted ≡ of_pair g (items_to to ends)) where
  to_members : (g : Group) → has g (accepted_pairs sorted) ≡ has g (groups_to ends to)
  to_members g = has_pairs g sorted ∙ ap (list_any accepting) (stable g) ∙ go (g.to == to) refl
    where
      go : (b : Bool) → (g.to == to) ≡ b → list_any accepting (of_pair g (items_to to ends)) ≡ has g (groups_to ends to)
      go true is =
          ap (list_any accepting) (pair_kept g to (items ends) (eqb-true g.to to is)) ∙ sym (has_pairs g (items ends)) ∙ has_items g ends
          ∙ sym (has_ascending g (flat_map end_groups ends)) ∙ sym (has_kept g to (groups ends) (eqb-true g.to to is))
      go false is = ap (list_any accepting) (pair_gone g to (items ends) is) ∙ sym (has_gone g to (groups ends) is)

  pub to_known : AreKnown sorted
  to_known g in' = known_groups ends are g (sym (has_ascending g (flat_map end_groups ends)) ∙ go (g.to == to) refl)
    where
      go : (b : Bool) → (g.to == to) ≡ b → has g (groups ends) ≡ true
      go true is = sym (has_kept g to (groups ends) (eqb-true g.to to is)) ∙ sym (to_members g) ∙ in'
      go false is = absurd (true≢false (sym in' ∙ to_members g ∙ has_gone g to (groups ends) is))

  pub to_groups : ascending (accepted_pairs sorted) ≡ groups_to ends to
  to_groups =
      rising_one (ascending (accepted_pairs sorted)) (groups_to ends to) (rising_ascending (accepted_pairs sorted))
      (rising_filter (λ (g : Group). g.to == to) (groups ends) (rising_ascending (flat_map end_groups ends)))
      (λ g. has_ascending g (accepted_pairs sorted) ∙ to_members g)

  pub to_text : groups_text sorted ≡ part ends to
  to_text =
      ap (flat_map (λ g. pair_lines g (of_pair g sorted))) to_groups
      ∙ to_same to (λ g. pair_lines g (of_pair g sorted)) (group_text ends)
      (λ g is. ap (pair_lines g) (stable g ∙ pair_kept g to (items ends) is) ∙ pair_is ends (ends_once ends are.once) (all_once ends are.sides) g) (groups ends)

-- the pairs to hosts below one, and those to it

abbrev pub is_below : ℕ → Group → Bool
is_below n g = nat_lt g.to n

before_le : (a b : Group) → is_before a b ≡ true → a.to ≤ b.to
before_le a b less = elim (cases_order a.to b.to) [
  | inl same ↦ omega (arith, same)
  | inr (inl less') ↦ omega (arith, less')
  | inr (inr more) ↦ absurd (true≢false (sym less ∙ lex_more a.to b.to _ more))
]

none_below : (n : ℕ) (a : Group) (gs : List Group) → n ≤ a.to → Above a gs → filter (is_below n) gs ≡ []
none_below n a [] least h = refl
none_below n a (b ∷ gs) least h =
    let up = before_le a b h.0 in
    ap (λ (x : Bool). cond x (b ∷ filter (is_below n) gs) (filter (is_below n) gs)) (le-ltb b.to n (omega (arith, least, up)))
    ∙ none_below n a gs least h.1

pub below_more : (n : ℕ) (gs : List Group) → Rising gs →
    filter (is_below (suc n)) gs ≡ filter (is_below n) gs ++ filter (λ (g : Group). g.to == n) gs
below_more n [] h = refl
below_more n (a ∷ gs) h =
    let ih = below_more n gs h.1 in
    elim (cases_order a.to n) [
      | inl same ↦
          let none : filter (is_below n) gs ≡ [] = none_below n a gs (omega (arith, same)) h.0 in
          ap (λ (x : Bool). cond x (a ∷ filter (is_below (suc n)) gs) (filter (is_below (suc n)) gs)) (lt-ltb a.to (suc n) (omega (arith, same)))
          ∙ ap (λ (l : List Group). a ∷ l) (ih ∙ ap (λ (l : List Group). l ++ filter (λ (g : Group). g.to == n) gs) none)
          ∙ sym (ap (λ (x : Bool). cond x (a ∷ filter (is_below n) gs) (filter (is_below n) gs) ++ filter (λ (g : Group). g.to == n) (a ∷ gs)) (le-ltb a.to n (omega (arith, same)))
          ∙ ap (λ (l : List Group). l ++ filter (λ (g : Group). g.to == n) (a ∷ gs)) none
          ∙ ap (λ (x : Bool). cond x (a ∷ filter (λ (g : Group). g.to == n) gs) (filter (λ (g : Group). g.to == n) gs)) (eq-eqb a.to n same))
      | inr (inl less) ↦
          ap (λ (x : Bool). cond x (a ∷ filter (is_below (suc n)) gs) (filter (is_below (suc n)) gs)) (lt-ltb a.to (suc n) (omega (arith, less)))
          ∙ ap (λ (l : List Group). a ∷ l) ih
          ∙ sym (ap (λ (x : Bool). cond x (a ∷ filter (is_below n) gs) (filter (is_below n) gs) ++ filter (λ (g : Group). g.to == n) (a ∷ gs)) (lt-ltb a.to n less)
          ∙ ap (λ (x : Bool). a ∷ (filter (is_below n) gs ++ cond x (a ∷ filter (λ (g : Group). g.to == n) gs) (filter (λ (g : Group). g.to == n) gs))) (ne_eqb a.to n (λ e. omega (arith, less, e))))
      | inr (inr more) ↦
          ap (λ (x : Bool). cond x (a ∷ filter (is_below (suc n)) gs) (filter (is_below (suc n)) gs)) (le-ltb a.to (suc n) (omega (arith, more)))
          ∙ ih
          ∙ sym (ap (λ (x : Bool). cond x (a ∷ filter (is_below n) gs) (filter (is_below n) gs) ++ filter (λ (g : Group). g.to == n) (a ∷ gs)) (le-ltb a.to n (omega (arith, more)))
          ∙ ap (λ (x : Bool). filter (is_below n) gs ++ cond x (a ∷ filter (λ (g : Group). g.to == n) gs) (filter (λ (g : Group). g.to == n) gs)) (ne_eqb a.to n (λ e. omega (arith, more, e))))
    ]

-- all pairs are to hosts below the last one, and none is below the first
pub all_below : (n : ℕ) (gs : List Group) → ((g : Group) → has g gs ≡ true → g.to < n) → filter (is_below n) gs ≡ gs
all_below n [] h = refl
all_below n (a ∷ gs) h =
    let first = h a (ap (λ (x : Bool). x || has a gs) (same_itself a)) in
    ap (λ (x : Bool). cond x (a ∷ filter (is_below n) gs) (filter (is_below n) gs)) (lt-ltb a.to n first)
    ∙ ap (λ (l : List Group). a ∷ l) (all_below n gs (λ g in'. h g (or_true (is_same g a) (has g gs) in')))
  where
    or_true : (x y : Bool) → y ≡ true → (x || y) ≡ true
    or_true true y is = refl
    or_true false y is = is

pub nothing_below : (n : ℕ) (gs : List Group) → ((g : Group) → has g gs ≡ true → n ≤ g.to) → filter (is_below n) gs ≡ []
nothing_below n [] h = refl
nothing_below n (a ∷ gs) h =
    let first = h a (ap (λ (x : Bool). x || has a gs) (same_itself a)) in
    ap (λ (x : Bool). cond x (a ∷ filter (is_below n) gs) (filter (is_below n) gs)) (le-ltb a.to n first)
    ∙ nothing_below n gs (λ g in'. h g (or_true (is_same g a) (has g gs) in'))
  where
    or_true : (x y : Bool) → y ≡ true → (x || y) ≡ true
    or_true true y is = refl
    or_true false y is = is

-- all pairs are to hosts below the last one and none below the first, and those to one more host follow
module _ (ends : List FinalHost) where
  pub below_next : (n : ℕ) → filter (is_below (address_of (suc n))) (groups ends) ≡ filter (is_below (address_of n)) (groups ends) ++ groups_to ends (address_of n)
  below_next n =
      ap (λ (m : ℕ). filter (is_below m) (groups ends)) next
      ∙ below_more (address_of n) (groups ends) (rising_ascending (flat_map end_groups ends))
    where
      next : address_of (suc n) ≡ suc (address_of n)
      next = omega arith

  module _ (are : AreFinalHosts ends) where
    known_pair : (g : Group) → has g (groups ends) ≡ true → IsAddress g.to
    known_pair g in' = (known_groups ends are g (sym (has_ascending g (flat_map end_groups ends)) ∙ in')).0

    pub below_none : filter (is_below (address_of 0)) (groups ends) ≡ []
    below_none = nothing_below (address_of 0) (groups ends) (λ g in'. let k = (known_pair g in').least in omega (arith, k))

    pub below_last : filter (is_below (address_of MAX_HOSTS)) (groups ends) ≡ groups ends
    below_last = all_below (address_of MAX_HOSTS) (groups ends) (λ g in'. let k = (known_pair g in').most in omega (arith, k))

    -- all parts together are the report without its last line
    pub parts_below : (n : ℕ) → parts ends n ≡ flat_map (group_text ends) (filter (is_below (address_of n)) (groups ends))
    parts_below zero = sym (ap (flat_map (group_text ends)) below_none)
    parts_below (suc n) =
        ap (λ (t : List ℕ). t ++ part ends (address_of n)) (parts_below n)
        ∙ sym (flat_map-append (group_text ends) (filter (is_below (address_of n)) (groups ends)) (groups_to ends (address_of n)))
        ∙ sym (ap (flat_map (group_text ends)) (below_next n))

    pub all_parts : parts ends MAX_HOSTS ≡ flat_map (group_text ends) (groups ends)
    all_parts = parts_below MAX_HOSTS ∙ ap (flat_map (group_text ends)) below_last

-- what one more than `count` jobs made, from job `job` on, behind the parts that end before it
jobs_end : {T : Type 0} (bytes : T → List ℕ) (ends : List FinalHost) (count job : ℕ) (made : List T) → job + length made ≡ suc count →
    ((i : ℕ) (t : T) → slice_get made i ≡ Some t → parts ends (job_end count (job + i)) ≡ parts ends (job + i) ++ bytes t) →
    job ≤ count → parts ends job ++ flat_map bytes made ≡ parts ends MAX_HOSTS
jobs_end bytes ends count job [] number each within = absurd (omega (arith, number, within))
jobs_end bytes ends count job (t ∷ []) number each within =
    ap (λ (l : List ℕ). parts ends job ++ l) (append-nil (bytes t))
    ∙ sym (subst (λ (j : ℕ). parts ends (job_end count j) ≡ parts ends j ++ bytes t) same (each 0 t refl))
    ∙ ap (λ (b : Bool). parts ends (if b then suc job else MAX_HOSTS)) (le-ltb job count (omega (arith, number)))
  where
    same : job + 0 ≡ job
    same = omega arith
jobs_end {T} bytes ends count job (t ∷ (u ∷ made)) number each within =
    sym (append_assoc (parts ends job) (bytes t) (flat_map bytes (u ∷ made)))
    ∙ ap (λ (l : List ℕ). l ++ flat_map bytes (u ∷ made))
    (sym (subst (λ (j : ℕ). parts ends (job_end count j) ≡ parts ends j ++ bytes t) same (each 0 t refl))
    ∙ ap (λ (b : Bool). parts ends (if b then suc job else MAX_HOSTS)) (lt-ltb job count (omega (arith, number))))
    ∙ jobs_end bytes ends count (suc job) (u ∷ made) (omega (arith, number)) later (omega (arith, number))
  where
    same : job + 0 ≡ job
    same = omega arith

    later : (i : ℕ) (x : T) → slice_get (u ∷ made) i ≡ Some x → parts ends (job_end count (suc job + i)) ≡ parts ends (suc job + i) ++ bytes x
    later i x at =
        let up : job + suc i ≡ suc job + i = omega arith in
        subst (λ (j : ℕ). parts ends (job_end count j) ≡ parts ends j ++ bytes x) up (each (suc i) x at)

-- what all of them made is all parts
pub all_jobs : {T : Type 0} (bytes : T → List ℕ) (ends : List FinalHost) (count : ℕ) (made : List T) → length made ≡ suc count →
    ((i : ℕ) (t : T) → slice_get made i ≡ Some t → parts ends (job_end count i) ≡ parts ends i ++ bytes t) → flat_map bytes made ≡ parts ends MAX_HOSTS
all_jobs bytes ends count made number each =
    jobs_end bytes ends count 0 made (omega (arith, number))
    (λ i t at. let same : i ≡ 0 + i = omega arith in subst (λ (j : ℕ). parts ends (job_end count j) ≡ parts ends j ++ bytes t) same (each i t at))
    (omega arith)
