-- Turns of a loop that takes the items of one pair after another.
use Rattle.std.proofs.Common.{◌≡◌, ◌<◌, ◌+◌, ◌==◌, ℕ, Bool, true, false, cond, Option, Some, None, is_some, List, [], ◌∷◌, ◌++◌, length, take, drop, arith, refl, sym, ap, ◌∙◌, subst, length-append}
use Rattle.std.specs.Prelude.{unwrap_or}
use Rattle.std.specs.List.{prefix_len, take_while}
use Rattle.std.proofs.lemmas.Bool.{true≢false}
use Rattle.std.proofs.lemmas.List.{take-append-drop}
use Rattle.std.proofs.lemmas.List.Folds.{length-prefix_len}
use Rattle.rds_report.specs.Item.{Item}
use Rattle.rds_text.specs.Hosts.{IsAddress}
use Rattle.rds_text.specs.Report.{Group}
use Rattle.rds_report.specs.Items.{seen}
use Rattle.rds_report.specs.ItemReport.{is_of, is_accepted, count_of, first_pair, pair_lines, lines_of, groups_text, AreKnown, AreNotBefore, IsUp}
use Rattle.rds_report.specs.ItemTotals.{grouped, with_accepted}
use Rattle.rds_report.proofs.Orders.{same_itself, before_itself}
use Rattle.rds_report.proofs.Chunks.{AreAfter, AreOf, known_rest, known_run, part, parts, peel, rest_after, run_of}

-- items without a first one
pub none_left : (items : List Item) → None ≡ first_pair items → items ≡ []
none_left [] is = refl
none_left (i ∷ items) is = absurd (true≢false (sym (ap is_some is)))

-- the pair of the first item is first, and its run isn't empty
first_first : (g : Group) (items : List Item) → Some g ≡ first_pair items → IsUp items → AreNotBefore g items
first_first g [] is up = absurd (true≢false (ap is_some is))
first_first g (i ∷ items) is up =
    let same : seen i.group ≡ g = sym (ap (λ (o : Option Group). unwrap_or o g) is) in
    subst (λ (k : Group). AreNotBefore k (i ∷ items)) same (before_itself (seen i.group), up.0)

run_long : (g : Group) (items : List Item) → Some g ≡ first_pair items → 0 < prefix_len (is_of g) items
run_long g [] is = absurd (true≢false (ap is_some is))
run_long g (i ∷ items) is =
    let same : seen i.group ≡ g = sym (ap (λ (o : Option Group). unwrap_or o g) is) in
    let here : is_of g i ≡ true = ap (λ (k : Group). is_of k i) (sym same) ∙ same_itself (seen i.group) in
    subst (λ (b : Bool). 0 < cond b (1 + prefix_len (is_of g) items) 0) (sym here) (omega arith)

-- what a turn takes, and what it leaves
pub record Turn (g : Group) (items run rest : List Item) : Type 0 where
  pub pair : Some g ≡ first_pair items
  pub taken : run ≡ take_while (is_of g) items
  pub left : rest ≡ drop (length run) items
  pub up : IsUp items

module _ {g : Group} {items run rest : List Item} (t : Turn g items run rest) where
  first : AreNotBefore g items
  first = first_first g items t.pair t.up

  long : length run ≡ prefix_len (is_of g) items
  long = ap length t.taken ∙ length-prefix_len (is_of g) items

  the_run : run ≡ take (prefix_len (is_of g) items) items
  the_run = t.taken

  the_rest : rest ≡ drop (prefix_len (is_of g) items) items
  the_rest = t.left ∙ ap (λ (n : ℕ). drop n items) long

  both : run ++ rest ≡ items
  both = ap (λ (l : List Item). l ++ rest) the_run ∙ ap (λ (l : List Item). take (prefix_len (is_of g) items) items ++ l) the_rest
      ∙ take-append-drop (prefix_len (is_of g) items) items

  pub turn_parts : {T : Type 0} (f : Group → List Item → List T) → parts f items ≡ part f g run ++ parts f rest
  turn_parts f =
      peel f g items first t.up
      ∙ ap (λ (l : List Item). part f g l ++ parts f (drop (prefix_len (is_of g) items) items)) (sym the_run)
      ∙ ap (λ (l : List Item). part f g run ++ parts f l) (sym the_rest)

  pub turn_text : groups_text items ≡ lines_of g run ++ groups_text rest
  turn_text = turn_parts pair_lines

  pub turn_items : grouped items ≡ with_accepted run ++ grouped rest
  turn_items = turn_parts (λ k l. l)

  pub turn_length : length items ≡ length run + length rest
  turn_length = sym (sym (length-append run rest) ∙ ap length both)

  pub turn_shorter : length rest < length items
  turn_shorter = let some = run_long g items t.pair in omega (arith, turn_length, long, some)

  pub turn_up : IsUp rest
  turn_up = subst IsUp (sym the_rest) (rest_after g items first t.up).1

  after : AreAfter g rest
  after = subst (AreAfter g) (sym the_rest) (rest_after g items first t.up).0

  own : AreOf g run
  own = subst (AreOf g) (sym the_run) (run_of g items)

  pub turn_known : AreKnown items → AreKnown rest
  turn_known known = known_rest g run rest own after (subst AreKnown (sym both) known)

  pub turn_run : AreKnown items → (count_of is_accepted run == 0) ≡ false → IsAddress g.to × IsAddress g.from
  turn_run known = known_run g run rest own after (subst AreKnown (sym both) known)
