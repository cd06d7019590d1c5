-- What is printed of a group, in one text or in several.
use Rattle.std.proofs.Common.{◌≡◌, ◌==◌, ℕ, Bool, false, if◌then◌else◌, List, [], ◌∷◌, ◌++◌, Vec, Global}
use Rattle.std.proofs.Common.{append_assoc, refl, sym, ap, ◌∙◌}
use Rattle.std.specs.List.{flat_map}
use Rattle.std.proofs.lemmas.Grind.{flat_map-append}
use Rattle.rds_text.specs.Report.{Group, Counts, pair_text, counts_line}
use Rattle.rds_report.specs.Item.{Item}
use Rattle.rds_report.specs.ItemReport.{count_of, is_accepted, tally, pair_lines, lines_of, data_lines}

-- the lines of what was received
abbrev pub received_lines : List Item → List ℕ
received_lines items = flat_map (λ (i : Item). data_lines i.what) items

-- a pair and its counts, and then those lines, are the lines of a group with an accepted item
pub head_then_lines : (g : Group) (items : List Item) (k : Counts) (old headed all : List ℕ) →
    (count_of is_accepted items == 0) ≡ false → k ≡ tally items →
    headed ≡ old ++ (pair_text g ++ counts_line k) → all ≡ headed ++ received_lines items → all ≡ old ++ lines_of g items
head_then_lines g items k old headed all some counts head lines =
    lines ∙ ap (λ (t : List ℕ). t ++ received_lines items) head
    ∙ append_assoc old (pair_text g ++ counts_line k) (received_lines items)
    ∙ ap (λ (t : List ℕ). old ++ t) (append_assoc (pair_text g) (counts_line k) (received_lines items))
    ∙ ap (λ (k : Counts). old ++ (pair_text g ++ (counts_line k ++ received_lines items))) counts
    ∙ ap (λ (b : Bool). old ++ (if b then [] else pair_lines g items)) (sym some)

-- lists one behind another, seen together or each alone
pub behind : {X : Type 0} (f : X → List ℕ) (lists : List (Vec X Global)) →
    flat_map f (flat_map (λ (list : Vec X Global). list.items) lists) ≡ flat_map (λ (list : Vec X Global). flat_map f list.items) lists
behind f [] = refl
behind {X} f (l ∷ lists) =
    flat_map-append f l.items (flat_map (λ (list : Vec X Global). list.items) lists)
    ∙ ap (λ (t : List ℕ). flat_map f l.items ++ t) (behind f lists)
