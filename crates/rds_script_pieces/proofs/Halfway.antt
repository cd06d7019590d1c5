-- Pieces that are put together, one by one.
use Rattle.std.proofs.Common.{◌≡◌, ℕ, ◌≤◌, List, [], ◌∷◌, ◌++◌, length, arith, refl, sym, ap, subst, ◌∙◌, inl, inr}
use Rattle.std.specs.Prelude.{◌⊎◌, All}
use Rattle.std.specs.List.{AllZip, concat}
use Rattle.std.proofs.lemmas.List.{append_assoc, append-nil, length-append}
use Rattle.rds_script.specs.declared.script.Placed.{Placed}
use Rattle.rds_script.specs.Script.{IsCommand, payload_total, cut_total}
use Rattle.rds_script.specs.Grammar.{Meaning, Spells}
use Rattle.rds_script_pieces.specs.declared.part.Part.{Part}
use Rattle.rds_script_pieces.specs.Pieces.{EndsLine, AreCut}
use Rattle.rds_script_pieces.specs.Parts.{AreInLines, AreRead, IsAlike, IsHead, IsPart}

-- some of the pieces are read, and these are left
pub record Halfway (head : List ℕ) (pieces : List (List ℕ)) (whole : Part) (parts : List Part) : Type 0 where
  pub done : List ℕ
  pub left : List (List ℕ)
  pub all : done ++ concat left ≡ concat pieces
  pub cut : AreCut left
  pub ended : (left ≡ []) ⊎ EndsLine (head ++ done)
  pub read : IsPart head done whole
  pub each : AllZip (IsPart head) left parts

-- the same was read of the same piece
alike : (head piece : List ℕ) (one other : Part) → IsAlike one other → IsPart head piece one → IsPart head piece other
alike head piece one other a p =
    let hosts : one.script.hosts ≡ other.script.hosts = ap (λ (m : Meaning). m.hosts) (sym a.script) in
    let commands : one.script.commands.items ≡ other.script.commands.items = ap (λ (m : Meaning). m.commands) (sym a.script) in
    let each = subst (λ (cs : List Placed). All (λ (c : Placed). IsCommand one.script.hosts c.command) cs) commands p.known.each in
    record {
      spells = subst (Spells (head ++ piece)) (sym a.script) p.spells;
      known = record {
        hosts_low = subst (λ (n : ℕ). 2 ≤ n) hosts p.known.hosts_low;
        hosts_high = subst (λ (n : ℕ). n ≤ 8) hosts p.known.hosts_high;
        each = subst (λ (n : ℕ). All (λ (c : Placed). IsCommand n c.command) other.script.commands.items) hosts each;
        total = subst (λ (cs : List Placed). payload_total cs ≤ 16777216) commands p.known.total;
        cuts = subst (λ (cs : List Placed). cut_total cs ≤ 1024) commands p.known.cuts;
      };
      placed = subst AreInLines commands p.placed;
      lines = a.lines ∙ p.lines;
      bytes = a.bytes ∙ p.bytes ∙ ap payload_total commands;
      cuts = a.cuts ∙ p.cuts ∙ ap cut_total commands;
    }

-- before the first
pub half_none : (head : List ℕ) (count : ℕ) (pieces : List (List ℕ)) (first whole : Part) (parts : List Part) → AreRead head count pieces first parts → IsAlike first whole → Halfway head pieces whole parts
half_none head count pieces first whole parts r same = record {
  done = [];
  left = pieces;
  all = refl;
  cut = r.cut;
  ended = inr (subst EndsLine (sym (append-nil head)) r.is_head.ended);
  read = alike head [] first whole same r.alone;
  each = r.each;
}

-- a text that ends behind a line, behind another one
ends_behind : (front back : List ℕ) → EndsLine back → EndsLine (front ++ back)
ends_behind front back e = (front ++ e.0, ap (λ (t : List ℕ). front ++ t) e.1 ∙ sym (append_assoc front e.0 (10 ∷ [])))

-- what is known of two pieces, one behind the other
abbrev pub Follows : ℕ → Part → Part → Part → Type 0
Follows count whole part both = (head done piece : List ℕ) → IsHead head count → EndsLine (head ++ done) → length (head ++ (done ++ piece)) ≤ 16777216 → IsPart head done whole → IsPart head piece part → IsPart head (done ++ piece) both

-- one piece more
pub half_more : (head : List ℕ) (count : ℕ) (pieces : List (List ℕ)) (first : Part) (all parts : List Part) (whole part both : Part) → AreRead head count pieces first all → Follows count whole part both → Halfway head pieces whole (part ∷ parts) → Halfway head pieces both parts
half_more head count pieces first all parts whole part both r follows h = go h.left h.all h.cut h.ended h.each
  where
    next : (piece : List ℕ) (left : List (List ℕ)) → AreCut (piece ∷ left) → (left ≡ []) ⊎ EndsLine (head ++ (h.done ++ piece))
    next piece [] cut = inl refl
    next piece (q ∷ left) cut = inr (ends_behind head (h.done ++ piece) (ends_behind h.done piece cut.0))

    rest : (piece : List ℕ) (left : List (List ℕ)) → AreCut (piece ∷ left) → AreCut left
    rest piece [] cut = tt
    rest piece (q ∷ left) cut = cut.1

    go : (left : List (List ℕ)) → h.done ++ concat left ≡ concat pieces → AreCut left → (left ≡ []) ⊎ EndsLine (head ++ h.done) → AllZip (IsPart head) left (part ∷ parts) → Halfway head pieces both parts
    go [] e cut ended each = absurd each
    go (piece ∷ left) e cut (inl none) each = absurd (no_pieces none)
      where
        no_pieces : piece ∷ left ≡ [] → ⊥
        no_pieces e = cc
    go (piece ∷ left) e cut (inr ended) each =
        let long = ap length e in
        let joined = length-append h.done (piece ++ concat left) in
        let tail = length-append piece (concat left) in
        let two = length-append h.done piece in
        let some = length-append head (h.done ++ piece) in
        let whole-long = length-append head (concat pieces) in
        let small = r.small in
        record {
          done = h.done ++ piece;
          left = left;
          all = append_assoc h.done piece (concat left) ∙ e;
          cut = rest piece left cut;
          ended = next piece left cut;
          read = follows head h.done piece r.is_head ended (omega arith) h.read each.0;
          each = each.1;
        }

-- behind the last
pub half_all : (head : List ℕ) (pieces : List (List ℕ)) (whole : Part) → Halfway head pieces whole [] → IsPart head (concat pieces) whole
half_all head pieces whole h = go h.left h.all h.each
  where
    go : (left : List (List ℕ)) → h.done ++ concat left ≡ concat pieces → AllZip (IsPart head) left [] → IsPart head (concat pieces) whole
    go [] e each = subst (λ (t : List ℕ). IsPart head t whole) (sym (append-nil h.done) ∙ e) h.read
    go (piece ∷ left) e each = absurd each
