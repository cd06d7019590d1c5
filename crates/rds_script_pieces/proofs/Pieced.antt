-- What was read of a head alone, and of each piece.
use Rattle.std.proofs.Common.{◌≡◌, ℕ, List, [], ◌∷◌, ◌++◌, length, map, Option, Some, None, Result, Ok, Err, Vec, Global, arith, refl, sym, ap, subst, ◌∙◌}
use Rattle.std.specs.Prelude.{◌≢◌, IfOk, IfSome, MatchResult, Contains}
use Rattle.std.specs.Borrow.{Bor}
use Rattle.std.specs.Result.{result_ok}
use Rattle.std.specs.List.{AllByRecursion, AllZip}
use Rattle.std.specs.Str.Lines.{lines as lines_of}
use Rattle.std.proofs.lemmas.List.{append-nil, map-append}
use Rattle.rayon.proofs.ListFacts.{AllZip-append, AllZip-through}
use Rattle.rds_script.specs.declared.cause.ScriptError.{ScriptError}
use Rattle.rds_script.specs.declared.script.Placed.{Placed}
use Rattle.rds_script.specs.Grammar.{Meaning, meaning, command_lines, SpellsPlaced, SpellsLines, Spells}
use Rattle.rds_script_pieces.specs.declared.part.Part.{Part}
use Rattle.rds_script_pieces.specs.Pieces.{EndsLine, contents}
use Rattle.rds_script_pieces.specs.Parts.{AreInLines, IsHead, IsPart}
use Rattle.rds_script_pieces.proofs.Numbered.{Line}

-- what an `ok` that gave something says
pub some_ok : {X E : Type 0} (P : X → Type 0) (r : Result X E) (x : X) → IfOk r P → Some x ≡ result_ok r → P x
some_ok P (Ok y) x h e = let same : x ≡ y = cc in subst P (sym same) h
some_ok {X = X} P (Err y) x h e = absurd (no_some e)
  where
    no_some : ◌≡◌ {A = Option X} (Some x) None → ⊥
    no_some e = cc

pub if_ok : {X E : Type 0} (P : X → Type 0) (r : Result X E) (o : Option X) → IfOk r P → o ≡ result_ok r → IfSome o P
if_ok P (Ok y) o h e = subst (λ p. IfSome p P) (sym e) h
if_ok P (Err y) o h e = subst (λ p. IfSome p P) (sym e) tt

-- a text that spells no command beside the number of hosts has one line with a command
pub one_line : (text : List ℕ) (s : Meaning) → Spells text s → s.commands ≡ [] → (line : Line) × (command_lines (lines_of text) ≡ line ∷ [])
one_line text s h none = go (command_lines (lines_of text)) refl h.some h.kept.spelled
  where
    pairs : (hosts : ℕ) (ls : List Line) (cs : List Placed) → AllZip (SpellsPlaced hosts) ls cs → cs ≡ [] → ls ≡ []
    pairs hosts [] cs h e = refl
    pairs hosts (l ∷ ls) [] h e = absurd h
    pairs hosts (l ∷ ls) (c ∷ cs) h e = absurd (no_commands e)
      where
        no_commands : c ∷ cs ≡ [] → ⊥
        no_commands e = cc

    go : (ls : List Line) → command_lines (lines_of text) ≡ ls → ls ≢ [] → SpellsLines ls s → (line : Line) × (command_lines (lines_of text) ≡ line ∷ [])
    go [] e some sp = absurd (some refl)
    go (f ∷ os) e some sp = (f, e ∙ ap (λ (l : List Line). f ∷ l) (pairs s.hosts os s.commands sp.2 none))

pub head_is : (head : List ℕ) (first : Part) (count : ℕ) → EndsLine head → IsPart head [] first → length first.script.commands.items ≡ 0 → count ≡ length (lines_of head) → IsHead head count
head_is head first count ended part none lines = record {
  ended = ended;
  lines = lines;
  one = one_line head (meaning first.script) (subst (λ (t : List ℕ). Spells t (meaning first.script)) (append-nil head) part.spells) (nothing first.script.commands.items none);
}
  where
    nothing : (cs : List Placed) → length cs ≡ 0 → cs ≡ []
    nothing [] e = refl
    nothing (c ∷ cs) e = absurd (omega arith)

module _ (head : List ℕ) where
  each_ok : (ps : List (List ℕ)) (ys : List Part) → AllZip (λ p (u : Result Part ScriptError). IfOk u (IsPart head p)) ps (map Ok ys) → AllZip (IsPart head) ps ys
  each_ok [] [] h = tt
  each_ok [] (y ∷ ys) h = absurd h
  each_ok (p ∷ ps) [] h = absurd h
  each_ok (p ∷ ps) (y ∷ ys) h = (h.0, each_ok ps ys h.1)

  pub each_read : (pieces : List (Bor (List ℕ))) (us : List (Result Part ScriptError)) (r : Result (Vec Part Global) ScriptError)
      → AllZip (λ (p : Bor (List ℕ)) u. IfOk u (IsPart head p.now)) pieces us
      → MatchResult r (λ v. (ys : List Part) × (us ≡ map Ok ys) × (v.items ≡ ys)) (λ e. Contains us (Err e))
      → IfOk r (λ v. AllZip (IsPart head) (contents pieces) v.items)
  each_read pieces us (Ok v) zip m =
      let R : List ℕ → Result Part ScriptError → Type 0 = λ p u. IfOk u (IsPart head p) in
      let through = AllZip-through (λ (p : Bor (List ℕ)). p.now) (λ p u. R p.now u) R (λ p u h. h) pieces us zip in
      subst (AllZip (IsPart head) (contents pieces)) (sym m.2) (each_ok (contents pieces) m.0 (subst (AllZip R (contents pieces)) m.1 through))
  each_read pieces us (Err e) zip m = tt

  pub each_in_lines : (ps : List (List ℕ)) (parts : List Part) → AllZip (IsPart head) ps parts → AllByRecursion (λ p. AreInLines p.script.commands.items) parts
  each_in_lines [] [] h = tt
  each_in_lines [] (y ∷ ys) h = absurd h
  each_in_lines (p ∷ ps) [] h = absurd h
  each_in_lines (p ∷ ps) (y ∷ ys) h = (h.0.placed, each_in_lines ps ys h.1)

  -- what was read of pieces, and behind it what was read of others
  pub both_read : (front back pieces : List (Bor (List ℕ))) (xs ys zs : List Part) → pieces ≡ front ++ back → zs ≡ xs ++ ys
      → AllZip (IsPart head) (contents front) xs → AllZip (IsPart head) (contents back) ys → AllZip (IsPart head) (contents pieces) zs
  both_read front back pieces xs ys zs whole items first rest =
      let each = AllZip-append (IsPart head) (contents front) (contents back) xs ys first rest in
      let texts : contents pieces ≡ contents front ++ contents back = ap contents whole ∙ map-append (λ (p : Bor (List ℕ)). p.now) front back in
      subst (λ (ps : List (List ℕ)). AllZip (IsPart head) ps zs) (sym texts) (subst (AllZip (IsPart head) (contents front ++ contents back)) (sym items) each)
