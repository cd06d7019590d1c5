-- The lines with a command, with their numbers, from any number on.
use Rattle.std.proofs.Common.{◌≡◌, ℕ, ◌+◌, ◌≤◌, suc, Bool, true, false, cond, List, [], ◌∷◌, ◌++◌, length, map, filter, arith, refl, sym, ap, ◌∙◌, add-zero}
use Rattle.std.specs.Prelude.{◌≢◌}
use Rattle.std.specs.Str.Lines.{lines as lines_of}
use Rattle.std.specs.List.{enumerate_from, AllZip, AllByRecursion}
use Rattle.std.proofs.lemmas.List.{map-append, length-map}
use Rattle.std.proofs.lemmas.List.Elements.{filter-append, All-from_recursion}
use Rattle.rds_script.specs.declared.script.Placed.{Placed}
use Rattle.rds_script.specs.Text.{words}
use Rattle.rds_script.specs.Line.{has_command}
use Rattle.rds_script.specs.Grammar.{Meaning, command_lines, SpellsPlaced, SpellsLines, Spells}
use Rattle.rds_script_pieces.specs.Parts.{lowered, AreInLines}

abbrev pub Line : Type 0
Line = ℕ × List (List ℕ)

abbrev is_command : Line → Bool
is_command l = has_command l.1

-- the words of each line that isn't skipped, with its number, from this number on
abbrev pub numbered : ℕ → List (List ℕ) → List Line
numbered from lines = filter is_command (enumerate_from from (map words lines))

enumerate-append : {X : Type 0} (n : ℕ) (xs ys : List X) → enumerate_from n (xs ++ ys) ≡ enumerate_from n xs ++ enumerate_from (n + length xs) ys
enumerate-append n [] ys = ap (λ (k : ℕ). enumerate_from k ys) (sym (add-zero n))
enumerate-append {X} n (x ∷ xs) ys =
    let place : (n + 1) + length xs ≡ n + suc (length xs) = omega arith in
    ap (λ (l : List (ℕ × X)). (n, x) ∷ l) (enumerate-append (n + 1) xs ys ∙ ap (λ (k : ℕ). enumerate_from (n + 1) xs ++ enumerate_from k ys) place)

pub numbered-append : (n : ℕ) (xs ys : List (List ℕ)) → numbered n (xs ++ ys) ≡ numbered n xs ++ numbered (n + length xs) ys
numbered-append n xs ys =
    ap (λ (l : List (List (List ℕ))). filter is_command (enumerate_from n l)) (map-append words xs ys)
    ∙ ap (filter is_command) (enumerate-append n (map words xs) (map words ys))
    ∙ filter-append is_command (enumerate_from n (map words xs)) (enumerate_from (n + length (map words xs)) (map words ys))
    ∙ ap (λ (k : ℕ). numbered n xs ++ numbered (n + k) ys) (length-map xs words)

module _ (hosts : ℕ) where
  -- the same commands, further down
  pub lower_all : (by n m : ℕ) → m ≡ n + by → (lines : List (List ℕ)) (cs : List Placed) → AllZip (SpellsPlaced hosts) (numbered n lines) cs → AllZip (SpellsPlaced hosts) (numbered m lines) (map (lowered by) cs)
  lower_all by n m e [] [] h = tt
  lower_all by n m e [] (c ∷ cs) h = absurd h
  lower_all by n m e (l ∷ lines) cs h = go (has_command (words l)) cs (lower_all by (n + 1) (m + 1) (omega arith) lines) h
    where
      go : (b : Bool) (cs : List Placed)
          → ((ds : List Placed) → AllZip (SpellsPlaced hosts) (numbered (n + 1) lines) ds → AllZip (SpellsPlaced hosts) (numbered (m + 1) lines) (map (lowered by) ds))
          → AllZip (SpellsPlaced hosts) (cond b ((n, words l) ∷ numbered (n + 1) lines) (numbered (n + 1) lines)) cs
          → AllZip (SpellsPlaced hosts) (cond b ((m, words l) ∷ numbered (m + 1) lines) (numbered (m + 1) lines)) (map (lowered by) cs)
      go true [] more h = absurd h
      go true (c ∷ cs) more h = ((ap (λ (k : ℕ). k + by) h.0.0 ∙ sym e, h.0.1), more cs h.1)
      go false cs more h = more cs h

  placed_within : (most : ℕ) (ls : List Line) (cs : List Placed) → AllByRecursion (λ l. l.0 ≤ most) ls → AllZip (SpellsPlaced hosts) ls cs → AllByRecursion (λ p. p.line ≤ most) cs
  placed_within most [] [] all h = tt
  placed_within most [] (c ∷ cs) all h = absurd h
  placed_within most (l ∷ ls) [] all h = absurd h
  placed_within most (l ∷ ls) (c ∷ cs) all h =
      let at = h.0.0 in
      let within = all.0 in
      (omega arith, placed_within most ls cs all.1 h.1)

numbers_within : (most n : ℕ) (lines : List (List ℕ)) → n + length lines ≤ most + 1 → AllByRecursion (λ l. l.0 ≤ most) (numbered n lines)
numbers_within most n [] le = tt
numbers_within most n (l ∷ lines) le = go (has_command (words l)) (numbers_within most (n + 1) lines (omega arith))
  where
    go : (b : Bool) → AllByRecursion (λ l. l.0 ≤ most) (numbered (n + 1) lines) → AllByRecursion (λ l. l.0 ≤ most) (cond b ((n, words l) ∷ numbered (n + 1) lines) (numbered (n + 1) lines))
    go true more = (omega arith, more)
    go false more = more

-- no command stands behind the last line
pub spelled_in_lines : (text : List ℕ) (s : Meaning) → Spells text s → AreInLines s.commands
spelled_in_lines text s h =
    let few = h.kept.few in
    All-from_recursion (λ p. p.line ≤ 200000) s.commands (go (command_lines (lines_of text)) h.some h.kept.spelled (numbers_within 200000 1 (lines_of text) (omega arith)))
  where
    go : (ls : List Line) → ls ≢ [] → SpellsLines ls s → AllByRecursion (λ l. l.0 ≤ 200000) ls → AllByRecursion (λ p. p.line ≤ 200000) s.commands
    go [] some sp all = absurd (some refl)
    go (f ∷ os) some sp all = placed_within s.hosts 200000 os s.commands all.1 sp.2
