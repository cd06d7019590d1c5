-- Commands on lines that follow one another, one command longer.
use Rattle.std.proofs.Common.{◌≡◌, ℕ, ◌+◌, List, [], ◌∷◌, ◌++◌, length, ap, sym, ◌∙◌, arith}
use Rattle.std.specs.Prelude.{map}
use Rattle.std.specs.List.{enumerate_from}
use Rattle.std.proofs.lemmas.List.{map-append, length-map}
use Rattle.rds_script.specs.declared.script.Placed.{Placed}
use Rattle.rds_script.specs.declared.script.Command.{Command}
use Rattle.rds_script_gen.specs.Generator.{placed, on_lines}

numbered_more : (n : ℕ) (cs : List Command) (c : Command) → map placed (enumerate_from n (cs ++ c ∷ [])) ≡ map placed (enumerate_from n cs) ++ placed (n + length cs, c) ∷ []
numbered_more n [] c = ap (λ (k : ℕ). placed (k, c) ∷ []) (omega arith)
numbered_more n (x ∷ cs) c =
    ap (λ (ps : List Placed). placed (n, x) ∷ ps) (numbered_more (n + 1) cs c ∙ ap (λ (k : ℕ). map placed (enumerate_from (n + 1) cs) ++ placed (k, c) ∷ []) (omega arith))

-- the commands alone
abbrev pub commands_in : List Placed → List Command
commands_in ps = map (λ p. p.command) ps

commands_count : (ps : List Placed) → length (commands_in ps) ≡ length ps
commands_count ps = search (length-map)

pub listing_more : (ps : List Placed) (c : Command) (line : ℕ) → ps ≡ on_lines (commands_in ps) → line ≡ 2 + length ps → ps ++ placed (line, c) ∷ [] ≡ on_lines (commands_in (ps ++ placed (line, c) ∷ []))
listing_more ps c line ps-is line-is =
    ap (λ (k : ℕ). ps ++ placed (k, c) ∷ []) (line-is ∙ ap (λ (k : ℕ). 2 + k) (sym (commands_count ps)))
    ∙ ap (λ (l : List Placed). l ++ placed (2 + length (commands_in ps), c) ∷ []) ps-is
    ∙ sym (numbered_more 2 (commands_in ps) c)
    ∙ ap on_lines (sym (map-append (λ (p : Placed). p.command) ps (placed (line, c) ∷ [])))
