-- What is spelled is in range.
use Rattle.std.proofs.Common.{◌≢◌, ℕ, ◌+◌, ◌<◌, ◌≤◌, List, [], ◌∷◌, length, refl, sym, ap, ◌∙◌}
use Rattle.std.specs.Bool.{⊤}
use Rattle.std.specs.List.{AllZip, AllByRecursion}
use Rattle.std.specs.Str.Lines.{lines}
use Rattle.std.proofs.lemmas.List.Elements.{All-from_recursion}
use Rattle.rds_script.specs.declared.script.Script.{Script}
use Rattle.rds_script.specs.declared.script.Placed.{Placed}
use Rattle.rds_script.specs.declared.script.Command.{Command}
use Rattle.rds_script.specs.declared.script.Command.TheVariants.{Bind, BindAny, Send, Recv, Cancel, Close, Open, Move, Cut, Drain}
use Rattle.rds_script.specs.Line.{Place, a_host, another_host, a_number, a_payload, Value, the_number, the_bytes, Fills, first_of, values_of, SpellsCommand}
use Rattle.rds_script.specs.Script.{IsCommand, IsScript}
use Rattle.rds_script.specs.Grammar.{meaning, command_lines, SpellsPlaced, SpellsLines, Spells}
use Rattle.rds_script.specs.Reading.{places_of}
use Rattle.rds_script.proofs.NameLemmas.{named_by}
use Rattle.rds_script.proofs.Spelled.{command_fills}
use Rattle.rds_script.proofs.Keeping.{hosts_range}

-- the range of each place
abbrev InRange : ℕ → Place → Value → Type 0
InRange hosts a_host (the_number n) = n < hosts
InRange hosts another_host (the_number n) = n < hosts
InRange hosts (a_number low high) (the_number n) = (low ≤ n) × (n ≤ high)
InRange hosts a_payload (the_bytes b) = length b ≤ 2097152
InRange hosts _ _ = ⊥

abbrev InRanges : ℕ → List Place → List Value → Type 0
InRanges hosts [] [] = ⊤
InRanges hosts (p ∷ ps) (v ∷ vs) = InRange hosts p v × InRanges hosts ps vs
InRanges hosts _ _ = ⊥

module _ (hosts : ℕ) where
  in_ranges : (first : List ℕ) (ps : List Place) (ws : List (List ℕ)) (vs : List Value) → Fills hosts first ps ws vs → InRanges hosts ps vs
  in_ranges first [] [] [] h = tt
  in_ranges first (a_host ∷ ps) (w ∷ ws) (the_number n ∷ vs) h = (h.0.known, in_ranges first ps ws vs h.1)
  in_ranges first (another_host ∷ ps) (w ∷ ws) (the_number n ∷ vs) h = (h.0.0.known, in_ranges first ps ws vs h.1)
  in_ranges first (a_number low high ∷ ps) (w ∷ ws) (the_number n ∷ vs) h = ((h.0.from, h.0.to), in_ranges first ps ws vs h.1)
  in_ranges first (a_payload ∷ ps) (w ∷ ws) (the_bytes b ∷ vs) h = (h.0.few, in_ranges first ps ws vs h.1)
  in_ranges first (a_host ∷ ps) (w ∷ ws) (the_bytes b ∷ vs) h = absurd h.0
  in_ranges first (another_host ∷ ps) (w ∷ ws) (the_bytes b ∷ vs) h = absurd h.0
  in_ranges first (a_number low high ∷ ps) (w ∷ ws) (the_bytes b ∷ vs) h = absurd h.0
  in_ranges first (a_payload ∷ ps) (w ∷ ws) (the_number n ∷ vs) h = absurd h.0
  in_ranges first ps ws vs h = absurd h

  -- two hosts that are two words are two hosts
  apart : (ps : List Place) (ws : List (List ℕ)) (vs : List Value) (a b : ℕ) → Fills hosts (first_of ws) (a_host ∷ another_host ∷ ps) ws (the_number a ∷ the_number b ∷ vs) → b ≢ a
  apart ps [] vs a b h = absurd h
  apart ps (x ∷ []) vs a b h = absurd h.1
  apart ps (x ∷ y ∷ ws) vs a b h =
      λ same. h.1.0.1 (h.1.0.0.letter ∙ ap (λ (n : ℕ). (65 + n) ∷ []) same ∙ sym h.0.letter)

  ranges : (args : List (List ℕ)) (c : Command) → Fills hosts (first_of args) (places_of (named_by c)) args (values_of c) → InRanges hosts (places_of (named_by c)) (values_of c)
  ranges args c f = in_ranges (first_of args) (places_of (named_by c)) args (values_of c) f

  in_range : (args : List (List ℕ)) (c : Command) → Fills hosts (first_of args) (places_of (named_by c)) args (values_of c) → IsCommand hosts c
  unfolding named_by
  in_range args (Bind h p s r) f =
      let g = ranges args (Bind h p s r) f in
      record { socket = record { known = g.0; fits = g.1.0.1 }; sndbuf_low = g.1.1.0.0; sndbuf_high = g.1.1.0.1; rcvbuf_low = g.1.1.1.0.0; rcvbuf_high = g.1.1.1.0.1 }
  in_range args (BindAny h p s r) f =
      let g = ranges args (BindAny h p s r) f in
      record { socket = record { known = g.0; fits = g.1.0.1 }; sndbuf_low = g.1.1.0.0; sndbuf_high = g.1.1.0.1; rcvbuf_low = g.1.1.1.0.0; rcvbuf_high = g.1.1.1.0.1 }
  in_range args (Send h p t d b) f =
      let g = ranges args (Send h p t d b) f in
      (record { known = g.0; fits = g.1.0.1 }, record { known = g.1.1.0; fits = g.1.1.1.0.1 }, g.1.1.1.1.0)
  in_range args (Recv h p) f =
      let g = ranges args (Recv h p) f in
      record { known = g.0; fits = g.1.0.1 }
  in_range args (Cancel h p t d) f =
      let g = ranges args (Cancel h p t d) f in
      (record { known = g.0; fits = g.1.0.1 }, record { known = g.1.1.0; fits = g.1.1.1.0.1 })
  in_range args (Close h p) f =
      let g = ranges args (Close h p) f in
      record { known = g.0; fits = g.1.0.1 }
  in_range args (Open h t) f =
      let g = ranges args (Open h t) f in
      record { first = g.0; second = g.1.0; apart = apart [] args [] h t f }
  in_range args (Move h t n) f =
      let g = ranges args (Move h t n) f in
      (record { first = g.0; second = g.1.0; apart = apart (a_number 1 4294967295 ∷ []) args (the_number n ∷ []) h t f }, g.1.1.0.0, g.1.1.0.1)
  in_range args (Cut h t) f =
      let g = ranges args (Cut h t) f in
      record { first = g.0; second = g.1.0; apart = apart [] args [] h t f }
  in_range args Drain f = tt

  command_in_range : (ws : List (List ℕ)) (c : Command) → SpellsCommand hosts ws c → IsCommand hosts c
  command_in_range [] c h = absurd h
  command_in_range (w ∷ args) c h = in_range args c (command_fills hosts w args c h)

  all_in_range : (ls : List (ℕ × List (List ℕ))) (cs : List Placed) → AllZip (SpellsPlaced hosts) ls cs → AllByRecursion (λ p. IsCommand hosts p.command) cs
  all_in_range [] [] h = tt
  all_in_range (l ∷ ls) (c ∷ cs) h = (command_in_range l.1 c.command h.0.1, all_in_range ls cs h.1)
  all_in_range ls cs h = absurd h

pub is_script : (text : List ℕ) (s : Script) → Spells text (meaning s) → IsScript s
is_script text s h = go (command_lines (lines text)) h.some h.kept.spelled
  where
    go : (ls : List (ℕ × List (List ℕ))) → ls ≢ [] → SpellsLines ls (meaning s) → IsScript s
    go [] some sp = absurd (some refl)
    go (f ∷ os) some sp =
        let r = hosts_range f.1 s.hosts sp.1 in
        record {
          hosts_low = r.0;
          hosts_high = r.1;
          each = All-from_recursion (λ (p : Placed). IsCommand s.hosts p.command) s.commands.items (all_in_range s.hosts os s.commands.items sp.2);
          total = h.kept.total;
          cuts = h.kept.cuts;
        }
