-- What two pieces spell, one behind the other, with the head in front of them.
use Rattle.std.proofs.Common.{◌≡◌, ℕ, ◌+◌, ◌≤◌, List, [], ◌∷◌, ◌++◌, length, map, arith, refl, sym, ap, subst, ◌∙◌}
use Rattle.std.specs.Prelude.{All, sum_by}
use Rattle.std.specs.List.{AllZip, AllPass}
use Rattle.std.specs.Str.Lines.{lines as lines_of}
use Rattle.std.proofs.lemmas.List.{append_assoc, length-append}
use Rattle.std.proofs.lemmas.List.Elements.{All-append, All-map}
use Rattle.std.proofs.lemmas.List.Sums.{sum_by-append, sum_by-cons}
use Rattle.rayon.proofs.ListFacts.{All-parts, AllZip-append}
use Rattle.rds_script.specs.declared.script.Placed.{Placed}
use Rattle.rds_script.specs.declared.script.Command.{Command}
use Rattle.rds_script.specs.Text.{is_text}
use Rattle.rds_script.specs.Line.{SpellsHosts}
use Rattle.rds_script.specs.Script.{IsCommand, payload_len, payload_total, cut_count, cut_total}
use Rattle.rds_script.specs.Grammar.{Meaning, meaning, command_lines, SpellsPlaced, SpellsLines, Spells}
use Rattle.rds_script_pieces.specs.declared.part.Part.{Part}
use Rattle.rds_script_pieces.specs.Pieces.{EndsLine}
use Rattle.rds_script_pieces.specs.Parts.{IsHead, IsPart, continued, lowered}
use Rattle.rds_script_pieces.proofs.Lines.{lines-append}
use Rattle.rds_script_pieces.proofs.Numbered.{Line, numbered, numbered-append, lower_all, spelled_in_lines}

-- ---- sums

-- commands further down weigh the same
lowered-weight : (f : Command → ℕ) (by : ℕ) (cs : List Placed) → sum_by (λ (p : Placed). f p.command) (map (lowered by) cs) ≡ sum_by (λ (p : Placed). f p.command) cs
lowered-weight f by [] = refl
lowered-weight f by (c ∷ cs) =
    let weight : Placed → ℕ = λ p. f p.command in
    sum_by-cons weight (lowered by c) (map (lowered by) cs) ∙ ap (λ (n : ℕ). f c.command + n) (lowered-weight f by cs) ∙ sym (sum_by-cons weight c cs)

joined-weight : (f : Command → ℕ) (by : ℕ) (cs ds : List Placed) → sum_by (λ (p : Placed). f p.command) (cs ++ map (lowered by) ds) ≡ sum_by (λ (p : Placed). f p.command) cs + sum_by (λ (p : Placed). f p.command) ds
joined-weight f by cs ds =
    let weight : Placed → ℕ = λ p. f p.command in
    sum_by-append weight cs (map (lowered by) ds) ∙ ap (λ (n : ℕ). sum_by weight cs + n) (lowered-weight f by ds)

-- ---- a piece behind the head

module _ (head : List ℕ) (count : ℕ) (is_head : IsHead head count) where
  abbrev first : Line
  first = is_head.one.0

  -- the commands of a piece behind the head
  record Behind (piece : List ℕ) (s : Meaning) : Type 0 where
    at : s.hosts_line ≡ first.0
    hosts : SpellsHosts first.1 s.hosts
    commands : AllZip (SpellsPlaced s.hosts) (numbered (1 + length (lines_of head)) (lines_of piece)) s.commands

  lines_behind : (piece : List ℕ) → command_lines (lines_of (head ++ piece)) ≡ first ∷ numbered (1 + length (lines_of head)) (lines_of piece)
  lines_behind piece =
      ap command_lines (lines-append head piece is_head.ended) ∙ numbered-append 1 (lines_of head) (lines_of piece)
      ∙ ap (λ (l : List Line). l ++ numbered (1 + length (lines_of head)) (lines_of piece)) is_head.one.1

  behind : (piece : List ℕ) (s : Meaning) → Spells (head ++ piece) s → Behind piece s
  behind piece s h =
      let sp = subst (λ (l : List Line). SpellsLines l s) (lines_behind piece) h.kept.spelled in
      record { at = sp.0; hosts = sp.1; commands = sp.2 }

  -- the head alone says how many hosts there are
  alone : (piece : List ℕ) (s : Meaning) → Spells (head ++ piece) s → Spells head (record { hosts = s.hosts; hosts_line = s.hosts_line; commands = [] })
  alone piece s h =
      let b = behind piece s h in
      let small = h.small in
      let few = h.kept.few in
      let long = length-append head piece in
      let are : lines_of (head ++ piece) ≡ lines_of head ++ lines_of piece = lines-append head piece is_head.ended in
      let many : length (lines_of (head ++ piece)) ≡ length (lines_of head) + length (lines_of piece) = ap length are ∙ length-append (lines_of head) (lines_of piece) in
      record {
        small = omega arith;
        kept = record {
          few = omega arith;
          bytes = (All-parts (AllPass is_text) (lines_of head) (lines_of piece) (subst (All (AllPass is_text)) are h.kept.bytes)).0;
          spelled = subst (λ (l : List Line). SpellsLines l (record { hosts = s.hosts; hosts_line = s.hosts_line; commands = [] })) (sym is_head.one.1) (b.at, b.hosts, tt);
          total = omega arith;
          cuts = omega arith;
        };
        some = λ none. let e = sym is_head.one.1 ∙ none in absurd (no_lines e);
      }
    where
      no_lines : first ∷ [] ≡ [] → ⊥
      no_lines e = cc

-- ---- two pieces

-- no text spells two scripts
abbrev pub OneScript : Type 0
OneScript = (text : List ℕ) (s t : Meaning) → Spells text s → Spells text t → s ≡ t

module _ (one : OneScript) (head done piece : List ℕ) (count : ℕ) (is_head : IsHead head count) (ended : EndsLine (head ++ done)) (small : length (head ++ (done ++ piece)) ≤ 16777216)
    (s t : Meaning) (spells_s : Spells (head ++ done) s) (spells_t : Spells (head ++ piece) t) where
  pub same_hosts : t.hosts ≡ s.hosts
  same_hosts = ap (λ (m : Meaning). m.hosts) (one head _ _ (alone head count is_head piece t spells_t) (alone head count is_head done s spells_s))

  -- the lines of all three
  lines-are : lines_of (head ++ (done ++ piece)) ≡ lines_of head ++ (lines_of done ++ lines_of piece)
  lines-are =
      ap lines_of (sym (append_assoc head done piece)) ∙ lines-append (head ++ done) piece ended
      ∙ ap (λ (l : List (List ℕ)). l ++ lines_of piece) (lines-append head done is_head.ended) ∙ append_assoc (lines_of head) (lines_of done) (lines_of piece)

  lines-count : length (lines_of (head ++ (done ++ piece))) ≡ count + (length (lines_of done) + length (lines_of piece))
  lines-count =
      ap length lines-are ∙ length-append (lines_of head) (lines_of done ++ lines_of piece)
      ∙ ap (λ (n : ℕ). length (lines_of head) + n) (length-append (lines_of done) (lines_of piece)) ∙ ap (λ (n : ℕ). n + (length (lines_of done) + length (lines_of piece))) (sym is_head.lines)

  -- so many lines have the two pieces
  pub pieces-count : length (lines_of (done ++ piece)) ≡ length (lines_of done) + length (lines_of piece)
  pieces-count =
      let whole : length (lines_of (head ++ (done ++ piece))) ≡ length (lines_of head) + length (lines_of (done ++ piece)) = ap length (lines-append head (done ++ piece) is_head.ended) ∙ length-append (lines_of head) (lines_of (done ++ piece)) in
      let count-is = is_head.lines in
      let parts = lines-count in
      omega arith

  commands-are : command_lines (lines_of (head ++ (done ++ piece)))
      ≡ is_head.one.0 ∷ (numbered (1 + length (lines_of head)) (lines_of done) ++ numbered ((1 + length (lines_of head)) + length (lines_of done)) (lines_of piece))
  commands-are =
      ap command_lines lines-are ∙ numbered-append 1 (lines_of head) (lines_of done ++ lines_of piece)
      ∙ ap (λ (l : List Line). l ++ numbered (1 + length (lines_of head)) (lines_of done ++ lines_of piece)) is_head.one.1
      ∙ ap (λ (l : List Line). is_head.one.0 ∷ l) (numbered-append (1 + length (lines_of head)) (lines_of done) (lines_of piece))

  pub joined_spells : count + (length (lines_of done) + length (lines_of piece)) ≤ 200000 → payload_total s.commands + payload_total t.commands ≤ 16777216
      → cut_total s.commands + cut_total t.commands ≤ 1024 → Spells (head ++ (done ++ piece)) (continued s (length (lines_of done)) t.commands)
  joined_spells few total cuts =
      let b = behind head count is_head done s spells_s in
      let c = behind head count is_head piece t spells_t in
      let by = length (lines_of done) in
      let start = 1 + length (lines_of head) in
      let back = lower_all s.hosts by start (start + by) refl (lines_of piece) t.commands (subst (λ (h : ℕ). AllZip (SpellsPlaced h) (numbered start (lines_of piece)) t.commands) same_hosts c.commands) in
      let zip = AllZip-append (SpellsPlaced s.hosts) (numbered start (lines_of done)) (numbered (start + by) (lines_of piece)) s.commands (map (lowered by) t.commands) b.commands back in
      let front-text = All-parts (AllPass is_text) (lines_of head) (lines_of done) (subst (All (AllPass is_text)) (lines-append head done is_head.ended) spells_s.kept.bytes) in
      let back-text = All-parts (AllPass is_text) (lines_of head) (lines_of piece) (subst (All (AllPass is_text)) (lines-append head piece is_head.ended) spells_t.kept.bytes) in
      let text = All-append (AllPass is_text) (lines_of head) (lines_of done ++ lines_of piece) front-text.0 (All-append (AllPass is_text) (lines_of done) (lines_of piece) front-text.1 back-text.1) in
      record {
        small = small;
        kept = record {
          few = rw lines-count few;
          bytes = subst (All (AllPass is_text)) (sym lines-are) text;
          spelled = subst (λ (l : List Line). SpellsLines l (continued s by t.commands)) (sym commands-are) (b.at, b.hosts, zip);
          total = rw (joined-weight payload_len by s.commands t.commands) total;
          cuts = rw (joined-weight cut_count by s.commands t.commands) cuts;
        };
        some = λ none. let e = sym commands-are ∙ none in absurd (no_lines e);
      }
    where
      no_lines : {f : Line} {fs : List Line} → f ∷ fs ≡ [] → ⊥
      no_lines e = cc

-- what was read of two pieces is read of both
pub joined_part : OneScript → (head done piece : List ℕ) (count : ℕ) (whole part both : Part) → IsHead head count → EndsLine (head ++ done) → length (head ++ (done ++ piece)) ≤ 16777216
    → IsPart head done whole → IsPart head piece part
    → meaning both.script ≡ continued (meaning whole.script) whole.lines part.script.commands.items
    → both.lines ≡ whole.lines + part.lines → both.bytes ≡ whole.bytes + part.bytes → both.cuts ≡ whole.cuts + part.cuts
    → count + both.lines ≤ 200000 → both.bytes ≤ 16777216 → both.cuts ≤ 1024 → IsPart head (done ++ piece) both
joined_part one head done piece count whole part both is_head ended small w p is lines-is bytes-is cuts-is few total cuts =
    let by = length (lines_of done) in
    let cs = whole.script.commands.items in
    let ds = part.script.commands.items in
    let w-lines = w.lines in
    let p-lines = p.lines in
    let w-bytes = w.bytes in
    let p-bytes = p.bytes in
    let w-cuts = w.cuts in
    let p-cuts = p.cuts in
    let joint : Spells (head ++ (done ++ piece)) (continued (meaning whole.script) by ds) = joined_spells one head done piece count is_head ended small (meaning whole.script) (meaning part.script) w.spells p.spells (omega arith) (omega arith) (omega arith) in
    let is-by : meaning both.script ≡ continued (meaning whole.script) by ds = is ∙ ap (λ (n : ℕ). continued (meaning whole.script) n ds) w.lines in
    let spells : Spells (head ++ (done ++ piece)) (meaning both.script) = subst (Spells (head ++ (done ++ piece))) (sym is-by) joint in
    let hosts-are : both.script.hosts ≡ whole.script.hosts = ap (λ (m : Meaning). m.hosts) is in
    let commands-are : both.script.commands.items ≡ cs ++ map (lowered by) ds = ap (λ (m : Meaning). m.commands) is-by in
    let hosts-same : part.script.hosts ≡ both.script.hosts = same_hosts one head done piece count is_head ended small (meaning whole.script) (meaning part.script) w.spells p.spells ∙ sym hosts-are in
    let low = w.known.hosts_low in
    let high = w.known.hosts_high in
    let front = subst (λ (h : ℕ). All (λ (c : Placed). IsCommand h c.command) cs) (sym hosts-are) w.known.each in
    let back = subst (λ (h : ℕ). All (λ (c : Placed). IsCommand h c.command) ds) hosts-same p.known.each in
    let command : Placed → Type 0 = λ c. IsCommand both.script.hosts c.command in
    let each = All-append command cs (map (lowered by) ds) front (All-map command (lowered by) ds back) in
    record {
      spells = spells;
      known = record {
        hosts_low = omega arith;
        hosts_high = omega arith;
        each = subst (All command) (sym commands-are) each;
        total = spells.kept.total;
        cuts = spells.kept.cuts;
      };
      placed = spelled_in_lines (head ++ (done ++ piece)) (meaning both.script) spells;
      lines = lines-is ∙ rw (w.lines, p.lines) (sym (pieces-count one head done piece count is_head ended small (meaning whole.script) (meaning part.script) w.spells p.spells));
      bytes = bytes-is ∙ rw (w.bytes, p.bytes) (sym (ap payload_total commands-are ∙ joined-weight payload_len by cs ds));
      cuts = cuts-is ∙ rw (w.cuts, p.cuts) (sym (ap cut_total commands-are ∙ joined-weight cut_count by cs ds));
    }
