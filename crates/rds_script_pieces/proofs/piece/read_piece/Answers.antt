use Rattle.std.proofs.Common.{◌≡◌, ◌++◌, ◌∙◌, List, ℕ, ap, subst}
use Rattle.rds_script.specs.Script.{payload_total, cut_total}
use Rattle.rds_script.specs.Grammar.{meaning, Spells}
use Rattle.rds_script_pieces.proofs.Numbered.{spelled_in_lines}
use Rattle.rds_script_pieces.proofs.piece.read_piece.Goals as goal

pub returns : goal.returns
returns c =
    let script = c.in_ok-script.script in
    let text = c.args.head.now ++ c.args.piece.now in
    let read = c.in_ok-script.ensures {u = tt} in
    let text-is : c.as_slice.result.now ≡ text = c.as_slice.ensures.value ∙ c.in-Ok.ensures {u = tt} in
    let spells : Spells text (meaning script) = subst (λ (t : List ℕ). Spells t (meaning script)) text-is read.found in
    record {
      spells = spells;
      known = read.known;
      placed = spelled_in_lines text (meaning script) spells;
      lines = c.line_count-lines.ensures.count;
      bytes = c.payload_sum-bytes.ensures ∙ ap payload_total c.as_slice-2.ensures.value;
      cuts = c.cut_sum-cuts.ensures ∙ ap cut_total c.as_slice-3.ensures.value;
    }
