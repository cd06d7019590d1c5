use Rattle.std.proofs.Common.{ℕ, rules, arith, ◌∙◌}
use Rattle.std.proofs.Output.{has_written_of_eq}
use Rattle.rds_text.proofs.Encoding.{encoded, encoded_is_text}
use Rattle.rds_text.proofs.digits.write_digits.Goals as goal

pub unreachable-requires-in_default-from_utf8 : goal.unreachable-requires-in_default-from_utf8
unreachable-requires-in_default-from_utf8 g c =
    let utf8 = c.in_default-from_utf8.ensures {u = tt} in
    utf8.cases.0 (rw c.in-Ok.ensures.written (encoded_is_text c.args.piece.now))

pub returns : goal.returns
returns g c = λ plain ok.
    let text = c.in-Ok-from_utf8.ensures.cases.0 ∙ (c.in-Ok.ensures.written ∙ encoded c.args.piece.now (λ (i : ℕ). search (rules, c.type_inv.piece i))) in
    has_written_of_eq _ _ _ _ _ text (c.write_str.ensures.writes plain ok)
