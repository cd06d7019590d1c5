use Rattle.std.proofs.Common.{◌≡◌, ◌+◌, ◌*◌, ◌∙◌, ap, sym, refl, arith, take, drop}
use Rattle.std.proofs.lemmas.List.{take_rest}
use Rattle.byteorder.specs.Endian.{big_number}
use Rattle.rds_wire.specs.Bytes.{folded}
use Rattle.rds_wire.proofs.FieldSum.{Fits, folded-header}
use Rattle.rds_wire.proofs.Folding.{folded-add, folded-halves}
use Rattle.rds_wire.proofs.sum.field_sum.Goals as goal

pub returns-clause-sum : goal.returns-clause-sum
returns-clause-sum c =
    let h = c.args.h in
    let fits : Fits h = record {
      sequence = omega arith;
      ack = omega arith;
      len = omega arith;
      sport = omega arith;
      dport = omega arith;
      flags = omega arith;
      credit = omega arith;
      padding = omega arith;
      ext = omega arith;
    } in
    let sequence : folded c.halves.result ≡ folded h.sequence = ap folded c.halves.ensures ∙ folded-halves h.sequence in
    let ack : folded c.halves-2.result ≡ folded h.ack = ap folded c.halves-2.ensures ∙ folded-halves h.ack in
    let padding : c.from-6.result ≡ big_number 4 h.padding = c.from-6.ensures ∙ c.read_u32.ensures in
    let front : folded c.halves-3.result ≡ folded (big_number 8 (take 8 h.ext)) =
    ap folded c.halves-3.ensures ∙ folded-halves c.read_u64.result ∙ ap folded c.read_u64.ensures in
    let back : folded c.halves-4.result ≡ folded (big_number 8 (drop 8 h.ext)) =
    ap folded c.halves-4.ensures ∙ folded-halves c.read_u64-2.result
    ∙ ap folded (c.read_u64-2.ensures ∙ ap (big_number 8) (take_rest h.ext 8)) in
    let whole = c.halves.result + (c.halves-2.result + (h.len + (h.sport + (h.dport + (256 * h.flags + h.credit
    + (big_number 4 h.padding + (0 + (c.halves-3.result + c.halves-4.result)))))))) in
    let grouped : c.halves.result + c.halves-2.result + c.from.result + c.from-2.result + c.from-3.result + 256 * c.from-4.result + c.from-5.result + c.from-6.result + c.halves-3.result + c.halves-4.result ≡ whole =
    omega (arith, padding) in
    ap folded grouped
    ∙ folded-add _ _ _ _ sequence
    (folded-add _ _ _ _ ack
    (folded-add _ _ _ _ refl
    (folded-add _ _ _ _ refl
    (folded-add _ _ _ _ refl
    (folded-add _ _ _ _ refl
    (folded-add _ _ _ _ refl
    (folded-add _ _ _ _ refl
    (folded-add _ _ _ _ front back))))))))
    ∙ sym (folded-header h fits)
