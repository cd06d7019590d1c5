use Rattle.std.proofs.Common.{◌≡◌, ◌-◌, ◌∙◌, ap, sym, arith}
use Rattle.rds_wire.specs.Bytes.{computed, folded}
use Rattle.rds_wire.proofs.Folding.{folded-carry, folded-small}
use Rattle.rds_wire.proofs.sum.computed.Goals as goal

pub returns : goal.returns
unfolding computed
returns c =
    let a : folded c.carry.result ≡ folded c.field_sum.result = ap folded c.carry.ensures ∙ folded-carry c.field_sum.result in
    let b : folded c.carry-2.result ≡ folded c.carry.result = ap folded c.carry-2.ensures ∙ folded-carry c.carry.result in
    let d : folded c.carry-carried.result ≡ folded c.carry-2.result = ap folded c.carry-carried.ensures ∙ folded-carry c.carry-2.result in
    let small = folded-small c.carry-carried.result (omega arith) in
    ap (λ n. 65535 - n) (sym small ∙ d ∙ b ∙ a ∙ c.field_sum.ensures.sum)
