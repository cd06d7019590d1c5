use Rattle.std.proofs.Common.{refl}
use Rattle.rds_cong.specs.Map.{no_ports}
use Rattle.rds_cong.specs.declared.map.TheConstants.{WORDS, MAP_BYTES}
use Rattle.rds_cong.specs.WordLaws.{bytes-zeros, IsWords-zeros}
use Rattle.rds_cong.specs.PortLaws.{has_port-zeros}
use Rattle.rds_cong.proofs.map.PortMap.new.Goals as goal

pub invariant_of-result : goal.invariant_of-result
invariant_of-result c =
    let made = c.in_ok-vec.ensures {u = tt} in IsWords-zeros WORDS c.in_ok-vec.field-0.items (made.items_if_clones_equal (λ y e. e)) refl

pub returns-clause-empty : goal.returns-clause-empty
unfolding no_ports
returns-clause-empty c =
    let made = c.in_ok-vec.ensures {u = tt} in bytes-zeros WORDS MAP_BYTES c.in_ok-vec.field-0.items (made.items_if_clones_equal (λ y e. e)) refl

pub returns-clause-ports : goal.returns-clause-ports
returns-clause-ports c q =
    let made = c.in_ok-vec.ensures {u = tt} in has_port-zeros WORDS c.in_ok-vec.field-0.items q (made.items_if_clones_equal (λ y e. e))
