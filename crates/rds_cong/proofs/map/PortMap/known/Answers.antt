use Rattle.std.proofs.Common.{subst, sym, ap, ◌<◌, ◌∙◌, ◌==◌, ◌/◌, ◌%◌, length, arith}
use Rattle.std.specs.Int.{bit_at}
use Rattle.rds_cong.specs.Map.{IsMap, has_port, word_at}
use Rattle.rds_cong.specs.WordLaws.{IsMap-bytes, word_is}
use Rattle.rds_cong.specs.PortLaws.{has_port-bytes}
use Rattle.rds_cong.proofs.map.PortMap.known.Goals as goal

pub returns-clause-map : goal.returns-clause-map
returns-clause-map c = subst IsMap c.self.view_is (IsMap-bytes c.self.inside.words.items c.self.invariant)

pub returns-clause-bit : goal.returns-clause-bit
returns-clause-bit c q low =
    let words = c.self.inside.words.items in
    let within : q / 64 < length words = subst (λ n. q / 64 < n) (sym c.self.invariant.count) (omega arith) in
    ap (λ m. has_port m q) (sym c.self.view_is) ∙ has_port-bytes words q
    ∙ ap (λ w. bit_at w (q % 64) == 1) (sym (word_is words (q / 64) within c.self.invariant.fit))
    ∙ ap (λ m. bit_at (word_at m (q / 64)) (q % 64) == 1) c.self.view_is
