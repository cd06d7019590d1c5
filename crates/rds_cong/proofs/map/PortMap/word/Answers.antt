use Rattle.std.proofs.Common.{ap, sym, subst, ◌<◌, ◌∙◌, ◌==◌, ◌+◌, ◌*◌, ◌≡◌, slice_index}
use Rattle.std.proofs.lemmas.List.{get_or_default}
use Rattle.std.specs.Int.{bit_at}
use Rattle.rds_cong.specs.Map.{has_port, word_at}
use Rattle.rds_cong.specs.WordLaws.{word-bytes}
use Rattle.rds_cong.specs.PortLaws.{has_port-at}
use Rattle.rds_cong.proofs.map.PortMap.word.Goals as goal

pub returns-clause-value : goal.returns-clause-value
returns-clause-value c =
    let words = c.self.inside.words.items in
    let within = subst (λ n. c.args.i < n) (sym c.self.invariant.count) c.requires in
    c.index.ensures ∙ get_or_default words c.args.i c.index.result.now 0 within
    ∙ sym (word-bytes words c.args.i within (c.self.invariant.fit c.args.i 0 within)) ∙ ap (λ m. word_at m c.args.i) c.self.view_is

pub returns-clause-ports : goal.returns-clause-ports
returns-clause-ports c q low =
    let words = c.self.inside.words.items in
    let within = subst (λ n. c.args.i < n) (sym c.self.invariant.count) c.requires in
    let at : slice_index words c.args.i ≡ c.index.result.now = sym (c.index.ensures ∙ get_or_default words c.args.i c.index.result.now 0 within) in
    ap (λ m. has_port m (64 * c.args.i + q)) (sym c.self.view_is) ∙ has_port-at words c.args.i q low ∙ ap (λ w. bit_at w q == 1) at
