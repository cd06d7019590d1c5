use Rattle.std.proofs.Common.{◌∙◌, sym, ap}
use Rattle.rds_play_pair.specs.Changes.{found_for, passed}
use Rattle.rds_play_pair.proofs.Halves.{passed_side}
use Rattle.rds_play_pair.proofs.half.Half.pass.Goals as goal

pub returns-clause-ok : goal.returns-clause-ok
returns-clause-ok c =
    passed_side c.ready.new.self.conn c.pass_uncounted.new.self c.ready.new.self.out c.args.slot c.in-Some.verdict c.found_for.result
    (sym c.in-Some.ensures) (c.found_for.ensures.found ∙ ap (λ n. found_for n c.args.slot c.in-Some.verdict) c.slots.ensures) c.pass_uncounted.ensures.passes
    ∙ ap (passed c.args.slot) c.ready.ensures.same
