use Rattle.rds_play_pair.proofs.Playing.{does_all_next}
use Rattle.rds_play_pair.proofs.pair.ConnPair.do_all.Goals as goal

pub loop-step-preserved : goal.loop-step-preserved
loop-step-preserved c =
    does_all_next c.args.steps.now c.loop-step.step-index c.step-item.result c.args.self.now c.loop-step.self c.step.new.self
    c.loop-step-test.true c.step-item.is c.loop-step.invariant c.in_ok-step.ensures.ok
