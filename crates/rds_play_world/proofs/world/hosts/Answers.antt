use Rattle.std.proofs.Common.{arith}
use Rattle.std.proofs.lemmas.List.Elements.{All-push, All-same}
use Rattle.rds_play_world.specs.Fresh.{IsNewHost}
use Rattle.rds_play_world.proofs.world.hosts.Goals as goal

pub loop-preserved : goal.loop-preserved
loop-preserved c = (
  omega (arith, c.in_ok-push.ensures.len, c.loop.invariant.0),
  All-same IsNewHost c.push.new.self.items _ c.in_ok-push.ensures.items
      (All-push IsNewHost c.loop.hosts.items c.in_ok-new.field-0 c.loop.invariant.1 c.in_ok-new.ensures),
)
