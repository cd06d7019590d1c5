use Rattle.std.proofs.Common.{take}
use Rattle.rds_play_pair.specs.Playing.{DoesAll}
use Rattle.rds_play_pair.proofs.pair.ConnPair.do_all.Given as goal

-- the steps so far were done
abbrev pub invariant-loop-step : goal.invariant-loop-step
invariant-loop-step l = DoesAll (take l.step-index l.steps) l.fn.self l.self
