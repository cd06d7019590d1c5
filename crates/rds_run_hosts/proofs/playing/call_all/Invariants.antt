use Rattle.std.proofs.Common.{take}
use Rattle.rds_run_callers.specs.Places.{PlacesKeep}
use Rattle.rds_run_hosts.specs.Obeyed.{HasObeyed}
use Rattle.rds_run_hosts.proofs.playing.call_all.Given as goal

abbrev pub invariant-loop-placed : goal.invariant-loop-placed
invariant-loop-placed g l =
    HasObeyed l.fn.host (take l.placed-index l.fn.commands) l.fn.caller.places l.caller.places × PlacesKeep l.fn.caller.places l.caller.places
