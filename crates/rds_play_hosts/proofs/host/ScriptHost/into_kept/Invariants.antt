use Rattle.std.proofs.Common.{◌≡◌, map}
use Rattle.rds_text.specs.FinalViews.{socket_view}
use Rattle.rds_play_hosts.proofs.KeptSockets.{left_by}
use Rattle.rds_play_hosts.proofs.host.ScriptHost.into_kept.Given as goal

abbrev pub invariant-loop-socket : goal.invariant-loop-socket
invariant-loop-socket l = map socket_view l.kept.items ≡ map left_by l.yielded
