use Rattle.std.proofs.Common.{◌≡◌, List, length, map, vec_len}
use Rattle.rds_text.specs.Ports.{below}
use Rattle.rds_history.specs.Events.{Event}
use Rattle.rds_history.specs.History.{final_host}
use Rattle.rds_text.specs.FinalViews.{host_views}
use Rattle.rds_play_world.specs.Ending.{JournalsTell}
use Rattle.rds_play_world.specs.Telling.{HostsTell}
use Rattle.rds_play_world.proofs.ending.ends.Given as goal

abbrev pub invariant-loop-host : goal.invariant-loop-host
invariant-loop-host l =
    (vec_len l.ends ≡ length l.yielded)
    × ((past : List Event) → HostsTell (vec_len l.fn.hosts) past l.fn.hosts.items → JournalsTell (vec_len l.fn.hosts) past l.fn.journals.items →
    host_views l.ends.items ≡ map (λ h. final_host (vec_len l.fn.hosts) h past) (below (length l.yielded)))
