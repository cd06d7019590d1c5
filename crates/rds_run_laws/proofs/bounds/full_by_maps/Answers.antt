use Rattle.rds_run_laws.proofs.Bounded.{many_maps}
use Rattle.rds_run_laws.proofs.Ports.{not_without_ports}
use Rattle.rds_run_laws.proofs.bounds.full_by_maps.Goals as goal

pub returns-clause-many : goal.returns-clause-many
returns-clause-many c hosts host peer entries commands own other full lines cuts =
    many_maps hosts host peer entries commands own other full (c.few_entries.ensures _ hosts host peer entries commands own other full) lines cuts

pub returns-clause-ports : goal.returns-clause-ports
returns-clause-ports c hosts host peer entries commands own other full lines cuts none_own none_other =
    not_without_ports c.pulled_maps.ensures c.few_map_pulls.ensures.one c.few_streams.ensures hosts host peer entries commands own other full
    (many_maps hosts host peer entries commands own other full (c.few_entries.ensures _ hosts host peer entries commands own other full) lines cuts) cuts
    none_own none_other
