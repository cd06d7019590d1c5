use Rattle.rds_run_laws.proofs.Bounded.{entries_are_few}
use Rattle.rds_run_laws.proofs.bounds.few_entries.Goals as goal

pub returns : goal.returns
returns c limit hosts host peer entries commands own other full =
    entries_are_few c.bounded_of_all.ensures c.few_streams.ensures limit hosts host peer entries commands own other full
