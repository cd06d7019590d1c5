use Rattle.rds_run_laws.proofs.Summarized.{calm_bytes, calm_counts, calm_pair}
use Rattle.rds_run_laws.proofs.calm.all_is_received.Goals as goal

pub returns-clause-totals : goal.returns-clause-totals
returns-clause-totals c hosts commands ends few run =
    calm_counts c.pulled_maps.ensures c.totals_of_items.ensures.counts c.totals_of_items.ensures.bytes hosts commands ends few run.calm run.did run.acknowledged

pub returns-clause-pairs : goal.returns-clause-pairs
returns-clause-pairs c hosts commands ends few run =
    calm_pair c.pulled_maps.ensures c.totals_of_items.ensures.counts c.totals_of_items.ensures.bytes hosts commands ends few run.calm run.did run.acknowledged

pub returns-clause-bytes : goal.returns-clause-bytes
returns-clause-bytes c hosts commands ends few run =
    calm_bytes c.pulled_maps.ensures c.totals_of_items.ensures.counts c.totals_of_items.ensures.bytes hosts commands ends few run.calm run.did run.acknowledged
