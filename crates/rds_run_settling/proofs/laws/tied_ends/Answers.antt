use Rattle.rds_run_settling.specs.Tied.{holdings}
use Rattle.rds_run_settling.proofs.Told.{ends_told}
use Rattle.rds_run_settling.proofs.Tying.{lines_same, slots_of_ends}
use Rattle.rds_run_settling.proofs.laws.tied_ends.Goals as goal

pub returns-clause-host : goal.returns-clause-host
returns-clause-host g c places closed lines tied ends =
    c.host_keeps.ensures.host (holdings places) closed lines lines tied.host (slots_of_ends places closed ends) (lines_same lines)

pub returns-clause-passes : goal.returns-clause-passes
returns-clause-passes g c places closed lines tied ends =
    c.host_keeps.ensures.passes (holdings places) closed lines lines tied.passes (slots_of_ends places closed ends) (lines_same lines)

pub returns-clause-told : goal.returns-clause-told
returns-clause-told g c places closed lines told ends = ends_told places closed lines ends told
