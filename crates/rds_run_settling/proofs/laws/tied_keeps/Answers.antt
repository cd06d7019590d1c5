use Rattle.rds_run_settling.specs.Tied.{holdings}
use Rattle.rds_run_settling.proofs.Tying.{lines_same, slots_of_places, slots_same, tied_keeps, tied_made}
use Rattle.rds_run_settling.proofs.laws.tied_keeps.Goals as goal

pub returns-clause-made : goal.returns-clause-made
returns-clause-made g c slots lines host passes = tied_made slots lines host passes

pub returns-clause-places : goal.returns-clause-places
returns-clause-places g c places new lines tied slots =
    tied_keeps c.host_keeps.ensures.host c.host_keeps.ensures.passes places new lines lines tied (slots_of_places places new slots) (lines_same lines)

pub returns-clause-lines : goal.returns-clause-lines
returns-clause-lines g c places lines after tied kept =
    tied_keeps c.host_keeps.ensures.host c.host_keeps.ensures.passes places places lines after tied (slots_same (holdings places)) kept
