use Rattle.std.proofs.Common.{◌∙◌, arith}
use Rattle.rds_model.specs.Past.{now}
use Rattle.rds_run_laws.proofs.Arrivals.{passed_all, passed_few}
use Rattle.rds_run_laws.proofs.Plain.{each_passed, no_ping, ordered}
use Rattle.rds_run_laws.proofs.sums.orders_arrive.Goals as goal

pub returns-clause-few : goal.returns-clause-few
returns-clause-few c weight a b legal_a legal_b honest only_a only_b =
    let fifo = c.fifo_of_all.ensures a b legal_a legal_b honest in
    let is = ordered weight a (no_ping b a legal_b legal_a only_b fifo.1) a now legal_a only_a in
    let few = passed_few weight a b fifo.0 in
    omega (arith, is, few)

pub returns-clause-all : goal.returns-clause-all
returns-clause-all c weight a b legal_a legal_b honest none only_a only_b =
    let fifo = c.fifo_of_all.ensures a b legal_a legal_b honest in
    let is = ordered weight a (no_ping b a legal_b legal_a only_b fifo.1) a now legal_a only_a in
    passed_all weight a b fifo.0 (each_passed a b only_a (c.accounted_of_all.ensures a b legal_a legal_b honest none)) ∙ is
