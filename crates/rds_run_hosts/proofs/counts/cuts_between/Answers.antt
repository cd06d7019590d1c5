use Rattle.std.proofs.Common.{◌≤◌, arith}
use Rattle.rds_run_hosts.proofs.counts.cuts_between.Goals as goal
use Rattle.rds_run_hosts.proofs.counts.cuts_between.Goals.{After-cuts_among}

few : (c : After-cuts_among) → c.cuts_among.result ≤ 1024
few c =
    let most = c.requires c.args.low c.args.high in
    let is = c.cuts_among.ensures in
    omega (arith, most, is)

pub overflow_cast-result : goal.overflow_cast-result
overflow_cast-result c = let small = few c in omega (arith, small)

pub returns-clause-most : goal.returns-clause-most
returns-clause-most c = few (goal.at.returns-clause-most c).After-cuts_among
