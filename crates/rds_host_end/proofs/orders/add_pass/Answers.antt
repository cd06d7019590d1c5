use Rattle.rds_host_end.proofs.Looking.{one_looked, one_reader}
use Rattle.rds_host_end.proofs.orders.add_pass.Goals as goal

pub pass_of-pass-requires : goal.pass_of-pass-requires
pass_of-pass-requires c = one_reader c.args.writer.now c.args.route c.in-Some.route c.in-Some.is c.requires

pub returns-in_err-push-in-Some-clause-looks : goal.returns-in_err-push-in-Some-clause-looks
returns-in_err-push-in-Some-clause-looks c = one_looked c.args.writer.now.published c.args.route c.in-Some.route c.in-Some.is c.pass_of-pass.ensures.looks

pub returns-in_ok-push-in-Some-clause-looks : goal.returns-in_ok-push-in-Some-clause-looks
returns-in_ok-push-in-Some-clause-looks c = one_looked c.args.writer.now.published c.args.route c.in-Some.route c.in-Some.is c.pass_of-pass.ensures.looks
