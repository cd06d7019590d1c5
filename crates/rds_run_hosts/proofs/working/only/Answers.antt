use Rattle.std.proofs.Common.{◌≡◌, ◌++◌, subst}
use Rattle.std.specs.Prelude.{option_to_list}
use Rattle.rds_run_hosts.proofs.At.{the_one}
use Rattle.rds_run_hosts.proofs.working.only.Goals as goal

pub returns : goal.returns
returns g c =
    the_one c.args.list.items c.pop.new.self.items c.in-Some.line
    (subst (λ o. c.args.list.items ≡ c.pop.new.self.items ++ option_to_list o) c.in-Some.is c.pop.ensures.items) c.requires
