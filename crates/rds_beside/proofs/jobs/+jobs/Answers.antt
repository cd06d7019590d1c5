use Rattle.std.proofs.Common.{rules}
use Rattle.std.proofs.lemmas.Result.{IfOk-at_ok}
use Rattle.std.specs.Fork.Halves.{GivesFor}
use Rattle.rds_beside.proofs.Parting.{accepts_parts, jobs_parts}
use Rattle.rds_beside.proofs.jobs.+jobs.Goals as goal

pub join-one-requires-after_bounds : goal.join-one-requires-after_bounds
join-one-requires-after_bounds g t c κs within =
    let cut = c.in_ok-others.ensures in
    let both = accepts_parts g.F.Fn c.args.f.now _ _ _ 1 cut.items cut.tail c.requires in
    let front = both.0 in let back = both.1 in
    search rules

pub returns : goal.returns
returns g t c =
    let f = c.args.f.now in let cut = c.in_ok-others.ensures in
    jobs_parts g.F.Fn f _ _ _ 1 _ _ _ cut.items cut.tail c.in_ok-append.ensures.items
    (IfOk-at_ok (λ v. GivesFor g.F.Fn f _ v.items) c.in_ok-all.was c.join-one.ensures.first)
    (IfOk-at_ok (λ v. GivesFor g.F.Fn f _ v.items) c.in_ok-rest.was c.join-one.ensures.second)
