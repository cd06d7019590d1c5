use Rattle.std.proofs.Common.{◌≤◌, ◌≡◌, sym, subst, arith}
use Rattle.rds_text.specs.FinalViews.{AreFinalHosts, host_views}
use Rattle.rds_history.specs.History.{final_hosts}
use Rattle.rds_play_world.specs.Telling.{state}
use Rattle.rds_play_world.proofs.Addressed.{are_ends}
use Rattle.rds_play_world.proofs.FinalLists.{ends_told}
use Rattle.rds_play_world.proofs.world.World.end.Goals as goal

pub returns-clause-ends : goal.returns-clause-ends
returns-clause-ends c = λ limit hosts past told.
    let w = c.args.self in
    ends_told limit hosts w.hosts.len past (state w) c.in_ok-journals.journals.items c.in_ok-ends.ends.items told w.meshed w.housed
    c.in_ok-journals.ensures.journals (c.in_ok-ends.ensures past)

pub returns-clause-addressed : goal.returns-clause-addressed
returns-clause-addressed c = λ limit hosts past told.
    let w = c.args.self in
    let is : host_views c.in_ok-ends.ends.items ≡ final_hosts hosts past =
    ends_told limit hosts w.hosts.len past (state w) c.in_ok-journals.journals.items c.in_ok-ends.ends.items told w.meshed w.housed
    c.in_ok-journals.ensures.journals (c.in_ok-ends.ensures past) in
    let few : hosts ≤ 8 = omega (arith, w.few, told.count_is) in
    subst AreFinalHosts (sym is) (are_ends hosts past few)
