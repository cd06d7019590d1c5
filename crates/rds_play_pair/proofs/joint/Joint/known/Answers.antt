use Rattle.rds_play_pair.proofs.Keeping.{reads_all, swapped}
use Rattle.rds_play_pair.proofs.joint.Joint.known.Goals as goal

pub returns-clause-streams : goal.returns-clause-streams
returns-clause-streams c = rw (← c.self.view_is) c.self.invariant.streams

pub returns-clause-one_forth : goal.returns-clause-one_forth
returns-clause-one_forth c = rw (← c.self.view_is) (c.self.inside.pair.second.rest, c.self.invariant.forth)

pub returns-clause-one_back : goal.returns-clause-one_back
returns-clause-one_back c = rw (← c.self.view_is) (c.self.inside.pair.first.rest, c.self.invariant.back)

pub returns-clause-all_forth : goal.returns-clause-all_forth
returns-clause-all_forth c =
    let p = c.self.inside.pair in
    rw (← c.self.view_is) (reads_all p.first p.second c.self.invariant c.known.ensures.flows_forth)

pub returns-clause-all_back : goal.returns-clause-all_back
returns-clause-all_back c =
    let p = c.self.inside.pair in
    rw (← c.self.view_is) (reads_all p.second p.first (swapped p.first p.second c.self.invariant) c.known.ensures.flows_back)

pub returns-clause-forth : goal.returns-clause-forth
returns-clause-forth c sport dport = rw (← c.self.view_is) (c.known.ensures.forth sport dport)

pub returns-clause-back : goal.returns-clause-back
returns-clause-back c sport dport = rw (← c.self.view_is) (c.known.ensures.back sport dport)
