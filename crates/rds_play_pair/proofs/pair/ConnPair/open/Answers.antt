use Rattle.std.proofs.Common.{◌≡◌, None, ◌+◌, rules}
use Rattle.rds_conn.specs.Connection.{stream_of}
use Rattle.rds_play_pair.specs.Changes.{opened}
use Rattle.rds_play_pair.specs.Half.{side_of}
use Rattle.rds_play_pair.proofs.Joining.{joined_opened}
use Rattle.rds_play_pair.proofs.Trying.{joined_as, whole_as}
use Rattle.rds_play_pair.proofs.pair.ConnPair.open.Goals as goal

pub invariant_of-self-2 : goal.invariant_of-self-2
invariant_of-self-2 c =
    let n = c.self.inside.streams in
    let a = side_of c.ready.new.self in
    let b = side_of c.ready-2.new.self in
    let none_a : stream_of c.ready.new.self.conn ≡ None = search rules in
    let none_b : stream_of c.ready-2.new.self.conn ≡ None = search rules in
    let idle_a = c.known.ensures.idle none_a in
    let idle_b = c.known-2.ensures.idle none_b in
    let joined =
    joined_as n (side_of c.self.inside.first) a (side_of c.self.inside.second) b c.ready.ensures.same c.ready-2.ensures.same c.self.invariant in
    joined_as (n + 1) (opened (n + 1) a) (side_of c.open.new.self) (opened (n + 1) b) (side_of c.open-2.new.self)
    c.open.ensures.opens c.open-2.ensures.opens
    (joined_opened n a b joined (record { waiting = idle_a.0; rest = idle_a.1 }) (record { waiting = idle_b.0; rest = idle_b.1 })
    (whole_as (opened (n + 1) a) (side_of c.open.new.self) c.open.ensures.opens c.open.ensures.whole)
    (whole_as (opened (n + 1) b) (side_of c.open-2.new.self) c.open-2.ensures.opens c.open-2.ensures.whole))
