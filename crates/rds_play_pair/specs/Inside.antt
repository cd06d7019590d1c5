-- How contracts see the fields of a joint.
use Rattle.std.specs.Prelude.{◌≡◌}
use Rattle.rds_model.specs.Past.{open_stream}
use Rattle.rds_play_pair.specs.Sides.{Side, Sides}
use Rattle.rds_play_pair.specs.declared.joint.Joint.TheInside.{Inside}
use Rattle.rds_play_pair.specs.Ends.{JointEnd, JointEnds}
use Rattle.rds_play_pair.specs.OnTheWay.{HasAtMostOne}

abbrev pub end : Side → JointEnd
end s = record { slots = s.slots; past = s.past; limit = s.limit; waiting = s.waiting; flying = s.flying }

abbrev pub ends : Sides → JointEnds
ends p = record { first = end p.first; second = end p.second }

abbrev pub joint_view : Inside → JointEnds
joint_view j = ends j.pair

-- the same stream is open at both ends, or none, and at most one frame is on its way each way
pub record IsJoint (a b : Side) : Type 0 where
  pub streams : open_stream a.past ≡ open_stream b.past
  pub forth : HasAtMostOne b.rest (end a) b.waiting
  pub back : HasAtMostOne a.rest (end b) a.waiting

abbrev pub JointInvariant : Inside → Type 0
JointInvariant j = IsJoint j.pair.first j.pair.second
