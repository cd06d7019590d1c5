-- How contracts see the fields of a pair.
use Rattle.rds_play_pair.specs.declared.pair.ConnPair.TheInside.{Inside}
use Rattle.rds_play_pair.specs.Sides.{Sides}
use Rattle.rds_play_pair.specs.Joined.{IsJoined}
use Rattle.rds_play_pair.specs.Half.{side_of}

abbrev pub pair_view : Inside → Sides
pair_view p = record { first = side_of p.first; second = side_of p.second }

-- what a pair keeps
abbrev pub PairInvariant : Inside → Type 0
PairInvariant p = IsJoined p.streams (side_of p.first) (side_of p.second)
