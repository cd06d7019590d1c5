-- What contracts see of one end.
use Rattle.std.specs.Prelude.{ℕ, List}
use Rattle.rds_conn.specs.Connection.{Connection}
use Rattle.rds_play_pair.specs.declared.half.Half.{Half}
use Rattle.rds_play_pair.specs.Sides.{Side}

abbrev pub side : Connection → List ℕ → Side
side c flying = record { slots = c.slots; past = c.log.past; limit = c.log.limit; waiting = c.waiting; rest = c.rest; flying = flying }

abbrev pub side_of : Half → Side
side_of h = side h.conn h.out
