use Rattle.std.proofs.Common.{refl}
use Rattle.rds_conn.specs.Connection.{stream_of}
use Rattle.rds_line_channel.proofs.Going.{carried_conn, goes_pull, goes_same}
use Rattle.rds_line_channel.proofs.channel.Channel.pull.Goals as goal
use Rattle.rds_line_channel.proofs.channel.Channel.pull.Goals.{in-Ok, in-Err}

pub invariant_of-self : goal.invariant_of-self
invariant_of-self g c =
    let i = c.self.inside in
    let new = c.pull.new.self in
    let out = c.pull.new.out in
    carried_conn g.E.End.means i.streams i.conn new i.piece i.out out i.cuts.numbers c.known.ensures
    (elim c.match-pull.branch [
      | in-Ok w ↦
          let owed = w.in-Ok.ensures.owed in
          goes_pull (stream_of i.conn) c.args.map.now i.conn new i.piece i.out out w.in-Ok.pulled refl owed c.pull.ensures.still
      | in-Err w ↦ goes_same i.conn new i.piece i.out out w.in-Err.ensures.err.0 w.in-Err.ensures.err.1
    ]) c.self.invariant
