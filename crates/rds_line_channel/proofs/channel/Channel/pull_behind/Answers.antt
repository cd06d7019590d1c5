use Rattle.std.proofs.Common.{◌≡◌, true, IsSome, IfSome, ap, subst, sym, refl, ◌∙◌}
use Rattle.rds_model.specs.Owed.{last_map}
use Rattle.rds_conn.specs.Connection.{Connection, stream_of}
use Rattle.rds_line_channel.specs.Channel.{ChannelView}
use Rattle.rds_line_channel.proofs.Carrying.{open_some}
use Rattle.rds_line_channel.proofs.Going.{carried_conn, goes_behind, goes_same}
use Rattle.rds_line_channel.proofs.channel.Channel.pull_behind.Goals as goal
use Rattle.rds_line_channel.proofs.channel.Channel.pull_behind.Goals.{in-Ok, in-Err}

pub invariant_of-self : goal.invariant_of-self
invariant_of-self g c =
    let i = c.self.inside in
    let new = c.pull_behind.new.self in
    let out = c.pull_behind.new.out in
    let is_open = ap (λ (v : ChannelView g.row.E.Denot). v.streams.is_open) c.self.view_is in
    let on : i.streams.is_open ≡ true = is_open ∙ c.requires.open in
    let some = subst IsSome c.self.invariant.current (open_some g.E.End.means i.streams c.known.ensures on) in
    let conn = ap (λ (v : ChannelView g.row.E.Denot). v.conn) c.self.view_is in
    let behind =
    subst (λ (v : Connection). IfSome (stream_of v) (λ s. IsSome (last_map s v.log.past))) (sym conn) c.requires.behind in
    carried_conn g.E.End.means i.streams i.conn new i.piece i.out out i.cuts.numbers c.known.ensures
    (elim c.match-pull_behind.branch [
      | in-Ok w ↦
          let owed = w.in-Ok.ensures.owed in
          goes_behind (stream_of i.conn) i.conn new i.piece i.out out w.in-Ok.pulled refl some behind owed
      | in-Err w ↦ goes_same i.conn new i.piece i.out out w.in-Err.ensures.err.0 w.in-Err.ensures.err.1
    ]) c.self.invariant
