use Rattle.std.proofs.Common.{refl, ap, subst, arith}
use Rattle.rds_line.specs.Line.{LineView, pulls_in}
use Rattle.rds_line.specs.Steps.{StaysQuiet}
use Rattle.rds_line.proofs.Fields.{view_in}
use Rattle.rds_line.proofs.Keeping.{pulled_still}
use Rattle.rds_line.proofs.Relieving.{room_to_relieve, keeps_relieved, stays_relieved}
use Rattle.rds_model.specs.Owed.{last_map}
use Rattle.rds_line_channel.specs.Channel.{ChannelView}
use Rattle.rds_model.specs.Past.{open_stream}
use Rattle.rds_line.proofs.line.Line.relieve.Goals as goal

pub relieve-requires : goal.relieve-requires
relieve-requires g c =
    let room = c.known.ensures.room in
    let limit = c.known.ensures.limit in
    room_to_relieve c.self.inside.channel.conn c.self.inside.words c.known.ensures.whole.legal (omega arith) c.self.invariant.0.freed

pub invariant_of-self : goal.invariant_of-self
invariant_of-self g c =
    let inside = c.self.inside in
    let v : LineView g.row.E.Denot g.row.M.Denot = record { channel = inside.channel; orders = inside.orders; boxes = inside.boxes; ports = inside.ports; words = inside.words; own = inside.own; map = inside.map } in
    let did = c.relieve.ensures in
    let w : LineView g.row.E.Denot g.row.M.Denot = record v { channel = c.relieve.new.self; words = c.relieve.new.words } in (
      keeps_relieved v c.relieve.new.self c.relieve.new.words did.rest did.words g.M.MapWriter.published did.none c.self.invariant.0,
      pulled_still inside.own_pulled v w (ap (λ (k : ChannelView g.row.E.Denot). open_stream k.conn.log.past) did.rest)
          (λ s. ap (λ (k : ChannelView g.row.E.Denot). last_map s k.conn.log.past) did.rest) refl c.self.invariant.1,
    )

pub returns-clause-quiet : goal.returns-clause-quiet
returns-clause-quiet g c =
    let v = view_in c.self.inside in
    let did = c.relieve.ensures in
    let w : LineView g.row.E.Denot g.row.M.Denot = record v { channel = c.relieve.new.self; words = c.relieve.new.words } in
    subst (λ (l : LineView g.row.E.Denot g.row.M.Denot). StaysQuiet g.E.End.means g.M.MapWriter.pair l w) c.self.view_is (record {
      stays = stays_relieved v c.relieve.new.self c.relieve.new.words did.rest did.words g.E.End.means g.M.MapWriter.pair;
      orders = refl;
      own = refl;
      pulls = ap (λ (k : ChannelView g.row.E.Denot). pulls_in k.conn.log.past) did.rest;
    })
