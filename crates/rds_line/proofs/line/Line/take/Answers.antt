use Rattle.std.proofs.Common.{ap}
use Rattle.rds_line_channel.specs.Channel.{ChannelView}
use Rattle.rds_line.proofs.Acting.{past_through, still_past}
use Rattle.rds_line.proofs.Carrying.{roomy_arrived, roomy_out, roomy_unwritten, same_arrived, same_out, same_unwritten, taken_arrived, taken_out, taken_unwritten}
use Rattle.rds_line.proofs.Feeding.{keeps_fed, taken_past}
use Rattle.rds_line.proofs.Fields.{view_in}
use Rattle.rds_line.proofs.Quiet.{quiet_inside}
use Rattle.rds_line.proofs.Staying.{channel_of, channel_same, channel_through}
use Rattle.rds_line.proofs.StaysPassed.{taken_stays}
use Rattle.rds_line.proofs.Written.{made_room}
use Rattle.rds_line.proofs.Unlogged.{keeps_alike}
use Rattle.rds_line.proofs.line.Line.take.Goals as goal

pub returns-in_err-reserve-clause-quiet : goal.returns-in_err-reserve-clause-quiet
returns-in_err-reserve-clause-quiet g c =
    let m = g.E.End.means in
    let i = c.self.inside.channel in
    let same = c.in_err-reserve.ensures.err in
    quiet_inside (view_in c.self.inside) c.args.self.now c.self.view_is c.reserve.new.self
    (channel_of m i c.reserve.new.self i same (channel_same m i))
    (still_past (ap (λ (k : ChannelView g.row.E.Denot). k.conn.log.past) same))

pub invariant_of-self-2 : goal.invariant_of-self-2
invariant_of-self-2 g c =
    keeps_fed g.M.MapWriter.published c.self.inside.own_pulled _ c.reserve.new.self c.take.new.self c.in_ok-reserve.ensures.ok
    g.E.End.means c.take.result c.take.ensures.frame c.take.ensures.part c.take.ensures.refused c.take.ensures.err
    c.self.invariant

pub returns-clause-quiet : goal.returns-clause-quiet
returns-clause-quiet g c =
    let m = g.E.End.means in
    let i = c.self.inside.channel in
    let did = c.take.ensures in
    let room = c.in_ok-reserve.ensures.ok in
    quiet_inside (view_in c.self.inside) c.args.self.now c.self.view_is c.take.new.self
    (channel_through m i c.reserve.new.self c.take.new.self (made_room m i c.reserve.new.self room)
    (taken_stays c.take.result did.frame did.part did.refused did.err))
    (past_through (still_past (ap (λ (k : ChannelView g.row.E.Denot). k.conn.log.past) room))
    (taken_past m c.take.result did.frame did.part did.refused did.err))

pub invariant_of-self : goal.invariant_of-self
invariant_of-self g c =
    keeps_alike g.M.MapWriter.published c.self.inside.own_pulled (view_in c.self.inside) c.reserve.new.self c.in_err-reserve.ensures.err
    c.self.invariant

pub returns-in_err-reserve-clause-arrived : goal.returns-in_err-reserve-clause-arrived
returns-in_err-reserve-clause-arrived g c =
    same_arrived c.self.view_is c.reserve.new.self c.in_err-reserve.ensures.err

pub returns-in_err-reserve-clause-unwritten : goal.returns-in_err-reserve-clause-unwritten
returns-in_err-reserve-clause-unwritten g c =
    same_unwritten c.self.view_is c.reserve.new.self c.in_err-reserve.ensures.err

pub returns-clause-arrived : goal.returns-clause-arrived
returns-clause-arrived g c =
    let did = c.take.ensures in
    let ready = c.reserve.new.self in
    roomy_arrived c.self.view_is ready c.take.new.self c.in_ok-reserve.ensures.ok
    (taken_arrived g.E.End.means c.take.result ready c.take.new.self did.frame did.part did.refused did.err)

pub returns-clause-unwritten : goal.returns-clause-unwritten
returns-clause-unwritten g c =
    let did = c.take.ensures in
    let ready = c.reserve.new.self in
    roomy_unwritten c.self.view_is ready c.take.new.self c.in_ok-reserve.ensures.ok
    (taken_unwritten g.E.End.means c.take.result ready c.take.new.self did.frame did.part did.refused did.err)

pub returns-in_err-reserve-clause-out : goal.returns-in_err-reserve-clause-out
returns-in_err-reserve-clause-out g c = same_out c.self.view_is c.reserve.new.self c.in_err-reserve.ensures.err

pub returns-clause-out : goal.returns-clause-out
returns-clause-out g c =
    let did = c.take.ensures in
    let ready = c.reserve.new.self in
    roomy_out c.self.view_is ready c.take.new.self c.in_ok-reserve.ensures.ok
    (taken_out g.E.End.means c.take.result ready c.take.new.self did.frame did.part did.refused did.err)
