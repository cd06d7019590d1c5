use Rattle.std.proofs.Common.{◌≡◌, ◌<◌, inl, Ok, length, refl, sym, ap, subst, ◌∙◌, arith}
use Rattle.rds_line_channel.specs.Streams.{StreamsView, newest_place}
use Rattle.rds_line_channel.specs.Channel.{ChannelView}
use Rattle.rds_line.specs.Line.{LineView, line_past}
use Rattle.rds_line.specs.Stays.{LineStays}
use Rattle.rds_line.specs.Steps.{KeepsArrived, KeepsUnwritten}
use Rattle.rds_line.specs.Turns.{SendsBytes}
use Rattle.rds_line.proofs.Carrying.{appended_less, arrived_through, less_after, roomy_arrived, roomy_unwritten, same_arrived}
use Rattle.rds_line.proofs.Fields.{view_in}
use Rattle.rds_line.proofs.Longer.{longer}
use Rattle.rds_line.proofs.Looking.{LeavesOwn, leaves_same, loads_wider, pulls_wider, ready_none, roomy_leaves}
use Rattle.rds_line.proofs.Quiet.{leaves_quiet}
use Rattle.rds_line.proofs.Staying.{channel_of, channel_same, line_inside, line_same, line_through}
use Rattle.rds_line.proofs.Written.{made_room}
use Rattle.rds_line.proofs.Unlogged.{keeps_alike}
use Rattle.rds_line.proofs.line.Line.send.Given as given
use Rattle.rds_line.proofs.line.Line.send.Goals as goal
use Rattle.rds_line.proofs.line.Line.send.Goals.{else-unwritten-eq0-via-then-unwritten-eq0+in_ok-pull+else-not-branch, else-unwritten-eq0-via-else-unwritten-eq0}

pub returns-then-not-is_open : goal.returns-then-not-is_open
returns-then-not-is_open g c = record {
  stays = line_same g.E.End.means g.M.MapWriter.pair c.args.self.now;
  orders = refl;
  came = λ none left. (none, left);
  arrived = λ _. refl;
  closed = λ _. (
    sym (ap (λ (v : LineView g.row.E.Denot g.row.M.Denot). v.channel.streams.is_open) c.self.view_is) ∙ sym c.is_open.ensures
        ∙ c.if-not-is_open.true,
    refl,
  );
  shut = λ _. refl;
  nothing = λ e. absurd (cc);
  full = λ e. absurd (cc);
  bytes = λ e. absurd (cc);
  less = λ e. absurd (cc);
  looked = λ e. absurd (cc);
  pulls = inl refl;
  ended = λ e. absurd (cc);
  spent = λ entries e. absurd (cc);
}

pub returns-in_err-reserve-clause-stays : goal.returns-in_err-reserve-clause-stays
returns-in_err-reserve-clause-stays g c =
    let m = g.E.End.means in
    let i = c.self.inside.channel in
    line_inside m g.M.MapWriter.pair (view_in c.self.inside) c.args.self.now c.self.view_is c.reserve.new.self
    (channel_of m i c.reserve.new.self i c.in_err-reserve.ensures.err (channel_same m i))
    (ap (λ (k : ChannelView g.row.E.Denot). k.conn.log.past) c.in_err-reserve.ensures.err)

module _ (g : given.Over) (c : goal.After-write g) where
  -- the line once it was ready
  abbrev ready : LineView g.row.E.Denot g.row.M.Denot
  ready = record (view_in c.self.inside) { channel = c.reserve.new.self }

  ready_stays : LineStays g.E.End.means g.M.MapWriter.pair c.args.self.now ready
  ready_stays =
      let m = g.E.End.means in
      line_inside m g.M.MapWriter.pair (view_in c.self.inside) c.args.self.now c.self.view_is c.reserve.new.self
      (made_room m c.self.inside.channel c.reserve.new.self c.in_ok-reserve.ensures.ok)
      (ap (λ (k : ChannelView g.row.E.Denot). k.conn.log.past) c.in_ok-reserve.ensures.ok)

  middle_stays : LineStays g.E.End.means g.M.MapWriter.pair c.args.self.now c.else-unwritten-eq0.self
  middle_stays = elim c.else-unwritten-eq0.branch [
    | else-unwritten-eq0-via-then-unwritten-eq0+in_ok-pull+else-not-branch w ↦
        subst (λ (v : LineView g.row.E.Denot g.row.M.Denot). LineStays g.E.End.means g.M.MapWriter.pair c.args.self.now v)
        (sym w.self-is)
        (line_through g.E.End.means g.M.MapWriter.pair c.args.self.now ready w.pull.new.self ready_stays w.pull.ensures.stays)
    | else-unwritten-eq0-via-else-unwritten-eq0 w ↦
        subst (λ (v : LineView g.row.E.Denot g.row.M.Denot). LineStays g.E.End.means g.M.MapWriter.pair c.args.self.now v)
        (sym w.self-is)
        ready_stays
  ]

  same_streams : c.else-unwritten-eq0.self.channel.streams ≡ c.args.self.now.channel.streams
  same_streams =
      let first : c.reserve.new.self.streams ≡ c.args.self.now.channel.streams =
      ap (λ (v : ChannelView g.row.E.Denot). v.streams) c.in_ok-reserve.ensures.ok
      ∙ ap (λ (v : LineView g.row.E.Denot g.row.M.Denot). v.channel.streams) c.self.view_is in
      elim c.else-unwritten-eq0.branch [
        | else-unwritten-eq0-via-then-unwritten-eq0+in_ok-pull+else-not-branch w ↦
            ap (λ (v : LineView g.row.E.Denot g.row.M.Denot). v.channel.streams) w.self-is ∙ w.pull.ensures.streams ∙ first
        | else-unwritten-eq0-via-else-unwritten-eq0 w ↦
            ap (λ (v : LineView g.row.E.Denot g.row.M.Denot). v.channel.streams) w.self-is ∙ first
      ]

pub returns-clause-stays : goal.returns-clause-stays
returns-clause-stays g c =
    line_through g.E.End.means g.M.MapWriter.pair c.args.self.now c.else-unwritten-eq0.self c.write.new.self
    (middle_stays g c) c.write.ensures.quiet.stays

pub returns-clause-bytes : goal.returns-clause-bytes
returns-clause-bytes g c same =
    let m = g.E.End.means in
    let new = c.write.new.self.channel.streams in
    subst (λ (s : StreamsView g.row.E.Denot). SendsBytes m (newest_place s) s.list new.list) (same_streams g c)
    (c.write.ensures.bytes same)

pub returns-clause-ended : goal.returns-clause-ended
returns-clause-ended g c same =
    let more = c.write.ensures.ended same in
    let long = longer (line_past c.args.self.now) (line_past c.else-unwritten-eq0.self) (middle_stays g c).channel.past in
    omega arith

pub returns-in_err-pull-clause-stays : goal.returns-in_err-pull-clause-stays
returns-in_err-pull-clause-stays g c =
    let m = g.E.End.means in
    let pair = g.M.MapWriter.pair in
    let now = c.args.self.now in
    let ready : LineView g.row.E.Denot g.row.M.Denot = record (view_in c.self.inside) { channel = c.reserve.new.self } in
    line_through m pair now ready c.pull.new.self
    (line_inside m pair (view_in c.self.inside) now c.self.view_is c.reserve.new.self
    (made_room m c.self.inside.channel c.reserve.new.self c.in_ok-reserve.ensures.ok)
    (ap (λ (k : ChannelView g.row.E.Denot). k.conn.log.past) c.in_ok-reserve.ensures.ok)) c.pull.ensures.stays

pub returns-then-not-branch-clause-stays : goal.returns-then-not-branch-clause-stays
returns-then-not-branch-clause-stays g c =
    let m = g.E.End.means in
    let pair = g.M.MapWriter.pair in
    let now = c.args.self.now in
    let ready : LineView g.row.E.Denot g.row.M.Denot = record (view_in c.self.inside) { channel = c.reserve.new.self } in
    line_through m pair now ready c.pull.new.self
    (line_inside m pair (view_in c.self.inside) now c.self.view_is c.reserve.new.self
    (made_room m c.self.inside.channel c.reserve.new.self c.in_ok-reserve.ensures.ok)
    (ap (λ (k : ChannelView g.row.E.Denot). k.conn.log.past) c.in_ok-reserve.ensures.ok)) c.pull.ensures.stays

pub returns-then-not-branch-clause-pulls : goal.returns-then-not-branch-clause-pulls
returns-then-not-branch-clause-pulls g c =
    let now = c.args.self.now in
    let ready : LineView g.row.E.Denot g.row.M.Denot = record (view_in c.self.inside) { channel = c.reserve.new.self } in
    let new = c.pull.new.self in
    pulls_wider now ready new new
    (roomy_leaves (view_in c.self.inside) now c.reserve.new.self c.self.view_is c.in_ok-reserve.ensures.ok) (leaves_same new)
    (λ pulls. ready_none c.self.view_is c.reserve.new.self c.in_ok-reserve.ensures.ok pulls.none_waited) c.pull.ensures.pulls

pub returns-then-not-branch-clause-orders : goal.returns-then-not-branch-clause-orders
returns-then-not-branch-clause-orders g c =
    c.pull.ensures.orders ∙ ap (λ (v : LineView g.row.E.Denot g.row.M.Denot). v.orders) c.self.view_is

pub returns-then-not-branch-clause-came : goal.returns-then-not-branch-clause-came
returns-then-not-branch-clause-came g c = λ none left.
    let room = c.in_ok-reserve.ensures.ok in
    c.pull.ensures.came
    (ap (λ (v : ChannelView g.row.E.Denot). v.conn.waiting) room
    ∙ ap (λ (v : LineView g.row.E.Denot g.row.M.Denot). v.channel.conn.waiting) c.self.view_is ∙ none)
    (ap (λ (v : ChannelView g.row.E.Denot). v.piece) room
    ∙ ap (λ (v : LineView g.row.E.Denot g.row.M.Denot). v.channel.piece) c.self.view_is ∙ left)

pub returns-in_err-pull-clause-pulls : goal.returns-in_err-pull-clause-pulls
returns-in_err-pull-clause-pulls g c =
    let now = c.args.self.now in
    let ready : LineView g.row.E.Denot g.row.M.Denot = record (view_in c.self.inside) { channel = c.reserve.new.self } in
    let new = c.pull.new.self in
    pulls_wider now ready new new
    (roomy_leaves (view_in c.self.inside) now c.reserve.new.self c.self.view_is c.in_ok-reserve.ensures.ok) (leaves_same new)
    (λ pulls. ready_none c.self.view_is c.reserve.new.self c.in_ok-reserve.ensures.ok pulls.none_waited) c.pull.ensures.pulls

pub returns-then-not-branch-clause-looked : goal.returns-then-not-branch-clause-looked
returns-then-not-branch-clause-looked g c same =
    let now = c.args.self.now in
    let ready : LineView g.row.E.Denot g.row.M.Denot = record (view_in c.self.inside) { channel = c.reserve.new.self } in
    let new = c.pull.new.self in
    loads_wider now ready new new
    (roomy_leaves (view_in c.self.inside) now c.reserve.new.self c.self.view_is c.in_ok-reserve.ensures.ok) (leaves_same new)
    c.pull.ensures.looked

pub returns-clause-pulls : goal.returns-clause-pulls
returns-clause-pulls g c =
    let now = c.args.self.now in
    let middle = c.else-unwritten-eq0.self in
    let new = c.write.new.self in
    let first : LeavesOwn now (ready g c) =
    roomy_leaves (view_in c.self.inside) now c.reserve.new.self c.self.view_is c.in_ok-reserve.ensures.ok in
    let last : LeavesOwn middle new =
    leaves_quiet c.write.ensures.quiet in
    elim c.else-unwritten-eq0.branch [
      | else-unwritten-eq0-via-then-unwritten-eq0+in_ok-pull+else-not-branch w ↦
          let pulled = w.pull.new.self in
          pulls_wider now (ready g c) pulled new first
          (subst (λ (v : LineView g.row.E.Denot g.row.M.Denot). LeavesOwn v new) w.self-is last)
          (λ pulls. ready_none c.self.view_is c.reserve.new.self c.in_ok-reserve.ensures.ok pulls.none_waited) w.pull.ensures.pulls
      | else-unwritten-eq0-via-else-unwritten-eq0 w ↦
          pulls_wider now (ready g c) (ready g c) new first
          (subst (λ (v : LineView g.row.E.Denot g.row.M.Denot). LeavesOwn v new) w.self-is last)
          (λ pulls. ready_none c.self.view_is c.reserve.new.self c.in_ok-reserve.ensures.ok pulls.none_waited) (inl refl)
    ]

pub invariant_of-self : goal.invariant_of-self
invariant_of-self g c =
    keeps_alike g.M.MapWriter.published c.self.inside.own_pulled (view_in c.self.inside) c.reserve.new.self c.in_err-reserve.ensures.err
    c.self.invariant

pub returns-in_err-reserve-clause-arrived : goal.returns-in_err-reserve-clause-arrived
returns-in_err-reserve-clause-arrived g c =
    same_arrived c.self.view_is c.reserve.new.self c.in_err-reserve.ensures.err

pub returns-in_err-pull-clause-arrived : goal.returns-in_err-pull-clause-arrived
returns-in_err-pull-clause-arrived g c =
    roomy_arrived c.self.view_is c.reserve.new.self c.pull.new.self.channel c.in_ok-reserve.ensures.ok c.pull.ensures.arrived

pub returns-then-not-branch-clause-arrived : goal.returns-then-not-branch-clause-arrived
returns-then-not-branch-clause-arrived g c =
    roomy_arrived c.self.view_is c.reserve.new.self c.pull.new.self.channel c.in_ok-reserve.ensures.ok c.pull.ensures.arrived

pub returns-clause-arrived : goal.returns-clause-arrived
returns-clause-arrived g c =
    let now = c.args.self.now in
    let middle = c.else-unwritten-eq0.self in
    let room = c.in_ok-reserve.ensures.ok in
    let first : KeepsArrived now.channel middle.channel = elim c.else-unwritten-eq0.branch [
      | else-unwritten-eq0-via-then-unwritten-eq0+in_ok-pull+else-not-branch w ↦
          subst (λ (v : LineView g.row.E.Denot g.row.M.Denot). KeepsArrived now.channel v.channel) (sym w.self-is)
          (roomy_arrived c.self.view_is c.reserve.new.self w.pull.new.self.channel room w.pull.ensures.arrived)
      | else-unwritten-eq0-via-else-unwritten-eq0 w ↦
          subst (λ (v : LineView g.row.E.Denot g.row.M.Denot). KeepsArrived now.channel v.channel) (sym w.self-is)
          (roomy_arrived c.self.view_is c.reserve.new.self c.reserve.new.self room (λ _. refl))
    ] in
    arrived_through now.channel middle.channel c.write.new.self.channel (middle_stays g c).channel.past
    c.write.ensures.quiet.stays.channel.past first c.write.ensures.arrived

pub returns-clause-less : goal.returns-clause-less
returns-clause-less g c is =
    let now = c.args.self.now in
    let middle = c.else-unwritten-eq0.self in
    let new = c.write.new.self in
    let room = c.in_ok-reserve.ensures.ok in
    let last = c.write.ensures.quiet.stays.channel.past in
    let fewer = c.write.ensures.less is in
    elim c.else-unwritten-eq0.branch [
      | else-unwritten-eq0-via-then-unwritten-eq0+in_ok-pull+else-not-branch w ↦
          let first = longer (line_past now) (line_past (ready g c)) (ready_stays g c).channel.past in
          let appended : length (line_past (ready g c)) < length (line_past w.pull.new.self) =
          w.in_ok-pull.ensures.appends (ap Ok w.if-not-branch.false) in
          let written = longer (line_past middle) (line_past new) last in
          let same : length (line_past middle) ≡ length (line_past w.pull.new.self) =
          ap (λ (v : LineView g.row.E.Denot g.row.M.Denot). length (line_past v)) w.self-is in
          appended_less now.channel new.channel (omega (arith, first, appended, written, same))
      | else-unwritten-eq0-via-else-unwritten-eq0 w ↦
          less_after now.channel middle.channel new.channel (middle_stays g c).channel.past last
          (subst (λ (v : LineView g.row.E.Denot g.row.M.Denot). KeepsUnwritten now.channel v.channel) (sym w.self-is)
          (roomy_unwritten c.self.view_is c.reserve.new.self c.reserve.new.self room (λ _. refl)))
          (λ _. fewer)
    ]
