use Rattle.std.proofs.Common.{◌≡◌, List, ◌∷◌, length, sym, ap, subst, refl, ◌∙◌, arith}
use Rattle.rds_model.specs.declared.entry.Entry.{Entry}
use Rattle.rds_model.specs.declared.entry.Entry.TheVariants as entry
use Rattle.rds_line_channel.specs.Channel.{ChannelView, arrived_bytes}
use Rattle.rds_line.specs.Line.{LineView, line_past}
use Rattle.rds_line.specs.Steps.{KeepsArrived, KeepsUnwritten}
use Rattle.rds_line.proofs.Acting.{more_past, still_past}
use Rattle.rds_line.proofs.Carrying.{appended_arrived, appended_unwritten, opened_longer, roomy_arrived, roomy_unwritten}
use Rattle.rds_line.proofs.Fields.{view_in}
use Rattle.rds_line.proofs.Keeping.{keeps_plain}
use Rattle.rds_line.proofs.Quiet.{quiet_inside, quiet_of}
use Rattle.rds_line.proofs.Staying.{channel_of, channel_same, channel_through, opening_stays}
use Rattle.rds_line.proofs.Written.{made_room}
use Rattle.rds_line.proofs.Unlogged.{keeps_alike}
use Rattle.rds_line.proofs.line.Line.open_next.Goals as goal
use Rattle.rds_line.proofs.line.Line.open_next.Goals.{else-not-is_open-via-then-not-is_open+else-open_next, else-not-is_open-via-else-not-is_open}

pub invariant_of-self-then-open_next : goal.invariant_of-self-then-open_next
invariant_of-self-then-open_next g c =
    let v = view_in c.self.inside in
    let room = (c.in_ok-reserve.ensures {u = tt}).ok in
    let opens = (c.if-open_next.ensures {u = tt}).opened refl in
    let new = c.open_next.new.self in (
      keeps_plain g.M.MapWriter.published (entry.Open opens.number) tt v new
          (ap (λ (k : ChannelView g.row.E.Denot). k.conn.log.past) opens.is ∙ ap (λ (k : ChannelView g.row.E.Denot). entry.Open opens.number ∷ k.conn.log.past) room)
          (ap (λ (k : ChannelView g.row.E.Denot). k.conn.peer) opens.is ∙ ap (λ (k : ChannelView g.row.E.Denot). k.conn.peer) room)
          (ap (λ (k : ChannelView g.row.E.Denot). k.conn.slots) opens.is ∙ ap (λ (k : ChannelView g.row.E.Denot). k.conn.slots) room)
          (ap (λ (k : ChannelView g.row.E.Denot). k.conn.freed) opens.is ∙ ap (λ (k : ChannelView g.row.E.Denot). k.conn.freed) room)
          (ap (λ (k : ChannelView g.row.E.Denot). k.cuts.numbers) opens.is ∙ ap (λ (k : ChannelView g.row.E.Denot). k.cuts.numbers) room)
          c.self.invariant.0,
      λ noted. absurd (cc),
    )

pub returns-in_err-reserve-clause-quiet : goal.returns-in_err-reserve-clause-quiet
returns-in_err-reserve-clause-quiet g c =
    let m = g.E.End.means in
    let i = c.self.inside.channel in
    let same = (c.in_err-reserve.ensures {u = tt}).err in
    quiet_inside (view_in c.self.inside) c.args.self.now c.self.view_is c.reserve.new.self
    (channel_of m i c.reserve.new.self i same (channel_same m i))
    (still_past (ap (λ (k : ChannelView g.row.E.Denot). k.conn.log.past) same))

pub returns-then-open_next-clause-quiet : goal.returns-then-open_next-clause-quiet
returns-then-open_next-clause-quiet g c =
    let m = g.E.End.means in
    let i = c.self.inside.channel in
    let room = (c.in_ok-reserve.ensures {u = tt}).ok in
    let opens = (c.if-open_next.ensures {u = tt}).opened refl in
    quiet_inside (view_in c.self.inside) c.args.self.now c.self.view_is c.open_next.new.self
    (channel_through m i c.reserve.new.self c.open_next.new.self (made_room m i c.reserve.new.self room)
    (opening_stays m c.reserve.new.self c.open_next.new.self opens))
    (more_past (entry.Open opens.number) tt
    (ap (λ (k : ChannelView g.row.E.Denot). k.conn.log.past) opens.is
    ∙ ap (λ (k : ChannelView g.row.E.Denot). entry.Open opens.number ∷ k.conn.log.past) room))

pub returns-else-not-is_open-clause-quiet : goal.returns-else-not-is_open-clause-quiet
returns-else-not-is_open-clause-quiet g c =
    let m = g.E.End.means in
    let v = view_in c.self.inside in
    let i = c.self.inside.channel in
    let room = (c.in_ok-reserve.ensures {u = tt}).ok in
    let roomy = made_room m i c.reserve.new.self room in
    let past = ap (λ (k : ChannelView g.row.E.Denot). k.conn.log.past) room in
    elim c.else-not-is_open.branch [
      | else-not-is_open-via-then-not-is_open+else-open_next w ↦
          let same = ((w.if-open_next.ensures {u = tt}).none refl).0 in
          quiet_of w.self-is
          (quiet_inside v c.args.self.now c.self.view_is w.open_next.new.self
          (channel_of m i w.open_next.new.self c.reserve.new.self same roomy)
          (still_past (ap (λ (k : ChannelView g.row.E.Denot). k.conn.log.past) same ∙ past)))
      | else-not-is_open-via-else-not-is_open w ↦
          quiet_of w.self-is (quiet_inside v c.args.self.now c.self.view_is c.reserve.new.self roomy (still_past past))
    ]

pub returns-then-open_next-clause-streams : goal.returns-then-open_next-clause-streams
returns-then-open_next-clause-streams g c = λ same.
    let more = ap (λ (k : ChannelView g.row.E.Denot). length k.conn.log.past) ((c.if-open_next.ensures {u = tt}).opened refl).is in
    let room = ap (λ (k : ChannelView g.row.E.Denot). length k.conn.log.past) (c.in_ok-reserve.ensures {u = tt}).ok in
    let shown = ap (λ (l : LineView g.row.E.Denot g.row.M.Denot). length (line_past l)) c.self.view_is in
    let as_long = ap (λ (l : List Entry). length l) same in
    absurd (omega (arith, more, room, shown, as_long))

pub invariant_of-self : goal.invariant_of-self
invariant_of-self g c =
    keeps_alike g.M.MapWriter.published c.self.inside.own_pulled (view_in c.self.inside) c.reserve.new.self (c.in_err-reserve.ensures {u = tt}).err
    c.self.invariant

pub returns-then-open_next-clause-arrived : goal.returns-then-open_next-clause-arrived
returns-then-open_next-clause-arrived g c =
    let ready = c.reserve.new.self in
    let new = c.open_next.new.self in
    roomy_arrived c.self.view_is ready new (c.in_ok-reserve.ensures {u = tt}).ok
    (appended_arrived ready new (opened_longer ready new ((c.if-open_next.ensures {u = tt}).opened refl)))

pub returns-then-open_next-clause-unwritten : goal.returns-then-open_next-clause-unwritten
returns-then-open_next-clause-unwritten g c =
    let ready = c.reserve.new.self in
    let new = c.open_next.new.self in
    roomy_unwritten c.self.view_is ready new (c.in_ok-reserve.ensures {u = tt}).ok
    (appended_unwritten ready new (opened_longer ready new ((c.if-open_next.ensures {u = tt}).opened refl)))

pub returns-else-not-is_open-clause-arrived : goal.returns-else-not-is_open-clause-arrived
returns-else-not-is_open-clause-arrived g c =
    let now = c.args.self.now in
    let ready = c.reserve.new.self in
    let room = (c.in_ok-reserve.ensures {u = tt}).ok in
    elim c.else-not-is_open.branch [
      | else-not-is_open-via-then-not-is_open+else-open_next w ↦
          let same = ((w.if-open_next.ensures {u = tt}).none refl).0 in
          subst (λ (l : LineView g.row.E.Denot g.row.M.Denot). KeepsArrived now.channel l.channel) (sym w.self-is)
          (roomy_arrived c.self.view_is ready w.open_next.new.self room
          (λ _. ap (λ (k : ChannelView g.row.E.Denot). arrived_bytes k) same))
      | else-not-is_open-via-else-not-is_open w ↦
          subst (λ (l : LineView g.row.E.Denot g.row.M.Denot). KeepsArrived now.channel l.channel) (sym w.self-is)
          (roomy_arrived c.self.view_is ready ready room (λ _. refl))
    ]

pub returns-else-not-is_open-clause-unwritten : goal.returns-else-not-is_open-clause-unwritten
returns-else-not-is_open-clause-unwritten g c =
    let now = c.args.self.now in
    let ready = c.reserve.new.self in
    let room = (c.in_ok-reserve.ensures {u = tt}).ok in
    elim c.else-not-is_open.branch [
      | else-not-is_open-via-then-not-is_open+else-open_next w ↦
          let same = ((w.if-open_next.ensures {u = tt}).none refl).0 in
          subst (λ (l : LineView g.row.E.Denot g.row.M.Denot). KeepsUnwritten now.channel l.channel) (sym w.self-is)
          (roomy_unwritten c.self.view_is ready w.open_next.new.self room
          (λ _. ap (λ (k : ChannelView g.row.E.Denot). k.out) same))
      | else-not-is_open-via-else-not-is_open w ↦
          subst (λ (l : LineView g.row.E.Denot g.row.M.Denot). KeepsUnwritten now.channel l.channel) (sym w.self-is)
          (roomy_unwritten c.self.view_is ready ready room (λ _. refl))
    ]

pub returns-then-open_next-clause-out : goal.returns-then-open_next-clause-out
returns-then-open_next-clause-out g c =
    ap (λ (k : ChannelView g.row.E.Denot). k.out) ((c.if-open_next.ensures {u = tt}).opened refl).is
    ∙ (ap (λ (k : ChannelView g.row.E.Denot). k.out) (c.in_ok-reserve.ensures {u = tt}).ok
    ∙ ap (λ (l : LineView g.row.E.Denot g.row.M.Denot). l.channel.out) c.self.view_is)

pub returns-else-not-is_open-clause-out : goal.returns-else-not-is_open-clause-out
returns-else-not-is_open-clause-out g c =
    let ready : c.reserve.new.self.out ≡ c.args.self.now.channel.out =
    ap (λ (k : ChannelView g.row.E.Denot). k.out) (c.in_ok-reserve.ensures {u = tt}).ok
    ∙ ap (λ (l : LineView g.row.E.Denot g.row.M.Denot). l.channel.out) c.self.view_is in
    elim c.else-not-is_open.branch [
      | else-not-is_open-via-then-not-is_open+else-open_next w ↦
          ap (λ (l : LineView g.row.E.Denot g.row.M.Denot). l.channel.out) w.self-is
          ∙ (ap (λ (k : ChannelView g.row.E.Denot). k.out) ((w.if-open_next.ensures {u = tt}).none refl).0 ∙ ready)
      | else-not-is_open-via-else-not-is_open w ↦ ap (λ (l : LineView g.row.E.Denot g.row.M.Denot). l.channel.out) w.self-is ∙ ready
    ]
