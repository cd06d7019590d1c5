use Rattle.std.proofs.Common.{◌≡◌, refl, ap, ◌∙◌}
use Rattle.rds_model.specs.declared.order.Order.{Order}
use Rattle.rds_mail.specs.Passes.{Getter, after_get}
use Rattle.rds_line_channel.specs.Channel.{ChannelView}
use Rattle.rds_line.specs.Line.{LineView, line_past, pulls_in}
use Rattle.rds_line.proofs.Acting.{still_acts}
use Rattle.rds_line.proofs.Fields.{view_in}
use Rattle.rds_line.proofs.Keeping.{keeps_told}
use Rattle.rds_line.proofs.Ordering.{found_none}
use Rattle.rds_line.proofs.Taking.{stays_none, stays_taken}
use Rattle.rds_line.proofs.Obeying.{Obeys, asked_allowed, cut_room, keeps_roomy, pulled_roomy, roomy_past, roomy_stays, roomy_streams, room_arrived, room_out, room_unwritten, keeps_obeyed, obeyed_arrived, obeyed_out, obeyed_past, obeyed_stays, obeyed_unwritten}
use Rattle.rds_line.proofs.Staying.{channel_of, channel_same, line_inside, line_shown, line_stays, line_through}
use Rattle.rds_line.proofs.Unlogged.{keeps_alike}
use Rattle.rds_line.proofs.line.Line.take_order.Given as given
use Rattle.rds_line.proofs.line.Line.take_order.Goals as goal

pub returns-in_err-reserve-clause-stays : goal.returns-in_err-reserve-clause-stays
returns-in_err-reserve-clause-stays g c =
    let m = g.E.End.means in
    let i = c.self.inside.channel in
    line_inside m g.M.MapWriter.pair (view_in c.self.inside) c.args.self.now c.self.view_is c.reserve.new.self
    (channel_of m i c.reserve.new.self i (c.in_err-reserve.ensures {u = tt}).err (channel_same m i))
    (ap (λ (k : ChannelView g.row.E.Denot). k.conn.log.past) (c.in_err-reserve.ensures {u = tt}).err)

pub returns-in_err-reserve-clause-own : goal.returns-in_err-reserve-clause-own
returns-in_err-reserve-clause-own g c = ap (λ (l : LineView g.row.E.Denot g.row.M.Denot). l.own) c.self.view_is

pub returns-in_err-reserve-clause-pulls : goal.returns-in_err-reserve-clause-pulls
returns-in_err-reserve-clause-pulls g c =
    ap (λ (k : ChannelView g.row.E.Denot). pulls_in k.conn.log.past) (c.in_err-reserve.ensures {u = tt}).err
    ∙ ap (λ (l : LineView g.row.E.Denot g.row.M.Denot). pulls_in (line_past l)) c.self.view_is

pub returns-then-is_err : goal.returns-then-is_err
returns-then-is_err g c =
    let m = g.E.End.means in
    let v = view_in c.self.inside in
    let new = c.reserve_cut.new.self in
    let first = (c.in_ok-reserve.ensures {u = tt}).ok in
    let second = cut_room c.reserve.new.self new c.reserve_cut.result c.reserve_cut.ensures.ok c.reserve_cut.ensures.err in
    let past = roomy_past v c.reserve.new.self new first second in
    record {
      stays =
          line_inside m g.M.MapWriter.pair v c.args.self.now c.self.view_is new
          (roomy_stays v c.reserve.new.self new first second m) past;
      own = ap (λ (l : LineView g.row.E.Denot g.row.M.Denot). l.own) c.self.view_is;
      pulls = ap pulls_in past ∙ ap (λ (l : LineView g.row.E.Denot g.row.M.Denot). pulls_in (line_past l)) c.self.view_is;
      took = λ e. absurd (cc);
      none = λ e. absurd (cc);
      still = λ e. absurd (cc);
      arrived = tt;
      unwritten = tt;
      out = tt;
      err = (
        ap (λ (l : LineView g.row.E.Denot g.row.M.Denot). l.orders) c.self.view_is,
        past ∙ ap (λ (l : LineView g.row.E.Denot g.row.M.Denot). line_past l) c.self.view_is,
      );
      spent = λ entries e. absurd (cc);
    }

pub returns-in_default : goal.returns-in_default
returns-in_default g c =
    let m = g.E.End.means in
    let pair = g.M.MapWriter.pair in
    let v = view_in c.self.inside in
    let room = c.reserve_cut.new.self in
    let first = (c.in_ok-reserve.ensures {u = tt}).ok in
    let second = cut_room c.reserve.new.self room c.reserve_cut.result c.reserve_cut.ensures.ok c.reserve_cut.ensures.err in
    let past = roomy_past v c.reserve.new.self room first second in
    let none = c.in_default.ensures {u = tt} in
    let new : LineView g.row.E.Denot g.row.M.Denot = record v { channel = room; orders = c.take_order.new.self } in
    record {
      stays =
          line_shown m pair v c.args.self.now new c.self.view_is
          (stays_none m pair v room c.take_order.new.self (roomy_stays v c.reserve.new.self room first second m) (still_acts _ _ past) none.counted);
      own = ap (λ (l : LineView g.row.E.Denot g.row.M.Denot). l.own) c.self.view_is;
      pulls = ap pulls_in past ∙ ap (λ (l : LineView g.row.E.Denot g.row.M.Denot). pulls_in (line_past l)) c.self.view_is;
      took = λ e. absurd (cc);
      none = λ e. found_none (ap (λ (l : LineView g.row.E.Denot g.row.M.Denot). l.orders) c.self.view_is) none.counted none.empty;
      still = λ e. (
        past ∙ ap (λ (l : LineView g.row.E.Denot g.row.M.Denot). line_past l) c.self.view_is,
        roomy_streams v c.reserve.new.self room first second ∙ ap (λ (l : LineView g.row.E.Denot g.row.M.Denot). l.channel.streams) c.self.view_is,
      );
      arrived = room_arrived v c.reserve.new.self room first second c.self.view_is room (λ _. refl);
      unwritten = room_unwritten v c.reserve.new.self room first second c.self.view_is room (λ _. refl);
      out = room_out v c.reserve.new.self room first second c.self.view_is room (λ on. (on, refl));
      err = tt;
      spent = λ entries e. absurd (cc);
    }

module _ (g : given.Over) (c : goal.After-obey g) where
  -- the line once room was made, which took the order then
  abbrev roomy : LineView g.row.E.Denot g.row.M.Denot
  roomy = record (view_in c.self.inside) { channel = c.reserve_cut.new.self }

  second : c.reserve_cut.new.self ≡ record c.reserve.new.self { cuts = record c.reserve.new.self.cuts { has_room = c.reserve_cut.new.self.cuts.has_room } }
  second = cut_room c.reserve.new.self c.reserve_cut.new.self c.reserve_cut.result c.reserve_cut.ensures.ok c.reserve_cut.ensures.err

  obeys : Obeys g.E.End.means roomy c.obey.new.channel c.take_order.new.self (c.in-Some.ensures {u = tt}).got.0 c.in-Some.order (c.in-Some.ensures {u = tt}).got.1
  obeys = record {
    shut = c.obey.ensures.shut;
    late = c.obey.ensures.late;
    entry = c.obey.ensures.entry;
    freed = c.obey.ensures.freed;
    tie = c.known.ensures.open;
  }

pub obey-requires-clause-allowed : goal.obey-requires-clause-allowed
obey-requires-clause-allowed g c = λ other.
    let first = (c.in_ok-reserve.ensures {u = tt}).ok in
    let made = cut_room c.reserve.new.self c.reserve_cut.new.self c.reserve_cut.result c.reserve_cut.ensures.ok c.reserve_cut.ensures.err in
    let slots = ap (λ (k : ChannelView g.row.E.Denot). k.conn.slots) made ∙ ap (λ (k : ChannelView g.row.E.Denot). k.conn.slots) first ∙ c.self.invariant.0.slots in
    asked_allowed c.in-Some.order slots (c.in-Some.ensures {u = tt}).asked other

pub invariant_of-self-2 : goal.invariant_of-self-2
invariant_of-self-2 g c =
    let v = view_in c.self.inside in
    let first = (c.in_ok-reserve.ensures {u = tt}).ok in
    let got = (c.in-Some.ensures {u = tt}).got in
    keeps_obeyed g.E.End.means (roomy g c) c.obey.new.channel c.take_order.new.self got.0 c.in-Some.order got.1 (obeys g c)
    g.M.MapWriter.published c.self.inside.own_pulled (c.in-Some.ensures {u = tt}).asked (
      keeps_roomy v c.reserve.new.self c.reserve_cut.new.self first (second g c) g.M.MapWriter.published c.self.invariant.0,
      pulled_roomy v c.reserve.new.self c.reserve_cut.new.self first (second g c) c.self.inside.own_pulled c.self.invariant.1,
    )

pub returns : goal.returns
returns g c =
    let m = g.E.End.means in
    let pair = g.M.MapWriter.pair in
    let v = view_in c.self.inside in
    let first = (c.in_ok-reserve.ensures {u = tt}).ok in
    let mid = roomy g c in
    let channel = c.obey.new.channel in
    let getter = c.take_order.new.self in
    let got = (c.in-Some.ensures {u = tt}).got in
    let o = c.in-Some.order in
    let past = roomy_past v c.reserve.new.self mid.channel first (second g c) in
    let obeyed = obeyed_past m mid channel getter got.0 o got.1 (obeys g c) in
    let new : LineView g.row.E.Denot g.row.M.Denot = record v { channel = channel; orders = getter } in
    record {
      stays =
          line_shown m pair v c.args.self.now new c.self.view_is
          (line_through m pair v mid new
          (line_stays m pair v mid.channel (roomy_stays v c.reserve.new.self mid.channel first (second g c) m) (still_acts _ _ past))
          (stays_taken m pair mid channel getter (obeyed_stays m mid channel getter got.0 o got.1 (obeys g c)) obeyed.acts got.0 o got.1));
      own = ap (λ (l : LineView g.row.E.Denot g.row.M.Denot). l.own) c.self.view_is;
      pulls =
          obeyed.pulls ∙ ap pulls_in past
          ∙ ap (λ (l : LineView g.row.E.Denot g.row.M.Denot). pulls_in (line_past l)) c.self.view_is;
      took = λ _. (got.0, o, got.1 ∙ ap (λ (w : LineView g.row.E.Denot g.row.M.Denot). after_get w.orders got.0 o) c.self.view_is);
      none = λ e. absurd (cc);
      still = λ e. absurd (cc);
      arrived =
          room_arrived v c.reserve.new.self mid.channel first (second g c) c.self.view_is channel
          (obeyed_arrived m mid channel getter got.0 o got.1 (obeys g c));
      unwritten =
          room_unwritten v c.reserve.new.self mid.channel first (second g c) c.self.view_is channel
          (obeyed_unwritten m mid channel getter got.0 o got.1 (obeys g c));
      out =
          room_out v c.reserve.new.self mid.channel first (second g c) c.self.view_is channel
          (obeyed_out m mid channel getter got.0 o got.1 (obeys g c));
      err = tt;
      spent = λ entries e. absurd (cc);
    }

pub invariant_of-self : goal.invariant_of-self
invariant_of-self g c =
    keeps_alike g.M.MapWriter.published c.self.inside.own_pulled (view_in c.self.inside) c.reserve.new.self (c.in_err-reserve.ensures {u = tt}).err
    c.self.invariant

pub invariant_of-self-then-is_err : goal.invariant_of-self-then-is_err
invariant_of-self-then-is_err g c =
    let v = view_in c.self.inside in
    let new = c.reserve_cut.new.self in
    let first = (c.in_ok-reserve.ensures {u = tt}).ok in
    let made = cut_room c.reserve.new.self new c.reserve_cut.result c.reserve_cut.ensures.ok c.reserve_cut.ensures.err in (
      keeps_roomy v c.reserve.new.self new first made g.M.MapWriter.published c.self.invariant.0,
      pulled_roomy v c.reserve.new.self new first made c.self.inside.own_pulled c.self.invariant.1,
    )

pub invariant_of-self-in_default : goal.invariant_of-self-in_default
invariant_of-self-in_default g c =
    let v = view_in c.self.inside in
    let new = c.reserve_cut.new.self in
    let first = (c.in_ok-reserve.ensures {u = tt}).ok in
    let made = cut_room c.reserve.new.self new c.reserve_cut.result c.reserve_cut.ensures.ok c.reserve_cut.ensures.err in
    let none = c.in_default.ensures {u = tt} in
    let pulled = c.self.inside.own_pulled in
    let roomy : LineView g.row.E.Denot g.row.M.Denot = record v { channel = new } in (
      keeps_told g.M.MapWriter.published roomy c.take_order.new.self (ap (λ (h : Getter Order). h.got) none.counted)
          (keeps_roomy v c.reserve.new.self new first made g.M.MapWriter.published c.self.invariant.0),
      pulled_roomy v c.reserve.new.self new first made pulled c.self.invariant.1,
    )
