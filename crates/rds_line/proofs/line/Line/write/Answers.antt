use Rattle.std.proofs.Common.{◌≡◌, ◌<◌, ℕ, Some, true, [], take, drop, length, ap, subst, ◌∙◌, refl}
use Rattle.rds_link.specs.declared.end.Put.TheVariants as put
use Rattle.rds_model.specs.declared.entry.Entry.TheVariants.{Shut}
use Rattle.rds_conn.specs.Connection.{Connection, stream_of, with_room}
use Rattle.rds_line_channel.specs.Streams.{StreamsView, newest_place}
use Rattle.rds_line_channel.specs.Channel.{ChannelView}
use Rattle.rds_line.specs.Line.{LineView, line_past}
use Rattle.rds_line.specs.Turns.{SendsBytes}
use Rattle.rds_line.proofs.Acting.{more_past, past_through, still_past}
use Rattle.rds_line.proofs.Carrying.{appended_arrived, same_arrived, written_arrived, written_less}
use Rattle.rds_line.proofs.Fields.{view_in}
use Rattle.rds_line.proofs.Quiet.{quiet_inside}
use Rattle.rds_line.proofs.Staying.{channel_of, channel_same, channel_through}
use Rattle.rds_line.proofs.Written.{the_one, over_stays, sends_bytes, more_entries, keeps_over, leaves_written, found_full, streams_shown, written_past, wrote_on}
use Rattle.rds_line.proofs.Unlogged.{keeps_alike, keeps_with_room}
use Rattle.rds_line.proofs.line.Line.write.Given as given
use Rattle.rds_line.proofs.line.Line.write.Goals as goal

pub returns-in_err-reserve-clause-quiet : goal.returns-in_err-reserve-clause-quiet
returns-in_err-reserve-clause-quiet g c =
    let m = g.E.End.means in
    let i = c.self.inside.channel in
    let same = c.in_err-reserve.ensures.err in
    quiet_inside (view_in c.self.inside) c.args.self.now c.self.view_is c.reserve.new.self
    (channel_of m i c.reserve.new.self i same (channel_same m i))
    (still_past (ap (λ (k : ChannelView g.row.E.Denot). k.conn.log.past) same))

pub returns-in-Took : goal.returns-in-Took
returns-in-Took g c =
    let m = g.E.End.means in
    let i = c.self.inside.channel in
    let ready = c.reserve.new.self in
    let new = c.write.new.self in
    let room = c.in_ok-reserve.ensures.ok in
    let n = c.in-Took.field-0 in
    let did = c.in-Took.ensures in
    let count = did.count n refl in
    record {
      quiet =
          quiet_inside (view_in c.self.inside) c.args.self.now c.self.view_is new
          (wrote_on m i ready new (put.Took n) (take n ready.out) (drop n ready.out) room did.sent did.rest)
          (still_past (written_past i ready new (drop n ready.out) room did.rest));
      came = leaves_written ready new (drop n ready.out) c.self.view_is room did.rest;
      arrived = written_arrived c.self.view_is ready new room (drop n ready.out) did.rest;
      written = (λ e. absurd (cc), λ e. absurd (cc));
      full = λ e. absurd (cc);
      bytes = λ _.
          subst (λ (s : StreamsView g.row.E.Denot). SendsBytes m (newest_place s) s.list new.streams.list)
          (streams_shown ready c.self.view_is room)
          (sends_bytes m (newest_place ready.streams) n ready.out ready.streams.list new.streams.list count.0 count.1 did.sent);
      less = λ _. written_less c.self.view_is ready new room (drop n ready.out) did.rest n refl count.0 count.1;
      ended = λ e. absurd (cc);
      spent = λ entries e. absurd (cc);
    }

pub returns-in-Full : goal.returns-in-Full
returns-in-Full g c =
    let m = g.E.End.means in
    let i = c.self.inside.channel in
    let ready = c.reserve.new.self in
    let new = c.write.new.self in
    let room = c.in_ok-reserve.ensures.ok in
    let did = c.in-Full.ensures in
    record {
      quiet =
          quiet_inside (view_in c.self.inside) c.args.self.now c.self.view_is new
          (wrote_on m i ready new put.Full [] ready.out room did.sent did.rest)
          (still_past (written_past i ready new ready.out room did.rest));
      came = leaves_written ready new ready.out c.self.view_is room did.rest;
      arrived = written_arrived c.self.view_is ready new room ready.out did.rest;
      written = (λ e. absurd (cc), λ e. absurd (cc));
      full = λ _. found_full m ready new c.self.view_is room did.sent did.rest c.requires.open c.requires.some;
      bytes = λ e. absurd (cc);
      less = λ e. absurd (cc);
      ended = λ e. absurd (cc);
      spent = λ entries e. absurd (cc);
    }

module _ (g : given.Over) (c : goal.After-end_over g) where
  -- the number of the stream that is over
  one : (n : ℕ) × (stream_of c.write.new.self.conn ≡ Some n)
  one =
      let on : c.write.new.self.streams.is_open ≡ true =
      ap (λ (v : ChannelView g.row.E.Denot). v.streams.is_open) c.write.ensures.rest
      ∙ ap (λ (v : ChannelView g.row.E.Denot). v.streams.is_open) c.in_ok-reserve.ensures.ok
      ∙ ap (λ (v : LineView g.row.E.Denot g.row.M.Denot). v.channel.streams.is_open) c.self.view_is ∙ c.requires.open in
      the_one (stream_of c.write.new.self.conn) (c.known.ensures.open.0 on)

  conn : c.write.new.self.conn ≡ with_room c.self.inside.channel.conn
  conn =
      ap (λ (v : ChannelView g.row.E.Denot). v.conn) c.write.ensures.rest
      ∙ ap (λ (v : ChannelView g.row.E.Denot). v.conn) c.in_ok-reserve.ensures.ok

pub invariant_of-self-in-Over : goal.invariant_of-self-in-Over
invariant_of-self-in-Over g c =
    let cuts = c.end_over.ensures.cuts ∙ ap (λ (v : ChannelView g.row.E.Denot). v.cuts) c.write.ensures.rest
    ∙ ap (λ (v : ChannelView g.row.E.Denot). v.cuts) c.in_ok-reserve.ensures.ok in
    keeps_over g.E.End.means (view_in c.self.inside) c.write.new.self c.end_over.new.self (one g c).0
    (c.end_over.ensures.shut (one g c).0 (one g c).1) (conn g c)
    g.M.MapWriter.published c.self.inside.own_pulled cuts c.self.invariant.0

pub returns-in-Over : goal.returns-in-Over
returns-in-Over g c =
    let m = g.E.End.means in
    let i = c.self.inside.channel in
    let ready = c.reserve.new.self in
    let middle = c.write.new.self in
    let new = c.end_over.new.self in
    let room = c.in_ok-reserve.ensures.ok in
    let did = c.in-Over.ensures in
    let shuts = c.end_over.ensures.shut (one g c).0 (one g c).1 in
    let more : length (line_past c.args.self.now) < length new.conn.log.past =
    subst (λ (v : LineView g.row.E.Denot g.row.M.Denot). length (line_past v) < length new.conn.log.past) c.self.view_is
    (more_entries m (view_in c.self.inside) middle new (one g c).0 shuts (conn g c)) in
    record {
      quiet =
          quiet_inside (view_in c.self.inside) c.args.self.now c.self.view_is new
          (channel_through m i middle new (wrote_on m i ready middle put.Over [] ready.out room did.sent did.rest)
          (over_stays m (one g c).0 middle new shuts c.end_over.ensures.cuts))
          (past_through (still_past (written_past i ready middle ready.out room did.rest))
          (more_past (Shut (one g c).0) tt (ap (λ (k : Connection). k.log.past) shuts.conn)));
      came = λ none left. (ap (λ (v : Connection). v.waiting) shuts.conn, shuts.piece);
      arrived = appended_arrived c.args.self.now.channel new more;
      written = (λ e. absurd (cc), λ e. absurd (cc));
      full = λ e. absurd (cc);
      bytes = λ e. absurd (cc);
      less = λ e. absurd (cc);
      ended = λ _. more;
      spent = λ entries e. absurd (cc);
    }

pub invariant_of-self : goal.invariant_of-self
invariant_of-self g c =
    keeps_alike g.M.MapWriter.published c.self.inside.own_pulled (view_in c.self.inside) c.reserve.new.self c.in_err-reserve.ensures.err
    c.self.invariant

pub invariant_of-self-in-Took : goal.invariant_of-self-in-Took
invariant_of-self-in-Took g c =
    keeps_with_room g.M.MapWriter.published c.self.inside.own_pulled (view_in c.self.inside) c.write.new.self
    (ap (λ (v : ChannelView g.row.E.Denot). v.conn) c.write.ensures.rest
    ∙ ap (λ (v : ChannelView g.row.E.Denot). v.conn) c.in_ok-reserve.ensures.ok)
    (ap (λ (v : ChannelView g.row.E.Denot). v.cuts) c.write.ensures.rest
    ∙ ap (λ (v : ChannelView g.row.E.Denot). v.cuts) c.in_ok-reserve.ensures.ok) c.self.invariant

pub invariant_of-self-in-Full : goal.invariant_of-self-in-Full
invariant_of-self-in-Full g c =
    keeps_with_room g.M.MapWriter.published c.self.inside.own_pulled (view_in c.self.inside) c.write.new.self
    (ap (λ (v : ChannelView g.row.E.Denot). v.conn) c.write.ensures.rest
    ∙ ap (λ (v : ChannelView g.row.E.Denot). v.conn) c.in_ok-reserve.ensures.ok)
    (ap (λ (v : ChannelView g.row.E.Denot). v.cuts) c.write.ensures.rest
    ∙ ap (λ (v : ChannelView g.row.E.Denot). v.cuts) c.in_ok-reserve.ensures.ok) c.self.invariant

pub returns-in_err-reserve-clause-arrived : goal.returns-in_err-reserve-clause-arrived
returns-in_err-reserve-clause-arrived g c =
    same_arrived c.self.view_is c.reserve.new.self c.in_err-reserve.ensures.err
