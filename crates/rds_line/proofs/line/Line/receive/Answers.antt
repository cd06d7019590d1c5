use Rattle.std.proofs.Common.{◌≡◌, ◌<◌, ◌≤◌, ℕ, Some, true, Ok, length, sym, ap, subst, ◌∙◌, refl, arith}
use Rattle.std.proofs.lemmas.Bool.{false≢true}
use Rattle.rds_link.specs.declared.end.Got.TheVariants as got
use Rattle.rds_model.specs.declared.entry.Entry.TheVariants.{Shut}
use Rattle.rds_conn.specs.Connection.{Connection, stream_of, with_room}
use Rattle.rds_line_channel.specs.Streams.{StreamsView, newest_place}
use Rattle.rds_line_channel.specs.Channel.{ChannelView}
use Rattle.rds_line.specs.Line.{LineView, line_past}
use Rattle.rds_line.specs.Turns.{GetsBytes}
use Rattle.rds_line.proofs.Acting.{more_past, still_past}
use Rattle.rds_line.proofs.Carrying.{appended_unwritten, more_before, out_through, read_more, read_out, read_unwritten, unwritten_through}
use Rattle.rds_line.proofs.Fields.{view_in}
use Rattle.rds_line.proofs.Longer.{longer}
use Rattle.rds_line.proofs.Quiet.{quiet_channel, quiet_inside, quiet_same, quiet_through}
use Rattle.rds_line.proofs.Staying.{channel_of, channel_same}
use Rattle.rds_line.proofs.Written.{the_one, heard_nothing, reads_line, over_stays, gets_bytes, gets_still, more_entries, keeps_over, streams_shown}
use Rattle.rds_line.proofs.Unlogged.{keeps_alike, keeps_with_room}
use Rattle.rds_line.proofs.line.Line.receive.Given as given
use Rattle.rds_line.proofs.line.Line.receive.Goals as goal

pub returns-then-not-is_open : goal.returns-then-not-is_open
returns-then-not-is_open g c = record {
  quiet = quiet_same c.args.self.now;
  closed = λ _. (
    sym (ap (λ (v : LineView g.row.E.Denot g.row.M.Denot). v.channel.streams.is_open) c.self.view_is) ∙ sym c.is_open.ensures
        ∙ c.if-not-is_open.true,
    refl,
  );
  nothing = λ e. absurd (cc);
  on = λ e. absurd (cc);
  bytes = λ e. absurd (cc);
  more = λ e. absurd (cc);
  unwritten = λ _. refl;
  out = λ on. (on, refl);
  ended = λ e. absurd (cc);
  spent = λ entries e. absurd (cc);
}

pub returns-in_err-pass_all-clause-quiet : goal.returns-in_err-pass_all-clause-quiet
returns-in_err-pass_all-clause-quiet g c = c.pass_all.ensures.quiet

pub returns-then-not-branch : goal.returns-then-not-branch
returns-then-not-branch g c = record {
  quiet = c.pass_all.ensures.quiet;
  closed = λ e. absurd (cc);
  nothing = λ e. absurd (cc);
  on = λ e. absurd (cc);
  bytes = λ e. absurd (cc);
  more = λ e. absurd (cc);
  unwritten = c.in_ok-pass_all.ensures.unwritten;
  out = c.in_ok-pass_all.ensures.out;
  ended = λ _. c.in_ok-pass_all.ensures.refused (ap Ok c.if-not-branch.true);
  spent = λ entries e. absurd (cc);
}

pub returns-in_err-reserve-clause-quiet : goal.returns-in_err-reserve-clause-quiet
returns-in_err-reserve-clause-quiet g c =
    let m = g.E.End.means in
    let i = c.self-2.inside.channel in
    let same = c.in_err-reserve.ensures.err in
    quiet_through c.pass_all.ensures.quiet
    (quiet_inside (view_in c.self-2.inside) c.pass_all.new.self c.self-2.view_is c.reserve.new.self
    (channel_of m i c.reserve.new.self i same (channel_same m i))
    (still_past (ap (λ (k : ChannelView g.row.E.Denot). k.conn.log.past) same)))

pub returns-in-Nothing : goal.returns-in-Nothing
returns-in-Nothing g c =
    let m = g.E.End.means in
    let start = c.args.self.now in
    let ready = c.reserve.new.self in
    let new = c.receive.new.self in
    let room = c.in_ok-reserve.ensures.ok in
    let did = c.in-Nothing.ensures in
    let passed = ap Ok c.if-not-branch.false in
    let same = c.in_ok-pass_all.ensures.streams passed in
    record {
      quiet =
          reads_line m g.M.MapWriter.pair start c.pass_all.new.self (view_in c.self-2.inside) ready new got.Nothing c.self-2.view_is
          c.pass_all.ensures.quiet room did.received did.rest;
      closed = λ e. absurd (cc);
      nothing = λ _.
          heard_nothing m start.channel ready new c.self-2.view_is room same (c.in_ok-pass_all.ensures.none_waits passed)
          (did.none (λ n e. absurd (cc))) did.received did.rest;
      on = λ _.
          ap (λ (v : ChannelView g.row.E.Denot). v.streams.is_open) did.rest
          ∙ ap (λ (s : StreamsView g.row.E.Denot). s.is_open) (streams_shown ready c.self-2.view_is room ∙ same)
          ∙ sym (ap (λ (v : LineView g.row.E.Denot g.row.M.Denot). v.channel.streams.is_open) c.self.view_is)
          ∙ sym c.is_open.ensures ∙ c.if-not-is_open.false;
      bytes = λ e. absurd (cc);
      more = λ e. absurd (cc);
      unwritten = read_unwritten c.self-2.view_is ready new room did.rest start.channel c.in_ok-pass_all.ensures.unwritten;
      out = read_out c.self-2.view_is ready new room did.rest start.channel c.in_ok-pass_all.ensures.out;
      ended = λ e. absurd (cc);
      spent = λ entries e. absurd (cc);
    }

module _ (g : given.Over) (c : goal.After-end_over g) where
  -- the number of the stream that is over
  one : (n : ℕ) × (stream_of c.receive.new.self.conn ≡ Some n)
  one =
      let on : c.receive.new.self.streams.is_open ≡ true =
      ap (λ (v : ChannelView g.row.E.Denot). v.streams.is_open) c.receive.ensures.rest
      ∙ ap (λ (v : ChannelView g.row.E.Denot). v.streams.is_open) c.in_ok-reserve.ensures.ok
      ∙ ap (λ (v : LineView g.row.E.Denot g.row.M.Denot). v.channel.streams.is_open) c.self-2.view_is
      ∙ ap (λ (s : StreamsView g.row.E.Denot). s.is_open) (c.in_ok-pass_all.ensures.streams (ap Ok c.if-not-branch.false))
      ∙ sym (ap (λ (v : LineView g.row.E.Denot g.row.M.Denot). v.channel.streams.is_open) c.self.view_is)
      ∙ sym c.is_open.ensures ∙ c.if-not-is_open.false in
      the_one (stream_of c.receive.new.self.conn) (c.known.ensures.open.0 on)

  conn : c.receive.new.self.conn ≡ with_room c.self-2.inside.channel.conn
  conn =
      ap (λ (v : ChannelView g.row.E.Denot). v.conn) c.receive.ensures.rest
      ∙ ap (λ (v : ChannelView g.row.E.Denot). v.conn) c.in_ok-reserve.ensures.ok

pub invariant_of-self-in-Over : goal.invariant_of-self-in-Over
invariant_of-self-in-Over g c =
    let cuts = c.end_over.ensures.cuts ∙ ap (λ (v : ChannelView g.row.E.Denot). v.cuts) c.receive.ensures.rest
    ∙ ap (λ (v : ChannelView g.row.E.Denot). v.cuts) c.in_ok-reserve.ensures.ok in
    keeps_over g.E.End.means (view_in c.self-2.inside) c.receive.new.self c.end_over.new.self (one g c).0
    (c.end_over.ensures.shut (one g c).0 (one g c).1) (conn g c) g.M.MapWriter.published c.self-2.inside.own_pulled cuts
    c.self-2.invariant.0

pub returns-in-Over : goal.returns-in-Over
returns-in-Over g c =
    let m = g.E.End.means in
    let pair = g.M.MapWriter.pair in
    let start = c.args.self.now in
    let v = view_in c.self-2.inside in
    let middle = c.receive.new.self in
    let new = c.end_over.new.self in
    let shuts = c.end_over.ensures.shut (one g c).0 (one g c).1 in
    let more : length (line_past c.pass_all.new.self) < length new.conn.log.past =
    subst (λ (v : LineView g.row.E.Denot g.row.M.Denot). length (line_past v) < length new.conn.log.past) c.self-2.view_is
    (more_entries m v middle new (one g c).0 shuts (conn g c)) in
    let long = longer (line_past start) (line_past c.pass_all.new.self) c.pass_all.ensures.quiet.stays.channel.past in
    record {
      quiet =
          quiet_through
          (reads_line m pair start c.pass_all.new.self v c.reserve.new.self middle c.receive.result c.self-2.view_is
          c.pass_all.ensures.quiet c.in_ok-reserve.ensures.ok c.receive.ensures.received c.receive.ensures.rest)
          (quiet_channel (record v { channel = middle }) new (over_stays m (one g c).0 middle new shuts c.end_over.ensures.cuts)
          (more_past (Shut (one g c).0) tt (ap (λ (k : Connection). k.log.past) shuts.conn)));
      closed = λ e. absurd (cc);
      nothing = λ e. absurd (cc);
      on = λ e. absurd (cc);
      bytes = λ e. absurd (cc);
      more = λ e. absurd (cc);
      unwritten = appended_unwritten start.channel new (omega (arith, more, long));
      out = λ on. absurd (false≢true (sym (ap (λ (s : StreamsView g.row.E.Denot). s.is_open) shuts.streams.is) ∙ on));
      ended = λ _. omega (arith, more, long);
      spent = λ entries e. absurd (cc);
    }

pub returns-in_err-pass_all-in-Bytes-clause-quiet : goal.returns-in_err-pass_all-in-Bytes-clause-quiet
returns-in_err-pass_all-in-Bytes-clause-quiet g c =
    quiet_through
    (reads_line g.E.End.means g.M.MapWriter.pair c.args.self.now c.pass_all.new.self (view_in c.self-2.inside) c.reserve.new.self
    c.receive.new.self c.receive.result c.self-2.view_is c.pass_all.ensures.quiet c.in_ok-reserve.ensures.ok
    c.receive.ensures.received c.receive.ensures.rest) c.pass_all-in-Bytes.ensures.quiet

pub returns-in_ok-pass_all-in-Bytes : goal.returns-in_ok-pass_all-in-Bytes
returns-in_ok-pass_all-in-Bytes g c =
    let m = g.E.End.means in
    let start = c.args.self.now in
    let ready = c.reserve.new.self in
    let new = c.receive.new.self in
    let later = c.pass_all-in-Bytes.new.self in
    let room = c.in_ok-reserve.ensures.ok in
    let n = c.in-Bytes.field-0 in
    let did = c.in-Bytes.ensures in
    let count = did.count n refl in
    let some : 1 ≤ length new.piece = omega (arith, count.0, count.1) in
    let place = newest_place ready.streams in
    let first = c.in_ok-pass_all.ensures in
    let so_far = reads_line m g.M.MapWriter.pair start c.pass_all.new.self (view_in c.self-2.inside) ready new (got.Bytes n)
    c.self-2.view_is c.pass_all.ensures.quiet room did.received did.rest in
    let rest = c.pass_all-in-Bytes.ensures.quiet in
    let further = rest.stays.channel.streams in
    record {
      quiet = quiet_through so_far rest;
      closed = λ e. absurd (cc);
      nothing = λ e. absurd (cc);
      on = λ e. absurd (cc);
      bytes = λ _.
          subst (λ (s : StreamsView g.row.E.Denot). GetsBytes m (newest_place s) s.list later.channel.streams.list)
          (streams_shown ready c.self-2.view_is room ∙ c.in_ok-pass_all.ensures.streams (ap Ok c.if-not-branch.false))
          (gets_still m place ready.streams.list new.streams.list later.channel.streams.list
          (gets_bytes m place (got.Bytes n) new.piece ready.streams.list new.streams.list some did.received) further.numbers
          further.further);
      more = λ _.
          more_before start.channel new later.channel so_far.stays.channel.past rest.stays.channel.past
          (read_more c.self-2.view_is ready new room did.rest start.channel first.arrived
          (first.none_left (ap Ok c.if-not-branch.false)) some) c.in_ok-pass_all-in-Bytes.ensures.arrived;
      unwritten =
          unwritten_through start.channel new later.channel so_far.stays.channel.past rest.stays.channel.past
          (read_unwritten c.self-2.view_is ready new room did.rest start.channel first.unwritten)
          c.in_ok-pass_all-in-Bytes.ensures.unwritten;
      out =
          out_through start.channel new later.channel
          (read_out c.self-2.view_is ready new room did.rest start.channel first.out) c.in_ok-pass_all-in-Bytes.ensures.out;
      ended = λ e. absurd (cc);
      spent = λ entries e. absurd (cc);
    }

pub invariant_of-self : goal.invariant_of-self
invariant_of-self g c =
    keeps_alike g.M.MapWriter.published c.self-2.inside.own_pulled (view_in c.self-2.inside) c.reserve.new.self c.in_err-reserve.ensures.err
    c.self-2.invariant

pub invariant_of-self-in-Nothing : goal.invariant_of-self-in-Nothing
invariant_of-self-in-Nothing g c =
    keeps_with_room g.M.MapWriter.published c.self-2.inside.own_pulled (view_in c.self-2.inside) c.receive.new.self
    (ap (λ (v : ChannelView g.row.E.Denot). v.conn) c.receive.ensures.rest
    ∙ ap (λ (v : ChannelView g.row.E.Denot). v.conn) c.in_ok-reserve.ensures.ok)
    (ap (λ (v : ChannelView g.row.E.Denot). v.cuts) c.receive.ensures.rest
    ∙ ap (λ (v : ChannelView g.row.E.Denot). v.cuts) c.in_ok-reserve.ensures.ok) c.self-2.invariant

pub invariant_of-self-in-Bytes : goal.invariant_of-self-in-Bytes
invariant_of-self-in-Bytes g c =
    keeps_with_room g.M.MapWriter.published c.self-2.inside.own_pulled (view_in c.self-2.inside) c.receive.new.self
    (ap (λ (v : ChannelView g.row.E.Denot). v.conn) c.receive.ensures.rest
    ∙ ap (λ (v : ChannelView g.row.E.Denot). v.conn) c.in_ok-reserve.ensures.ok)
    (ap (λ (v : ChannelView g.row.E.Denot). v.cuts) c.receive.ensures.rest
    ∙ ap (λ (v : ChannelView g.row.E.Denot). v.cuts) c.in_ok-reserve.ensures.ok) c.self-2.invariant
