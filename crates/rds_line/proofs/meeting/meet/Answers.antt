use Rattle.std.proofs.Common.{ap, subst, ◌∙◌}
use Rattle.rds_line_channel.specs.Meeting.{AreMet}
use Rattle.rds_line_channel.specs.Streams.{numbers, with_list}
use Rattle.rds_line_channel.specs.Channel.{ChannelView}
use Rattle.rds_line.specs.Line.{LineView}
use Rattle.rds_line.proofs.Fields.{view_in}
use Rattle.rds_line.proofs.Unlogged.{keeps_conn}
use Rattle.rds_line.proofs.meeting.meet.Goals as goal

pub returns-clause-no_bad : goal.returns-clause-no_bad
returns-clause-no_bad g c = λ tells.
    c.no_bad_of_all.ensures c.meet.new.a.conn.log.past c.meet.new.b.conn.log.past c.known.ensures.whole.legal c.known-2.ensures.whole.legal (c.meet.ensures.honest tells)

pub returns-clause-forth : goal.returns-clause-forth
returns-clause-forth g c = λ tells.
    c.headline_of_all.ensures c.meet.new.a.conn.log.past c.meet.new.b.conn.log.past c.known.ensures.whole.legal c.known-2.ensures.whole.legal (c.meet.ensures.honest tells)

pub returns-clause-back : goal.returns-clause-back
returns-clause-back g c = λ tells.
    let honest = c.meet.ensures.honest tells in
    c.headline_of_all.ensures c.meet.new.b.conn.log.past c.meet.new.a.conn.log.past c.known-2.ensures.whole.legal c.known.ensures.whole.legal (record { forth = honest.back; back = honest.forth })

pub invariant_of-a : goal.invariant_of-a
invariant_of-a g c =
    keeps_conn g.M.MapWriter.published c.a.inside.own_pulled (view_in c.a.inside) c.meet.new.a
    (ap (λ (v : ChannelView g.row.W-End.Denot). v.conn) c.meet.ensures.one)
    (ap (λ (v : ChannelView g.row.W-End.Denot). v.cuts) c.meet.ensures.one) c.a.invariant

pub returns-clause-one : goal.returns-clause-one
returns-clause-one g c =
    let new = c.meet.new.a in
    ap (λ (k : ChannelView g.row.W-End.Denot). record (view_in c.a.inside) { channel = k }) c.meet.ensures.one
    ∙ ap (λ (l : LineView g.row.W-End.Denot g.row.M.Denot). record l {
      channel = record l.channel { streams = with_list l.channel.streams new.streams.list };
    }) c.a.view_is

pub returns-clause-one_numbers : goal.returns-clause-one_numbers
returns-clause-one_numbers g c =
    c.meet.ensures.one_numbers
    ∙ ap (λ (l : LineView g.row.W-End.Denot g.row.M.Denot). numbers l.channel.streams.list) c.a.view_is

pub invariant_of-b : goal.invariant_of-b
invariant_of-b g c =
    keeps_conn g.M.MapWriter.published c.b.inside.own_pulled (view_in c.b.inside) c.meet.new.b
    (ap (λ (v : ChannelView g.row.W-End.Denot). v.conn) c.meet.ensures.other)
    (ap (λ (v : ChannelView g.row.W-End.Denot). v.cuts) c.meet.ensures.other) c.b.invariant

pub returns-clause-other : goal.returns-clause-other
returns-clause-other g c =
    let new = c.meet.new.b in
    ap (λ (k : ChannelView g.row.W-End.Denot). record (view_in c.b.inside) { channel = k }) c.meet.ensures.other
    ∙ ap (λ (l : LineView g.row.W-End.Denot g.row.M.Denot). record l {
      channel = record l.channel { streams = with_list l.channel.streams new.streams.list };
    }) c.b.view_is

pub returns-clause-other_numbers : goal.returns-clause-other_numbers
returns-clause-other_numbers g c =
    c.meet.ensures.other_numbers
    ∙ ap (λ (l : LineView g.row.W-End.Denot g.row.M.Denot). numbers l.channel.streams.list) c.b.view_is

pub returns-clause-met : goal.returns-clause-met
returns-clause-met g c =
    let m = g.W.End.End.means in
    let a = c.meet.new.a.streams.list in
    let b = c.meet.new.b.streams.list in
    let was = c.b.inside.channel.streams.list in
    let first =
    subst (λ (l : LineView g.row.W-End.Denot g.row.M.Denot). AreMet m l.channel.streams.list a was b) c.a.view_is c.meet.ensures.met in
    subst (λ (l : LineView g.row.W-End.Denot g.row.M.Denot). AreMet m c.args.a.now.channel.streams.list a l.channel.streams.list b)
    c.b.view_is first
