use Rattle.rds_line_channel.specs.MeetingLaws.{met_first, met_second, met_there, met_back, met_stay}
use Rattle.rds_line_channel.proofs.Partly.{none_met, one_more_met, all_met}
use Rattle.rds_line_channel.proofs.stream_meeting.meet_each.Goals as goal

pub loop-place-init : goal.loop-place-init
loop-place-init g c = none_met g.W.End.End.means c.args.a.now c.args.b.now c.requires.pairs

pub loop-place-preserved : goal.loop-place-preserved
loop-place-preserved g c =
    one_more_met g.W.End.End.means c.loop-place.place c.args.a.now c.loop-place.a c.meet_at.new.a c.args.b.now c.loop-place.b c.meet_at.new.b c.loop-place.invariant c.meet_at.ensures

pub returns-clause-met : goal.returns-clause-met
returns-clause-met g c =
    let all = c.loop-place-test.false in
    all_met g.W.End.End.means c.loop-place.place c.args.a.now c.loop-place.a c.args.b.now c.loop-place.b c.loop-place.invariant all

pub returns-clause-forth : goal.returns-clause-forth
returns-clause-forth g c =
    let m = g.W.End.End.means in
    met_back m c.args.a.now c.loop-place.a c.args.b.now c.loop-place.b (returns-clause-met g c) c.requires.count c.loop-place.auto.a c.loop-place.auto.b

pub returns-clause-back : goal.returns-clause-back
returns-clause-back g c =
    let m = g.W.End.End.means in
    met_there m c.args.a.now c.loop-place.a c.args.b.now c.loop-place.b (returns-clause-met g c) c.requires.count c.loop-place.auto.a c.loop-place.auto.b

pub returns-clause-one_stays : goal.returns-clause-one_stays
returns-clause-one_stays g c =
    let m = g.W.End.End.means in
    met_stay m c.args.a.now c.loop-place.a c.loop-place.auto.a (met_first m c.args.a.now c.loop-place.a c.args.b.now c.loop-place.b (returns-clause-met g c) c.requires.count c.loop-place.auto.b)

pub returns-clause-other_stays : goal.returns-clause-other_stays
returns-clause-other_stays g c =
    let m = g.W.End.End.means in
    met_stay m c.args.b.now c.loop-place.b c.loop-place.auto.b (met_second m c.args.a.now c.loop-place.a c.args.b.now c.loop-place.b (returns-clause-met g c) c.requires.count c.loop-place.auto.a)
