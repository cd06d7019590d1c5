use Rattle.std.proofs.Common.{sym, ◌∙◌}
use Rattle.rds_line.specs.Line.{line_past}
use Rattle.rds_run_rounds.proofs.Going.{has_met}
use Rattle.rds_run_rounds.proofs.Knowing.{know_each_other}
use Rattle.rds_run_rounds.proofs.meeting.meet_lines.Goals as goal

pub returns-clause-one : goal.returns-clause-one
returns-clause-one g c = has_met c.args.one.now c.meet.new.a c.meet.ensures.one_numbers c.meet.ensures.one

pub returns-clause-other : goal.returns-clause-other
returns-clause-other g c = has_met c.args.other.now c.meet.new.b c.meet.ensures.other_numbers c.meet.ensures.other

pub returns-clause-sound : goal.returns-clause-sound
returns-clause-sound g c =
    let one = c.known.ensures.whole in
    let other = c.known-2.ensures.whole in
    record {
      low_legal = one;
      high_legal = other;
      honest = c.meet.ensures.honest;
      fifo_forth = λ honest. (c.fifo_of_all.ensures (line_past c.meet.new.a) (line_past c.meet.new.b) one.legal other.legal honest).0;
      fifo_back = λ honest. (c.fifo_of_all.ensures (line_past c.meet.new.a) (line_past c.meet.new.b) one.legal other.legal honest).1;
      forth = λ honest. c.headline_of_all.ensures (line_past c.meet.new.a) (line_past c.meet.new.b) one.legal other.legal honest;
      back = λ honest.
          c.headline_of_all.ensures (line_past c.meet.new.b) (line_past c.meet.new.a) other.legal one.legal (record { forth = honest.back; back = honest.forth });
    }

pub returns-clause-met : goal.returns-clause-met
returns-clause-met g c =
    let connected = c.requires.3 in
    record {
      same = c.meet.ensures.other_numbers ∙ (connected.streams.same ∙ sym c.meet.ensures.one_numbers);
      ends =
          know_each_other g.W.End.End.means c.args.one.now.channel.streams.list c.meet.new.a.channel.streams.list c.args.other.now.channel.streams.list
          c.meet.new.b.channel.streams.list c.meet.ensures.one_numbers c.meet.ensures.other_numbers c.meet.ensures.met;
      honest = c.meet.ensures.honest;
    }
