use Rattle.std.proofs.Common.{get_or, refl}
use Rattle.std.proofs.lemmas.Option.{slice_get-get_or}
use Rattle.rds_line_channel.specs.ChangeLaws.{changed_end, changed_numbers, changed_paired}
use Rattle.rds_line_channel.proofs.Over.{over_said}
use Rattle.rds_line_channel.proofs.places.write_at.Goals as goal

pub returns-clause-sent : goal.returns-clause-sent
returns-clause-sent g c =
    let stream = get_or c.args.streams.now c.args.place c.index-streams-place.result in
    record {
      number = stream.0;
      end_before = stream.1;
      end_after = c.write.new.self;
      stood = slice_get-get_or c.args.streams.now c.args.place c.index-streams-place.result c.requires.place;
      stands = refl;
      way = record {
        sent = c.write.ensures.sent;
        room = c.write.ensures.room;
        got = c.write.ensures.got;
        full = c.write.ensures.full;
        goes = c.write.ensures.goes;
        over = c.write.ensures.over;
        fails = c.write.ensures.fails;
        fulls = c.write.ensures.fulls;
        others = c.write.ensures.others;
        nothings = c.write.ensures.nothings;
        meets = c.write.ensures.meets;
      };
    }

pub returns-clause-stays : goal.returns-clause-stays
returns-clause-stays g c = changed_paired (returns-clause-sent g c) g.E.End.means (returns-clause-sent g c).way.meets

pub returns-clause-numbers : goal.returns-clause-numbers
returns-clause-numbers g c = changed_numbers (returns-clause-sent g c)

pub returns-clause-over : goal.returns-clause-over
returns-clause-over g c = λ over.
    let m = g.E.End.means in
    changed_end (returns-clause-sent g c) (λ before after way was. over_said (m.stand before) (m.stand after) (way.over over) was) c.requires.by_fault
