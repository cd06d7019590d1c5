use Rattle.std.proofs.Common.{get_or, refl}
use Rattle.std.proofs.lemmas.Option.{slice_get-get_or}
use Rattle.rds_line_channel.specs.ChangeLaws.{changed_end, changed_numbers, changed_paired}
use Rattle.rds_line_channel.proofs.Over.{over_said}
use Rattle.rds_line_channel.proofs.places.read_at.Goals as goal

pub returns-clause-received : goal.returns-clause-received
returns-clause-received g c =
    let stream = get_or c.args.streams.now c.args.place c.index-streams-place.result in
    record {
      number = stream.0;
      end_before = stream.1;
      end_after = c.read.new.self;
      stood = slice_get-get_or c.args.streams.now c.args.place c.index-streams-place.result c.requires.place;
      stands = refl;
      way = record {
        got = c.read.ensures.got;
        known = c.read.ensures.known;
        sent = c.read.ensures.sent;
        nothing = c.read.ensures.nothing;
        goes = c.read.ensures.goes;
        over = c.read.ensures.over;
        fails = c.read.ensures.fails;
        nothings = c.read.ensures.nothings;
        others = c.read.ensures.others;
        fulls = c.read.ensures.fulls;
        meets = c.read.ensures.meets;
      };
    }

pub returns-clause-stays : goal.returns-clause-stays
returns-clause-stays g c = changed_paired (returns-clause-received g c) g.E.End.means (returns-clause-received g c).way.meets

pub returns-clause-numbers : goal.returns-clause-numbers
returns-clause-numbers g c = changed_numbers (returns-clause-received g c)

pub returns-clause-over : goal.returns-clause-over
returns-clause-over g c = λ over.
    let m = g.E.End.means in
    changed_end (returns-clause-received g c) (λ before after way was. over_said (m.stand before) (m.stand after) (way.over over) was) c.requires.by_fault
