use Rattle.std.proofs.Common.{get_or, refl}
use Rattle.std.proofs.lemmas.Option.{slice_get-get_or}
use Rattle.rds_line_channel.specs.ChangeLaws.{changed_numbers, changed_paired}
use Rattle.rds_line_channel.proofs.places.shut_at.Goals as goal

pub returns-clause-shut : goal.returns-clause-shut
returns-clause-shut g c =
    let stream = get_or c.args.streams.now c.args.place c.index-streams-place.result in
    record {
      number = stream.0;
      end_before = stream.1;
      end_after = c.shut.new.self;
      stood = slice_get-get_or c.args.streams.now c.args.place c.index-streams-place.result c.requires;
      stands = refl;
      way = record {
        shut = c.shut.ensures.shut;
        sent = c.shut.ensures.sent;
        got = c.shut.ensures.got;
        counts = c.shut.ensures.counts;
        meets = c.shut.ensures.meets;
      };
    }

pub returns-clause-stays : goal.returns-clause-stays
returns-clause-stays g c = changed_paired (returns-clause-shut g c) g.E.End.means (returns-clause-shut g c).way.meets

pub returns-clause-numbers : goal.returns-clause-numbers
returns-clause-numbers g c = changed_numbers (returns-clause-shut g c)
