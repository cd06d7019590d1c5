use Rattle.std.proofs.Common.{get_or, refl}
use Rattle.std.proofs.lemmas.Option.{slice_get-get_or}
use Rattle.rds_line_channel.proofs.stream_meeting.meet_at.Goals as goal

pub returns : goal.returns
returns g c =
    let one = get_or c.args.a.now c.args.place c.index-a-place.result in
    let other = get_or c.args.b.now c.args.place c.index-b-place.result in
    let met = c.meet.ensures in
    record {
      first = record {
        number = one.0;
        end_before = one.1;
        end_after = c.meet.new.a;
        stood = slice_get-get_or c.args.a.now c.args.place c.index-a-place.result c.requires.one;
        stands = refl;
        way = met.one.0;
      };
      second = record {
        number = other.0;
        end_before = other.1;
        end_after = c.meet.new.b;
        stood = slice_get-get_or c.args.b.now c.args.place c.index-b-place.result c.requires.other;
        stands = refl;
        way = met.other.0;
      };
      met = record {
        pair = met.pair;
        first = record { learns = met.first; moves = met.one.0; counts = met.one.1; meets = met.one.2 };
        second = record { learns = met.second; moves = met.other.0; counts = met.other.1; meets = met.other.2 };
        causes = met.causes;
        order = met.order;
        there = met.there;
        back = met.back;
      };
    }
