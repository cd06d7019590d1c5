use Rattle.std.proofs.Common.{ap, arith}
use Rattle.rds_seats.specs.ViewLaws.{total_snoc}
use Rattle.rds_meter.specs.Grounds.{seats_of}
use Rattle.rds_meter.specs.Seats.{MeterSeat}
use Rattle.rds_fmap.specs.Readers.{WriterView}
use Rattle.rds_line.specs.Line.{LineView}
use Rattle.rds_host.specs.Passes.{line_seats}
use Rattle.rds_host.proofs.host_lines.add_line.Goals as goal

pub returns-clause-line : goal.returns-clause-line
returns-clause-line g c =
    let made = c.in_ok-into_line.ensures in (
      c.in_ok-into_line.field-0,
      c.in_ok-push.ensures.items,
      record {
        channel = made.channel;
        mail = made.mail;
        joined = made.joined;
        pair = made.pair;
        boxes = made.boxes;
        ports = made.ports;
        words = made.words;
        looks = made.looked;
      },
    )

pub returns-clause-stand : goal.returns-clause-stand
returns-clause-stand g c =
    let line = c.in_ok-into_line.field-0 in
    let old = c.args.lines.now.items in
    let one = ap line_seats c.in_ok-push.ensures.items in
    let two = total_snoc (λ (l : LineView g.row.E.Denot WriterView). seats_of l.words.view) old line in
    let own = ap (λ (h : MeterSeat). seats_of h.view) c.in_ok-into_line.ensures.own in
    omega (arith, one, two, own)
