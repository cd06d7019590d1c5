use Rattle.std.proofs.Common.{inr, Ok, ap, ◌∙◌}
use Rattle.rds_line_channel.specs.Streams.{newest_place}
use Rattle.rds_line.specs.declared.outcome.Done.{Done}
use Rattle.rds_line.specs.declared.outcome.Sent.TheVariants as sent
use Rattle.rds_line.specs.Line.{LineView}
use Rattle.rds_line.proofs.Carrying.{arrived_through, less_after, less_before, more_after, more_before, unwritten_through}
use Rattle.rds_line.proofs.Looking.{leaves_of, leaves_none, leaves_same, leaves_through, loads_wider, none_first, pulls_wider}
use Rattle.rds_line.proofs.Ordering.{at_most_one}
use Rattle.rds_line.proofs.Quiet.{leaves_quiet}
use Rattle.rds_line.proofs.Staying.{line_through}
use Rattle.rds_line.proofs.Stepping.{StepsDid, did_idle, did_none, did_took, gets_wider, sends_wider, moment_back, moment_longer, relieved_arrived, relieved_unwritten, same_sent}
use Rattle.rds_line.proofs.line.Line.steps.Goals as goal

pub returns-in_err-took-clause-stays : goal.returns-in_err-took-clause-stays
returns-in_err-took-clause-stays g c =
    line_through g.E.End.means g.M.MapWriter.pair c.args.self.now c.open_next.new.self c.take_order.new.self c.open_next.ensures.quiet.stays c.take_order.ensures.stays

pub returns-in_err-heard-clause-stays : goal.returns-in_err-heard-clause-stays
returns-in_err-heard-clause-stays g c =
    let m = g.E.End.means in
    let pair = g.M.MapWriter.pair in
    line_through m pair c.args.self.now c.take_order.new.self c.receive.new.self
    (line_through m pair c.args.self.now c.open_next.new.self c.take_order.new.self c.open_next.ensures.quiet.stays c.take_order.ensures.stays) c.receive.ensures.quiet.stays

pub returns-in_err-sent-clause-stays : goal.returns-in_err-sent-clause-stays
returns-in_err-sent-clause-stays g c =
    let m = g.E.End.means in
    let pair = g.M.MapWriter.pair in
    line_through m pair c.args.self.now c.take_order.new.self c.send.new.self
    (line_through m pair c.args.self.now c.open_next.new.self c.take_order.new.self c.open_next.ensures.quiet.stays c.take_order.ensures.stays)
    (line_through m pair c.take_order.new.self c.receive.new.self c.send.new.self c.receive.ensures.quiet.stays c.send.ensures.stays)

pub returns-clause-stays : goal.returns-clause-stays
returns-clause-stays g c =
    let m = g.E.End.means in
    let pair = g.M.MapWriter.pair in
    line_through m pair c.args.self.now c.take_order.new.self c.relieve.new.self
    (line_through m pair c.args.self.now c.open_next.new.self c.take_order.new.self c.open_next.ensures.quiet.stays c.take_order.ensures.stays)
    (line_through m pair c.take_order.new.self c.receive.new.self c.relieve.new.self c.receive.ensures.quiet.stays
    (line_through m pair c.receive.new.self c.send.new.self c.relieve.new.self c.send.ensures.stays c.relieve.ensures.quiet.stays))

pub returns-clause-did : goal.returns-clause-did
returns-clause-did g c =
    let m = g.E.End.means in
    let pair = g.M.MapWriter.pair in
    let first = c.args.self.now in
    let opened = c.open_next.new.self in
    let taken = c.take_order.new.self in
    let came = c.receive.new.self in
    let went = c.send.new.self in
    let last = c.relieve.new.self in
    let opening = c.in_ok-open_next.ensures {u = tt} in
    let taking = c.in_ok-took.ensures {u = tt} in
    let hearing = c.in_ok-heard.ensures {u = tt} in
    let sending = c.in_ok-sent.ensures {u = tt} in
    let done : Done = record { took = c.in_ok-took.took; heard = c.in_ok-heard.heard; sent = c.in_ok-sent.sent } in
    let steps : StepsDid m first opened taken came went last done = record {
      lengths = (
        moment_longer opening.quiet.stays.channel.past,
        moment_longer taking.stays.channel.past,
        moment_longer hearing.quiet.stays.channel.past,
        moment_longer sending.stays.channel.past,
        moment_longer c.relieve.ensures.quiet.stays.channel.past,
      );
      opened = opening.streams;
      open_orders = ap (λ (v : LineView g.row.E.Denot g.row.M.Denot). v.orders) opening.alone;
      open_last = opening.open;
      back = moment_back opening.quiet.stays.channel.past;
      none = λ e. taking.none (ap Ok e);
      still = λ e. (taking.still (ap Ok e)).1;
      hear_orders = hearing.quiet.orders;
      hear_closed = λ e. hearing.closed (ap Ok e);
      hear_nothing = λ e. hearing.nothing (ap Ok e);
      hear_open = λ e. hearing.on (ap Ok e);
      hear_ended = λ e. hearing.ended (ap Ok e);
      send_orders = sending.orders;
      send_came = sending.came;
      send_closed = λ e. sending.closed (ap Ok e);
      send_open = λ e. same_sent c.in_ok-sent.sent sent.Closed (sending.shut e);
      send_nothing = λ e. (sending.nothing (ap Ok e)).0;
      send_full = λ e. sending.full (ap Ok e);
      send_ended = λ e. sending.ended (ap Ok e);
      relieved = c.relieve.ensures.alone;
      send_looked = λ e.
          loads_wider first came went last
          (leaves_through first opened came
          (leaves_quiet opening.quiet)
          (leaves_through opened taken came (leaves_of m pair opened taken taking.stays taking.own taking.pulls)
          (leaves_quiet hearing.quiet)))
          (leaves_quiet c.relieve.ensures.quiet)
          (sending.looked (ap Ok e));
    } in
    let to_taken = line_through m pair first opened taken opening.quiet.stays taking.stays in
    let to_came = line_through m pair first taken came to_taken hearing.quiet.stays in
    let relieving = c.relieve.ensures.quiet.stays in
    let to_went = line_through m pair first came went to_came sending.stays in
    let from_came = line_through m pair came went last sending.stays relieving in
    let arrived_taken = arrived_through first.channel opened.channel taken.channel opening.quiet.stays.channel.past
    taking.stays.channel.past opening.arrived taking.arrived in
    let unwritten_taken = unwritten_through first.channel opened.channel taken.channel opening.quiet.stays.channel.past
    taking.stays.channel.past opening.unwritten taking.unwritten in
    let unwritten_came = unwritten_through first.channel taken.channel came.channel to_taken.channel.past
    hearing.quiet.stays.channel.past unwritten_taken hearing.unwritten in
    let arrived_last = arrived_through came.channel went.channel last.channel sending.stays.channel.past relieving.channel.past
    sending.arrived (relieved_arrived c.relieve.ensures.alone) in record {
      took = λ e. did_took steps (taking.took (ap Ok e));
      none = did_none steps;
      got = λ e. record {
        place = newest_place taken.channel.streams;
        gets =
            gets_wider m _ first.channel.streams taken.channel.streams came.channel.streams last.channel.streams to_taken.channel.streams
            (hearing.bytes (ap Ok e)) from_came.channel.streams;
        more =
            more_before first.channel came.channel last.channel to_came.channel.past from_came.channel.past
            (more_after first.channel taken.channel came.channel to_taken.channel.past hearing.quiet.stays.channel.past
            arrived_taken (hearing.more (ap Ok e))) arrived_last;
      };
      sent = λ e. record {
        place = newest_place came.channel.streams;
        sends =
            sends_wider m _ first.channel.streams came.channel.streams went.channel.streams last.channel.streams to_came.channel.streams
            (sending.bytes (ap Ok e)) relieving.channel.streams;
        less =
            less_before first.channel went.channel last.channel to_went.channel.past relieving.channel.past
            (less_after first.channel came.channel went.channel to_came.channel.past sending.stays.channel.past unwritten_came
            (sending.less (ap Ok e))) (relieved_unwritten c.relieve.ensures.alone);
      };
      idle = λ not_taken no_bytes none_sent past left. did_idle steps not_taken past no_bytes none_sent left;
    }

pub returns-in_err-took-clause-pulls : goal.returns-in_err-took-clause-pulls
returns-in_err-took-clause-pulls g c =
    let m = g.E.End.means in
    let pair = g.M.MapWriter.pair in
    let first = c.args.self.now in
    let opened = c.open_next.new.self in
    let taken = c.take_order.new.self in
    leaves_none first taken
    (leaves_through first opened taken
    (leaves_quiet c.open_next.ensures.quiet)
    (leaves_of m pair opened taken c.take_order.ensures.stays c.take_order.ensures.own c.take_order.ensures.pulls))

pub returns-in_err-heard-clause-pulls : goal.returns-in_err-heard-clause-pulls
returns-in_err-heard-clause-pulls g c =
    let m = g.E.End.means in
    let pair = g.M.MapWriter.pair in
    let first = c.args.self.now in
    let opened = c.open_next.new.self in
    let taken = c.take_order.new.self in
    let came = c.receive.new.self in
    leaves_none first came
    (leaves_through first opened came
    (leaves_quiet c.open_next.ensures.quiet)
    (leaves_through opened taken came
    (leaves_of m pair opened taken c.take_order.ensures.stays c.take_order.ensures.own c.take_order.ensures.pulls)
    (leaves_quiet c.receive.ensures.quiet)))

pub returns-in_err-sent-clause-pulls : goal.returns-in_err-sent-clause-pulls
returns-in_err-sent-clause-pulls g c =
    let m = g.E.End.means in
    let pair = g.M.MapWriter.pair in
    let first = c.args.self.now in
    let opened = c.open_next.new.self in
    let taken = c.take_order.new.self in
    let came = c.receive.new.self in
    let went = c.send.new.self in
    pulls_wider first came went went
    (leaves_through first opened came
    (leaves_quiet c.open_next.ensures.quiet)
    (leaves_through opened taken came
    (leaves_of m pair opened taken c.take_order.ensures.stays c.take_order.ensures.own c.take_order.ensures.pulls)
    (leaves_quiet c.receive.ensures.quiet)))
    (leaves_same went)
    (λ pulls.
    none_first first opened taken came went (c.in_ok-open_next.ensures {u = tt}).out (c.in_ok-took.ensures {u = tt}).out
    (c.in_ok-heard.ensures {u = tt}).out (λ off. (c.send.ensures.closed (c.send.ensures.shut off)).1) pulls)
    c.send.ensures.pulls

pub returns-clause-pulls : goal.returns-clause-pulls
returns-clause-pulls g c =
    let m = g.E.End.means in
    let pair = g.M.MapWriter.pair in
    let first = c.args.self.now in
    let opened = c.open_next.new.self in
    let taken = c.take_order.new.self in
    let came = c.receive.new.self in
    let went = c.send.new.self in
    let last = c.relieve.new.self in
    pulls_wider first came went last
    (leaves_through first opened came
    (leaves_quiet c.open_next.ensures.quiet)
    (leaves_through opened taken came
    (leaves_of m pair opened taken c.take_order.ensures.stays c.take_order.ensures.own c.take_order.ensures.pulls)
    (leaves_quiet c.receive.ensures.quiet)))
    (leaves_quiet c.relieve.ensures.quiet)
    (λ pulls.
    none_first first opened taken came went (c.in_ok-open_next.ensures {u = tt}).out (c.in_ok-took.ensures {u = tt}).out
    (c.in_ok-heard.ensures {u = tt}).out (λ off. (c.send.ensures.closed (c.send.ensures.shut off)).1) pulls)
    c.send.ensures.pulls

pub returns-in_err-open_next-clause-at_most : goal.returns-in_err-open_next-clause-at_most
returns-in_err-open_next-clause-at_most g c =
    inr (ap (λ (v : LineView g.row.E.Denot g.row.M.Denot). v.orders) c.open_next.ensures.alone)

pub returns-in_err-took-clause-at_most : goal.returns-in_err-took-clause-at_most
returns-in_err-took-clause-at_most g c =
    inr ((c.in_err-took.ensures {u = tt}).err.0 ∙ ap (λ (v : LineView g.row.E.Denot g.row.M.Denot). v.orders) c.open_next.ensures.alone)

pub returns-in_err-heard-clause-at_most : goal.returns-in_err-heard-clause-at_most
returns-in_err-heard-clause-at_most g c =
    let taking = c.in_ok-took.ensures {u = tt} in
    at_most_one (ap (λ (v : LineView g.row.E.Denot g.row.M.Denot). v.orders) c.open_next.ensures.alone) c.receive.ensures.quiet.orders
    c.in_ok-took.took (λ e. taking.took (ap Ok e)) (λ e. taking.none (ap Ok e))

pub returns-in_err-sent-clause-at_most : goal.returns-in_err-sent-clause-at_most
returns-in_err-sent-clause-at_most g c =
    let taking = c.in_ok-took.ensures {u = tt} in
    at_most_one (ap (λ (v : LineView g.row.E.Denot g.row.M.Denot). v.orders) c.open_next.ensures.alone)
    (c.send.ensures.orders ∙ c.receive.ensures.quiet.orders)
    c.in_ok-took.took (λ e. taking.took (ap Ok e)) (λ e. taking.none (ap Ok e))

pub returns-clause-at_most : goal.returns-clause-at_most
returns-clause-at_most g c =
    let taking = c.in_ok-took.ensures {u = tt} in
    at_most_one (ap (λ (v : LineView g.row.E.Denot g.row.M.Denot). v.orders) c.open_next.ensures.alone)
    (c.relieve.ensures.quiet.orders ∙ (c.send.ensures.orders ∙ c.receive.ensures.quiet.orders))
    c.in_ok-took.took (λ e. taking.took (ap Ok e)) (λ e. taking.none (ap Ok e))
