use Rattle.std.proofs.Common.{◌≡◌, ◌≤◌, List, ap, arith, length, subst, sym, ◌∙◌}
use Rattle.std.proofs.lemmas.Option.{get_or_from_slice_get}
use Rattle.rds_fmap.specs.Readers.{WriterView}
use Rattle.rds_model.specs.declared.entry.Entry.{Entry}
use Rattle.rds_model.specs.Sums.{opens}
use Rattle.rds_line_channel.specs.Streams.{opened_numbers}
use Rattle.rds_line.specs.Line.{LineView, line_past}
use Rattle.rds_run_threads.proofs.Filled.{ended_grounded}
use Rattle.rds_run_threads.proofs.Taken.{journal_is, orders_begin}
use Rattle.rds_run_threads.proofs.taking.end_host.Goals as goal

pub gather-requires-clause-host : goal.gather-requires-clause-host
gather-requires-clause-host g c =
    c.tied_ends.ensures.host c.args.caller.places c.in-Ok.closed.items c.args.lines.items c.requires.tied c.in-Ok.ensures.slots

pub gather-requires-clause-passes : goal.gather-requires-clause-passes
gather-requires-clause-passes g c =
    c.tied_ends.ensures.passes c.args.caller.places c.in-Ok.closed.items c.args.lines.items c.requires.tied c.in-Ok.ensures.slots

pub returns-clause-journal : goal.returns-clause-journal
returns-clause-journal g c = λ line at.
    let taken = c.swap_remove-journal.result in
    let is =
    journal_is c.args.lines.items c.in_ok-end.end.journals.items c.args.place taken line c.in_ok-end.ensures.journals c.requires.place
    c.swap_remove-journal.ensures.value at in
    let seen = c.index-line.result.now in
    let same : seen ≡ line = c.index-line.ensures ∙ get_or_from_slice_get c.args.lines.items c.args.place line seen at in
    let kept : length (line_past seen) ≤ seen.channel.conn.log.limit =
    let room = c.len.ensures.limit in
    let past = c.journal.ensures.past in
    let limit = c.journal.ensures.limit in
    omega (arith, room, ap length past, limit) in
    record {
      is = is;
      opened =
          (line.channel.streams.opened, ap opens is ∙ subst (λ (l : LineView g.row.W-End.Denot WriterView). opens (line_past l) ≡ opened_numbers l.channel.streams) same (sym c.known.ensures.carried.opened));
      few =
          subst (λ (past : List Entry). length past ≤ line.channel.conn.log.limit) (sym is)
          (subst (λ (l : LineView g.row.W-End.Denot WriterView). length (line_past l) ≤ l.channel.conn.log.limit) same kept);
    }

pub returns-clause-orders : goal.returns-clause-orders
returns-clause-orders g c =
    orders_begin c.args.caller.places c.in-Ok.closed.items c.args.lines.items c.args.place c.swap_remove-journal.result.1.past c.requires.place
    (λ line at.
    journal_is c.args.lines.items c.in_ok-end.end.journals.items c.args.place c.swap_remove-journal.result line c.in_ok-end.ensures.journals c.requires.place
    c.swap_remove-journal.ensures.value at) c.in-Ok.ensures.slots c.in_ok-end.ensures.joined

-- refused where the seats of a slot are left out
pub returns-clause-grounded : goal.returns-clause-grounded
returns-clause-grounded g c = ended_grounded c.args.caller.places c.in-Ok.closed.items c.args.lines.items c.in-Ok.ensures.slots c.in_ok-end.ensures.grounded
