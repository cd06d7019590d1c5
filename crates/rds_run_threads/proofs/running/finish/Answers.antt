use Rattle.std.proofs.Common.{◌≡◌, ◌-◌, length, ap, ◌∙◌, arith, rules}
use Rattle.rds_run_rounds.specs.Grid.{rows_of}
use Rattle.rds_run_hosts.specs.HeldLaws.{going_as_many, kept_as_many}
use Rattle.rds_run_threads.proofs.Finished.{all_settled, all_tied, done_spared}
use Rattle.rds_run_threads.proofs.Keeping.{rows_same}
use Rattle.rds_run_threads.proofs.SameStreams.{streams_end}
use Rattle.rds_run_threads.proofs.UsedUp.{missed_in_end, open_in_end}
use Rattle.rds_run_threads.proofs.running.finish.Goals as goal

pub last_rounds-end-requires : goal.last_rounds-end-requires
last_rounds-end-requires g c =
    let limit = c.requires.hosts.0 in
    let hosts = c.requires.hosts.1 in
    let old = rows_of c.args.lines.items in
    let told = rows_of c.tell_all.new.lines.items in
    let callers = c.requires.parties.2.callers_count in
    let rows = c.requires.parties.2.rows_count in
    let same : length c.args.callers.items ≡ length old = omega (arith, callers, rows) in (
      limit,
      hosts,
      c.connected_keeps.ensures.same limit hosts old told c.requires.hosts.2
          (rows_same c.args.callers.items c.tell_all.new.callers.items old told same c.tell_all.ensures),
    )

pub end_run-requires-clause-done : goal.end_run-requires-clause-done
end_run-requires-clause-done g c = λ κs within.
    let limit = c.requires.hosts.0 in
    let hosts = c.requires.hosts.1 in
    let old = rows_of c.args.lines.items in
    let told = rows_of c.tell_all.new.lines.items in
    let callers = c.requires.parties.2.callers_count in
    let rows = c.requires.parties.2.rows_count in
    let same : length c.args.callers.items ≡ length old = omega (arith, callers, rows) in (
      limit,
      hosts,
      c.last_rounds-end.ensures.done limit hosts
          (c.connected_keeps.ensures.same limit hosts old told c.requires.hosts.2
          (rows_same c.args.callers.items c.tell_all.new.callers.items old told same c.tell_all.ensures)),
    )

-- refused where a line isn't told of all orders
pub end_run-requires-clause-settled : goal.end_run-requires-clause-settled
end_run-requires-clause-settled g c = λ κs within quiet.
    let old = rows_of c.args.lines.items in
    let told = rows_of c.tell_all.new.lines.items in
    let callers = c.requires.parties.2.callers_count in
    let rows = c.requires.parties.2.rows_count in
    let count = c.requires.hosts.2.shape.count in
    let many = c.requires.parties.1 in
    let same : length c.args.callers.items ≡ length old = omega (arith, callers, rows) in
    all_settled c.tied_keeps.ensures.lines c.requires.hosts.1 c.args.callers.items c.tell_all.new.callers.items old told (rows_of c.last_rounds-end.new.lines.items)
    c.requires.hosts.2.shape (omega (arith, count, rows, many)) same c.tell_all.ensures c.last_rounds-end.ensures.rows (c.last_rounds-end.ensures.quiet quiet)

pub end_run-requires-clause-tied : goal.end_run-requires-clause-tied
end_run-requires-clause-tied g c = λ κs within.
    let old = rows_of c.args.lines.items in
    let told = rows_of c.tell_all.new.lines.items in
    let callers = c.requires.parties.2.callers_count in
    let rows = c.requires.parties.2.rows_count in
    let same : length c.args.callers.items ≡ length old = omega (arith, callers, rows) in
    all_tied c.tied_keeps.ensures.lines c.args.callers.items c.tell_all.new.callers.items old told (rows_of c.last_rounds-end.new.lines.items) same
    c.tell_all.ensures c.last_rounds-end.ensures.rows

-- refused where a line isn't drained
pub end_run-requires-clause-drained : goal.end_run-requires-clause-drained
end_run-requires-clause-drained g c = λ κs within. c.last_rounds-end.ensures.drained

-- refused where a number is alive
pub end_run-requires-clause-acknowledged : goal.end_run-requires-clause-acknowledged
end_run-requires-clause-acknowledged g c = λ κs within. c.last_rounds-end.ensures.acknowledged

pub returns-clause-end : goal.returns-clause-end
returns-clause-end g c = λ limit hosts commands before after are did counted known.
    let old = rows_of c.args.lines.items in
    let told = rows_of c.tell_all.new.lines.items in
    let callers = c.requires.parties.2.callers_count in
    let rows = c.requires.parties.2.rows_count in
    let same : length c.args.callers.items ≡ length old = omega (arith, callers, rows) in
    let kept = rows_same c.args.callers.items c.tell_all.new.callers.items old told same c.tell_all.ensures in
    c.end_run.ensures.end limit hosts commands before after
    (c.last_rounds-end.ensures.done limit hosts (c.connected_keeps.ensures.same limit hosts old told are kept))
    (done_spared hosts commands c.args.callers.items c.tell_all.new.callers.items old told (rows_of c.last_rounds-end.new.lines.items) same c.tell_all.ensures
    c.last_rounds-end.ensures.rows did)
    (c.counted_keeps.ensures.goes commands before after told (rows_of c.last_rounds-end.new.lines.items)
    (c.counted_keeps.ensures.same commands before after old told counted kept) c.last_rounds-end.ensures.rows)
    (missed_in_end g.W.End.End.means.tells (rows_of c.args.wanted.now) commands c.last_rounds-end.result old told (rows_of c.last_rounds-end.new.lines.items) kept
    c.last_rounds-end.ensures.rows known c.last_rounds-end.ensures.misses)

-- refused where a run is unfinished with no cause
pub returns-clause-counted : goal.returns-clause-counted
returns-clause-counted g c = λ commands known.
    let old = rows_of c.args.lines.items in
    let told = rows_of c.tell_all.new.lines.items in
    let callers = c.requires.parties.2.callers_count in
    let rows = c.requires.parties.2.rows_count in
    let same : length c.args.callers.items ≡ length old = omega (arith, callers, rows) in
    let kept = rows_same c.args.callers.items c.tell_all.new.callers.items old told same c.tell_all.ensures in
    c.end_run.ensures.counted commands
    (λ quiet.
    open_in_end g.W.End.End.means c.requires.hosts.0 c.requires.hosts.1 (rows_of c.args.wanted.now) commands old told (rows_of c.last_rounds-end.new.lines.items)
    c.requires.hosts.2 kept c.last_rounds-end.ensures.rows known (c.last_rounds-end.ensures.left quiet))

-- refused where a cut may be lost in what was begun
pub returns-clause-begun : goal.returns-clause-begun
returns-clause-begun g c = λ limit hosts commands are did counted known.
    let old = rows_of c.args.lines.items in
    let told = rows_of c.tell_all.new.lines.items in
    let callers = c.requires.parties.2.callers_count in
    let rows = c.requires.parties.2.rows_count in
    let same : length c.args.callers.items ≡ length old = omega (arith, callers, rows) in
    let kept = rows_same c.args.callers.items c.tell_all.new.callers.items old told same c.tell_all.ensures in
    let before = c.args.start.counts.faults in
    let middle = (g.W.Wire.counted c.args.wire.now).faults in
    c.end_run.ensures.begun limit hosts commands before
    (c.last_rounds-end.ensures.done limit hosts (c.connected_keeps.ensures.same limit hosts old told are kept))
    (done_spared hosts commands c.args.callers.items c.tell_all.new.callers.items old told (rows_of c.last_rounds-end.new.lines.items) same c.tell_all.ensures
    c.last_rounds-end.ensures.rows did)
    (c.counted_keeps.ensures.goes commands before middle told (rows_of c.last_rounds-end.new.lines.items)
    (c.counted_keeps.ensures.same commands before middle old told counted kept) c.last_rounds-end.ensures.rows)
    (missed_in_end g.W.End.End.means.tells (rows_of c.args.wanted.now) commands c.last_rounds-end.result old told (rows_of c.last_rounds-end.new.lines.items) kept
    c.last_rounds-end.ensures.rows known c.last_rounds-end.ensures.misses)
    (λ quiet.
    open_in_end g.W.End.End.means limit hosts (rows_of c.args.wanted.now) commands old told (rows_of c.last_rounds-end.new.lines.items) are kept
    c.last_rounds-end.ensures.rows known (c.last_rounds-end.ensures.left quiet))
    (search rules)

-- refused where the lines of two hosts have other streams than were prepared for them
pub end_run-requires-clause-streams : goal.end_run-requires-clause-streams
end_run-requires-clause-streams g c = λ κs within.
    let old = rows_of c.args.lines.items in
    let told = rows_of c.tell_all.new.lines.items in
    let callers = c.requires.parties.2.callers_count in
    let rows = c.requires.parties.2.rows_count in
    let same : length c.args.callers.items ≡ length old = omega (arith, callers, rows) in
    streams_end g.W.End.End.means c.requires.hosts.0 c.requires.hosts.1 old told (rows_of c.last_rounds-end.new.lines.items) c.requires.hosts.2
    (rows_same c.args.callers.items c.tell_all.new.callers.items old told same c.tell_all.ensures) c.last_rounds-end.ensures.rows

pub end_run-requires-clause-room : goal.end_run-requires-clause-room
end_run-requires-clause-room g c = λ κs within. c.last_rounds-end.ensures.room

pub end_run-requires-clause-owe : goal.end_run-requires-clause-owe
end_run-requires-clause-owe g c = λ κs within. c.last_rounds-end.ensures.owes

pub end_run-requires-clause-closed : goal.end_run-requires-clause-closed
end_run-requires-clause-closed g c = λ κs within. c.last_rounds-end.ensures.closed

pub returns-clause-out : goal.returns-clause-out
returns-clause-out g c =
    let old = rows_of c.args.lines.items in
    let told = rows_of c.tell_all.new.lines.items in
    let last = rows_of c.last_rounds-end.new.lines.items in
    let callers = c.requires.parties.2.callers_count in
    let rows = c.requires.parties.2.rows_count in
    let same : length c.args.callers.items ≡ length old = omega (arith, callers, rows) in
    let ends = going_as_many told last c.last_rounds-end.ensures.rows
    ∙ kept_as_many old told (rows_same c.args.callers.items c.tell_all.new.callers.items old told same c.tell_all.ensures) in
    c.end_run.ensures.out ∙ ap (λ n. g.W.Wire.out c.args.wire.now - n) ends

pub returns-clause-cut : goal.returns-clause-cut
returns-clause-cut g c = λ limit hosts commands are did counted known.
    let old = rows_of c.args.lines.items in
    let told = rows_of c.tell_all.new.lines.items in
    let callers = c.requires.parties.2.callers_count in
    let rows = c.requires.parties.2.rows_count in
    let same : length c.args.callers.items ≡ length old = omega (arith, callers, rows) in
    let kept = rows_same c.args.callers.items c.tell_all.new.callers.items old told same c.tell_all.ensures in
    let before = c.args.start.counts.faults in
    let middle = (g.W.Wire.counted c.args.wire.now).faults in
    c.end_run.ensures.cut limit hosts commands before
    (c.last_rounds-end.ensures.done limit hosts (c.connected_keeps.ensures.same limit hosts old told are kept))
    (done_spared hosts commands c.args.callers.items c.tell_all.new.callers.items old told (rows_of c.last_rounds-end.new.lines.items) same c.tell_all.ensures
    c.last_rounds-end.ensures.rows did)
    (c.counted_keeps.ensures.goes commands before middle told (rows_of c.last_rounds-end.new.lines.items)
    (c.counted_keeps.ensures.same commands before middle old told counted kept) c.last_rounds-end.ensures.rows)
    (missed_in_end g.W.End.End.means.tells (rows_of c.args.wanted.now) commands c.last_rounds-end.result old told (rows_of c.last_rounds-end.new.lines.items) kept
    c.last_rounds-end.ensures.rows known c.last_rounds-end.ensures.misses)
    (λ quiet.
    open_in_end g.W.End.End.means limit hosts (rows_of c.args.wanted.now) commands old told (rows_of c.last_rounds-end.new.lines.items) are kept
    c.last_rounds-end.ensures.rows known (c.last_rounds-end.ensures.left quiet))
    (search rules)
