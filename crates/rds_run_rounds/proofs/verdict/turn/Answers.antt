use Rattle.std.proofs.Common.{inl, inr, sym, ◌∙◌, rules}
use Rattle.std.proofs.lemmas.Bool.{false≢true}
use Rattle.rds_run_rounds.proofs.Lacking.{lacks_by_order, no_stream, open_in_journal}
use Rattle.rds_run_rounds.proofs.Owing.{idle_owes}
use Rattle.rds_run_rounds.proofs.verdict.turn.Goals as goal

pub returns-in-Over-clause-nothing : goal.returns-in-Over-clause-nothing
returns-in-Over-clause-nothing g c = search rules

pub returns-in-Idle-clause-owes : goal.returns-in-Idle-clause-owes
returns-in-Idle-clause-owes g c = λ idle written. idle_owes g.E.End.means c.args.line.now c.turn-came.new.self (c.turn-came.ensures.idle c.in-Idle.is) written

pub returns-in-Spent-clause-spent : goal.returns-in-Spent-clause-spent
returns-in-Spent-clause-spent g c = search rules

pub returns-in-Spent-clause-by_order : goal.returns-in-Spent-clause-by_order
returns-in-Spent-clause-by_order g c = search rules

pub returns-in-Spent-clause-room : goal.returns-in-Spent-clause-room
returns-in-Spent-clause-room g c = search rules

pub returns-in-Moved-clause-misses : goal.returns-in-Moved-clause-misses
returns-in-Moved-clause-misses g c = search rules

pub returns-in-Moved-clause-by_order : goal.returns-in-Moved-clause-by_order
returns-in-Moved-clause-by_order g c = λ goes misses.
    let known = c.known-2.ensures in
    lacks_by_order g.E.End.means c.args.line.now c.turn-came.new.self
    (record { carried = known.carried; streams = known.streams; whole = known.whole; partial = known.partial }) (c.turn-came.ensures.goes_on (inl c.in-Moved.is))
    misses.0

pub returns-in-Idle-clause-by_order : goal.returns-in-Idle-clause-by_order
returns-in-Idle-clause-by_order g c = λ goes misses.
    let known = c.known-2.ensures in
    lacks_by_order g.E.End.means c.args.line.now c.turn-came.new.self
    (record { carried = known.carried; streams = known.streams; whole = known.whole; partial = known.partial }) (c.turn-came.ensures.goes_on (inr c.in-Idle.is))
    misses.0

pub returns-in-Idle-clause-left : goal.returns-in-Idle-clause-left
returns-in-Idle-clause-left g c = λ idle.
    let known = c.known-2.ensures in
    inl
    (open_in_journal g.E.End.means c.turn-came.new.self
    (record { carried = known.carried; streams = known.streams; whole = known.whole; partial = known.partial }) (c.turn-came.ensures.idle c.in-Idle.is).on)

pub returns-in-Over-clause-misses : goal.returns-in-Over-clause-misses
returns-in-Over-clause-misses g c = λ low high fault.
    let known = c.known-2.ensures in
    let over = c.turn-came.ensures.over c.in-Over.is in (
      no_stream g.E.End.means c.turn-came.new.self
          (record { carried = known.carried; streams = known.streams; whole = known.whole; partial = known.partial }) over.closed over.last,
      c.is_fault.ensures.0 c.if-is_fault.true,
    )

pub returns-in-Over-3-clause-left : goal.returns-in-Over-3-clause-left
returns-in-Over-3-clause-left g c = λ idle.
    let known = c.known-2.ensures in
    let over = c.turn-came.ensures.over c.in-Over.is in
    inr (
      no_stream g.E.End.means c.turn-came.new.self
          (record { carried = known.carried; streams = known.streams; whole = known.whole; partial = known.partial }) over.closed over.last,
      λ should. false≢true (sym c.if-is_fault.false ∙ c.is_fault.ensures.1 should),
    )

-- refused where a line that has more entries is told as idle
pub returns-in-Over-3-clause-still_room : goal.returns-in-Over-3-clause-still_room
returns-in-Over-3-clause-still_room g c = search rules
