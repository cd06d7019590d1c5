use Rattle.std.proofs.Common.{◌≡◌, ◌-◌, IfOk, ap, get_or, length, subst, ◌∙◌, arith}
use Rattle.rds_model.specs.Log.{Log}
use Rattle.rds_run_rounds.specs.Grid.{rows_of}
use Rattle.rds_run_callers.specs.Places.{CallerView}
use Rattle.rds_host.specs.Held.{ends_of_all}
use Rattle.rds_host_end.specs.Grounded.{AreMapsGrounded}
use Rattle.rds_run_settling.specs.Tied.{holdings}
use Rattle.rds_run_threads.specs.Taking.{HasOrders, IsGroundedAt, IsJournalOf}
use Rattle.rds_run_threads.proofs.FilledAlone.{grounded_at}
use Rattle.rds_run_threads.proofs.At.{one_at}
use Rattle.rds_run_threads.proofs.Rows.{peer_after, peer_before, read_at, row_at, row_length, rows_count}
use Rattle.rds_run_threads.proofs.Taken.{first_of, journal_ok, length_fewer, on_one, orders_ok, read_fewer, row_out, second_of}
use Rattle.rds_run_threads.proofs.taking.low_and_high.Goals as goal

pub swap_remove-caller-requires : goal.swap_remove-caller-requires
swap_remove-caller-requires g c =
    let count = c.requires.tied.count in
    let known = c.requires.known in
    let two = c.from-two.ensures in
    omega (arith, count, known, two, rows_count c.args.lines.items)

pub swap_remove-row-requires : goal.swap_remove-row-requires
swap_remove-row-requires g c =
    let known = c.requires.known in
    let two = c.from-two.ensures in
    omega (arith, known, two)

pub end_host-other-requires-clause-place : goal.end_host-other-requires-clause-place
end_host-other-requires-clause-place g c =
    let lines = c.args.lines.items in
    let rows = rows_of lines in
    let high = c.args.high in
    let one = c.from-one.ensures in
    let two = c.from-two.ensures in
    let known = c.requires.known in
    let ordered = c.requires.ordered in
    let all = rows_count lines in
    let at = read_at lines c.from-two.result high c.swap_remove-row.result (omega (arith, two)) known c.swap_remove-row.ensures.value in
    let hosts = c.requires.done.1 in
    let shape = c.requires.done.2.shape in
    let hosts_count = shape.count in
    let long = row_length hosts rows shape high c.swap_remove-row.result.items (row_at lines high c.swap_remove-row.result at) in
    omega (arith, long, hosts_count, known, ordered, one, all)

pub end_host-other-requires-clause-tied : goal.end_host-other-requires-clause-tied
end_host-other-requires-clause-tied g c =
    let lines = c.args.lines.items in
    let high = c.args.high in
    let two = c.from-two.ensures in
    let known = c.requires.known in
    let count = c.requires.tied.count in
    let all = rows_count lines in
    let at = read_at lines c.from-two.result high c.swap_remove-row.result (omega (arith, two)) known c.swap_remove-row.ensures.value in
    let at_caller = read_at c.args.callers.items c.from-two.result high c.swap_remove-caller.result (omega (arith, two)) (omega (arith, known, count, all))
    c.swap_remove-caller.ensures.value in
    c.requires.tied.each high c.swap_remove-caller.result c.swap_remove-row.result.items at_caller (row_at lines high c.swap_remove-row.result at)

pub swap_remove-caller-requires-2 : goal.swap_remove-caller-requires-2
swap_remove-caller-requires-2 g c =
    let lines = c.args.lines.items in
    let one = c.from-one.ensures in
    let two = c.from-two.ensures in
    let known = c.requires.known in
    let ordered = c.requires.ordered in
    let count = c.requires.tied.count in
    let all = rows_count lines in
    let fewer_callers = c.swap_remove-caller.ensures.items in
    let short = ap length fewer_callers ∙ length_fewer c.args.callers.items c.from-two.result c.swap_remove-caller.result (omega (arith, two, known, count, all)) in
    omega (arith, short, one, two, ordered, known, count, all)

pub swap_remove-row-requires-2 : goal.swap_remove-row-requires-2
swap_remove-row-requires-2 g c =
    let lines = c.args.lines.items in
    let one = c.from-one.ensures in
    let two = c.from-two.ensures in
    let known = c.requires.known in
    let ordered = c.requires.ordered in
    let fewer = c.swap_remove-row.ensures.items in
    let short = ap length fewer ∙ length_fewer lines c.from-two.result c.swap_remove-row.result (omega (arith, two, known)) in
    omega (arith, short, one, two, ordered, known)

pub end_host-own-requires-clause-place : goal.end_host-own-requires-clause-place
end_host-own-requires-clause-place g c =
    let lines = c.args.lines.items in
    let rows = rows_of lines in
    let low = c.args.low in
    let one = c.from-one.ensures in
    let two = c.from-two.ensures in
    let known = c.requires.known in
    let ordered = c.requires.ordered in
    let all = rows_count lines in
    let fewer = c.swap_remove-row.ensures.items in
    let low_row = c.swap_remove-row-2.result in
    let at_low = read_fewer lines c.from-two.result low c.from-one.result c.swap_remove-row.result low_row (omega (arith, one)) (omega (arith, ordered, two))
    (omega (arith, two, known))
    (c.swap_remove-row-2.ensures.value ∙ ap (λ l. get_or l c.from-one.result low_row) fewer) in
    let hosts = c.requires.done.1 in
    let shape = c.requires.done.2.shape in
    let hosts_count = shape.count in
    let long_low = row_length hosts rows shape low low_row.items (row_at lines low low_row at_low) in
    omega (arith, long_low, hosts_count, known, ordered, two, all)

pub end_host-own-requires-clause-tied : goal.end_host-own-requires-clause-tied
end_host-own-requires-clause-tied g c =
    let lines = c.args.lines.items in
    let low = c.args.low in
    let one = c.from-one.ensures in
    let two = c.from-two.ensures in
    let known = c.requires.known in
    let ordered = c.requires.ordered in
    let count = c.requires.tied.count in
    let all = rows_count lines in
    let fewer = c.swap_remove-row.ensures.items in
    let fewer_callers = c.swap_remove-caller.ensures.items in
    let low_row = c.swap_remove-row-2.result in
    let low_caller = c.swap_remove-caller-2.result in
    let at_low = read_fewer lines c.from-two.result low c.from-one.result c.swap_remove-row.result low_row (omega (arith, one)) (omega (arith, ordered, two))
    (omega (arith, two, known))
    (c.swap_remove-row-2.ensures.value ∙ ap (λ l. get_or l c.from-one.result low_row) fewer) in
    let at_low_caller = read_fewer c.args.callers.items c.from-two.result low c.from-one.result c.swap_remove-caller.result low_caller (omega (arith, one))
    (omega (arith, ordered, two)) (omega (arith, two, known, count, all))
    (c.swap_remove-caller-2.ensures.value ∙ ap (λ l. get_or l c.from-one.result low_caller) fewer_callers) in
    c.requires.tied.each low low_caller low_row.items at_low_caller (row_at lines low low_row at_low)

pub returns-clause-low : goal.returns-clause-low
returns-clause-low g c =
    let lines = c.args.lines.items in
    let rows = rows_of lines in
    let low = c.args.low in
    let high = c.args.high in
    let one = c.from-one.ensures in
    let two = c.from-two.ensures in
    let known = c.requires.known in
    let ordered = c.requires.ordered in
    let all = rows_count lines in
    let fewer = c.swap_remove-row.ensures.items in
    let low_row = c.swap_remove-row-2.result in
    let at_low = read_fewer lines c.from-two.result low c.from-one.result c.swap_remove-row.result low_row (omega (arith, one)) (omega (arith, ordered, two))
    (omega (arith, two, known))
    (c.swap_remove-row-2.ensures.value ∙ ap (λ l. get_or l c.from-one.result low_row) fewer) in
    let hosts = c.requires.done.1 in
    let shape = c.requires.done.2.shape in
    let hosts_count = shape.count in
    let long_low = row_length hosts rows shape low low_row.items (row_at lines low low_row at_low) in
    first_of c.end_host-own.result c.end_host-other.result c.both.result (λ (journal : Log). IsJournalOf rows low high journal.past) c.both.ensures.own
    (journal_ok rows low high (c.from-two.result - 1) low_row.items c.end_host-own.result (row_at lines low low_row at_low)
    (omega (arith, long_low, hosts_count, known, ordered, two, all))
    (peer_after low (c.from-two.result - 1) (omega (arith, ordered, two)) ∙ omega (arith, ordered, two)) c.end_host-own.ensures.journal)

pub returns-clause-high : goal.returns-clause-high
returns-clause-high g c =
    let lines = c.args.lines.items in
    let rows = rows_of lines in
    let low = c.args.low in
    let high = c.args.high in
    let one = c.from-one.ensures in
    let two = c.from-two.ensures in
    let known = c.requires.known in
    let ordered = c.requires.ordered in
    let all = rows_count lines in
    let at = read_at lines c.from-two.result high c.swap_remove-row.result (omega (arith, two)) known c.swap_remove-row.ensures.value in
    let hosts = c.requires.done.1 in
    let shape = c.requires.done.2.shape in
    let hosts_count = shape.count in
    let long = row_length hosts rows shape high c.swap_remove-row.result.items (row_at lines high c.swap_remove-row.result at) in
    second_of c.end_host-own.result c.end_host-other.result c.both.result (λ (journal : Log). IsJournalOf rows high low journal.past) c.both.ensures.other
    (journal_ok rows high low c.from-one.result c.swap_remove-row.result.items c.end_host-other.result (row_at lines high c.swap_remove-row.result at)
    (omega (arith, long, hosts_count, known, ordered, one, all))
    (peer_before high c.from-one.result (omega (arith, ordered, one)) ∙ omega (arith, one)) c.end_host-other.ensures.journal)

pub returns-clause-low_orders : goal.returns-clause-low_orders
returns-clause-low_orders g c = λ caller stands.
    let lines = c.args.lines.items in
    let low = c.args.low in
    let high = c.args.high in
    let one = c.from-one.ensures in
    let two = c.from-two.ensures in
    let known = c.requires.known in
    let ordered = c.requires.ordered in
    let count = c.requires.tied.count in
    let all = rows_count lines in
    let fewer_callers = c.swap_remove-caller.ensures.items in
    let low_caller = c.swap_remove-caller-2.result in
    let at_low_caller = read_fewer c.args.callers.items c.from-two.result low c.from-one.result c.swap_remove-caller.result low_caller (omega (arith, one))
    (omega (arith, ordered, two)) (omega (arith, two, known, count, all))
    (c.swap_remove-caller-2.ensures.value ∙ ap (λ l. get_or l c.from-one.result low_caller) fewer_callers) in
    let same : low_caller ≡ caller = one_at c.args.callers.items low low_caller caller at_low_caller stands in
    first_of c.end_host-own.result c.end_host-other.result c.both.result (λ (journal : Log). HasOrders low high caller.places journal.past) c.both.ensures.own
    (subst (λ (who : CallerView). IfOk c.end_host-own.result (λ journal. HasOrders low high who.places journal.past)) same
    (orders_ok low high (c.from-two.result - 1) low_caller.places c.end_host-own.result
    (peer_after low (c.from-two.result - 1) (omega (arith, ordered, two)) ∙ omega (arith, ordered, two)) c.end_host-own.ensures.orders))

pub returns-clause-high_orders : goal.returns-clause-high_orders
returns-clause-high_orders g c = λ caller stands.
    let lines = c.args.lines.items in
    let low = c.args.low in
    let high = c.args.high in
    let one = c.from-one.ensures in
    let two = c.from-two.ensures in
    let known = c.requires.known in
    let ordered = c.requires.ordered in
    let count = c.requires.tied.count in
    let all = rows_count lines in
    let at_caller = read_at c.args.callers.items c.from-two.result high c.swap_remove-caller.result (omega (arith, two)) (omega (arith, known, count, all))
    c.swap_remove-caller.ensures.value in
    let same : c.swap_remove-caller.result ≡ caller = one_at c.args.callers.items high c.swap_remove-caller.result caller at_caller stands in
    second_of c.end_host-own.result c.end_host-other.result c.both.result (λ (journal : Log). HasOrders high low caller.places journal.past) c.both.ensures.other
    (subst (λ (who : CallerView). IfOk c.end_host-other.result (λ journal. HasOrders high low who.places journal.past)) same
    (orders_ok high low c.from-one.result c.swap_remove-caller.result.places c.end_host-other.result
    (peer_before high c.from-one.result (omega (arith, ordered, one)) ∙ omega (arith, one)) c.end_host-other.ensures.orders))

pub returns-clause-low_grounded : goal.returns-clause-low_grounded
returns-clause-low_grounded g c =
    let lines = c.args.lines.items in
    let rows = rows_of lines in
    let callers = c.args.callers.items in
    let low = c.args.low in
    let one = c.from-one.ensures in
    let two = c.from-two.ensures in
    let known = c.requires.known in
    let ordered = c.requires.ordered in
    let count = c.requires.tied.count in
    let all = rows_count lines in
    let fewer = c.swap_remove-row.ensures.items in
    let fewer_callers = c.swap_remove-caller.ensures.items in
    let low_row = c.swap_remove-row-2.result in
    let low_caller = c.swap_remove-caller-2.result in
    let at_low = read_fewer lines c.from-two.result low c.from-one.result c.swap_remove-row.result low_row (omega (arith, one)) (omega (arith, ordered, two))
    (omega (arith, two, known))
    (c.swap_remove-row-2.ensures.value ∙ ap (λ l. get_or l c.from-one.result low_row) fewer) in
    let at_low_caller = read_fewer callers c.from-two.result low c.from-one.result c.swap_remove-caller.result low_caller (omega (arith, one))
    (omega (arith, ordered, two)) (omega (arith, two, known, count, all))
    (c.swap_remove-caller-2.ensures.value ∙ ap (λ l. get_or l c.from-one.result low_caller) fewer_callers) in
    on_one c.end_host-own.result c.both.result (λ (journals : Log × Log). journals.0) (AreMapsGrounded (holdings low_caller.places) low_row.items)
    (IsGroundedAt callers rows low) c.both.ensures.own c.end_host-own.ensures.grounded
    (grounded_at callers rows low low_caller low_row.items at_low_caller (row_at lines low low_row at_low))

pub returns-clause-high_grounded : goal.returns-clause-high_grounded
returns-clause-high_grounded g c =
    let lines = c.args.lines.items in
    let rows = rows_of lines in
    let callers = c.args.callers.items in
    let high = c.args.high in
    let two = c.from-two.ensures in
    let known = c.requires.known in
    let count = c.requires.tied.count in
    let all = rows_count lines in
    let row = c.swap_remove-row.result in
    let caller = c.swap_remove-caller.result in
    let at = read_at lines c.from-two.result high row (omega (arith, two)) known c.swap_remove-row.ensures.value in
    let at_caller = read_at callers c.from-two.result high caller (omega (arith, two)) (omega (arith, known, count, all))
    c.swap_remove-caller.ensures.value in
    on_one c.end_host-other.result c.both.result (λ (journals : Log × Log). journals.1) (AreMapsGrounded (holdings caller.places) row.items)
    (IsGroundedAt callers rows high) c.both.ensures.other c.end_host-other.ensures.grounded
    (grounded_at callers rows high caller row.items at_caller (row_at lines high row at))

-- refused where a host's ends are kept
pub returns-clause-out : goal.returns-clause-out
returns-clause-out g c =
    let lines = c.args.lines.items in
    let low = c.args.low in
    let high = c.args.high in
    let one = c.from-one.ensures in
    let two = c.from-two.ensures in
    let known = c.requires.known in
    let ordered = c.requires.ordered in
    let fewer = c.swap_remove-row.ensures.items in
    let first = row_out lines c.from-two.result high c.swap_remove-row.result (omega (arith, two)) known c.swap_remove-row.ensures.value in
    let mid = ap (λ l. ends_of_all (rows_of l)) fewer in
    let short = ap length fewer ∙ length_fewer lines c.from-two.result c.swap_remove-row.result (omega (arith, two, known)) in
    let second = row_out c.swap_remove-row.new.self.items c.from-one.result low c.swap_remove-row-2.result (omega (arith, one))
    (omega (arith, short, ordered, known)) c.swap_remove-row-2.ensures.value in
    let rest = ap (λ l. ends_of_all (rows_of l)) c.swap_remove-row-2.ensures.items in
    omega (arith, first, mid, second, rest, c.end_host-other.ensures.out, c.end_host-own.ensures.out, c.end_lines.ensures.out)

pub returns-clause-risen : goal.returns-clause-risen
returns-clause-risen g c = λ before fits risen.
    c.end_lines.ensures.risen before fits (c.end_host-own.ensures.risen before fits (c.end_host-other.ensures.risen before fits risen))
