use Rattle.std.proofs.Common.{Bool, ap, arith, length, refl, rules, subst, sym, true, ◌<◌, ◌^◌, ◌∙◌, ◌≡◌}
use Rattle.rds_link.specs.Seen.{SinkSeen}
use Rattle.rds_link.specs.Streaming.{HasRisen, HasRisenBy}
use Rattle.rds_link.specs.declared.wire.WireCounts.{WireCounts}
use Rattle.rds_model.specs.Past.{newest_stream}
use Rattle.rds_text.specs.FinalViews.{host_views}
use Rattle.rds_run_rounds.specs.Grid.{rows_of}
use Rattle.rds_run_threads.specs.Causes.{AreUnacknowledged}
use Rattle.rds_run_rounds.specs.declared.rounds.Rounds.TheVariants as rounds
use Rattle.rds_run_threads.specs.Counted.{EndsOweNothing, HaveAllUsedUp}
use Rattle.rds_run_threads.specs.Ends.{IsEndOfRun, Writes}
use Rattle.rds_run_threads.specs.Texts.{fault_line, text_of, unfinished_line}
use Rattle.rds_run_threads.specs.declared.form.RunEnd.TheVariants as ended
use Rattle.rds_run_threads.proofs.Counted.{as_tested, counted_fault, counted_ok, quiet_done, quiet_of}
use Rattle.rds_run_threads.proofs.CutsOfRun.{cut_ok}
use Rattle.rds_run_threads.proofs.Lacking.{lacking_in_run}
use Rattle.rds_run_threads.proofs.Rows.{rows_count}
use Rattle.rds_run_threads.proofs.Short.{short_of}
use Rattle.rds_run_threads.proofs.Spent.{full_in_run, full_two}
use Rattle.rds_run_threads.proofs.Written.{end_written, on_ok}
use Rattle.rds_text.specs.Lines.{spent_line}
use Rattle.rds_run_threads.proofs.Begun.{begun_ok}
use Rattle.rds_run_threads.proofs.ending.end_run.Goals as goal

pub end_by_spent-requires-clause-host : goal.end_by_spent-requires-clause-host
end_by_spent-requires-clause-host g c =
    let entries = c.in-Spent.entries in
    let two = full_two g.W.End.End.means c.requires.done.0 c.requires.done.1 (rows_of c.args.lines.items) c.requires.done.2 c.in-Spent.host c.in-Spent.peer entries
    (c.requires.spent c.in-Spent.host c.in-Spent.peer entries c.in-Spent.is) in
    two.few

pub end_by_spent-requires-clause-peer : goal.end_by_spent-requires-clause-peer
end_by_spent-requires-clause-peer g c =
    let entries = c.in-Spent.entries in
    let two = full_two g.W.End.End.means c.requires.done.0 c.requires.done.1 (rows_of c.args.lines.items) c.requires.done.2 c.in-Spent.host c.in-Spent.peer entries
    (c.requires.spent c.in-Spent.host c.in-Spent.peer entries c.in-Spent.is) in
    two.few_peers

pub returns-in_ok-own-in-Spent-clause-end : goal.returns-in_ok-own-in-Spent-clause-end
returns-in_ok-own-in-Spent-clause-end g c = λ limit hosts commands before after done did counted missed.
    let host = c.in-Spent.host in
    let peer = c.in-Spent.peer in
    let entries = c.in-Spent.entries in
    let own = c.in_ok-own-in-Spent.own in
    let other = c.in_ok-own-in-Spent.other in
    let m = g.W.End.End.means in
    let rows = rows_of c.args.lines.items in
    let full =
    full_in_run m limit hosts c.args.callers.items rows done c.requires.tied commands did before after counted host peer entries
    (c.requires.spent host peer entries c.in-Spent.is) own.past other.past c.in_ok-own-in-Spent.ensures.own c.in_ok-own-in-Spent.ensures.other
    c.in_ok-own-in-Spent.ensures.own_orders c.in_ok-own-in-Spent.ensures.other_orders c.in_ok-own-in-Spent.ensures.own_grounded
    c.in_ok-own-in-Spent.ensures.other_grounded in
    let sink : SinkSeen = record {
      held_before = g.K.Sink.held c.args.sink.now;
      held_after = g.K.Sink.held c.end_by_spent.new.sink;
      faults_before = g.K.Sink.faults c.args.sink.now;
      faults_after = g.K.Sink.faults c.end_by_spent.new.sink;
    } in
    on_ok (Writes sink (spent_line host peer entries) (ended.Spent host peer entries own other))
    (IsEndOfRun c.args.form g.W.End.End.means.tells limit hosts commands sink) c.end_by_spent.result
    (end_written c.args.form g.W.End.End.means.tells limit hosts commands sink (spent_line host peer entries) (ended.Spent host peer entries own other) (full, refl))
    c.end_by_spent.ensures.end

pub returns-in_ok-ends-in-Done-clause-end : goal.returns-in_ok-ends-in-Done-clause-end
returns-in_ok-ends-in-Done-clause-end g c = λ limit hosts commands before after done did counted missed.
    let ends = c.in_ok-ends-in-Done.ends in
    let text = text_of c.args.form (host_views ends.items) in
    let sink : SinkSeen = record {
      held_before = g.K.Sink.held c.args.sink.now;
      held_after = g.K.Sink.held c.end_by_report.new.sink;
      faults_before = g.K.Sink.faults c.args.sink.now;
      faults_after = g.K.Sink.faults c.end_by_report.new.sink;
    } in
    on_ok (Writes sink text (ended.Ok ends)) (IsEndOfRun c.args.form g.W.End.End.means.tells limit hosts commands sink) c.end_by_report.result
    (end_written c.args.form g.W.End.End.means.tells limit hosts commands sink text (ended.Ok ends) (
      c.in_ok-ends-in-Done.ensures.ends limit hosts commands done did,
      c.in_ok-ends-in-Done.ensures.acknowledged limit hosts commands done did (c.requires.acknowledged c.in-Done.is),
      λ tells. c.in_ok-ends-in-Done.ensures.settled limit hosts commands done did tells (c.requires.drained tells c.in-Done.is),
      c.in_ok-ends-in-Done.ensures.room limit hosts done (c.requires.room (quiet_done c.args.end c.in-Done.is)),
      refl,
    )) c.end_by_report.ensures.end

pub returns-else-not-has_waited-clause-end : goal.returns-else-not-has_waited-clause-end
returns-else-not-has_waited-clause-end g c = λ limit hosts commands before after done did counted missed.
    let ends = c.in_ok-ends-in-Unfinished.ends in
    let count = c.in-Unfinished.count in
    let alive = c.requires.unacked count c.in-Unfinished.unwritten c.in-Unfinished.connected c.in-Unfinished.is in
    let unacked : AreUnacknowledged g.W.End.End.means.tells count (host_views ends.items) =
    record { untold = alive.untold; some = alive.some; all = alive.all ∙ sym c.in_ok-ends-in-Unfinished.ensures.alive } in
    let room = c.in_ok-ends-in-Unfinished.ensures.room limit hosts done
    (c.requires.room (quiet_of c.args.end count c.in-Unfinished.unwritten c.in-Unfinished.connected c.in-Unfinished.is)) in
    let sink : SinkSeen = record {
      held_before = g.K.Sink.held c.args.sink.now;
      held_after = g.K.Sink.held c.end_unfinished.new.sink;
      faults_before = g.K.Sink.faults c.args.sink.now;
      faults_after = g.K.Sink.faults c.end_unfinished.new.sink;
    } in
    on_ok (Writes sink (unfinished_line count) (ended.Unfinished count ends)) (IsEndOfRun c.args.form g.W.End.End.means.tells limit hosts commands sink)
    c.end_unfinished.result
    (end_written c.args.form g.W.End.End.means.tells limit hosts commands sink (unfinished_line count) (ended.Unfinished count ends)
    (c.in_ok-ends-in-Unfinished.ensures.ends limit hosts commands done did, unacked, room, refl)) c.end_unfinished.ensures.end

pub returns-else-not-has_faulted-clause-end : goal.returns-else-not-has_faulted-clause-end
returns-else-not-has_faulted-clause-end g c = λ limit hosts commands before after done did counted missed.
    let low = c.in-Fault.low in
    let high = c.in-Fault.high in
    let own = c.in_ok-one-in-Fault.one in
    let other = c.in_ok-one-in-Fault.other in
    let stream = newest_stream own.past in
    let found_hosts = c.requires.fault low high c.in-Fault.is in
    let misses = missed low high c.in-Fault.is in
    let known : high < length (rows_of c.args.lines.items) = omega (arith, found_hosts.1, rows_count c.args.lines.items) in
    let lacking =
    lacking_in_run g.W.End.End.means limit hosts c.args.callers.items (rows_of c.args.lines.items) done c.requires.tied commands did before after counted
    c.requires.streams low high misses found_hosts.0 known own.past other.past c.in_ok-one-in-Fault.ensures.own
    c.in_ok-one-in-Fault.ensures.other c.in_ok-one-in-Fault.ensures.own_orders c.in_ok-one-in-Fault.ensures.other_orders
    c.in_ok-one-in-Fault.ensures.own_grounded c.in_ok-one-in-Fault.ensures.other_grounded in
    let sink : SinkSeen = record {
      held_before = g.K.Sink.held c.args.sink.now;
      held_after = g.K.Sink.held c.end_by_fault.new.sink;
      faults_before = g.K.Sink.faults c.args.sink.now;
      faults_after = g.K.Sink.faults c.end_by_fault.new.sink;
    } in
    on_ok (Writes sink (fault_line low high stream) (ended.WireFault low high stream own other))
    (IsEndOfRun c.args.form g.W.End.End.means.tells limit hosts commands sink) c.end_by_fault.result
    (end_written c.args.form g.W.End.End.means.tells limit hosts commands sink (fault_line low high stream) (ended.WireFault low high stream own other) (lacking, refl))
    c.end_by_fault.ensures.end

pub returns-in_ok-ends-in-Done-clause-counted : goal.returns-in_ok-ends-in-Done-clause-counted
returns-in_ok-ends-in-Done-clause-counted g c = λ commands used.
    let ends = c.in_ok-ends-in-Done.ends in
    let sink : SinkSeen = record {
      held_before = g.K.Sink.held c.args.sink.now;
      held_after = g.K.Sink.held c.end_by_report.new.sink;
      faults_before = g.K.Sink.faults c.args.sink.now;
      faults_after = g.K.Sink.faults c.end_by_report.new.sink;
    } in
    counted_ok _ _ _ commands _ _ sink (text_of c.args.form (host_views ends.items)) (ended.Ok ends) c.end_by_report.result tt c.end_by_report.ensures.end

pub returns-in_ok-own-in-Spent-clause-counted : goal.returns-in_ok-own-in-Spent-clause-counted
returns-in_ok-own-in-Spent-clause-counted g c = λ commands used.
    let own = c.in_ok-own-in-Spent.own in
    let other = c.in_ok-own-in-Spent.other in
    let sink : SinkSeen = record {
      held_before = g.K.Sink.held c.args.sink.now;
      held_after = g.K.Sink.held c.end_by_spent.new.sink;
      faults_before = g.K.Sink.faults c.args.sink.now;
      faults_after = g.K.Sink.faults c.end_by_spent.new.sink;
    } in
    counted_ok _ _ _ commands _ _ sink _ (ended.Spent c.in-Spent.host c.in-Spent.peer c.in-Spent.entries own other) c.end_by_spent.result tt
    c.end_by_spent.ensures.end

-- refused where nothing is asked of the counts
pub returns-else-not-has_faulted-clause-counted : goal.returns-else-not-has_faulted-clause-counted
returns-else-not-has_faulted-clause-counted g c = λ commands used.
    let low = c.in-Fault.low in
    let high = c.in-Fault.high in
    let own = c.in_ok-one-in-Fault.one in
    let other = c.in_ok-one-in-Fault.other in
    let stream = newest_stream own.past in
    let wire = c.journals.new.wire in
    let now : WireCounts = g.W.Wire.counted wire in
    let start = c.args.start in
    let is : c.has_faulted.result ≡ true = search rules in
    let found =
    counted_fault g.W.End.End.means.tells c.tells.result (start.can_fail ≡ true) start.budget commands start.counts c.counts-in-Fault.result now low high stream own other
    c.tells.ensures c.counts-in-Fault.ensures (c.has_faulted.ensures.0 is) in
    let sink : SinkSeen = record {
      held_before = g.K.Sink.held c.args.sink.now;
      held_after = g.K.Sink.held c.end_by_fault.new.sink;
      faults_before = g.K.Sink.faults c.args.sink.now;
      faults_after = g.K.Sink.faults c.end_by_fault.new.sink;
    } in
    counted_ok g.W.End.End.means.tells (start.can_fail ≡ true) start.budget commands start.counts now sink (fault_line low high stream)
    (ended.WireFault low high stream own other) c.end_by_fault.result found c.end_by_fault.ensures.end

-- refused where nothing is asked of the counts
pub returns-else-not-has_waited-clause-counted : goal.returns-else-not-has_waited-clause-counted
returns-else-not-has_waited-clause-counted g c = λ commands used.
    let ends = c.in_ok-ends-in-Unfinished.ends in
    let count = c.in-Unfinished.count in
    let unwritten = c.in-Unfinished.unwritten in
    let connected = c.in-Unfinished.connected in
    let is : c.has_waited.result ≡ true = search rules in
    let wire = c.host_ends-in-Unfinished.new.wire in
    let start = c.args.start in
    let after : WireCounts = g.W.Wire.counted wire in
    let found = subst (λ (now : WireCounts). (unwritten ≡ true → HasRisen start.counts.fulls now.fulls)
    × (connected ≡ true → HasRisenBy start.budget start.counts.nothings now.nothings)) c.counts.ensures (c.has_waited.ensures.0 is) in
    let sink : SinkSeen = record {
      held_before = g.K.Sink.held c.args.sink.now;
      held_after = g.K.Sink.held c.end_unfinished.new.sink;
      faults_before = g.K.Sink.faults c.args.sink.now;
      faults_after = g.K.Sink.faults c.end_unfinished.new.sink;
    } in
    counted_ok g.W.End.End.means.tells (start.can_fail ≡ true) start.budget commands start.counts after sink (unfinished_line count) (ended.Unfinished count ends)
    c.end_unfinished.result (
      as_tested (EndsOweNothing (host_views ends.items)) _ unwritten
          (λ off. c.in_ok-ends-in-Unfinished.ensures.owe
          (c.requires.owe count connected (c.in-Unfinished.is ∙ ap (λ (u : Bool). rounds.Unfinished count u connected) off)))
          found.0,
      as_tested (HaveAllUsedUp commands (host_views ends.items)) _ connected
          (λ off. c.in_ok-ends-in-Unfinished.ensures.used commands
          (c.requires.closed count unwritten (c.in-Unfinished.is ∙ ap (λ (o : Bool). rounds.Unfinished count unwritten o) off))
          (used (quiet_of c.args.end count unwritten connected c.in-Unfinished.is)))
          found.1,
    ) c.end_unfinished.ensures.end

pub returns-in_ok-ends-in-Done-clause-begun : goal.returns-in_ok-ends-in-Done-clause-begun
returns-in_ok-ends-in-Done-clause-begun g c = λ limit hosts commands before done did counted missed used fits.
    let ends = c.in_ok-ends-in-Done.ends in
    let wire = c.host_ends.new.wire in
    let now : WireCounts = g.W.Wire.counted wire in
    let start = c.args.start in
    let sink : SinkSeen = record {
      held_before = g.K.Sink.held c.args.sink.now;
      held_after = g.K.Sink.held c.end_by_report.new.sink;
      faults_before = g.K.Sink.faults c.args.sink.now;
      faults_after = g.K.Sink.faults c.end_by_report.new.sink;
    } in
    begun_ok c.args.form g.W.End.End.means.tells limit hosts commands (start.can_fail ≡ true) start.budget start.counts now before now.faults sink
    (text_of c.args.form (host_views ends.items)) (ended.Ok ends) (
      c.in_ok-ends-in-Done.ensures.ends limit hosts commands done did,
      c.in_ok-ends-in-Done.ensures.acknowledged limit hosts commands done did (c.requires.acknowledged c.in-Done.is),
      λ tells. c.in_ok-ends-in-Done.ensures.settled limit hosts commands done did tells (c.requires.drained tells c.in-Done.is),
      c.in_ok-ends-in-Done.ensures.room limit hosts done (c.requires.room (quiet_done c.args.end c.in-Done.is)),
      refl,
    ) tt (c.in_ok-ends-in-Done.ensures.cut limit hosts commands done did (used (quiet_done c.args.end c.in-Done.is))) c.end_by_report.result c.end_by_report.ensures.end

pub returns-in_ok-own-in-Spent-clause-begun : goal.returns-in_ok-own-in-Spent-clause-begun
returns-in_ok-own-in-Spent-clause-begun g c = λ limit hosts commands before done did counted missed used fits.
    let host = c.in-Spent.host in
    let peer = c.in-Spent.peer in
    let entries = c.in-Spent.entries in
    let own = c.in_ok-own-in-Spent.own in
    let other = c.in_ok-own-in-Spent.other in
    let m = g.W.End.End.means in
    let rows = rows_of c.args.lines.items in
    let full =
    full_in_run m limit hosts c.args.callers.items rows done c.requires.tied commands did before (g.W.Wire.counted c.args.wire.now).faults counted host peer entries
    (c.requires.spent host peer entries c.in-Spent.is) own.past other.past c.in_ok-own-in-Spent.ensures.own c.in_ok-own-in-Spent.ensures.other
    c.in_ok-own-in-Spent.ensures.own_orders c.in_ok-own-in-Spent.ensures.other_orders c.in_ok-own-in-Spent.ensures.own_grounded
    c.in_ok-own-in-Spent.ensures.other_grounded in
    let wire = c.journals-in-Spent.new.wire in
    let now : WireCounts = g.W.Wire.counted wire in
    let start = c.args.start in
    let sink : SinkSeen = record {
      held_before = g.K.Sink.held c.args.sink.now;
      held_after = g.K.Sink.held c.end_by_spent.new.sink;
      faults_before = g.K.Sink.faults c.args.sink.now;
      faults_after = g.K.Sink.faults c.end_by_spent.new.sink;
    } in
    begun_ok c.args.form g.W.End.End.means.tells limit hosts commands (start.can_fail ≡ true) start.budget start.counts now before now.faults sink
    (spent_line host peer entries) (ended.Spent host peer entries own other) (full, refl) tt tt c.end_by_spent.result c.end_by_spent.ensures.end

-- refused where the line of another cause is begun
pub returns-else-not-has_faulted-clause-begun : goal.returns-else-not-has_faulted-clause-begun
returns-else-not-has_faulted-clause-begun g c = λ limit hosts commands before done did counted missed used fits.
    let low = c.in-Fault.low in
    let high = c.in-Fault.high in
    let own = c.in_ok-one-in-Fault.one in
    let other = c.in_ok-one-in-Fault.other in
    let stream = newest_stream own.past in
    let found_hosts = c.requires.fault low high c.in-Fault.is in
    let misses = missed low high c.in-Fault.is in
    let known : high < length (rows_of c.args.lines.items) = omega (arith, found_hosts.1, rows_count c.args.lines.items) in
    let lacking =
    lacking_in_run g.W.End.End.means limit hosts c.args.callers.items (rows_of c.args.lines.items) done c.requires.tied commands did before (g.W.Wire.counted c.args.wire.now).faults counted
    c.requires.streams low high misses found_hosts.0 known own.past other.past c.in_ok-one-in-Fault.ensures.own
    c.in_ok-one-in-Fault.ensures.other c.in_ok-one-in-Fault.ensures.own_orders c.in_ok-one-in-Fault.ensures.other_orders
    c.in_ok-one-in-Fault.ensures.own_grounded c.in_ok-one-in-Fault.ensures.other_grounded in
    let wire = c.journals.new.wire in
    let now : WireCounts = g.W.Wire.counted wire in
    let start = c.args.start in
    let is : c.has_faulted.result ≡ true = search rules in
    let found =
    counted_fault g.W.End.End.means.tells c.tells.result (start.can_fail ≡ true) start.budget commands start.counts c.counts-in-Fault.result now low high stream own other
    c.tells.ensures c.counts-in-Fault.ensures (c.has_faulted.ensures.0 is) in
    let sink : SinkSeen = record {
      held_before = g.K.Sink.held c.args.sink.now;
      held_after = g.K.Sink.held c.end_by_fault.new.sink;
      faults_before = g.K.Sink.faults c.args.sink.now;
      faults_after = g.K.Sink.faults c.end_by_fault.new.sink;
    } in
    let fits_now : c.counts-in-Fault.result.faults < 2 ^ 64 = search rules in
    let short =
    short_of (rows_of c.args.lines.items) c.requires.streams g.W.End.End.means.tells misses.wanted low high misses.misses commands before
    (g.W.Wire.counted c.args.wire.now).faults (g.W.Wire.counted c.journals.new.wire).faults counted
    (subst (λ (w : WireCounts). w.faults < 2 ^ 64) c.counts-in-Fault.ensures fits_now) c.journals.ensures.risen own.past other.past
    c.in_ok-one-in-Fault.ensures.own c.in_ok-one-in-Fault.ensures.other in
    begun_ok c.args.form g.W.End.End.means.tells limit hosts commands (start.can_fail ≡ true) start.budget start.counts now before now.faults sink
    (fault_line low high stream) (ended.WireFault low high stream own other) (lacking, refl) found short c.end_by_fault.result c.end_by_fault.ensures.end

pub returns-else-not-has_waited-clause-begun : goal.returns-else-not-has_waited-clause-begun
returns-else-not-has_waited-clause-begun g c = λ limit hosts commands before done did counted missed used fits.
    let ends = c.in_ok-ends-in-Unfinished.ends in
    let count = c.in-Unfinished.count in
    let unwritten = c.in-Unfinished.unwritten in
    let connected = c.in-Unfinished.connected in
    let is : c.has_waited.result ≡ true = search rules in
    let alive = c.requires.unacked count unwritten connected c.in-Unfinished.is in
    let unacked : AreUnacknowledged g.W.End.End.means.tells count (host_views ends.items) =
    record { untold = alive.untold; some = alive.some; all = alive.all ∙ sym c.in_ok-ends-in-Unfinished.ensures.alive } in
    let room = c.in_ok-ends-in-Unfinished.ensures.room limit hosts done
    (c.requires.room (quiet_of c.args.end count c.in-Unfinished.unwritten c.in-Unfinished.connected c.in-Unfinished.is)) in
    let wire = c.host_ends-in-Unfinished.new.wire in
    let now : WireCounts = g.W.Wire.counted wire in
    let start = c.args.start in
    let found = subst (λ (n : WireCounts). (unwritten ≡ true → HasRisen start.counts.fulls n.fulls)
    × (connected ≡ true → HasRisenBy start.budget start.counts.nothings n.nothings)) c.counts.ensures (c.has_waited.ensures.0 is) in
    let sink : SinkSeen = record {
      held_before = g.K.Sink.held c.args.sink.now;
      held_after = g.K.Sink.held c.end_unfinished.new.sink;
      faults_before = g.K.Sink.faults c.args.sink.now;
      faults_after = g.K.Sink.faults c.end_unfinished.new.sink;
    } in
    begun_ok c.args.form g.W.End.End.means.tells limit hosts commands (start.can_fail ≡ true) start.budget start.counts now before now.faults sink
    (unfinished_line count) (ended.Unfinished count ends) (c.in_ok-ends-in-Unfinished.ensures.ends limit hosts commands done did, unacked, room, refl) (
      as_tested (EndsOweNothing (host_views ends.items)) _ unwritten
          (λ off. c.in_ok-ends-in-Unfinished.ensures.owe
          (c.requires.owe count connected (c.in-Unfinished.is ∙ ap (λ (u : Bool). rounds.Unfinished count u connected) off)))
          found.0,
      as_tested (HaveAllUsedUp commands (host_views ends.items)) _ connected
          (λ off. c.in_ok-ends-in-Unfinished.ensures.used commands
          (c.requires.closed count unwritten (c.in-Unfinished.is ∙ ap (λ (o : Bool). rounds.Unfinished count unwritten o) off))
          (used (quiet_of c.args.end count unwritten connected c.in-Unfinished.is)))
          found.1,
    ) (c.in_ok-ends-in-Unfinished.ensures.cut limit hosts commands done did (used (quiet_of c.args.end count c.in-Unfinished.unwritten c.in-Unfinished.connected c.in-Unfinished.is))) c.end_unfinished.result c.end_unfinished.ensures.end

-- refused where a line's cuts are lost
pub returns-in_ok-ends-in-Done-clause-cut : goal.returns-in_ok-ends-in-Done-clause-cut
returns-in_ok-ends-in-Done-clause-cut g c = λ limit hosts commands before done did counted missed used fits.
    let ends = c.in_ok-ends-in-Done.ends in
    let sink : SinkSeen = record {
      held_before = g.K.Sink.held c.args.sink.now;
      held_after = g.K.Sink.held c.end_by_report.new.sink;
      faults_before = g.K.Sink.faults c.args.sink.now;
      faults_after = g.K.Sink.faults c.end_by_report.new.sink;
    } in
    cut_ok commands before (g.W.Wire.counted c.host_ends.new.wire).faults sink (text_of c.args.form (host_views ends.items)) (ended.Ok ends) c.end_by_report.result
    (c.in_ok-ends-in-Done.ensures.cut limit hosts commands done did (used (quiet_done c.args.end c.in-Done.is))) c.end_by_report.ensures.end

-- refused where a line's cuts are lost
pub returns-else-not-has_waited-clause-cut : goal.returns-else-not-has_waited-clause-cut
returns-else-not-has_waited-clause-cut g c = λ limit hosts commands before done did counted missed used fits.
    let ends = c.in_ok-ends-in-Unfinished.ends in
    let count = c.in-Unfinished.count in
    let sink : SinkSeen = record {
      held_before = g.K.Sink.held c.args.sink.now;
      held_after = g.K.Sink.held c.end_unfinished.new.sink;
      faults_before = g.K.Sink.faults c.args.sink.now;
      faults_after = g.K.Sink.faults c.end_unfinished.new.sink;
    } in
    cut_ok commands before (g.W.Wire.counted c.host_ends-in-Unfinished.new.wire).faults sink (unfinished_line count) (ended.Unfinished count ends) c.end_unfinished.result
    (c.in_ok-ends-in-Unfinished.ensures.cut limit hosts commands done did (used (quiet_of c.args.end count c.in-Unfinished.unwritten c.in-Unfinished.connected c.in-Unfinished.is))) c.end_unfinished.ensures.end

pub returns-else-not-has_faulted-clause-cut : goal.returns-else-not-has_faulted-clause-cut
returns-else-not-has_faulted-clause-cut g c = λ limit hosts commands before done did counted missed used fits.
    let low = c.in-Fault.low in
    let high = c.in-Fault.high in
    let own = c.in_ok-one-in-Fault.one in
    let other = c.in_ok-one-in-Fault.other in
    let stream = newest_stream own.past in
    let sink : SinkSeen = record {
      held_before = g.K.Sink.held c.args.sink.now;
      held_after = g.K.Sink.held c.end_by_fault.new.sink;
      faults_before = g.K.Sink.faults c.args.sink.now;
      faults_after = g.K.Sink.faults c.end_by_fault.new.sink;
    } in
    let misses = missed low high c.in-Fault.is in
    let fits_now : c.counts-in-Fault.result.faults < 2 ^ 64 = search rules in
    let short =
    short_of (rows_of c.args.lines.items) c.requires.streams g.W.End.End.means.tells misses.wanted low high misses.misses commands before
    (g.W.Wire.counted c.args.wire.now).faults (g.W.Wire.counted c.journals.new.wire).faults counted
    (subst (λ (w : WireCounts). w.faults < 2 ^ 64) c.counts-in-Fault.ensures fits_now) c.journals.ensures.risen own.past other.past
    c.in_ok-one-in-Fault.ensures.own c.in_ok-one-in-Fault.ensures.other in
    cut_ok commands before _ sink (fault_line low high stream) (ended.WireFault low high stream own other) c.end_by_fault.result short c.end_by_fault.ensures.end

pub returns-in_ok-own-in-Spent-clause-cut : goal.returns-in_ok-own-in-Spent-clause-cut
returns-in_ok-own-in-Spent-clause-cut g c = λ limit hosts commands before done did counted missed used fits.
    let own = c.in_ok-own-in-Spent.own in
    let other = c.in_ok-own-in-Spent.other in
    let sink : SinkSeen = record {
      held_before = g.K.Sink.held c.args.sink.now;
      held_after = g.K.Sink.held c.end_by_spent.new.sink;
      faults_before = g.K.Sink.faults c.args.sink.now;
      faults_after = g.K.Sink.faults c.end_by_spent.new.sink;
    } in
    cut_ok commands before _ sink _ (ended.Spent c.in-Spent.host c.in-Spent.peer c.in-Spent.entries own other) c.end_by_spent.result tt
    c.end_by_spent.ensures.end

pub journals-requires-in-Spent-clause-host : goal.journals-requires-in-Spent-clause-host
journals-requires-in-Spent-clause-host g c =
    let entries = c.in-Spent.entries in
    let two = full_two g.W.End.End.means c.requires.done.0 c.requires.done.1 (rows_of c.args.lines.items) c.requires.done.2 c.in-Spent.host c.in-Spent.peer entries
    (c.requires.spent c.in-Spent.host c.in-Spent.peer entries c.in-Spent.is) in
    let first = two.first in
    let count = c.requires.done.2.shape.count in
    omega (arith, first, count, rows_count c.args.lines.items)

pub journals-requires-in-Spent-clause-peer : goal.journals-requires-in-Spent-clause-peer
journals-requires-in-Spent-clause-peer g c =
    let entries = c.in-Spent.entries in
    let two = full_two g.W.End.End.means c.requires.done.0 c.requires.done.1 (rows_of c.args.lines.items) c.requires.done.2 c.in-Spent.host c.in-Spent.peer entries
    (c.requires.spent c.in-Spent.host c.in-Spent.peer entries c.in-Spent.is) in
    let second = two.second in
    let count = c.requires.done.2.shape.count in
    omega (arith, second, count, rows_count c.args.lines.items)

pub journals-requires-in-Spent-clause-apart : goal.journals-requires-in-Spent-clause-apart
journals-requires-in-Spent-clause-apart g c =
    let entries = c.in-Spent.entries in
    let two = full_two g.W.End.End.means c.requires.done.0 c.requires.done.1 (rows_of c.args.lines.items) c.requires.done.2 c.in-Spent.host c.in-Spent.peer entries
    (c.requires.spent c.in-Spent.host c.in-Spent.peer entries c.in-Spent.is) in
    two.apart
