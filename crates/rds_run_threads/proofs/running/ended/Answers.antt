use Rattle.std.proofs.Common.{IfOk, List, Vec, ap, arith, subst, sym, true, ℕ, ◌≡◌}
use Rattle.std.specs.Global.{Global}
use Rattle.rds_link.specs.declared.wire.WireCounts.{WireCounts}
use Rattle.rds_run_hosts.specs.Giving.{HaveNewLines}
use Rattle.rds_run_hosts.specs.Preparing.{AreAllPrepared, HaveCounted}
use Rattle.rds_run_rounds.specs.Grid.{rows_of}
use Rattle.rds_run_rounds.specs.declared.verdict.Wanted.{Wanted}
use Rattle.rds_run_threads.specs.Cuts.{IsCutEnd}
use Rattle.rds_run_threads.specs.Known.{AreKnownOf}
use Rattle.rds_run_threads.proofs.Counted.{counted_of}
use Rattle.rds_run_threads.proofs.Finished.{all_done}
use Rattle.rds_run_threads.proofs.Begun.{begun_of}
use Rattle.rds_run_threads.proofs.UsedUp.{known_of_lines}
use Rattle.rds_run_threads.proofs.running.ended.Goals as goal

pub give_streams-requires-clause-new : goal.give_streams-requires-clause-new
give_streams-requires-clause-new g c =
    let made = c.in_ok-callers.ensures.lines in
    (c.args.limit, subst (λ (n : ℕ). HaveNewLines c.args.limit n (rows_of c.in_ok-callers.lines.items)) (sym made.count) made)

pub give_streams-requires-clause-streams : goal.give_streams-requires-clause-streams
give_streams-requires-clause-streams g c =
    let made = c.in_ok-callers.ensures.lines in
    subst (λ (n : ℕ). AreAllPrepared g.W.End.End.means n (rows_of c.in_ok-streams.field-0.streams.items)) (sym made.count) c.in_ok-streams.ensures.prepared

pub play-callers-requires-clause-parties : goal.play-callers-requires-clause-parties
play-callers-requires-clause-parties g c = λ κs within.
    c.give_streams.ensures.parties c.args.script.now.hosts c.in_ok-callers.callers.items c.in_ok-callers.ensures.parties

pub finish-requires-clause-hosts : goal.finish-requires-clause-hosts
finish-requires-clause-hosts g c = λ κs within.
    (c.args.limit, c.args.script.now.hosts, c.play-callers.ensures.hosts c.args.limit c.args.script.now.hosts (c.give_streams.ensures.hosts c.args.limit c.args.script.now.hosts c.requires.script.hosts_high c.in_ok-callers.ensures.lines))

pub finish-requires-clause-parties : goal.finish-requires-clause-parties
finish-requires-clause-parties g c = λ κs within.
    (c.args.script.now.hosts, c.requires.script.hosts_low, rw c.in-Ok.is at c.play-callers.ensures.parties)

pub returns-clause-end : goal.returns-clause-end
returns-clause-end g c =
    let hosts = c.args.script.now.hosts in
    let obeyed = rw c.in-Ok.is at c.play-callers.ensures.obeyed in
    let led = rw c.in-Ok.is at c.play-callers.ensures.led in
    let commands = c.args.script.now.commands.items in
    let before = (g.W.Wire.counted c.args.wire.now).faults in
    let after = (g.W.Wire.counted c.prepare.new.wire).faults in
    c.finish.ensures.end c.args.limit hosts commands before after
    (c.play-callers.ensures.hosts c.args.limit hosts (c.give_streams.ensures.hosts c.args.limit c.args.script.now.hosts c.requires.script.hosts_high c.in_ok-callers.ensures.lines))
    (all_done hosts commands _ _ _ c.in_ok-callers.ensures.new obeyed led)
    (c.play-callers.ensures.counted commands before after (c.give_streams.ensures.counted commands before after c.in_ok-streams.ensures.counted))
    (subst (λ (l : List (Vec Wanted Global)). AreKnownOf (rows_of l) commands (rows_of c.play-callers.result.1.items)) (sym c.as_slice-wanted.ensures.value)
    (known_of_lines commands (rows_of c.in_ok-streams.field-0.wanted.items) (rows_of c.in_ok-streams.field-0.streams.items) (rows_of c.play-callers.result.1.items)
    c.in_ok-streams.ensures.wanted (c.play-callers.ensures.numbered (rows_of c.in_ok-streams.field-0.streams.items) c.give_streams.ensures.numbered)))

pub returns-clause-counted : goal.returns-clause-counted
returns-clause-counted g c =
    let commands = c.args.script.now.commands.items in
    let wire = c.args.wire.now in
    let start = c.of-start.result in
    counted_of g.W.End.End.means.tells (start.can_fail ≡ true) (g.W.Wire.may_fail wire) c.of-start.ensures.can_fail.0 start.budget c.args.budget commands start.counts
    (g.W.Wire.counted wire) _ c.of-start.ensures.budget
    c.of-start.ensures.counts c.finish.result
    (c.finish.ensures.counted commands
    (subst (λ (l : List (Vec Wanted Global)). AreKnownOf (rows_of l) commands (rows_of c.play-callers.result.1.items)) (sym c.as_slice-wanted.ensures.value)
    (known_of_lines commands (rows_of c.in_ok-streams.field-0.wanted.items) (rows_of c.in_ok-streams.field-0.streams.items) (rows_of c.play-callers.result.1.items)
    c.in_ok-streams.ensures.wanted (c.play-callers.ensures.numbered (rows_of c.in_ok-streams.field-0.streams.items) c.give_streams.ensures.numbered))))

pub returns-clause-begun : goal.returns-clause-begun
returns-clause-begun g c =
    let hosts = c.args.script.now.hosts in
    let obeyed = rw c.in-Ok.is at c.play-callers.ensures.obeyed in
    let led = rw c.in-Ok.is at c.play-callers.ensures.led in
    let commands = c.args.script.now.commands.items in
    let before = (g.W.Wire.counted c.args.wire.now).faults in
    let middle = (g.W.Wire.counted c.prepare.new.wire).faults in
    let wire = c.args.wire.now in
    let now = c.finish.new.wire in
    let start = c.of-start.result in
    let same : start.counts.faults ≡ before = ap (λ (w : WireCounts). w.faults) c.of-start.ensures.counts in
    begun_of c.args.form g.W.End.End.means.tells c.args.limit hosts commands (g.W.Wire.may_fail wire) c.args.budget
    (g.W.Wire.counted wire)
    (g.W.Wire.counted now)
    (start.can_fail ≡ true) c.of-start.ensures.can_fail.0 start.budget start.counts c.of-start.ensures.budget c.of-start.ensures.counts
    (g.W.Wire.counted now).faults (g.K.Sink.held c.args.sink.now) (g.K.Sink.held c.finish.new.sink) c.finish.result
    (c.finish.ensures.begun c.args.limit hosts commands
    (c.play-callers.ensures.hosts c.args.limit hosts (c.give_streams.ensures.hosts c.args.limit c.args.script.now.hosts c.requires.script.hosts_high c.in_ok-callers.ensures.lines))
    (all_done hosts commands _ _ _ c.in_ok-callers.ensures.new obeyed led)
    (subst (λ (n : ℕ). HaveCounted commands n middle (rows_of c.play-callers.result.1.items)) (sym same)
    (c.play-callers.ensures.counted commands before middle (c.give_streams.ensures.counted commands before middle c.in_ok-streams.ensures.counted)))
    (subst (λ (l : List (Vec Wanted Global)). AreKnownOf (rows_of l) commands (rows_of c.play-callers.result.1.items)) (sym c.as_slice-wanted.ensures.value)
    (known_of_lines commands (rows_of c.in_ok-streams.field-0.wanted.items) (rows_of c.in_ok-streams.field-0.streams.items) (rows_of c.play-callers.result.1.items)
    c.in_ok-streams.ensures.wanted (c.play-callers.ensures.numbered (rows_of c.in_ok-streams.field-0.streams.items) c.give_streams.ensures.numbered))))

pub returns-clause-out : goal.returns-clause-out
returns-clause-out g c =
    let prepared = c.in_ok-streams.ensures.out in
    let made = c.give_streams.ensures.ends in
    let played = c.play-callers.ensures.ends in
    omega (arith, prepared, made, played, c.finish.ensures.out)

pub returns-clause-cut : goal.returns-clause-cut
returns-clause-cut g c =
    let hosts = c.args.script.now.hosts in
    let obeyed = rw c.in-Ok.is at c.play-callers.ensures.obeyed in
    let led = rw c.in-Ok.is at c.play-callers.ensures.led in
    let commands = c.args.script.now.commands.items in
    let before = (g.W.Wire.counted c.args.wire.now).faults in
    let middle = (g.W.Wire.counted c.prepare.new.wire).faults in
    let same : c.of-start.result.counts.faults ≡ before = ap (λ (w : WireCounts). w.faults) c.of-start.ensures.counts in
    subst (λ (n : ℕ). IfOk c.finish.result (IsCutEnd commands n (g.W.Wire.counted c.finish.new.wire).faults)) same
    (c.finish.ensures.cut c.args.limit hosts commands
    (c.play-callers.ensures.hosts c.args.limit hosts (c.give_streams.ensures.hosts c.args.limit c.args.script.now.hosts c.requires.script.hosts_high c.in_ok-callers.ensures.lines))
    (all_done hosts commands _ _ _ c.in_ok-callers.ensures.new obeyed led)
    (subst (λ (n : ℕ). HaveCounted commands n middle (rows_of c.play-callers.result.1.items)) (sym same)
    (c.play-callers.ensures.counted commands before middle (c.give_streams.ensures.counted commands before middle c.in_ok-streams.ensures.counted)))
    (subst (λ (l : List (Vec Wanted Global)). AreKnownOf (rows_of l) commands (rows_of c.play-callers.result.1.items)) (sym c.as_slice-wanted.ensures.value)
    (known_of_lines commands (rows_of c.in_ok-streams.field-0.wanted.items) (rows_of c.in_ok-streams.field-0.streams.items) (rows_of c.play-callers.result.1.items)
    c.in_ok-streams.ensures.wanted (c.play-callers.ensures.numbered (rows_of c.in_ok-streams.field-0.streams.items) c.give_streams.ensures.numbered))))
