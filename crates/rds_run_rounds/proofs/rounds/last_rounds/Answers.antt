use Rattle.std.proofs.Common.{◌≡◌, Some, false, ap, length, max, min, subst, ◌∙◌, arith}
use Rattle.rds_run_rounds.specs.Causes.{AreUnacked, alive_in_rows}
use Rattle.rds_run_rounds.specs.Grid.{rows_of}
use Rattle.rds_run_rounds.specs.Sweep.{IsPairBelow}
use Rattle.rds_run_rounds.specs.declared.rounds.Rounds.TheVariants as ended
use Rattle.rds_run_rounds.proofs.Alive.{none_alive, told_or_not}
use Rattle.rds_run_rounds.proofs.Going.{rows_same, rows_through}
use Rattle.rds_run_rounds.proofs.Halves.{rows_count}
use Rattle.rds_run_rounds.proofs.Swept.{all_pairs, done_swept, drained_swept, full_host, goes_swept, hosts_swept, left_swept, lowest_fault, lowest_since, lowest_spent, missing_hosts, missing_within, owes_swept, quiet_swept, room_swept}
use Rattle.rds_run_rounds.proofs.rounds.last_rounds.Goals as goal

pub loop-init : goal.loop-init
loop-init g c = (λ limit hosts are. are, rows_same (rows_of c.args.lines.now.items))

pub round_of_all-came-requires : goal.round_of_all-came-requires
round_of_all-came-requires g c = (c.requires.0, c.requires.1, c.loop.invariant.0 c.requires.0 c.requires.1 c.requires.2)

pub loop-preserved : goal.loop-preserved
loop-preserved g c =
    let m = g.W.End.End.means in
    let n = length c.loop.lines.items in
    let old = rows_of c.loop.lines.items in
    let new = rows_of c.round_of_all-came.new.lines.items in
    let came = c.round_of_all-came.result in
    let swept = c.round_of_all-came.ensures in (
      λ limit hosts are. hosts_swept m (rows_of c.args.wanted.now) (IsPairBelow n n) came old new swept limit hosts (c.loop.invariant.0 limit hosts are),
      rows_through (rows_of c.args.lines.now.items) old new c.loop.invariant.1
          (goes_swept m (rows_of c.args.wanted.now) (IsPairBelow n n) came old new swept c.requires.0 c.requires.1 (c.loop.invariant.0 c.requires.0 c.requires.1 c.requires.2)),
    )

pub returns-in-Some-end_after-clause-done : goal.returns-in-Some-end_after-clause-done
returns-in-Some-end_after-clause-done g c = λ limit hosts are.
    let m = g.W.End.End.means in
    let n = length c.loop.lines.items in
    let old = rows_of c.loop.lines.items in
    let new = rows_of c.round_of_all-came.new.lines.items in
    let came = c.round_of_all-came.result in
    let swept = c.round_of_all-came.ensures in
    done_swept m (rows_of c.args.wanted.now) (IsPairBelow n n) came old new swept limit hosts (c.loop.invariant.0 limit hosts are)
    (all_pairs m (rows_of c.args.wanted.now) n came old new swept (rows_count c.loop.lines.items))

pub returns-in-Some-end_after-clause-rows : goal.returns-in-Some-end_after-clause-rows
returns-in-Some-end_after-clause-rows g c =
    let m = g.W.End.End.means in
    let n = length c.loop.lines.items in
    let old = rows_of c.loop.lines.items in
    let new = rows_of c.round_of_all-came.new.lines.items in
    let came = c.round_of_all-came.result in
    let swept = c.round_of_all-came.ensures in
    rows_through (rows_of c.args.lines.now.items) old new c.loop.invariant.1
    (goes_swept m (rows_of c.args.wanted.now) (IsPairBelow n n) came old new swept c.requires.0 c.requires.1 (c.loop.invariant.0 c.requires.0 c.requires.1 c.requires.2))

pub returns-in-Some-end_after-clause-quiet : goal.returns-in-Some-end_after-clause-quiet
returns-in-Some-end_after-clause-quiet g c = λ ends.
    let m = g.W.End.End.means in
    let n = length c.loop.lines.items in
    let old = rows_of c.loop.lines.items in
    let new = rows_of c.round_of_all-came.new.lines.items in
    let came = c.round_of_all-came.result in
    let swept = c.round_of_all-came.ensures in
    quiet_swept m (rows_of c.args.wanted.now) (IsPairBelow n n) came old new swept c.requires.0 c.requires.1 (c.loop.invariant.0 c.requires.0 c.requires.1 c.requires.2)
    (all_pairs m (rows_of c.args.wanted.now) n came old new swept (rows_count c.loop.lines.items)) (c.end_after.ensures.quiet c.in-Some-end_after.end c.in-Some-end_after.is ends)

pub returns-in-Some-end_after-clause-room : goal.returns-in-Some-end_after-clause-room
returns-in-Some-end_after-clause-room g c = λ ends.
    let m = g.W.End.End.means in
    let n = length c.loop.lines.items in
    let old = rows_of c.loop.lines.items in
    let new = rows_of c.round_of_all-came.new.lines.items in
    let came = c.round_of_all-came.result in
    let swept = c.round_of_all-came.ensures in
    room_swept m (rows_of c.args.wanted.now) (IsPairBelow n n) came old new swept c.requires.0 c.requires.1 (c.loop.invariant.0 c.requires.0 c.requires.1 c.requires.2)
    (all_pairs m (rows_of c.args.wanted.now) n came old new swept (rows_count c.loop.lines.items)) (c.end_after.ensures.quiet c.in-Some-end_after.end c.in-Some-end_after.is ends)

pub returns-in-Some-end_after-clause-left : goal.returns-in-Some-end_after-clause-left
returns-in-Some-end_after-clause-left g c = λ ends.
    let m = g.W.End.End.means in
    let n = length c.loop.lines.items in
    let old = rows_of c.loop.lines.items in
    let new = rows_of c.round_of_all-came.new.lines.items in
    let came = c.round_of_all-came.result in
    let swept = c.round_of_all-came.ensures in
    left_swept m (rows_of c.args.wanted.now) (IsPairBelow n n) came old new swept c.requires.0 c.requires.1
    (c.loop.invariant.0 c.requires.0 c.requires.1 c.requires.2) (all_pairs m (rows_of c.args.wanted.now) n came old new swept (rows_count c.loop.lines.items))
    (c.end_after.ensures.quiet c.in-Some-end_after.end c.in-Some-end_after.is ends)

pub returns-in-Some-end_after-clause-drained : goal.returns-in-Some-end_after-clause-drained
returns-in-Some-end_after-clause-drained g c = λ tells done.
    let m = g.W.End.End.means in
    let n = length c.loop.lines.items in
    let old = rows_of c.loop.lines.items in
    let new = rows_of c.round_of_all-came.new.lines.items in
    let came = c.round_of_all-came.result in
    let swept = c.round_of_all-came.ensures in
    let is = c.in-Some-end_after.is ∙ ap Some done in
    drained_swept m (rows_of c.args.wanted.now) (IsPairBelow n n) came old new swept c.requires.0 c.requires.1 (c.loop.invariant.0 c.requires.0 c.requires.1 c.requires.2)
    (all_pairs m (rows_of c.args.wanted.now) n came old new swept (rows_count c.loop.lines.items)) tells (c.end_after.ensures.quiet ended.Done is tt)
    (c.end_after.ensures.written (c.tells.ensures ∙ tells) is)

pub returns-in-Some-end_after-clause-acknowledged : goal.returns-in-Some-end_after-clause-acknowledged
returns-in-Some-end_after-clause-acknowledged g c = λ done.
    let m = g.W.End.End.means in
    let n = length c.loop.lines.items in
    let old = rows_of c.loop.lines.items in
    let new = rows_of c.round_of_all-came.new.lines.items in
    let came = c.round_of_all-came.result in
    let swept = c.round_of_all-came.ensures in
    let hosts = c.requires.1 in
    let were = c.loop.invariant.0 c.requires.0 hosts c.requires.2 in
    let are = hosts_swept m (rows_of c.args.wanted.now) (IsPairBelow n n) came old new swept c.requires.0 hosts were in
    let is = c.in-Some-end_after.is ∙ ap Some done in
    told_or_not m.tells (alive_in_rows new ≡ 0)
    (λ tells.
    none_alive hosts new are.shape
    (drained_swept m (rows_of c.args.wanted.now) (IsPairBelow n n) came old new swept c.requires.0 hosts were (all_pairs m (rows_of c.args.wanted.now) n came old new swept (rows_count c.loop.lines.items)) tells
    (c.end_after.ensures.quiet ended.Done is tt) (c.end_after.ensures.written (c.tells.ensures ∙ tells) is)))
    (λ untold. c.end_after.ensures.acknowledged (c.tells.ensures ∙ untold) is)

pub returns-in-Some-end_after-clause-spent : goal.returns-in-Some-end_after-clause-spent
returns-in-Some-end_after-clause-spent g c = λ host peer entries spent.
    let n = length c.loop.lines.items in
    let is = c.in-Some-end_after.is ∙ ap Some spent in
    full_host (IsPairBelow n n) host peer entries (rows_of c.round_of_all-came.new.lines.items)
    (c.round_of_all-came.ensures.spent host peer entries (c.end_after.ensures.spent host peer entries is))

pub returns-in-Some-end_after-clause-fault : goal.returns-in-Some-end_after-clause-fault
returns-in-Some-end_after-clause-fault g c = λ low high fault.
    let m = g.W.End.End.means in
    let n = length c.loop.lines.items in
    let new = c.round_of_all-came.new.lines.items in
    let is = c.in-Some-end_after.is ∙ ap Some fault in
    let within =
    missing_within m.tells (rows_of c.args.wanted.now) low high (rows_of new)
    (missing_hosts m.tells (rows_of c.args.wanted.now) (IsPairBelow n n) low high (rows_of new) (c.round_of_all-came.ensures.fault low high (c.end_after.ensures.fault low high is))) in
    (within.0, (let count = rows_count new in let below = within.1 in omega (arith, count, below)))

pub returns-in-Some-end_after-clause-misses : goal.returns-in-Some-end_after-clause-misses
returns-in-Some-end_after-clause-misses g c = λ low high fault.
    let n = length c.loop.lines.items in
    let is = c.in-Some-end_after.is ∙ ap Some fault in
    missing_hosts g.W.End.End.means.tells (rows_of c.args.wanted.now) (IsPairBelow n n) low high (rows_of c.round_of_all-came.new.lines.items)
    (c.round_of_all-came.ensures.fault low high (c.end_after.ensures.fault low high is))

pub returns-in-Some-end_after-clause-lowest : goal.returns-in-Some-end_after-clause-lowest
returns-in-Some-end_after-clause-lowest g c = λ low high fault.
    let m = g.W.End.End.means in
    let n = length c.loop.lines.items in
    let old = rows_of c.loop.lines.items in
    let new = rows_of c.round_of_all-came.new.lines.items in
    let came = c.round_of_all-came.result in
    let swept = c.round_of_all-came.ensures in
    let is = c.in-Some-end_after.is ∙ ap Some fault in
    lowest_since m.tells (rows_of c.args.wanted.now) low high (rows_of c.args.lines.now.items) old new c.loop.invariant.1
    (lowest_fault m (rows_of c.args.wanted.now) (IsPairBelow n n) came old new swept low high (c.end_after.ensures.fault low high is)
    (all_pairs m (rows_of c.args.wanted.now) n came old new swept (rows_count c.loop.lines.items)))

pub returns-in-Some-end_after-clause-lowest_full : goal.returns-in-Some-end_after-clause-lowest_full
returns-in-Some-end_after-clause-lowest_full g c = λ host peer entries spent.
    let m = g.W.End.End.means in
    let n = length c.loop.lines.items in
    let old = rows_of c.loop.lines.items in
    let new = rows_of c.round_of_all-came.new.lines.items in
    let came = c.round_of_all-came.result in
    let swept = c.round_of_all-came.ensures in
    let is = c.in-Some-end_after.is ∙ ap Some spent in
    lowest_since m.tells (rows_of c.args.wanted.now) (min host peer) (max host peer) (rows_of c.args.lines.now.items) old new c.loop.invariant.1
    (lowest_spent m (rows_of c.args.wanted.now) (IsPairBelow n n) came old new swept host peer entries (c.end_after.ensures.spent host peer entries is)
    (all_pairs m (rows_of c.args.wanted.now) n came old new swept (rows_count c.loop.lines.items)))

pub end_after-requires : goal.end_after-requires
end_after-requires g c =
    let n = length c.loop.lines.items in
    let hosts = c.requires.1 in
    let are =
    hosts_swept g.W.End.End.means (rows_of c.args.wanted.now) (IsPairBelow n n) c.round_of_all-came.result (rows_of c.loop.lines.items) (rows_of c.round_of_all-came.new.lines.items)
    c.round_of_all-came.ensures c.requires.0 hosts (c.loop.invariant.0 c.requires.0 hosts c.requires.2) in
    (hosts, are.few, are.shape)

pub returns-in-Some-end_after-clause-unfinished : goal.returns-in-Some-end_after-clause-unfinished
returns-in-Some-end_after-clause-unfinished g c = λ count unwritten connected unfinished.
    let is = c.in-Some-end_after.is ∙ ap Some unfinished in
    subst (λ b. AreUnacked b count (rows_of c.round_of_all-came.new.lines.items)) c.tells.ensures (c.end_after.ensures.unfinished count unwritten connected is)

pub returns-in-Some-end_after-clause-owes : goal.returns-in-Some-end_after-clause-owes
returns-in-Some-end_after-clause-owes g c = λ count connected unfinished.
    let m = g.W.End.End.means in
    let n = length c.loop.lines.items in
    let old = rows_of c.loop.lines.items in
    let new = rows_of c.round_of_all-came.new.lines.items in
    let came = c.round_of_all-came.result in
    let swept = c.round_of_all-came.ensures in
    let is = c.in-Some-end_after.is ∙ ap Some unfinished in
    owes_swept m (rows_of c.args.wanted.now) (IsPairBelow n n) came old new swept c.requires.0 c.requires.1 (c.loop.invariant.0 c.requires.0 c.requires.1 c.requires.2)
    (all_pairs m (rows_of c.args.wanted.now) n came old new swept (rows_count c.loop.lines.items))
    (c.end_after.ensures.quiet (ended.Unfinished count false connected) is tt) (c.end_after.ensures.left count connected is)

pub returns-in-Some-end_after-clause-closed : goal.returns-in-Some-end_after-clause-closed
returns-in-Some-end_after-clause-closed g c = λ count unwritten unfinished.
    c.end_after.ensures.closed count unwritten (c.in-Some-end_after.is ∙ ap Some unfinished)
