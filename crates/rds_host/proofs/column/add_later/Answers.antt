use Rattle.std.proofs.Common.{◌≡◌, ◌≤◌, ◌-◌, ap, ◌∙◌, arith}
use Rattle.rds_host.specs.Ties.{putters_from}
use Rattle.rds_host.proofs.Columns.{later_more}
use Rattle.rds_host.proofs.Pushing.{after_splits}
use Rattle.rds_host.proofs.column.add_later.Goals as goal

pub loop-preserved : goal.loop-preserved
loop-preserved c =
    let low : 1 ≤ c.loop.counter = omega arith in
    later_more c.args.queue.now.line c.args.slots c.loop.counter c.loop.put c.split.new.pass c.split.result c.loop.passes.items c.push.new.self.items low
    c.loop.invariant.0 c.loop.invariant.1 c.split.ensures.pass c.split.ensures.new c.in_ok-push.ensures.items

pub returns-clause-passes : goal.returns-clause-passes
returns-clause-passes c =
    let count : c.loop.counter - 1 ≡ c.args.slots - 1 = omega (arith, c.loop-test.false) in
    c.loop.invariant.1 ∙ ap (putters_from c.args.queue.now.line c.args.slots 1) count

pub returns-clause-put : goal.returns-clause-put
returns-clause-put c =
    let count : c.loop.counter - 1 ≡ c.args.slots - 1 = omega (arith, c.loop-test.false) in
    c.loop.invariant.0 ∙ ap (after_splits c.args.queue.now.line) count
