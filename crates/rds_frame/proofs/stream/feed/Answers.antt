use Rattle.std.proofs.Common.{◌∙◌, sym}
use Rattle.std.proofs.lemmas.List.{take_rest}
use Rattle.std.proofs.lemmas.Result.{err_from_is_err_and}
use Rattle.rds_frame.proofs.Feeding.{IsFeeding-more, IsFeeding-whole, IsFeeding-refuses}
use Rattle.rds_frame.proofs.stream.feed.Goals as goal

pub returns-in_err-took-clause-malformed : goal.returns-in_err-took-clause-malformed
returns-in_err-took-clause-malformed g c =
    let loop = c.loop-took in
    let p = err_from_is_err_and c.from_residual.result c.from_residual.ensures.1 in
    let failed = c.in_err-took.ensures {u = tt} in
    λ fault same. IsFeeding-refuses c.args.highest c.args.known g.bytes c.args.piece.now loop.left.now loop.frames.items loop.splitter c.take.new.self fault
    loop.invariant (failed.malformed fault (cc))

pub returns-in_default-clause-fed : goal.returns-in_default-clause-fed
returns-in_default-clause-fed g c =
    let loop = c.loop-took in
    let took = c.in_ok-took.ensures {u = tt} in
    IsFeeding-whole c.args.highest c.args.known g.bytes c.args.piece.now loop.left.now loop.frames.items loop.splitter c.take.new.self c.done.new.self c.in_ok-took.took
    loop.invariant took.ok took.held (sym c.done.ensures.frame ∙ c.in_default.is) c.done.ensures.after

pub loop-took-preserved : goal.loop-took-preserved
loop-took-preserved g c =
    let loop = c.loop-took in
    let took = c.in_ok-took.ensures {u = tt} in
    let pushed = c.in_ok-push.ensures {u = tt} in
    IsFeeding-more c.args.highest c.args.known g.bytes c.args.piece.now loop.left.now _ loop.frames.items c.push.new.self.items loop.splitter c.take.new.self c.done.new.self c.in_ok-took.took c.in-Some.frame
    loop.invariant took.ok took.held (sym c.done.ensures.frame ∙ c.in-Some.is) c.done.ensures.after c.done.ensures.held pushed.items
    (take_rest loop.left.now c.in_ok-took.took.used)
