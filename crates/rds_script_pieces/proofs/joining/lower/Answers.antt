use Rattle.std.proofs.Common.{◌≤◌, arith}
use Rattle.rds_script_pieces.specs.Parts.{lowered}
use Rattle.rds_script_pieces.proofs.Lowering.{mapped_more, left_more, still}
use Rattle.rds_script_pieces.proofs.joining.lower.Goals as goal

pub overflow_add-placed : goal.overflow_add-placed
overflow_add-placed c =
    let line = still (lowered c.args.by) c.loop-placed.commands c.args.commands.now c.loop-placed.placed-index c.placed-item.result (omega arith) (omega arith) c.loop-placed.invariant.left (λ p. p.line ≤ 200000) c.requires.lines in
    omega arith

pub loop-placed-preserved : goal.loop-placed-preserved
loop-placed-preserved c =
    let now = c.loop-placed.commands in
    let old = c.args.commands.now in
    let i = c.loop-placed.placed-index in
    record {
      done = mapped_more (lowered c.args.by) now old i c.placed-item.result (omega arith) (omega arith) c.loop-placed.invariant.left c.loop-placed.invariant.done;
      left = left_more (lowered c.args.by) now old i c.placed-item.result (omega arith) (omega arith) c.loop-placed.invariant.left;
    }
