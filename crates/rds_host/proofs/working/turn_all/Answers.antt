use Rattle.std.proofs.Common.{set}
use Rattle.rds_host.specs.Lines.{pair_of}
use Rattle.rds_host.proofs.Staying.{lines_same, lines_through, lines_set}
use Rattle.rds_host.proofs.working.turn_all.Goals as goal

pub loop-i-init : goal.loop-i-init
loop-i-init g c = lines_same g.E.End.means pair_of c.args.lines.now

pub loop-i-preserved : goal.loop-i-preserved
loop-i-preserved g c =
    lines_through g.E.End.means pair_of c.args.lines.now c.loop-i.lines (set c.loop-i.lines c.loop-i.i c.turn.new.self) c.loop-i.invariant
    (lines_set g.E.End.means pair_of c.loop-i.lines c.loop-i.i c.index-lines-i.result c.turn.new.self c.turn.ensures.stays)
