use Rattle.std.proofs.Common.{◌≡◌, sum}
use Rattle.rds_line_parts.proofs.Relieving.{Relieving}
use Rattle.rds_line_parts.proofs.relief.relieve.Given as goal

abbrev pub invariant-loop-freed : goal.invariant-loop-freed
invariant-loop-freed l = Relieving l.initial.conn.freed l.conn.freed l.initial.words l.words × (l.conn ≡ record l.initial.conn { freed = l.conn.freed })

abbrev pub decreases-loop-freed : goal.decreases-loop-freed
decreases-loop-freed l = sum l.conn.freed
