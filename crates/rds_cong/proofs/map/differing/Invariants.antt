use Rattle.rds_cong.proofs.Differing.{Tells}
use Rattle.rds_cong.proofs.map.differing.Given as goal

abbrev pub invariant-loop-i : goal.invariant-loop-i
invariant-loop-i l = Tells l.bits l.words l.others l.i
