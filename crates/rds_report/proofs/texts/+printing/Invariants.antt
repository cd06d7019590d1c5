use Rattle.std.proofs.Common.{◌+◌, ◌*◌, length}
use Rattle.rds_report.proofs.texts.+printing.Given as goal

abbrev pub decreases-rest : goal.decreases-rest
decreases-rest g l = 2 * length l.others.now + 1

abbrev pub decreases-received_texts : goal.decreases-received_texts
decreases-received_texts g l = 2 * length l.items.now
