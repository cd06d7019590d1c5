use Rattle.std.proofs.Common.{rules}
use Rattle.rds_fmap.proofs.copies.writer.WriterMapWriter.publish.Goals as goal

pub returns-clause-ok : goal.returns-clause-ok
returns-clause-ok g c = search rules
