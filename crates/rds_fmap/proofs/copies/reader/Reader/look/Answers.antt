use Rattle.std.proofs.Common.{subst}
use Rattle.left_right.specs.Sides.{view}
use Rattle.rds_fmap.specs.Entries.{CopyReaderView, LookDone, copy_reader_view}
use Rattle.rds_fmap.proofs.Entering.{looks_by}
use Rattle.rds_fmap.proofs.copies.reader.Reader.look.Goals as goal

pub returns : goal.returns
returns c =
    let copy = c.take-ruled.new.copy in
    let old = view c.self.inside.ruled.place in
    let new = view c.take-ruled.result.place in
    subst (λ (r : CopyReaderView). LookDone r (copy_reader_view new copy) c.args.port (record { version = copy.version; set = c.has.result })) c.self.view_is
    (looks_by old new c.self.inside.copy copy c.args.port c.has.result c.take-ruled.ensures c.has.ensures)
