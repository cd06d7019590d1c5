use Rattle.std.proofs.Common.{rules}
use Rattle.rds_script_pieces.proofs.Pieced.{both_read}
use Rattle.rds_script_pieces.proofs.reading.+groups.Goals as goal

pub returns : goal.returns
returns g t c =
    let parts = c.in_ok-parts.parts in
    let more = c.in_ok-back.field-0 in
    both_read c.args.head.now c.split_at.result.0.now c.split_at.result.1.now c.args.pieces.now parts.items more.items c.append.new.self.items
    c.split_at.ensures.by_index.0 (search rules) (search rules) (search rules)
