use Rattle.rds_script_pieces.specs.Pieces.{contents}
use Rattle.rds_script_pieces.proofs.Pieced.{each_in_lines}
use Rattle.rds_script_pieces.proofs.reading.read_in_pieces.Goals as goal

pub joined-requires-clause-lines : goal.joined-requires-clause-lines
joined-requires-clause-lines g c =
    each_in_lines c.in_ok-head.head.now (contents c.as_slice.result.now) c.in_ok-parts.parts.items (c.in_ok-parts.ensures {u = tt})
