use Rattle.std.proofs.Common.{arith, refl}
use Rattle.rds_script_pieces.proofs.Joins.{joined_part}
use Rattle.rds_script_pieces.proofs.joining.followed.Goals as goal

pub returns : goal.returns
returns c = λ head done piece h e small w p.
    joined_part c.one_script.ensures head done piece c.args.head_lines c.args.whole c.args.part _ h e small w p (c.in_ok-script.ensures {u = tt}) refl refl refl (omega arith) (omega arith) (omega arith)
