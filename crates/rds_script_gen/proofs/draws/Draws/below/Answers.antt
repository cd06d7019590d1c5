use Rattle.std.proofs.Common.{◌*◌}
use Rattle.std.proofs.Math.Nat.{mod-add-mod}
use Rattle.rds_script_gen.specs.Generator.{next_state}
use Rattle.rds_script_gen.proofs.draws.Draws.below.Goals as goal

pub returns-clause-state : goal.returns-clause-state
unfolding next_state
returns-clause-state c = mod-add-mod (c.args.self.now.state * 6364136223846793005) 18446744073709551616 1442695040888963407
