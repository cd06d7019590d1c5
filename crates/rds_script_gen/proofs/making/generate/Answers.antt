use Rattle.std.proofs.Common.{refl, rules}
use Rattle.rds_script_gen.proofs.Ranges.{is_script}
use Rattle.rds_script_gen.proofs.making.generate.Goals as goal

pub returns-clause-known : goal.returns-clause-known
returns-clause-known c = is_script _ c.args.sends c.args.seed c.requires.most refl (search rules)
