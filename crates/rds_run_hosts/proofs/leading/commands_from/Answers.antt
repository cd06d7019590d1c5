use Rattle.std.proofs.Common.{rules}
use Rattle.std.proofs.lemmas.List.Elements.{All-drop}
use Rattle.rds_run_hosts.proofs.leading.commands_from.Goals as goal

pub returns : goal.returns
returns c = search (rules, All-drop)
