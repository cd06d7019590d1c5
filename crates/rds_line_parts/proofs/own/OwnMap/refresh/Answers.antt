use Rattle.std.proofs.Common.{rules, ◌∙◌}
use Rattle.rds_line_parts.specs.OwnLaws.{load_adds_nothing, loads_add_nothing}
use Rattle.rds_line_parts.proofs.own.OwnMap.refresh.Goals as goal

pub returns-then-known-clause-parts : goal.returns-then-known-clause-parts
returns-then-known-clause-parts c = load_adds_nothing _ _ _ _ c.change-number.ensures

pub returns-clause-parts : goal.returns-clause-parts
returns-clause-parts c = λ w. loads_add_nothing _ _ _ c.read_words.ensures.2 w ∙ load_adds_nothing _ _ _ _ c.change-number.ensures w

pub returns-then-known-clause-refresh : goal.returns-then-known-clause-refresh
returns-then-known-clause-refresh c = search rules
