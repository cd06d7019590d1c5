use Rattle.std.proofs.Common.{refl}
use Rattle.rds_model.specs.declared.entry.Entry.TheVariants.{Pull}
use Rattle.rds_model.specs.Past.{now}
use Rattle.rds_model.specs.LegalityLaws.{lawful_pull}
use Rattle.rds_model.specs.OwingLaws.{owed_is_lawful, settled_continues, only_another_map, lawful_is_owed}
use Rattle.rds_model.proofs.laws.owed_is_lawful.Goals as goal

pub returns-clause-lawful : goal.returns-clause-lawful
returns-clause-lawful c s past map f whole on long bytes is =
    record {
      legal = (settled_continues past (Pull s f) whole.settled (owed_is_lawful s past map f whole.legal on long bytes is), whole.legal);
      settled = refl;
    }

pub returns-clause-nothing : goal.returns-clause-nothing
returns-clause-nothing c s past map f nothing whole = only_another_map s past map f nothing (lawful_pull s f whole.legal now)

pub returns-clause-only : goal.returns-clause-only
returns-clause-only c s past f whole = lawful_is_owed s past f (lawful_pull s f whole.legal now)
