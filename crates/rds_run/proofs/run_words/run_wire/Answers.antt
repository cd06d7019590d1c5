use Rattle.std.proofs.Common.{map, codes, string_bytes}
use Rattle.rds_run.specs.RunWords.{TakesRun}
use Rattle.rds_run.proofs.Named.{named}
use Rattle.rds_run.proofs.Parsed.{with_run_name}
use Rattle.rds_run.proofs.run_words.run_wire.Goals as goal

pub returns-in-Some : goal.returns-in-Some
returns-in-Some c =
    let first = named (codes "run") _ _ _ _ c.eq.ensures c.if-eq.true c.as_str.ensures.value c.in-Some.ensures.value in
    with_run_name _ (TakesRun (map string_bytes c.args.words.now)) _ first c.wire_asked.ensures
