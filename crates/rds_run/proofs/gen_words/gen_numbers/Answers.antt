use Rattle.std.proofs.Common.{map, codes, string_bytes}
use Rattle.rds_run.specs.GenWords.{TakesGen}
use Rattle.rds_run.proofs.Generated.{with_gen_name}
use Rattle.rds_run.proofs.Named.{named}
use Rattle.rds_run.proofs.gen_words.gen_numbers.Goals as goal

pub returns-in-Some : goal.returns-in-Some
returns-in-Some c =
    let first = named (codes "gen") _ _ _ _ c.eq.ensures c.if-eq.true c.as_str.ensures.value c.in-Some.ensures.value in
    with_gen_name _ (TakesGen (map string_bytes c.args.words.now)) _ first c.two_numbers.ensures
