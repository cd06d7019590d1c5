use Rattle.std.proofs.Common.{◌≡◌, [], map, codes, string_bytes}
use Rattle.rds_run.specs.PlayWords.{play_faults}
use Rattle.rds_run.proofs.Named.{named, with_name}
use Rattle.rds_run.proofs.play_words.is_play.Goals as goal

pub returns-in-Some : goal.returns-in-Some
returns-in-Some c =
    let first = named (codes "play") _ _ _ _ c.eq.ensures c.if-eq.true c.as_str.ensures.value c.in-Some.ensures.value in
    with_name _ (play_faults (map string_bytes c.args.words.now) ≡ []) _ first c.stands_alone.ensures
