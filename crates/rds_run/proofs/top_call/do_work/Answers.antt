use Rattle.std.proofs.Common.{◌≤◌, Some, ap, codes, inl, map, refl, rules, string_bytes, subst, ◌∙◌}
use Rattle.rds_run.specs.Ending.{OfGen, OfMemory, OfNone}
use Rattle.rds_run.specs.GenWords.{AreGen, gen_word}
use Rattle.rds_run.specs.PlayWords.{ArePlay}
use Rattle.rds_run.specs.RunWords.{AreRun}
use Rattle.rds_run.specs.Works.{IsWorkOf}
use Rattle.rds_run.proofs.Commands.{in_memory, play_or_gen, run_or_gen, sends_in}
use Rattle.rds_run.proofs.Ended.{of_play, of_run, usage_of}
use Rattle.rds_run.proofs.Sources.{reads_or_gen, reads_or_none}
use Rattle.rds_run.proofs.top_call.do_work.Goals as goal

pub returns-in-Ok-Some-Play-clause-ends : goal.returns-in-Ok-Some-Play-clause-ends
returns-in-Ok-Some-Play-clause-ends g c =
    let play : ArePlay c.args.words.now =
    subst (IsWorkOf c.args.words.now) (c.in-Ok-Some-Play.field-0-is ∙ ap Some c.in-Ok-Some-Play.field-0-0-is) (c.in-Ok-Some-Play.ensures {u = tt}) in
    search (rules, of_play)

pub returns-in-Ok-Some-Run-clause-ends : goal.returns-in-Ok-Some-Run-clause-ends
returns-in-Ok-Some-Run-clause-ends g c =
    let run : AreRun c.args.words.now c.in-Ok-Some-Run.wire =
    subst (IsWorkOf c.args.words.now) (c.in-Ok-Some-Run.field-0-is ∙ ap Some c.in-Ok-Some-Run.field-0-0-is) (c.in-Ok-Some-Run.ensures {u = tt}) in
    search (rules, of_run)

pub gen_text-requires : goal.gen_text-requires
gen_text-requires g c =
    let gen : AreGen c.args.words.now c.in-Ok-Some-Gen.sends c.in-Ok-Some-Gen.seed =
    subst (IsWorkOf c.args.words.now) (c.in-Ok-Some-Gen.field-0-is ∙ ap Some c.in-Ok-Some-Gen.field-0-0-is) (c.in-Ok-Some-Gen.ensures {u = tt}) in
    let range = sends_in (gen_word (codes "sends") (map string_bytes c.args.words.now)) c.in-Ok-Some-Gen.sends gen.1.numbers.0 in
    let least : 1 ≤ c.in-Ok-Some-Gen.sends = range.0 in
    let most : c.in-Ok-Some-Gen.sends ≤ 100000 = range.1 in
    search (rules, least, most)

pub returns-in-Ok-Some-Gen-clause-ends : goal.returns-in-Ok-Some-Gen-clause-ends
returns-in-Ok-Some-Gen-clause-ends g c =
    let gen : AreGen c.args.words.now c.in-Ok-Some-Gen.sends c.in-Ok-Some-Gen.seed =
    subst (IsWorkOf c.args.words.now) (c.in-Ok-Some-Gen.field-0-is ∙ ap Some c.in-Ok-Some-Gen.field-0-0-is) (c.in-Ok-Some-Gen.ensures {u = tt}) in
    OfGen c.in-Ok-Some-Gen.sends c.in-Ok-Some-Gen.seed gen c.gen_text.ensures

pub returns-in-Ok-None-clause-ends : goal.returns-in-Ok-None-clause-ends
returns-in-Ok-None-clause-ends g c =
    let none = subst (IsWorkOf c.args.words.now) c.in-Ok-None.field-0-is (c.in-Ok-None.ensures {u = tt}) in
    OfNone none (usage_of _ c.say.result c.say.ensures.said c.say.ensures.front)

pub returns-in-Err-clause-ends : goal.returns-in-Err-clause-ends
returns-in-Err-clause-ends g c = OfMemory refl refl

pub returns-in-Ok-Some-Play-clause-unread : goal.returns-in-Ok-Some-Play-clause-unread
returns-in-Ok-Some-Play-clause-unread g c = λ sends seed asked.
    let play : ArePlay c.args.words.now =
    subst (IsWorkOf c.args.words.now) (c.in-Ok-Some-Play.field-0-is ∙ ap Some c.in-Ok-Some-Play.field-0-0-is) (c.in-Ok-Some-Play.ensures {u = tt}) in
    absurd (play_or_gen c.args.words.now sends seed play asked)

pub returns-in-Ok-Some-Run-clause-unread : goal.returns-in-Ok-Some-Run-clause-unread
returns-in-Ok-Some-Run-clause-unread g c = λ sends seed asked.
    let run : AreRun c.args.words.now c.in-Ok-Some-Run.wire =
    subst (IsWorkOf c.args.words.now) (c.in-Ok-Some-Run.field-0-is ∙ ap Some c.in-Ok-Some-Run.field-0-0-is) (c.in-Ok-Some-Run.ensures {u = tt}) in
    absurd (run_or_gen c.args.words.now c.in-Ok-Some-Run.wire sends seed run asked)

pub returns-in-Ok-Some-Play-clause-usage_unread : goal.returns-in-Ok-Some-Play-clause-usage_unread
returns-in-Ok-Some-Play-clause-usage_unread g c = λ free.
    let play : ArePlay c.args.words.now =
    subst (IsWorkOf c.args.words.now) (c.in-Ok-Some-Play.field-0-is ∙ ap Some c.in-Ok-Some-Play.field-0-0-is) (c.in-Ok-Some-Play.ensures {u = tt}) in
    absurd (free.no_play play)

pub returns-in-Ok-Some-Run-clause-usage_unread : goal.returns-in-Ok-Some-Run-clause-usage_unread
returns-in-Ok-Some-Run-clause-usage_unread g c = λ free.
    let run : AreRun c.args.words.now c.in-Ok-Some-Run.wire =
    subst (IsWorkOf c.args.words.now) (c.in-Ok-Some-Run.field-0-is ∙ ap Some c.in-Ok-Some-Run.field-0-0-is) (c.in-Ok-Some-Run.ensures {u = tt}) in
    absurd (free.no_run c.in-Ok-Some-Run.wire run)

-- refused where streams in memory aren't used for a run that the words ask to go over them
pub returns-in-Ok-Some-Run-clause-tcp_unused : goal.returns-in-Ok-Some-Run-clause-tcp_unused
returns-in-Ok-Some-Run-clause-tcp_unused g c = λ untold.
    let run : AreRun c.args.words.now c.in-Ok-Some-Run.wire =
    subst (IsWorkOf c.args.words.now) (c.in-Ok-Some-Run.field-0-is ∙ ap Some c.in-Ok-Some-Run.field-0-0-is) (c.in-Ok-Some-Run.ensures {u = tt}) in
    c.run_text.ensures.tcp_unused (in_memory c.args.words.now c.in-Ok-Some-Run.wire run untold)

pub returns-in-Ok-Some-Play-clause-tells : goal.returns-in-Ok-Some-Play-clause-tells
returns-in-Ok-Some-Play-clause-tells g c = c.play_text.ensures.tells

pub returns-in-Ok-Some-Run-clause-tells : goal.returns-in-Ok-Some-Run-clause-tells
returns-in-Ok-Some-Run-clause-tells g c = c.run_text.ensures.tells

pub returns-in-Ok-Some-Gen-clause-tells : goal.returns-in-Ok-Some-Gen-clause-tells
returns-in-Ok-Some-Gen-clause-tells g c = inl refl

pub returns-in-Ok-None-clause-tells : goal.returns-in-Ok-None-clause-tells
returns-in-Ok-None-clause-tells g c = inl refl

pub returns-in-Err-clause-tells : goal.returns-in-Err-clause-tells
returns-in-Err-clause-tells g c = inl refl

pub returns-in-Ok-Some-Play-clause-emptied : goal.returns-in-Ok-Some-Play-clause-emptied
returns-in-Ok-Some-Play-clause-emptied g c = λ reads of. c.play_text.ensures.emptied of

pub returns-in-Ok-Some-Run-clause-emptied : goal.returns-in-Ok-Some-Run-clause-emptied
returns-in-Ok-Some-Run-clause-emptied g c = λ reads of. c.run_text.ensures.emptied of

pub returns-in-Ok-Some-Gen-clause-emptied : goal.returns-in-Ok-Some-Gen-clause-emptied
returns-in-Ok-Some-Gen-clause-emptied g c = λ reads of.
    let gen : AreGen c.args.words.now c.in-Ok-Some-Gen.sends c.in-Ok-Some-Gen.seed =
    subst (IsWorkOf c.args.words.now) (c.in-Ok-Some-Gen.field-0-is ∙ ap Some c.in-Ok-Some-Gen.field-0-0-is) (c.in-Ok-Some-Gen.ensures {u = tt}) in
    absurd (reads_or_gen c.args.words.now c.in-Ok-Some-Gen.sends c.in-Ok-Some-Gen.seed reads gen)

pub returns-in-Ok-None-clause-emptied : goal.returns-in-Ok-None-clause-emptied
returns-in-Ok-None-clause-emptied g c = λ reads of.
    let none = subst (IsWorkOf c.args.words.now) c.in-Ok-None.field-0-is (c.in-Ok-None.ensures {u = tt}) in
    absurd (reads_or_none c.args.words.now reads none)

pub returns-in-Err-clause-emptied : goal.returns-in-Err-clause-emptied
returns-in-Err-clause-emptied g c = λ reads of. absurd of
