use Rattle.std.proofs.Common.{rules, ◌*◌, ◌∙◌, length, ap, arith}
use Rattle.std.proofs.lemmas.List.{length-append}
use Rattle.rds_script_gen.specs.Generator.{state_after, turn, turns}
use Rattle.rds_script_gen.proofs.Turns.{below_more, state_more, turns_count}
use Rattle.rds_script_gen.proofs.making.add_turns.Goals as goal

pub add_turn-requires-clause-few : goal.add_turn-requires-clause-few
add_turn-requires-clause-few c =
    let count = ap length c.loop-i.invariant.0 ∙ length-append c.args.listing.now (turns c.loop-i.i c.args.seed) in
    omega (arith, count, turns_count c.loop-i.i c.args.seed, c.loop-i-test.true, c.requires.few, c.requires.most)

pub loop-i-preserved : goal.loop-i-preserved
loop-i-preserved c =
    let more = below_more (λ i. turn (state_after (4 * i) c.args.seed) i) c.args.listing.now c.loop-i.i in
    let state = state_more c.loop-i.i c.args.seed in
    search rules
