use Rattle.std.proofs.Common.{◌≡◌, ◌++◌, ◌*◌}
use Rattle.rds_script_gen.specs.Generator.{state_after, turns}
use Rattle.rds_script_gen.proofs.making.add_turns.Given as goal

-- the sends so far, and the state that their draws lead to
abbrev pub invariant-loop-i : goal.invariant-loop-i
invariant-loop-i l = (l.listing ≡ l.initial.listing ++ turns l.i l.seed) × (l.draws.state ≡ state_after (4 * l.i) l.seed)
