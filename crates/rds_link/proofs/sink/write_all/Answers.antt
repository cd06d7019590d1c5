use Rattle.std.proofs.Common.{rules, ℕ, ◌∙◌, arith, length-drop}
use Rattle.std.proofs.Math.Seq.{take-add}
use Rattle.std.proofs.lemmas.List.{take_rest}
use Rattle.rds_link.proofs.Loops.{Takes-then}
use Rattle.rds_link.proofs.sink.write_all.Goals as goal

pub loop-written-preserved : goal.loop-written-preserved
loop-written-preserved g c = record {
  took = Takes-then _ _ _ _ _ _ (take-add c.loop-written.written c.in-Ok.count c.args.bytes.now) c.loop-written.invariant.took (rw take_rest at c.in-Ok.ensures.bytes);
  within = omega (arith, c.in-Ok.ensures.count, length-drop {A = ℕ});
  quiet = c.in-Ok.ensures.quiet ∙ c.loop-written.invariant.quiet;
}

pub returns-in-Err-clause-ok : goal.returns-in-Err-clause-ok
returns-in-Err-clause-ok g c = search rules
