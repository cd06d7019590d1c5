use Rattle.std.proofs.Common.{◌≡◌, [], ◌∷◌, sym, subst, arith}
use Rattle.std.proofs.lemmas.List.Elements.{All-append, All-cons, All-nil}
use Rattle.rds_play_mesh.specs.Ends.{AreNew, new_joint}
use Rattle.rds_play_mesh.proofs.mesh.add_below.Goals as goal

pub loop-low-preserved : goal.loop-low-preserved
loop-low-preserved c = (
  (let before = c.loop-low.invariant.0 in grind arith),
  λ new. subst (AreNew c.args.limit) (sym c.in_ok-push.ensures.items)
      (All-append (λ j. j ≡ new_joint c.args.limit) c.loop-low.joints.items (c.in_ok-new.field-0 ∷ []) (c.loop-low.invariant.1 new)
      (All-cons (λ j. j ≡ new_joint c.args.limit) c.in_ok-new.field-0 [] c.in_ok-new.ensures (All-nil (λ j. j ≡ new_joint c.args.limit)))),
)
