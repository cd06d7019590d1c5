-- A call of the pair, whether it was done or failed: what is kept, and what contracts see.
use Rattle.std.proofs.Common.{◌≡◌, Result, Ok, Err, sym, ◌∙◌, ap, subst}
use Rattle.std.specs.Prelude.{OnOk, OnErr}
use Rattle.rds_play_pair.specs.Sides.{Sides}
use Rattle.rds_play_pair.specs.Ends.{JointEnds}
use Rattle.rds_play_pair.specs.Inside.{ends}
use Rattle.rds_play_pair.proofs.Keeping.{IsJointPair}

pub kept_tried : {T E : Type 0} (came : Result T E) (old new made : Sides) → OnOk came (new ≡ made) → OnErr came (new ≡ old) →
    IsJointPair made → IsJointPair old → IsJointPair new
kept_tried (Ok x) old new made ok err joint_made joint = subst IsJointPair (sym ok) joint_made
kept_tried (Err e) old new made ok err joint_made joint = subst IsJointPair (sym err) joint

pub seen_ok : {T E : Type 0} (came : Result T E) (new made : Sides) (seen : JointEnds) → OnOk came (new ≡ made) → ends made ≡ seen →
    OnOk came (ends new ≡ seen)
seen_ok (Ok x) new made seen ok is = ap ends ok ∙ is
seen_ok (Err e) new made seen ok is = ok

pub seen_err : {T E : Type 0} (came : Result T E) (new old : Sides) → OnErr came (new ≡ old) → OnErr came (ends new ≡ ends old)
seen_err (Ok x) new old err = err
seen_err (Err e) new old err = ap ends err
