-- A step of one end, whether it was done or failed, keeps what a pair keeps.
use Rattle.std.proofs.Common.{◌≡◌, ℕ, Result, Ok, Err, sym, subst}
use Rattle.std.specs.Prelude.{OnOk, OnErr, IfOk}
use Rattle.rds_model.specs.Legal.{IsWhole}
use Rattle.rds_play_pair.specs.Sides.{Side}
use Rattle.rds_play_pair.specs.Changes.{without_flight, Moves, shut_one}
use Rattle.rds_play_pair.specs.Joined.{IsJoined}
use Rattle.rds_play_pair.proofs.Joining.{joined_moved, joined_shut, swapped}

-- the change keeps what a pair keeps, if it keeps the journal whole
abbrev pub IsKept : (Side → Side) → Type 0
IsKept made = (n : ℕ) (a b : Side) → IsJoined n a b → IsWhole (made a).past → IsJoined n (made a) b

pub joined_tried : {T E : Type 0} (made : Side → Side) → IsKept made → (came : Result T E) (n : ℕ) (old new other : Side) →
    OnOk came (new ≡ made old) → OnErr came (new ≡ old) → IsWhole new.past → IsJoined n old other → IsJoined n new other
joined_tried made kept (Ok x) n old new other ok err whole joined =
    subst (λ (s : Side). IsJoined n s other) (sym ok) (kept n old other joined (subst (λ (s : Side). IsWhole s.past) ok whole))
joined_tried made kept (Err e) n old new other ok err whole joined =
    subst (λ (s : Side). IsJoined n s other) (sym err) joined

-- the same of the other end
pub joined_tried_back : {T E : Type 0} (made : Side → Side) → IsKept made → (came : Result T E) (n : ℕ) (old new other : Side) →
    OnOk came (new ≡ made old) → OnErr came (new ≡ old) → IsWhole new.past → IsJoined n other old → IsJoined n other new
joined_tried_back made kept came n old new other ok err whole joined =
    swapped n new other (joined_tried made kept came n old new other ok err whole (swapped n other old joined))

-- the same of two ends that are these
pub joined_as : (n : ℕ) (a a_is b b_is : Side) → a_is ≡ a → b_is ≡ b → IsJoined n a b → IsJoined n a_is b_is
joined_as n a a_is b b_is first second joined =
    subst (λ (s : Side). IsJoined n s b_is) (sym first) (subst (λ (s : Side). IsJoined n a s) (sym second) joined)

pub whole_as : (s s_is : Side) → s_is ≡ s → IsWhole s_is.past → IsWhole s.past
whole_as s s_is is whole = subst (λ (t : Side). IsWhole t.past) is whole

-- one end was shut, or that failed
pub joined_shut_tried : {T E : Type 0} (came : Result T E) (n : ℕ) (a a_new b b_new : Side) →
    OnOk came ((a_new ≡ shut_one a) × (b_new ≡ without_flight b)) → OnErr came ((a_new ≡ a) × (b_new ≡ b)) → IsWhole a_new.past →
    IsJoined n a b → IsJoined n a_new b_new
joined_shut_tried (Ok x) n a a_new b b_new ok err whole joined =
    joined_as n (shut_one a) a_new (without_flight b) b_new ok.0 ok.1 (joined_shut n a b joined (whole_as (shut_one a) a_new ok.0 whole))
joined_shut_tried (Err e) n a a_new b b_new ok err whole joined = joined_as n a a_new b b_new err.0 err.1 joined

-- bytes were moved, or that failed
pub joined_moved_tried : {E : Type 0} (came : Result ℕ E) (n bytes : ℕ) (a a_new b b_new : Side) →
    IfOk came (λ used. Moves bytes used a a_new b b_new) → OnErr came ((a_new ≡ a) × (b_new ≡ b)) →
    IsJoined n a b → IsJoined n a_new b_new
joined_moved_tried (Ok used) n bytes a a_new b b_new ok err joined = joined_moved n bytes used a a_new b b_new joined ok
joined_moved_tried (Err e) n bytes a a_new b b_new ok err joined = joined_as n a a_new b b_new err.0 err.1 joined
