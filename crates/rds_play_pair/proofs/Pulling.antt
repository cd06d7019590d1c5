-- A pull of an end that a call names.
use Rattle.std.proofs.Common.{◌≡◌, ◌==◌, ◌∙◌, Bool, true, false, ℕ, Option, Some, None, is_some, Bor, List, [], length, refl, sym}
use Rattle.std.specs.Option.{option_copied}
use Rattle.std.proofs.lemmas.Bool.{eqb-true}
use Rattle.std.proofs.lemmas.List.{nil_from_length}
use Rattle.rds_play_pair.specs.declared.step.PairEnd.{PairEnd}
use Rattle.rds_play_pair.specs.declared.step.PairEnd.TheVariants.{First, Second}
use Rattle.rds_play_pair.specs.Sides as pair
use Rattle.rds_play_pair.specs.Sides.{Sides}
use Rattle.rds_play_pair.specs.Changes as was
use Rattle.rds_play_pair.specs.Ends.{JointEnds, facing, of_end, other_end, with_end}
use Rattle.rds_play_pair.specs.Steps.{pulled}
use Rattle.rds_play_pair.specs.Inside.{end, ends}
use Rattle.rds_play_pair.proofs.Views.{seen_pulled, unpulled_flying, unpulled_waiting}
use Rattle.rds_play_pair.proofs.Keeping.{across}

pub seen_pulled_at : (who : PairEnd) (map : List ℕ) (p : Sides) → (pair.of_end who p).flying ≡ [] → (across who p).waiting ≡ None →
    end (was.pulled map (pair.of_end who p)) ≡ pulled map (facing who (ends p)).waiting (of_end who (ends p))
seen_pulled_at First map p idle none = seen_pulled map p.second.waiting p.first idle none
seen_pulled_at Second map p idle none = seen_pulled map p.first.waiting p.second idle none

pub unpulled_flying_at : (who : PairEnd) (map : List ℕ) (p : JointEnds) → ((of_end who p).flying ≡ [] → ⊥) →
    p ≡ with_end who (pulled map (facing who p).waiting) p
unpulled_flying_at First map p some = λ i. record { first = sym (unpulled_flying map p.second.waiting p.first some) i; second = p.second }
unpulled_flying_at Second map p some = λ i. record { first = p.first; second = sym (unpulled_flying map p.first.waiting p.second some) i }

pub unpulled_waiting_at : (who : PairEnd) (map : List ℕ) (p : JointEnds) → ((facing who p).waiting ≡ None → ⊥) →
    p ≡ with_end who (pulled map (facing who p).waiting) p
unpulled_waiting_at First map p some = λ i. record { first = sym (unpulled_waiting map p.second.waiting p.first some) i; second = p.second }
unpulled_waiting_at Second map p some = λ i. record { first = p.first; second = sym (unpulled_waiting map p.first.waiting p.second some) i }

-- the end that an end faces, in both ways to say it
pub across_is : (who : PairEnd) (p : Sides) → pair.of_end (other_end who) p ≡ across who p
across_is First p = refl
across_is Second p = refl

-- no bytes
pub empty_is : (bytes : List ℕ) (test : Bool) → test ≡ (length bytes == 0) → test ≡ true → bytes ≡ []
empty_is bytes test is full = nil_from_length bytes (eqb-true (length bytes) 0 (sym is ∙ full))

-- no frame, where none is lent
pub none_copied : {T : Type 0} (o : Option (Bor T)) → is_some o ≡ false → option_copied o ≡ None
none_copied None none = refl
none_copied (Some x) none = cc
