-- Laws, each proved: proofs in other crates use them. Nothing here has to be believed.
-- What the seat of a slot can tell of the looks that it knows: those of a seat or a note that was joined into it.
use Rattle.std.proofs.Common.{◌≡◌, ◌≢◌, ℕ, ◌<◌, List, Some, None, Option, refl, ap, ◌∙◌, arith}
use Rattle.std.specs.Prelude.{Contains}
use mathlib.Core.Logic.{dite}
use native.Mathlib.Decide.{ℕ_discrete}
use Rattle.rds_seats.specs.Views.{At}
use Rattle.rds_bindtab.specs.declared.view.View.{View}
use Rattle.rds_bindtab.specs.declared.view.Telling.{Telling}
use Rattle.rds_bindtab.specs.declared.view.Step.TheVariants.{Looked}
use Rattle.rds_bindtab.specs.Shared.{Taught, HasClaimed}

is_slot : (found : Option ℕ) (slot : ℕ) → (found ≢ Some slot → ⊥) → found ≡ Some slot
is_slot None slot no_other = absurd (no_other (λ e. cc))
is_slot (Some s) slot no_other = dite (ℕ_discrete s slot) (λ e. ap Some e) (λ ne. absurd (no_other (λ e. ne (cc))))

-- the seat of a slot knows a look of somebody who had been told of its port when it had released as often as now
pub finds : (slots : ℕ) (v : View) (port : ℕ) (found : Option ℕ) (told : List Telling) (t : Telling) → Taught slots v → v.slot ≡ Some t.slot → t.port ≡ port → t.releases ≡ v.releases
    → Contains v.steps (Looked port found told) → Contains told t → found ≡ Some t.slot
finds slots v port found told t rule slot at_port as_often looked tells =
    let id = rule.3.0 in
    let at : At rule.1 id v = rule.3.2 ∙ ap mathlib.Core.Option.some rule.3.3 in
    let fits = rule.2.looked id v at port found told looked in
    is_slot found t.slot (λ other. let more = (fits.past t tells at_port other).1 id v at slot in absurd (omega arith))

-- a look that found the seat's own slot found a port that the seat has claimed
pub found_claimed : (slots : ℕ) (v : View) (port slot : ℕ) (told : List Telling) → Taught slots v → v.slot ≡ Some slot
    → Contains v.steps (Looked port (Some slot) told) → HasClaimed port slot v
found_claimed slots v port slot told rule mine looked =
    let id = rule.3.0 in
    let at : At rule.1 id v = rule.3.2 ∙ ap mathlib.Core.Option.some rule.3.3 in
    ((rule.2.looked id v at port (Some slot) told looked).owned slot refl).1 id v at mine

-- a look that found another slot than the seat's, or none, after it was told that the seat holds the port, was made after
-- a release
pub missed_released : (slots : ℕ) (v : View) (port : ℕ) (found : Option ℕ) (told : List Telling) (t : Telling) → Taught slots v → v.slot ≡ Some t.slot → t.port ≡ port
    → Contains v.steps (Looked port found told) → Contains told t → found ≢ Some t.slot → t.releases < v.releases
missed_released slots v port found told t rule mine at_port looked tells other =
    let id = rule.3.0 in
    let at : At rule.1 id v = rule.3.2 ∙ ap mathlib.Core.Option.some rule.3.3 in
    ((rule.2.looked id v at port found told looked).past t tells at_port other).1 id v at mine
