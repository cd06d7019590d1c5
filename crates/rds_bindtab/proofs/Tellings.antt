-- Who was told of a port and looked, and whose steps the holder then knows, has found the holder's slot.
use Rattle.std.proofs.Common.{◌≡◌, ℕ, [], ◌∷◌, ◌++◌, Some, Option, refl, sym, ap, ◌∙◌}
use Rattle.std.proofs.lemmas.List.Elements.{Contains-append_right, Contains-push}
use Rattle.std.specs.Prelude.{unwrap_or}
use Rattle.rds_bindtab.specs.declared.view.View.{View}
use Rattle.rds_bindtab.specs.declared.view.Step.TheVariants.{Looked}
use Rattle.rds_bindtab.specs.Seats.{joined, note_of, note_of_steps, after_look, telling_of}
use Rattle.rds_bindtab.specs.Shared.{Taught}
use Rattle.rds_bindtab.specs.LookLaws.{finds}

-- for a holder v that told w, and heard its steps after its look
pub finds_holder : (slots slot port : ℕ) (v w : View) (found : Option ℕ) → v.slot ≡ Some slot → v.port ≡ Some port → Taught slots (joined v (note_of_steps (after_look (joined w (note_of v)) port found))) → found ≡ v.slot
finds_holder slots slot port v w found seated holds rule =
    let t = telling_of v in
    let s : t.slot ≡ slot = ap (λ (o : Option ℕ). unwrap_or o 0) seated in
    let p : t.port ≡ port = ap (λ (o : Option ℕ). unwrap_or o 0) holds in
    let told = w.told ++ t ∷ [] in
    let e = finds slots (joined v (note_of_steps (after_look (joined w (note_of v)) port found))) port found told t rule (seated ∙ ap Some (sym s)) p refl
    (Contains-append_right v.steps ((w.steps ++ []) ++ Looked port found told ∷ []) (Looked port found told) (Contains-push (w.steps ++ []) (Looked port found told)))
    (Contains-push w.told t) in
    e ∙ (ap Some s ∙ sym seated)
