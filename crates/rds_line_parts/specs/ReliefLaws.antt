-- Laws, each proved: proofs in other crates use them. Nothing here has to be believed.
-- What relief adds to the words of a line's seat, and what it leaves as it was.
use Rattle.std.proofs.Common.{◌≡◌, ℕ, suc, ◌+◌, ◌<◌, ◌≤◌, ◌⊎◌, inl, inr, List, [], ◌∷◌, All, slice_index, None, refl, sym, ap, ◌∙◌, subst, arith}
use Rattle.rds_meter.specs.declared.view.Step.{Step}
use Rattle.rds_meter.specs.declared.view.Step.TheVariants.{Added, Stored, Loaded, Raised, Lowered, Bumped}
use Rattle.rds_meter.specs.Places.{part, amount_in, freed_word}
use Rattle.rds_meter.specs.Seats.{MeterSeat}
use Rattle.rds_meter.specs.PartLaws.{part-append, amount_there}
use Rattle.rds_line_parts.specs.Own.{Own, own_word, found_of, newer, last_found, IsAsRead}
use Rattle.rds_line_parts.specs.OwnLaws.{still_read}
use Rattle.rds_line_parts.specs.Relief.{IsFreeing, IsRelief}

-- the freed bytes of each slot were added to its word
pub relieved_part : (freed : List ℕ) (old new : MeterSeat) → IsRelief freed old new → (slot : ℕ) → part (freed_word slot) new.view.steps ≡ part (freed_word slot) old.view.steps + slice_index freed slot
relieved_part freed old new r slot =
    ap (λ (h : MeterSeat). part (freed_word slot) h.view.steps) r.seat ∙ part-append (freed_word slot) old.view.steps r.steps
    ∙ ap (λ k. part (freed_word slot) old.view.steps + k) (r.each slot)

one_amount : (w : ℕ) (s : Step) → IsFreeing s → (w < 1024) ⊎ (2048 ≤ w) → amount_in w s ≡ 0
one_amount w (Added word amount after) h (inl low) = amount_there w word amount after (λ e. absurd (omega arith))
one_amount w (Added word amount after) h (inr high) = amount_there w word amount after (λ e. absurd (omega arith))
one_amount w (Stored word limit) h o = refl
one_amount w (Loaded word found) h o = refl
one_amount w (Raised port) h o = refl
one_amount w (Lowered port) h o = refl
one_amount w (Bumped after) h o = refl

other_amounts : (w : ℕ) (steps : List Step) → All IsFreeing steps → (w < 1024) ⊎ (2048 ≤ w) → part w steps ≡ 0
other_amounts w [] all o = refl
other_amounts w (s ∷ steps) all o =
    let first = one_amount w s (all 0 s (omega arith)) o in
    let rest = other_amounts w steps (λ i d h. all (suc i) d (omega arith)) o in
    omega arith

-- nothing was added to a word that is no freed word
pub relieved_others : (freed : List ℕ) (old new : MeterSeat) → IsRelief freed old new → (w : ℕ) → (w < 1024) ⊎ (2048 ≤ w) → part w new.view.steps ≡ part w old.view.steps
relieved_others freed old new r w o =
    let none = other_amounts w r.steps r.only o in
    ap (λ (h : MeterSeat). part w h.view.steps) r.seat ∙ part-append w old.view.steps r.steps ∙ omega arith

one_found : (w : ℕ) (s : Step) → IsFreeing s → found_of w s ≡ None
one_found w (Added word amount after) h = refl
one_found w (Stored word limit) h = refl
one_found w (Loaded word found) h = absurd h
one_found w (Raised port) h = refl
one_found w (Lowered port) h = refl
one_found w (Bumped after) h = refl

none_found : (w : ℕ) (steps : List Step) → All IsFreeing steps → last_found w steps ≡ None
none_found w [] all = refl
none_found w (s ∷ steps) all =
    ap (λ f. newer f (found_of w s)) (none_found w steps (λ i d h. all (suc i) d (omega arith))) ∙ one_found w s (all 0 s (omega arith))

-- relief leaves each word of the own map what its last load found
pub read_after_relief : (own : Own) (freed : List ℕ) (old new : MeterSeat) → IsRelief freed old new → IsAsRead own old.view.steps → IsAsRead own new.view.steps
read_after_relief own freed old new r read =
    subst (λ (h : MeterSeat). IsAsRead own h.view.steps) (sym r.seat) (still_read own old.view.steps r.steps (λ i small. none_found (own_word i) r.steps r.only) read)
