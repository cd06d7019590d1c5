-- Laws, each proved: proofs in other crates use them. Nothing here has to be believed.
-- What loads leave of the words as it was, and what the last load of each word found.
use Rattle.std.proofs.Common.{◌≡◌, ◌≢◌, ℕ, zero, suc, ◌+◌, ◌<◌, if◌then◌else◌, Bool, true, false, List, [], ◌∷◌, ◌++◌, length, slice_index, Option, Some, None, eq-eqb, ne_eqb, refl, sym, ap, ◌∙◌, arith}
use Rattle.rds_cong.specs.Map.{word_at}
use Rattle.rds_cong.specs.declared.map.TheConstants.{WORDS}
use Rattle.rds_meter.specs.declared.view.Step.{Step}
use Rattle.rds_meter.specs.declared.view.Step.TheVariants.{Loaded}
use Rattle.rds_meter.specs.Places.{part, change_word}
use Rattle.rds_meter.specs.Seats.{MeterSeat, knowing}
use Rattle.rds_meter.specs.PartLaws.{part-append}
use Rattle.rds_line_parts.specs.Words.{after_steps, AddsNothing}
use Rattle.rds_line_parts.specs.Own.{Own, own_word, loads_from, found_of, newer, last_found, IsAsRead, IsRefresh}

-- steps that add nothing
pub adds_nothing : (old new : MeterSeat) (steps : List Step) → new ≡ knowing old (after_steps old.view steps) → ((w : ℕ) → part w steps ≡ 0) → AddsNothing old.view new.view
adds_nothing old new steps is none w =
    let sum : part w new.view.steps ≡ part w old.view.steps + part w steps = ap (λ (h : MeterSeat). part w h.view.steps) is ∙ part-append w old.view.steps steps in
    let zero = none w in
    omega arith

pub load_adds_nothing : (old new : MeterSeat) (word found : ℕ) → new ≡ knowing old (after_steps old.view (Loaded word found ∷ [])) → AddsNothing old.view new.view
load_adds_nothing old new word found is = adds_nothing old new (Loaded word found ∷ []) is (λ w. refl)

loads_part : (w i : ℕ) (words : List ℕ) → part w (loads_from i words) ≡ 0
loads_part w i [] = refl
loads_part w i (word ∷ words) = let h = loads_part w (i + 1) words in omega arith

pub loads_add_nothing : (old new : MeterSeat) (words : List ℕ) → new ≡ knowing old (after_steps old.view (loads_from 0 words)) → AddsNothing old.view new.view
loads_add_nothing old new words is = adds_nothing old new (loads_from 0 words) is (λ w. loads_part w 0 words)

-- a load of the word, and one of another
pub found_here : (w word found : ℕ) → word ≡ w → found_of w (Loaded word found) ≡ Some found
found_here w word found same = ap (λ (b : Bool). if b then Some found else None) (eq-eqb word w same)

pub found_there : (w word found : ℕ) → word ≢ w → found_of w (Loaded word found) ≡ None
found_there w word found other = ap (λ (b : Bool). if b then Some found else None) (ne_eqb word w other)

newer_none : (a : Option ℕ) → newer a None ≡ a
newer_none None = refl
newer_none (Some found) = refl

newer_of : (a b c : Option ℕ) → newer (newer a b) c ≡ newer a (newer b c)
newer_of None b c = refl
newer_of (Some found) b c = refl

-- the last load among more steps
pub last-append : (w : ℕ) (xs ys : List Step) → last_found w (xs ++ ys) ≡ newer (last_found w ys) (last_found w xs)
last-append w [] ys = sym (newer_none (last_found w ys))
last-append w (x ∷ xs) ys = ap (λ f. newer f (found_of w x)) (last-append w xs ys) ∙ newer_of (last_found w ys) (last_found w xs) (found_of w x)

-- steps that load no word of the map leave each word what its last load found
pub still_read : (own : Own) (steps more : List Step) → ((i : ℕ) → i < WORDS → last_found (own_word i) more ≡ None) → IsAsRead own steps → IsAsRead own (steps ++ more)
still_read own steps more none read number at i small =
    last-append (own_word i) steps more ∙ ap (λ f. newer f (last_found (own_word i) steps)) (none i small) ∙ read number at i small

-- one load of each word from word i on
loads_after : (k i : ℕ) (words : List ℕ) → k < i → last_found (own_word k) (loads_from i words) ≡ None
loads_after k i [] h = refl
loads_after k i (word ∷ words) h =
    ap (λ f. newer f (found_of (own_word k) (Loaded (own_word i) word))) (loads_after k (i + 1) words (omega arith))
    ∙ found_there (own_word k) (own_word i) word (λ e. absurd (omega arith))

loads_of : (i j : ℕ) (words : List ℕ) → j < length words → last_found (own_word (i + j)) (loads_from i words) ≡ Some (slice_index words j)
loads_of i j [] h = absurd (omega arith)
loads_of i zero (word ∷ words) h =
    let same : own_word i ≡ own_word (i + 0) = omega arith in
    ap (λ f. newer f (found_of (own_word (i + 0)) (Loaded (own_word i) word))) (loads_after (i + 0) (i + 1) words (omega arith))
    ∙ found_here (own_word (i + 0)) (own_word i) word same
loads_of i (suc j) (word ∷ words) h =
    let next : i + suc j ≡ i + 1 + j = omega arith in
    ap (λ f. newer f (found_of (own_word (i + suc j)) (Loaded (own_word i) word))) (ap (λ k. last_found (own_word k) (loads_from (i + 1) words)) next ∙ loads_of (i + 1) j words (omega arith))

-- after a refresh each word of the map is what its last load found
pub refreshed : (old new : Own) (seat after : MeterSeat) (read : Bool) → IsRefresh old new seat after read → IsAsRead old seat.view.steps → IsAsRead new after.view.steps
refreshed old new seat after true r was number at i small =
    let all = r.other refl in
    let place : own_word i ≡ own_word (0 + i) = omega arith in
    let loaded : last_found (own_word i) (loads_from 0 r.words) ≡ Some (slice_index r.words i) =
    ap (λ w. last_found w (loads_from 0 r.words)) place ∙ loads_of 0 i r.words (let c = all.1.count in omega arith) in
    ap (λ (h : MeterSeat). last_found (own_word i) h.view.steps) r.steps
    ∙ last-append (own_word i) seat.view.steps (Loaded change_word r.number ∷ loads_from 0 r.words)
    ∙ ap (λ f. newer (newer f (found_of (own_word i) (Loaded change_word r.number))) (last_found (own_word i) seat.view.steps)) loaded
    ∙ ap Some (sym (all.1.each i small))
refreshed old new seat after false r was number at i small =
    let none = r.same refl in
    ap (λ (h : MeterSeat). last_found (own_word i) h.view.steps) r.steps
    ∙ ap (λ words. last_found (own_word i) (seat.view.steps ++ Loaded change_word r.number ∷ loads_from 0 words)) none.1
    ∙ last-append (own_word i) seat.view.steps (Loaded change_word r.number ∷ [])
    ∙ ap (λ f. newer f (last_found (own_word i) seat.view.steps)) (found_there (own_word i) change_word r.number (λ e. absurd (omega arith)))
    ∙ was r.number none.0 i small
    ∙ ap (λ map. Some (word_at map i)) (sym none.2)
