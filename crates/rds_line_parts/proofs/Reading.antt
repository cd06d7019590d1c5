-- Words of the map that are loaded one after another.
use Rattle.std.proofs.Common.{◌≡◌, ℕ, suc, ◌+◌, ◌<◌, ◌==◌, if◌then◌else◌, List, [], ◌∷◌, ◌++◌, length, slice_index, sym, ap, ◌∙◌, subst, arith, eq-eqb, ne_eqb, ⊎_elim}
use Rattle.std.proofs.lemmas.Bool.{cases_eq}
use Rattle.std.proofs.lemmas.List.{append_assoc, get_or_append_left}
use Rattle.std.proofs.Math.Seq.{get_or-append_seam}
use Rattle.std.proofs.Math.ListN.{length-append}
use Rattle.rds_cong.specs.Map.{word_at}
use Rattle.rds_cong.specs.declared.map.TheConstants.{WORDS}
use Rattle.rds_meter.specs.declared.view.Step.{Step}
use Rattle.rds_meter.specs.declared.view.Step.TheVariants.{Loaded}
use Rattle.rds_meter.specs.Seats.{MeterSeat, knowing}
use Rattle.rds_line_parts.specs.Words.{after_steps}
use Rattle.rds_line_parts.specs.Own.{own_word, loads_from}

-- one load more
loads_more : (i : ℕ) (found : List ℕ) (word : ℕ) → loads_from i (found ++ word ∷ []) ≡ loads_from i found ++ Loaded (own_word (i + length found)) word ∷ []
loads_more i [] word = let e : i ≡ i + 0 = omega arith in ap (λ j. Loaded (own_word j) word ∷ []) e
loads_more i (w ∷ found) word =
    let e : i + 1 + length found ≡ i + suc (length found) = omega arith in
    ap (λ (l : List Step). Loaded (own_word i) w ∷ l) (loads_more (i + 1) found word)
    ∙ ap (λ j. Loaded (own_word i) w ∷ loads_from (i + 1) found ++ Loaded (own_word j) word ∷ []) e

-- the words below i were loaded, and stand in the map
pub record ReadUpTo (i : ℕ) (map : List ℕ) (old new : MeterSeat) : Type 0 where
  pub found : List ℕ
  pub count : length found ≡ i
  pub each : (j : ℕ) → j < i → word_at map j ≡ slice_index found j
  pub seat : new ≡ knowing old (after_steps old.view (loads_from 0 found))

-- a word that was loaded and put in its place
pub read_more : (i word : ℕ) (map after : List ℕ) (old mid new : MeterSeat) → ReadUpTo i map old mid → i < WORDS
    → new ≡ knowing mid (after_steps mid.view (Loaded (own_word i) word ∷ []))
    → ((j : ℕ) → j < WORDS → word_at after j ≡ (if j == i then word else word_at map j)) → ReadUpTo (i + 1) after old new
read_more i word map after old mid new r within loaded put =
    let place : i ≡ 0 + length r.found = (let e = r.count in omega arith) in
    record {
      found = r.found ++ word ∷ [];
      count = length-append r.found (word ∷ []) ∙ ap (λ n. n + 1) r.count;
      each = λ j h.
          let below : j < WORDS = omega arith in
          ⊎_elim
          (λ (same : j ≡ i).
          put j below ∙ ap (λ b. if b then word else word_at map j) (eq-eqb j i same)
          ∙ sym (ap (slice_index (r.found ++ word ∷ [])) (same ∙ sym r.count) ∙ get_or-append_seam r.found word [] 0))
          (λ other.
          let lower : j < i = omega arith in
          let inside : j < length r.found = subst (λ n. j < n) (sym r.count) lower in
          put j below ∙ ap (λ b. if b then word else word_at map j) (ne_eqb j i other)
          ∙ r.each j lower ∙ sym (get_or_append_left r.found (word ∷ []) 0 j inside))
          (cases_eq j i);
      seat =
          loaded
          ∙ ap (λ (m : MeterSeat). knowing m (after_steps m.view (Loaded (own_word i) word ∷ []))) r.seat
          ∙ ap (λ (l : List Step). knowing old (record old.view { steps = l })) (append_assoc old.view.steps (loads_from 0 r.found) (Loaded (own_word i) word ∷ [])
          ∙ ap (λ (l : List Step). old.view.steps ++ l) (ap (λ n. loads_from 0 r.found ++ Loaded (own_word n) word ∷ []) place ∙ sym (loads_more 0 r.found word)));
    }
