-- A new pair keeps the rule, and so do a seat that is split off and one that is joined into the writer's.
use Rattle.std.proofs.Common.{◌≡◌, ◌≢◌, ℕ, zero, suc, ◌+◌, ◌*◌, ◌<◌, ◌==◌, true, false, List, [], ◌∷◌, ◌++◌, length, replicate, set, refl, sym, ap, ◌∙◌, subst, ⊎_elim, arith}
use Rattle.std.proofs.lemmas.List.{length-replicate}
use Rattle.std.proofs.lemmas.List.Elements.{Contains-append_cases}
use Rattle.std.proofs.lemmas.Nat.Bits.{bit_at-zero}
use Rattle.std.specs.Prelude.{slice_index}
use mathlib.Core.Option.{some-ne-none}
use Rattle.atomic_table.specs.Table.{Joins, Splits}
use Rattle.atomic_table.proofs.Lists.{at_set, at_snoc, at_longer, set_again, set_else}
use Rattle.rds_seats.specs.Views.{At}
use Rattle.rds_seats.specs.ViewLaws.{at_here, at_there, each_set, each_snoc}
use Rattle.rds_cong.specs.Map.{no_ports}
use Rattle.rds_cong.specs.declared.map.TheConstants.{MAP_BYTES}
use Rattle.rds_fmap.specs.Views.{version_in, maps_begun, first_view, as_before, newcomer, joined, spent}
use Rattle.rds_fmap.specs.Shared.{Shared, Ruled, IsWordOf}
use Rattle.rds_fmap.specs.declared.words.view.View.{View}
use Rattle.rds_fmap.proofs.Lists.{nothing_in, each_of_one}
use Rattle.rds_cong.specs.HalfLaws.{none_is, none_length, port-zeros}
use Rattle.rds_fmap.proofs.Putting.{version_left}
use Rattle.rds_fmap.proofs.Steps.{Found, as_writer}

not_both : {A : Type 0} → true ≡ false → A
not_both e = absurd (cc)

-- a word of 0 is version 0 without ports
zero_word : (rest : List (List ℕ)) (j : ℕ) → j < 2048 → IsWordOf (no_ports ∷ rest) j 0
zero_word rest j small = record {
  map = no_ports;
  version = refl;
  put = (let l = none_length in omega arith);
  ports = λ b h. ap (λ x. x == 1) (bit_at-zero b) ∙ sym (port-zeros MAP_BYTES no_ports (32 * j + b) none_is);
}

zero_version : (n : ℕ) → n ≡ 0 → version_in n ≡ 0
zero_version n e = omega arith

only_place : (v : View) (i : ℕ) (u : View) → At (v ∷ []) i u → i ≡ 0
only_place v zero u at = refl
only_place v (suc i) u at = absurd (some-ne-none u (sym at))

pub opens : (words : List ℕ) → length words ≡ 2048 → ((k : ℕ) → slice_index words k ≡ 0) → Shared words (first_view ∷ []) 0 first_view
opens words size zeros = record {
  size = size;
  here = refl;
  writes = refl;
  one = λ i u at writes. only_place first_view i u at;
  unfinished = omega arith;
  words_are = λ j small. (subst (IsWordOf (maps_begun first_view) j) (sym (zeros j)) (zero_word ([] ∷ []) j small), zero_version (slice_index words j) (zeros j) ∙ sym (version_left first_view j (omega arith)));
  looks_are = each_of_one (Found words (maps_begun first_view)) first_view (λ l m. absurd (nothing_in l m));
}

zeros_at : (n k : ℕ) → slice_index (replicate n 0) k ≡ 0
zeros_at zero k = refl
zeros_at (suc n) zero = refl
zeros_at (suc n) (suc k) = zeros_at n k

pub opens_zeros : (n : ℕ) (words : List ℕ) → n ≡ 2048 → words ≡ replicate n 0 → Shared words (first_view ∷ []) 0 first_view
opens_zeros n words count zeros = opens words (ap length zeros ∙ (length-replicate n 0 ∙ count)) (λ k. ap (λ (ws : List ℕ). slice_index ws k) zeros ∙ zeros_at n k)

pub splits_off : (id : ℕ) (v : View) → Splits Ruled id v (as_before v) (newcomer v)
splits_off id v s h here =
    let same = set_again s.views id v here in
    let k = h.2 in (
      h.0,
      h.1,
      subst (λ vs. Shared s.words (vs ++ spent ∷ []) h.0 h.1) (sym same) record {
        size = k.size;
        here = at_longer s.views (spent ∷ []) h.0 h.1 k.here;
        writes = k.writes;
        one = λ i u at writes. ⊎_elim (λ was. k.one i u was writes) (λ (e : spent ≡ u). not_both (sym writes ∙ ap (λ (x : View). x.writes) (sym e))) (at_snoc s.views spent u i at);
        unfinished = k.unfinished;
        words_are = k.words_are;
        looks_are = each_snoc (Found s.words (maps_begun h.1)) (Found s.words (maps_begun h.1)) s.views spent k.looks_are (λ u p. p) (λ l m. absurd (nothing_in l m));
      },
    )

module _ (words : List ℕ) (views : List View) (id other : ℕ) (v w : View) (h : Shared words views id v) (apart : other ≢ id) (there : At views other w) where
  abbrev both : View
  both = joined v w

  abbrev first : List View
  first = set views id both

  found : Found words (maps_begun v) both
  found l m = ⊎_elim (h.looks_are id v h.here l) (h.looks_are other w there l) (Contains-append_cases v.looks w.looks l m)

  pub joined_one : Shared words (set first other spent) id both
  joined_one = record {
    size = h.size;
    here = at_there first other id both spent (λ e. apart (sym e)) (at_here views id v both h.here);
    writes = h.writes;
    one = λ i u at writes. ⊎_elim
        (λ (t : (i ≡ other) × (spent ≡ u)). not_both (sym writes ∙ ap (λ (x : View). x.writes) (sym t.1)))
        (λ (t : (i ≢ other) × At first i u). ⊎_elim (λ (k : (i ≡ id) × (both ≡ u)). k.0) (λ (k : (i ≢ id) × At views i u). h.one i u k.1 writes) (at_set views id i both u t.1))
        (at_set first other i spent u at);
    unfinished = h.unfinished;
    words_are = h.words_are;
    looks_are = each_set (Found words (maps_begun v)) (Found words (maps_begun v)) first other spent
        (each_set (Found words (maps_begun v)) (Found words (maps_begun v)) views id both h.looks_are (λ u p. p) found)
        (λ u p. p) (λ l m. absurd (nothing_in l m));
  }

pub joins : (id other : ℕ) (v w : View) → v.writes ≡ true → Joins Ruled id v other w (joined v w) spent
joins id other v w writes s h here apart there =
    (id, joined v w, joined_one s.words s.views id other v w (as_writer s.words s.views h.0 id h.1 v h.2 here writes) apart (sym (set_else s.views id other (joined v w) apart) ∙ there))
