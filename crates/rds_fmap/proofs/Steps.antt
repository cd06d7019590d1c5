-- A put, a look and a load that teaches keep the rule.
use Rattle.std.proofs.Common.{◌≡◌, ◌≢◌, ℕ, ◌+◌, ◌<◌, ◌≤◌, true, false, List, length, set, refl, sym, ap, ◌∙◌, subst, ⊎_elim, arith}
use Rattle.std.proofs.lemmas.List.{get_or-set_same, get_or-set_other, length-set, set-get_or}
use Rattle.std.proofs.lemmas.List.Elements.{Contains-push_cases}
use Rattle.std.specs.Prelude.{Contains, slice_index}
use mathlib.Core.Logic.{dite}
use mathlib.Core.Option.{some-injective}
use native.Mathlib.Decide.{ℕ_discrete}
use lib.ListN.{get_elem?}
use Rattle.atomic_table.specs.Table.{Me, Allows, keeps}
use Rattle.atomic_table.proofs.Lists.{at_set, set_again}
use Rattle.rds_seats.specs.Views.{At}
use Rattle.rds_seats.specs.ViewLaws.{at_here, at_there, each_set}
use Rattle.rds_fmap.specs.Views.{version_in, maps_begun, after_put, after_look}
use Rattle.rds_fmap.specs.Shared.{Shared, Ruled, IsWordOf, IsLookOf, version_at}
use Rattle.rds_fmap.specs.declared.words.view.View.{View}
use Rattle.rds_fmap.specs.declared.words.view.Look.{Look}
use Rattle.rds_fmap.proofs.Growth.{word_grows}
use Rattle.rds_fmap.proofs.Putting.{Put, puts_word, version_left}

-- the looks of a view found words of these maps
abbrev pub Found : List ℕ → List (List ℕ) → View → Type 0
Found words maps v = (l : Look) → Contains v.looks l → IsLookOf words maps l

-- the seat that writes is the one with the writer's view
pub writer_is : (words : List ℕ) (views : List View) (place id : ℕ) (w v : View) → Shared words views place w → At views id v → v.writes ≡ true → (id ≡ place) × (w ≡ v)
writer_is words views place id w v h here writes =
    let same = h.one id v here writes in
    (same, some-injective w v (sym h.here ∙ (ap (get_elem? views) (sym same) ∙ here)))

pub as_writer : (words : List ℕ) (views : List View) (place id : ℕ) (w v : View) → Shared words views place w → At views id v → v.writes ≡ true → Shared words views id v
as_writer words views place id w v h here writes =
    let k = writer_is words views place id w v h here writes in
    subst (λ i. Shared words views i v) (sym k.0) (subst (Shared words views place) k.1 h)

module _ (words : List ℕ) (views : List View) (id : ℕ) (v : View) (h : Shared words views id v) (n : ℕ) (version : version_in n ≡ length v.published + 1) where
  abbrev q : ℕ
  q = length v.part

  abbrev after : List ℕ
  after = set words q n

  abbrev w : View
  w = after_put v n

  new : Put v n w
  new = puts_word v n version h.unfinished

  word_here : slice_index after q ≡ n
  word_here = get_or-set_same words q n 0 (let s = h.size in let u = h.unfinished in omega arith)

  word_there : (i : ℕ) → i ≢ q → slice_index after i ≡ slice_index words i
  word_there i apart = get_or-set_other words q i n 0 apart

  old_version : version_in (slice_index words q) ≡ length v.published
  old_version = (h.words_are q h.unfinished).1 ∙ version_left v q (omega arith)

  -- no word's version falls
  rises : (i : ℕ) → version_in (slice_index words i) ≤ version_in (slice_index after i)
  rises i = dite (ℕ_discrete i q)
      (λ e. let a : version_in (slice_index after i) ≡ version_in n = ap (λ k. version_in (slice_index after k)) e ∙ ap version_in word_here in
      let b : version_in (slice_index words i) ≡ length v.published = ap (λ k. version_in (slice_index words k)) e ∙ old_version in
      let c = version in omega arith)
      (λ ne. let a : version_in (slice_index after i) ≡ version_in (slice_index words i) = ap version_in (word_there i ne) in omega arith)

  look_grows : (l : Look) → IsLookOf words (maps_begun v) l → IsLookOf after (maps_begun w) l
  look_grows l k = record {
    word = word_grows (maps_begun v) (maps_begun w) l.word l.number new.grows k.word;
    version = (let a = k.version in let b = rises l.word in omega arith);
  }

  words_now : (j : ℕ) → j < 2048 → IsWordOf (maps_begun w) j (slice_index after j) × (version_in (slice_index after j) ≡ version_at w j)
  words_now j small = dite (ℕ_discrete j q)
      (λ e. subst (λ k. IsWordOf (maps_begun w) k (slice_index after k) × (version_in (slice_index after k) ≡ version_at w k)) (sym e)
      (subst (IsWordOf (maps_begun w) q) (sym word_here) new.word, ap version_in word_here ∙ (version ∙ sym new.here)))
      (λ ne. (
        subst (IsWordOf (maps_begun w) j) (sym (word_there j ne)) (word_grows (maps_begun v) (maps_begun w) j (slice_index words j) new.grows (h.words_are j small).0),
        ap version_in (word_there j ne) ∙ ((h.words_are j small).1 ∙ sym (new.there j small ne)),
      ))

  pub put_at : Shared after (set views id w) id w
  put_at = record {
    size = length-set words q n ∙ h.size;
    here = at_here views id v w h.here;
    writes = new.writes ∙ h.writes;
    one = λ i u at writes. ⊎_elim (λ (t : (i ≡ id) × (w ≡ u)). t.0) (λ (t : (i ≢ id) × At views i u). h.one i u t.1 writes) (at_set views id i w u at);
    unfinished = new.unfinished;
    words_are = words_now;
    looks_are = each_set (Found words (maps_begun v)) (Found after (maps_begun w)) views id w h.looks_are (λ u p l m. look_grows l (p l m))
        (λ l m. look_grows l (h.looks_are id v h.here l (subst (λ ls. Contains ls l) new.looks m)));
  }

pub puts : (homes id q n : ℕ) (me : Me (Unit {0}) View) → me.0.writes ≡ true → q ≡ length me.0.part → version_in n ≡ length me.0.published + 1
    → Allows Ruled homes id me q (λ _. n) (λ _ now. now ≡ (after_put me.0 n, me.1))
puts homes id q n me writes place version s h homed here fits =
    let k = as_writer s.words s.views h.0 id h.1 me.0 h.2 here writes in
    let w = after_put me.0 n in
    (w, keeps, tt, (id, w, subst (λ i. Shared (set s.words i n) (set s.views id w) id w) (sym place) (put_at s.words s.views id me.0 k n version)), refl)

module _ (words : List ℕ) (views : List View) (place id q : ℕ) (writer v : View) (h : Shared words views place writer) (here : At views id v) (reads : v.writes ≡ false) (small : q < 2048) where
  abbrev number : ℕ
  number = slice_index words q

  abbrev looker : View
  looker = after_look v q number

  apart : place ≢ id
  apart e =
      let same : writer ≡ v = some-injective writer v (sym h.here ∙ (ap (get_elem? views) e ∙ here)) in
      let a : true ≡ false = sym h.writes ∙ (ap (λ (x : View). x.writes) same ∙ reads) in
      absurd (cc)

  found : Found words (maps_begun writer) looker
  found l m = ⊎_elim (λ was. h.looks_are id v here l was)
      (λ (same : record { word = q; number = number } ≡ l). subst (IsLookOf words (maps_begun writer)) same (record { word = (h.words_are q small).0; version = omega arith }))
      (Contains-push_cases v.looks (record { word = q; number = number }) l m)

  pub look_at : Shared words (set views id looker) place writer
  look_at = record {
    size = h.size;
    here = at_there views id place writer looker apart h.here;
    writes = h.writes;
    one = λ i u at writes. ⊎_elim
        (λ (t : (i ≡ id) × (looker ≡ u)). let a : true ≡ false = sym writes ∙ (ap (λ (x : View). x.writes) (sym t.1) ∙ reads) in absurd (cc))
        (λ (t : (i ≢ id) × At views i u). h.one i u t.1 writes) (at_set views id i looker u at);
    unfinished = h.unfinished;
    words_are = h.words_are;
    looks_are = each_set (Found words (maps_begun writer)) (Found words (maps_begun writer)) views id looker h.looks_are (λ u p. p) found;
  }

pub looks : (homes id q : ℕ) (me : Me (Unit {0}) View) → me.0.writes ≡ false → q < 2048
    → Allows Ruled homes id me q (λ n. n) (λ found now. (now ≡ (after_look me.0 q found, me.1)) × ((l : Look) → Contains me.0.looks l → l.word ≡ q → version_in l.number ≤ version_in found))
looks homes id q me reads small s h homed here fits = (
  after_look me.0 q (slice_index s.words q),
  keeps,
  tt,
  (h.0, h.1, subst (λ ws. Shared ws (set s.views id (after_look me.0 q (slice_index s.words q))) h.0 h.1) (sym (set-get_or s.words q 0)) (look_at s.words s.views h.0 id q h.1 me.0 h.2 here reads small)),
  (refl, λ l m e. (let a = (h.2.looks_are id me.0 here l m).version in let b : version_in (slice_index s.words l.word) ≡ version_in (slice_index s.words q) = ap (λ k. version_in (slice_index s.words k)) e in omega arith)),
)

pub learns : (homes id : ℕ) (me : Me (Unit {0}) View)
    → Allows Ruled homes id me 0 (λ n. n) (λ found now. (now ≡ me) × (me.0.writes ≡ true → (l : Look) → Contains me.0.looks l → IsWordOf (maps_begun me.0) l.word l.number))
learns homes id me s h homed here fits = (
  me.0,
  keeps,
  tt,
  (h.0, h.1, subst (λ ws. Shared ws (set s.views id me.0) h.0 h.1) (sym (set-get_or s.words 0 0)) (subst (λ vs. Shared s.words vs h.0 h.1) (sym (set_again s.views id me.0 here)) h.2)),
  (refl, λ writes l m. (let k = as_writer s.words s.views h.0 id h.1 me.0 h.2 here writes in (k.looks_are id me.0 here l m).word)),
)
