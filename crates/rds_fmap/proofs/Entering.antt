-- An entry and a publication keep the rule of two copies.
use Rattle.std.proofs.Common.{◌≡◌, Bool, ℕ, zero, suc, ◌+◌, ◌≤◌, List, [], ◌∷◌, ◌++◌, length, set, slice_get, Some, refl, sym, ap, ◌∙◌, subst, ⊎_elim, inl, inr, arith}
use Rattle.std.proofs.lemmas.List.{append_assoc, length-append, append-nil}
use Rattle.std.proofs.lemmas.List.Elements.{Contains-push_cases, Contains-push, Contains-append_left}
use Rattle.std.specs.Prelude.{Contains, Result, Ok, Err, IsOk, MatchResult, is_err, false}
use Rattle.crossbeam_utils.specs.Register.{Admits, TurnsAt}
use Rattle.rds_seats.specs.ViewLaws.{each_set, each_snoc}
use Rattle.rds_cong.specs.Map.{no_ports, has_port}
use Rattle.rds_fmap.specs.Versions.{IsVersion}
use Rattle.rds_fmap.specs.Entries.{newcomer, first_shown, entered, published, IsFound, IsLatest, LookDone, TakesCopy, copy_reader_view, seen_of}
use Rattle.rds_fmap.specs.TwoCopies.{IsShown}
use Rattle.rds_fmap.specs.declared.seen.Seen.{Seen}
use Rattle.rds_fmap.specs.declared.copies.shown.Shown.{Shown}
use Rattle.rds_fmap.specs.declared.copies.view.View.{View}
use Rattle.rds_fmap.proofs.Lists.{nothing_in, each_of_one}
use Rattle.rds_fmap.proofs.Growth.{get_at}

abbrev First : List (List ℕ) → View → Type 0
First maps v = (rest : List (List ℕ)) × (maps ≡ v.published ++ rest)

abbrev Fits : List (List ℕ) → ℕ → View → Type 0
Fits maps version v = (e : Shown) → Contains v.found e → (e.version ≤ version) × IsVersion maps e.version e.map

pub admits : Admits IsShown newcomer
admits x views h = record {
  maps = h.maps;
  count = h.count;
  last = h.last;
  first = each_snoc (First h.maps) (First h.maps) views newcomer h.first (λ v p. p) (h.maps, refl);
  found = each_snoc (Fits h.maps x.version) (Fits h.maps x.version) views newcomer h.found (λ v p. p) (λ e m. absurd (nothing_in e m));
}

pub opens : (x : Shown) → x ≡ first_shown → IsShown x (newcomer ∷ [])
opens x is = subst (λ (s : Shown). IsShown s (newcomer ∷ [])) (sym is) record {
  maps = [];
  count = refl;
  last = refl;
  first = each_of_one (First []) newcomer ([], refl);
  found = each_of_one (Fits [] 0) newcomer (λ e m. absurd (nothing_in e m));
}

-- one version is one map
same_map : (maps : List (List ℕ)) (version other : ℕ) (map old : List ℕ) → IsVersion maps version map → IsVersion maps other old → other ≡ version → map ≡ old
same_map maps version other map old is was e =
    let same : Some map ≡ Some old = sym is ∙ (ap (slice_get (no_ports ∷ maps)) (sym e) ∙ was) in
    cc

pub enters : (seat : ℕ) (v : View) (x : Shown) → TurnsAt IsShown seat v x x entered
enters seat v x views h at =
    let w : View = record v { found = v.found ++ x ∷ [] } in (
      w,
      record {
        maps = h.maps;
        count = h.count;
        last = h.last;
        first = each_set (First h.maps) (First h.maps) views seat w h.first (λ u p. p) (h.first seat v at);
        found = each_set (Fits h.maps x.version) (Fits h.maps x.version) views seat w h.found (λ u p. p) (λ e m. ⊎_elim
            (h.found seat v at e)
            (λ (same : x ≡ e). subst (λ (y : Shown). (y.version ≤ x.version) × IsVersion h.maps y.version y.map) same (omega arith, h.last))
            (Contains-push_cases v.found x e m));
      },
      (
        refl,
        λ none. (let map_is : x.map ≡ no_ports = same_map h.maps x.version 0 x.map no_ports h.last refl (sym none) in λ i. record { version = none i; map = map_is i }),
        λ e m. (
          (h.found seat v at e m).0,
          λ same. (let map_is : x.map ≡ e.map = same_map h.maps x.version e.version x.map e.map h.last (h.found seat v at e m).1 same in λ i. record { version = sym same i; map = map_is i }),
        ),
      ),
    )

longer_version : (maps more : List (List ℕ)) (v : ℕ) (map : List ℕ) → slice_get maps v ≡ Some map → slice_get (maps ++ more) v ≡ Some map
longer_version [] more v map is = absurd (cc)
longer_version (m ∷ maps) more zero map is = is
longer_version (m ∷ maps) more (suc v) map is = longer_version maps more v map is

empty : (xs : List (List ℕ)) → length xs ≡ 0 → xs ≡ []
empty [] e = refl
empty (x ∷ xs) e = absurd (omega arith)

pub publishes : (seat : ℕ) (v : View) (x y : Shown) → x.version ≡ length v.published → y.version ≡ x.version + 1 → TurnsAt IsShown seat v x y published
publishes seat v x y count next views h at =
    let w : View = record v { published = v.published ++ y.map ∷ [] } in
    let mine = h.first seat v at in
    let long : length h.maps ≡ length v.published + length mine.0 = ap length mine.1 ∙ length-append v.published mine.0 in
    let none : mine.0 ≡ [] = empty mine.0 (let c = h.count in omega arith) in
    let all : h.maps ≡ v.published = mine.1 ∙ (ap (λ r. v.published ++ r) none ∙ append-nil v.published) in
    let maps = h.maps ++ y.map ∷ [] in (
      w,
      record {
        maps = maps;
        count = length-append h.maps (y.map ∷ []) ∙ (let c = h.count in omega arith);
        last = get_at (no_ports ∷ h.maps) [] y.map y.version (let c = h.count in omega arith);
        first = each_set (First h.maps) (First maps) views seat w h.first
            (λ u p. (p.0 ++ y.map ∷ [], ap (λ l. l ++ y.map ∷ []) p.1 ∙ append_assoc u.published p.0 (y.map ∷ [])))
            ([], ap (λ l. l ++ y.map ∷ []) all ∙ sym (append-nil (v.published ++ y.map ∷ [])));
        found = each_set (Fits h.maps x.version) (Fits maps y.version) views seat w h.found
            (λ u p e m. ((let a = (p e m).0 in omega arith), longer_version (no_ports ∷ h.maps) (y.map ∷ []) e.version e.map (p e m).1))
            (λ e m. (let k = h.found seat v at e m in ((let a = k.0 in omega arith), longer_version (no_ports ∷ h.maps) (y.map ∷ []) e.version e.map k.1)));
      },
      refl,
    )

-- the copy after an entry
pub took : (v w : View) (old y : Shown) → IsLatest v.found old → entered v y y w → TakesCopy v old w y
took v w old y latest e =
    let new : w.found ≡ v.found ++ y ∷ [] = ap (λ (x : View). x.found) e.0 in
    let newest : (k : Shown) → Contains v.found k → k.version ≤ y.version = λ k m. (e.2 k m).0 in
    record {
      step = inl e.0;
      latest = subst (λ l. IsLatest l y) (sym new) record {
        found_is = inr (Contains-push v.found y);
        newest = λ k m. ⊎_elim (newest k) (λ (same : y ≡ k). let a : k.version ≡ y.version = ap (λ (x : Shown). x.version) (sym same) in omega arith) (Contains-push_cases v.found y k m);
      };
      later = λ k m. ⊎_elim (λ (same : k ≡ first_shown). let a : k.version ≡ 0 = ap (λ (x : Shown). x.version) same in omega arith) (newest k) m;
    }

-- one version is one map, the copy's too
pub same_copy : (v w : View) (old y : Shown) → IsLatest v.found old → entered v y y w → old.version ≡ y.version → old ≡ y
same_copy v w old y latest e same = ⊎_elim
    (λ (first : old ≡ first_shown). let zero_is : y.version ≡ 0 = sym same ∙ ap (λ (x : Shown). x.version) first in first ∙ sym (e.1 zero_is))
    (λ m. sym ((e.2 old m).1 same))
    latest.found_is

-- and after a refusal
pub refused : (v w : View) (old : Shown) → IsLatest v.found old → w ≡ v → TakesCopy v old w old
refused v w old latest same = record {
  step = inr (same, refl);
  latest = subst (λ (x : View). IsLatest x.found old) (sym same) latest;
  later = λ k m. ⊎_elim (λ (first : k ≡ first_shown). let a : k.version ≡ 0 = ap (λ (x : Shown). x.version) first in omega arith) (latest.newest k) m;
}

-- what was found stays found
still_found : (v w : View) (old new : Shown) → TakesCopy v old w new → (e : Shown) → IsFound v.found e → IsFound w.found e
still_found v w old new t e k = ⊎_elim
    (λ (step : w ≡ record v { found = v.found ++ new ∷ [] }).
    let longer : w.found ≡ v.found ++ new ∷ [] = ap (λ (x : View). x.found) step in
    ⊎_elim (λ first. inl first) (λ m. inr (subst (λ l. Contains l e) (sym longer) (Contains-append_left v.found (new ∷ []) e m))) k)
    (λ (step : (w ≡ v) × (new ≡ old)). subst (λ (x : View). IsFound x.found e) (sym step.0) k)
    t.step

pub looks_by : (v w : View) (old new : Shown) (port : ℕ) (set : Bool) → TakesCopy v old w new → set ≡ has_port new.map port
    → LookDone (copy_reader_view v old) (copy_reader_view w new) port (record { version = new.version; set = set })
looks_by v w old new port set t is =
    let seen : Seen = record { version = new.version; set = set } in
    let answer : seen ≡ seen_of new port = λ i. record { version = new.version; set = is i } in
    record {
      look = (
        ⊎_elim
            (λ (step : w ≡ record v { found = v.found ++ new ∷ [] }). inl (ap (λ (x : View). x.found) step))
            (λ (step : (w ≡ v) × (new ≡ old)). inr (λ i. copy_reader_view (step.0 i) (step.1 i)))
            t.step,
        answer,
      );
      now = (new, t.latest.found_is, answer);
      kept = λ p s k. (k.0, still_found v w old new t k.0 k.1, k.2);
      later = λ p s k. (let a = t.later k.0 k.1 in let b : s.version ≡ k.0.version = ap (λ (x : Seen). x.version) k.2 in omega arith);
    }

-- what holds where a call was refused or not, once it is known which
pub kept_ok : {A E : Type 0} (P : A → Type 0) (Q : E → Type 0) (r : Result A E) → is_err r ≡ false → MatchResult r P Q → (a : A) × P a
kept_ok P Q (Ok a) is m = (a, m)
kept_ok P Q (Err e) is m = absurd (cc)

pub kept_done : {A E : Type 0} (P : A → Type 0) (Q : E → Type 0) (r : Result A E) → IsOk r → MatchResult r P Q → (a : A) × P a
kept_done P Q (Ok a) is m = (a, m)
kept_done P Q (Err e) is m = absurd (cc)

-- where nothing waited, one that was added is all that waits
pub one_waits : (before after : List Shown) (next : Shown) → after ≡ before ++ next ∷ [] → before ≡ [] → after ≡ next ∷ []
one_waits before after next is none = is ∙ ap (λ (l : List Shown). l ++ next ∷ []) none
