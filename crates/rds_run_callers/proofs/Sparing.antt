-- Vacant slots are given up, one after another.
use Rattle.std.proofs.Common.{◌≡◌, ℕ, zero, suc, ◌+◌, ◌≤◌, List, [], ◌∷◌, length, map, set, Some, slice_get, refl, sym, ap, subst, ◌∙◌, arith}
use Rattle.std.specs.Option.{option_map}
use Rattle.std.proofs.lemmas.Option.{same_Some, slice_get-map}
use Rattle.std.proofs.lemmas.List.{length-map}
use Rattle.rds_model.specs.declared.order.Datagram.{Datagram}
use Rattle.rds_fmap.specs.Readers.{ReaderView}
use Rattle.rds_socket.specs.Holding.{Holding, Open}
use Rattle.rds_run_callers.specs.Places.{Place, Vacant, Bound, Ended, Spare, ArePlaces, HasKept, holding_of, spared, somes}
use Rattle.rds_run_callers.specs.States.{shown, shown_all, AreSlots}
use Rattle.rds_run_callers.specs.declared.state.State.{State}
use Rattle.rds_run_callers.specs.declared.state.State.TheVariants as state
use Rattle.rds_run_callers.proofs.Seen.{mapped, somes_some}
use Rattle.rds_run_callers.proofs.Doings.{used_not, unbound_not}

-- those before this place were changed
abbrev pub part : {A : Type 0} → (A → A) → ℕ → List A → List A
part f zero l = l
part f (suc n) [] = []
part f (suc n) (x ∷ l) = f x ∷ part f n l

pub part_step : {A : Type 0} (f : A → A) (n : ℕ) (l : List A) (x : A) → slice_get (part f n l) n ≡ Some x → set (part f n l) n (f x) ≡ part f (n + 1) l
part_step f zero [] x e = absurd (cc)
part_step f zero (y ∷ l) x e = ap (λ z. f z ∷ l) (sym (same_Some y x e))
part_step f (suc n) [] x e = absurd (cc)
part_step f (suc n) (y ∷ l) x e =
    let next : suc (n + 1) ≡ suc n + 1 = omega arith in
    ap (λ r. f y ∷ r) (part_step f n l x e) ∙ ap (λ k. part f k (y ∷ l)) next

pub part_all : {A : Type 0} (f : A → A) (n : ℕ) (l : List A) → length l ≤ n → part f n l ≡ map f l
part_all f zero [] e = refl
part_all f zero (x ∷ l) e = absurd (omega arith)
part_all f (suc n) [] e = refl
part_all f (suc n) (x ∷ l) e = ap (λ r. f x ∷ r) (part_all f n l (omega arith))

some_spared : (places : List Place) → map (option_map spared) (map Some places) ≡ map Some (map spared places)
some_spared [] = refl
some_spared (p ∷ places) = ap (λ r. Some (spared p) ∷ r) (some_spared places)

same_holding : (p : Place) → holding_of (spared p) ≡ holding_of p
same_holding (Vacant h) = refl
same_holding (Bound o got) = refl
same_holding (Ended port h got) = refl
same_holding (Spare h) = refl

same_kept : (p : Place) → HasKept p → HasKept (spared p)
same_kept (Vacant h) k = k
same_kept (Bound o got) k = k
same_kept (Ended port h got) k = k
same_kept (Spare h) k = k

was_bound : (p : Place) (o : Open ReaderView) (got : List Datagram) → spared p ≡ Bound o got → p ≡ Bound o got
was_bound (Vacant h) o got e = absurd (unbound_not (Spare h) o got tt e)
was_bound (Bound q more) o got e = e
was_bound (Ended port h more) o got e = e
was_bound (Spare h) o got e = e

none_vacant : (p : Place) (h : Holding ReaderView) → spared p ≡ Vacant h → ⊥
none_vacant (Vacant k) h e = used_not (Spare k) tt (h, e)
none_vacant (Bound o got) h e = used_not (Bound o got) tt (h, e)
none_vacant (Ended port k got) h e = used_not (Ended port k got) tt (h, e)
none_vacant (Spare k) h e = used_not (Spare k) tt (h, e)

back : (places : List Place) (slot : ℕ) (q : Place) → slice_get (map spared places) slot ≡ Some q → (p : Place) × (slice_get places slot ≡ Some p) × (spared p ≡ q)
back places slot q at = mapped spared (slice_get places slot) q (sym (slice_get-map spared places slot) ∙ at)

places_spared : (places : List Place) → ArePlaces places → ArePlaces (map spared places)
places_spared places a = record {
  number = λ slot q at. let f = back places slot q at in
      ap (λ (p : Place). (holding_of p).words.slot) (sym f.2) ∙ (ap (λ (h : Holding ReaderView). h.words.slot) (same_holding f.0) ∙ a.number slot f.0 f.1);
  kept = λ slot q at. let f = back places slot q at in subst HasKept f.2 (same_kept f.0 (a.kept slot f.0 f.1));
  ports = λ slot other o q got more at there same.
      let f = back places slot (Bound o got) at in
      let g = back places other (Bound q more) there in
      a.ports slot other o q got more (f.1 ∙ ap Some (was_bound f.0 o got f.2)) (g.1 ∙ ap Some (was_bound g.0 q more g.2)) same;
  order = λ slot other h p at there le. let f = back places slot (Vacant h) at in absurd (none_vacant f.0 h f.2);
}

pub sound_spared : (old new : List State) → AreSlots old → map shown new ≡ map (option_map spared) (map shown old) → AreSlots new × (shown_all new ≡ map spared (shown_all old))
sound_spared old new s made =
    let places = shown_all old in
    let shows : map shown new ≡ map Some (map spared places) = made ∙ (ap (map (option_map spared)) s.whole ∙ some_spared places) in
    let is : shown_all new ≡ map spared places = ap somes shows ∙ somes_some (map spared places) in
    let size : length new ≡ length old = sym (length-map new shown) ∙ (ap length made ∙ (length-map (map shown old) (option_map spared) ∙ length-map old shown)) in (
      record {
        whole = shows ∙ ap (map Some) (sym is);
        count = let c = s.count in omega arith;
        places = subst ArePlaces (sym is) (places_spared places s.places);
      },
      is,
    )

-- slots that no socket had
vacant_shown : (l : List (Holding ReaderView)) → map shown (map state.Vacant l) ≡ map Some (map Vacant l)
vacant_shown [] = refl
vacant_shown (h ∷ l) = ap (λ r. Some (Vacant h) ∷ r) (vacant_shown l)

vacant_back : (l : List (Holding ReaderView)) (slot : ℕ) (p : Place) → slice_get (map Vacant l) slot ≡ Some p → (h : Holding ReaderView) × (slice_get l slot ≡ Some h) × (Vacant h ≡ p)
vacant_back l slot p at = mapped Vacant (slice_get l slot) p (sym (slice_get-map Vacant l slot) ∙ at)

pub sound_vacant : (l : List (Holding ReaderView)) (states : List State) → states ≡ map state.Vacant l → length states ≤ 65535 → ((slot : ℕ) (h : Holding ReaderView) → slice_get l slot ≡ Some h → h.words.slot ≡ slot)
    → ((slot : ℕ) (h : Holding ReaderView) → slice_get l slot ≡ Some h → h.inbox.get.got ≡ []) → AreSlots states × (shown_all states ≡ map Vacant l)
sound_vacant l states made count number empty =
    let shows = ap (map shown) made ∙ vacant_shown l in
    let is : shown_all states ≡ map Vacant l = ap somes shows ∙ somes_some (map Vacant l) in (
      record {
        whole = shows ∙ ap (map Some) (sym is);
        count = count;
        places = subst ArePlaces (sym is) (record {
          number = λ slot p at. let f = vacant_back l slot p at in ap (λ (q : Place). (holding_of q).words.slot) (sym f.2) ∙ number slot f.0 f.1;
          kept = λ slot p at. let f = vacant_back l slot p at in subst HasKept f.2 (empty slot f.0 f.1);
          ports = λ slot other o q got more at there same. let f = vacant_back l slot (Bound o got) at in absurd (unbound_not (Vacant f.0) o got tt f.2);
          order = λ slot other h p at there le. let f = vacant_back l other p there in (f.0, sym f.2);
        });
      },
      is,
    )

pub map_self : {A : Type 0} (l : List A) → map (λ y. y) l ≡ l
map_self [] = refl
map_self (x ∷ l) = ap (λ r. x ∷ r) (map_self l)
