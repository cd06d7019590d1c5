-- A new mailbox keeps the rule, and so do a put and a get. What an empty queue shows.
use Rattle.std.proofs.Common.{◌≡◌, ℕ, suc, true, true≢false, List, [], ◌∷◌, ◌++◌, set, Some, None, refl, sym, ap, subst, ◌∙◌, append_assoc, arith}
use Rattle.std.proofs.lemmas.List.{append-nil}
use mathlib.Core.Option.{some-ne-none}
use Rattle.crossbeam_queue.specs.Fifo.{Pushes, Pops, Learns}
use Rattle.rds_mail.specs.declared.view.View.{View}
use Rattle.rds_mail.specs.Numbers.{Number, Numbered, items_of}
use Rattle.rds_mail.specs.Views.{first_view, after_put, after_get}
use Rattle.rds_mail.specs.Shared.{Places, IsAllPut, IsPart, PutterStands, PassFits, IsMailed}
use Rattle.rds_mail.specs.Plays.{Puts, Gets, Emptied}
use Rattle.rds_mail.proofs.Numbers.{items-append, of_put, of_other, first_queued, none_queued}
use Rattle.rds_mail.proofs.Places.{placed, not_none}
use Rattle.rds_mail.proofs.Fitting.{all_set, all_snoc, each_nil, not_place, AllFit, part_whole, part_more, stands_put, fits_on}

module _ {T : Type 0} where
  pub begins : IsMailed {T = T} [] (first_view ∷ [])
  begins =
      let places : Places = placed [] (Some 1) (λ _. None) in
      let fits : PassFits {T = T} places [] [] 0 0 first_view = record {
        puts = λ _. record { here = refl; whole = refl; splits = λ k _. refl };
        gets = λ _. (refl, refl);
        notes = λ is. absurd (true≢false (sym is));
        told = each_nil (IsPart []);
        joined = each_nil (PutterStands places [] 0);
      } in
      record {
        places = places;
        reader = 0;
        got = [];
        queued = [];
        are = refl;
        after = λ number k _. refl;
        nothing = λ number _. refl;
        fits = all_snoc (PassFits places [] [] 0) [] first_view (λ j u e. absurd (some-ne-none u (sym e))) fits;
      }

  pub puts : (n id : ℕ) (v : View T) (x : T) → v.puts ≡ true → Pushes IsMailed n id v x (Puts v x)
  puts n id v x may queue views _ h at =
      let w : View T = after_put v x in
      let number : Number = v.account.number in
      let log : List (Numbered T) = h.got ++ h.queued in
      let mine = h.fits id v at in
      let st = mine.puts may in
      let same : h.got ++ (h.queued ++ (number, x) ∷ []) ≡ log ++ (number, x) ∷ [] = sym (append_assoc h.got h.queued ((number, x) ∷ [])) in
      let whole : IsAllPut (log ++ (number, x) ∷ []) w.account = ap (λ l. l ++ x ∷ []) st.whole ∙ sym (of_put number log x) in
      let now : PassFits h.places (log ++ (number, x) ∷ []) h.got h.reader id w = record {
        puts = λ _. record { here = st.here; whole = whole; splits = st.splits };
        gets = mine.gets;
        notes = λ _. part_whole (log ++ (number, x) ∷ []) w.account whole;
        told = λ i a e. part_more log ((number, x) ∷ []) a (mine.told i a e);
        joined = λ i a e. stands_put h.places log 0 (suc id) a number x st.here (λ z. absurd (omega arith)) (mine.joined i a e);
      } in (
        w,
        record {
          places = h.places;
          reader = h.reader;
          got = h.got;
          queued = h.queued ++ (number, x) ∷ [];
          are = items-append h.queued ((number, x) ∷ []) ∙ ap (λ l. l ++ x ∷ []) h.are;
          after = h.after;
          nothing = λ p none. ap (items_of p) same ∙ (of_other p number log x (λ is. not_none (suc id) (h.places p) (ap h.places is ∙ st.here) none) ∙ h.nothing p none);
          fits = subst (λ l. AllFit h.places l h.got h.reader (set views id w)) (sym same)
              (all_set (PassFits h.places log h.got h.reader) (PassFits h.places (log ++ (number, x) ∷ []) h.got h.reader) views id w h.fits now
              (λ j u apart f. fits_on h.places h.places log (log ++ (number, x) ∷ []) h.got h.got h.reader h.reader j u
              (λ s a c old. stands_put h.places log s (suc id) a number x st.here (not_place s j id apart c) old)
              (part_more log ((number, x) ∷ []))
              (λ _ t. t) f));
        },
        refl,
      )

  pub gets : (id : ℕ) (v : View T) → v.gets ≡ true → Pops IsMailed id v (Gets v)
  gets id v may x queue views h at =
      let first = first_queued h.queued x queue h.are in
      let number : Number = first.0 in
      let rest : List (Numbered T) = first.1 in
      let w : View T = after_get v number x in
      let log : List (Numbered T) = h.got ++ h.queued in
      let got : List (Numbered T) = h.got ++ (number, x) ∷ [] in
      let mine = h.fits id v at in
      let m = mine.gets may in
      let same : log ≡ got ++ rest = ap (λ l. h.got ++ l) first.2 ∙ sym (append_assoc h.got ((number, x) ∷ []) rest) in
      let now : PassFits h.places log got h.reader id w = record {
        puts = mine.puts;
        gets = λ _. (m.0, ap (λ l. l ++ (number, x) ∷ []) m.1);
        notes = mine.notes;
        told = mine.told;
        joined = mine.joined;
      } in (
        w,
        record {
          places = h.places;
          reader = h.reader;
          got = got;
          queued = rest;
          are = first.3;
          after = h.after;
          nothing = λ p none. ap (items_of p) (sym same) ∙ h.nothing p none;
          fits = subst (λ l. AllFit h.places l got h.reader (set views id w)) same
              (all_set (PassFits h.places log h.got h.reader) (PassFits h.places log got h.reader) views id w h.fits now
              (λ j u apart f. fits_on h.places h.places log log h.got got h.reader h.reader j u (λ s a c old. old) (λ a p. p)
              (λ _ t. absurd (apart (t.0 ∙ sym m.0))) f));
        },
        (number, refl),
      )

  pub emptied : (id : ℕ) (v : View T) → v.gets ≡ true → Learns IsMailed id v (Emptied v)
  emptied id v may queue views h at none =
      let mine = h.fits id v at in
      let log : h.got ++ h.queued ≡ v.got = ap (λ l. h.got ++ l) (none_queued h.queued (h.are ∙ none)) ∙ (append-nil h.got ∙ sym (mine.gets may).1) in (
        (λ i a e. subst (λ l. IsPart l a) log (mine.told i a e)),
        (λ i a e. subst (λ l. IsAllPut l a) log (mine.joined i a e).whole),
      )
