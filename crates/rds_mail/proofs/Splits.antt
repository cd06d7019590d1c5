-- A pass that is cut off another keeps the rule.
use Rattle.std.proofs.Common.{◌≡◌, ◌≢◌, ℕ, suc, true, true≢false, List, ◌∷◌, ◌++◌, length, set, Some, None, refl, sym, ap, ◌∙◌, arith}
use Rattle.crossbeam_queue.specs.Fifo.{Forks}
use Rattle.rds_mail.specs.declared.view.View.{View}
use Rattle.rds_mail.specs.declared.view.Account.{Account}
use Rattle.rds_mail.specs.Numbers.{Number, Numbered}
use Rattle.rds_mail.specs.Views.{putting, getting, after_split, newcomer, next_number, note_of}
use Rattle.rds_mail.specs.Shared.{Places, IsPart, PutterStands, PassFits, IsMailed}
use Rattle.rds_mail.proofs.Numbers.{longer, cons_head, cons_tail}
use Rattle.rds_mail.proofs.Places.{placed, placed_here, placed_else, unplaced, some_same, not_none}
use Rattle.rds_mail.proofs.Fitting.{all_set, all_snoc, each_nil, not_place, part_whole, fits_on}

module _ {T : Type 0} where
  pub roles : (id : ℕ) (v : View T) → v.puts ≡ true → v.gets ≡ true → Forks IsMailed id v (putting v) (getting v)
  roles id v _ may queue views h at =
      let log : List (Numbered T) = h.got ++ h.queued in
      let vs : List (View T) = set views id (putting v) in
      let mine = h.fits id v at in
      let m = mine.gets may in
      let left : PassFits h.places log h.got (length vs) id (putting v) = record {
        puts = mine.puts;
        gets = λ is. absurd (true≢false (sym is));
        notes = mine.notes;
        told = mine.told;
        joined = mine.joined;
      } in
      let right : PassFits h.places log h.got (length vs) (length vs) (getting v) = record {
        puts = λ is. absurd (true≢false (sym is));
        gets = λ _. (refl, m.1);
        notes = λ is. absurd (true≢false (sym is));
        told = mine.told;
        joined = mine.joined;
      } in
      record {
        places = h.places;
        reader = length vs;
        got = h.got;
        queued = h.queued;
        are = h.are;
        after = h.after;
        nothing = h.nothing;
        fits = all_snoc (PassFits h.places log h.got (length vs)) vs (getting v)
            (all_set (PassFits h.places log h.got h.reader) (PassFits h.places log h.got (length vs)) views id (putting v) h.fits left
            (λ j u apart f. fits_on h.places h.places log log h.got h.got h.reader (length vs) j u (λ s a c old. old) (λ a p. p)
            (λ _ t. absurd (apart (t.0 ∙ sym m.0))) f))
            right;
      }

  -- a putter that another pass has is at its place still, where a new one was placed that some other split off
  stands_split : (places : Places) (log : List (Numbered T)) (s n there k : ℕ) (number : Number) (a : Account T)
      → places number ≡ Some n → places (k ∷ number) ≡ None → s ≢ n → PutterStands places log s a
      → PutterStands (placed (k ∷ number) (Some there) places) log s a
  stands_split places log s n there k number a at free apart st =
      let away : (k ∷ number) ≢ a.number = λ same. not_none s (places (k ∷ number)) (ap places same ∙ st.here) free in
      let beyond : (j : ℕ) → (k ∷ number) ≢ (j ∷ a.number) = λ j same. apart (some_same s n (sym st.here ∙ (ap places (sym (cons_tail k j number a.number same)) ∙ at))) in
      record {
        here = placed_else (k ∷ number) (Some there) places a.number away ∙ st.here;
        whole = st.whole;
        splits = λ j le. placed_else (k ∷ number) (Some there) places (j ∷ a.number) (beyond j) ∙ st.splits j le;
      }

  pub halves : (id : ℕ) (v : View T) → v.puts ≡ true → Forks IsMailed id v (after_split v) (newcomer v)
  halves id v may queue views h at =
      let log : List (Numbered T) = h.got ++ h.queued in
      let vs : List (View T) = set views id (after_split v) in
      let number : Number = v.account.number in
      let new : Number = next_number v.account in
      let there : ℕ = suc (length vs) in
      let places : Places = placed new (Some there) h.places in
      let mine = h.fits id v at in
      let st = mine.puts may in
      let free : h.places new ≡ None = st.splits v.account.splits (omega arith) in
      let away : new ≢ number = longer v.account.splits number in
      let stands : (s : ℕ) (a : Account T) → s ≢ suc id → PutterStands h.places log s a → PutterStands places log s a =
      λ s a apart old. stands_split h.places log s (suc id) there v.account.splits number a st.here free apart old in
      let left : PassFits places log h.got h.reader id (after_split v) = record {
        puts = λ _. record {
          here = placed_else new (Some there) h.places number away ∙ st.here;
          whole = st.whole;
          splits = λ k le. placed_else new (Some there) h.places (k ∷ number) (λ same. absurd (let is : v.account.splits ≡ k = cons_head v.account.splits k number number same in omega arith)) ∙ st.splits k (omega arith);
        };
        gets = mine.gets;
        notes = λ _. part_whole log (after_split v).account st.whole;
        told = mine.told;
        joined = λ i a e. stands 0 a (λ z. absurd (omega arith)) (mine.joined i a e);
      } in
      let right : PassFits places log h.got h.reader (length vs) (newcomer v) = record {
        puts = λ _. record {
          here = placed_here new (Some there) h.places;
          whole = sym (h.nothing new free);
          splits = λ k _. placed_else new (Some there) h.places (k ∷ new) (λ same. longer k new (sym same)) ∙ h.after new k free;
        };
        gets = λ is. absurd (true≢false (sym is));
        notes = λ is. absurd (true≢false (sym is));
        told = each_nil (IsPart log);
        joined = each_nil (PutterStands places log 0);
      } in
      record {
        places = places;
        reader = h.reader;
        got = h.got;
        queued = h.queued;
        are = h.are;
        after = λ p k none.
            let u = unplaced new there h.places p none in
            placed_else new (Some there) h.places (k ∷ p) (λ same. not_none (suc id) (h.places p) (ap h.places (sym (cons_tail v.account.splits k number p same)) ∙ st.here) u.1) ∙ h.after p k u.1;
        nothing = λ p none. h.nothing p (unplaced new there h.places p none).1;
        fits = all_snoc (PassFits places log h.got h.reader) vs (newcomer v)
            (all_set (PassFits h.places log h.got h.reader) (PassFits places log h.got h.reader) views id (after_split v) h.fits left
            (λ j u apart f. fits_on h.places places log log h.got h.got h.reader h.reader j u
            (λ s a c old. stands s a (not_place s j id apart c) old) (λ a p. p) (λ _ t. t) f))
            right;
      }

  pub notes : (id : ℕ) (v : View T) → v.puts ≡ true → Forks IsMailed id v v (note_of v)
  notes id v may queue views h at =
      let log : List (Numbered T) = h.got ++ h.queued in
      let mine = h.fits id v at in
      let right : PassFits h.places log h.got h.reader (length (set views id v)) (note_of v) = record {
        puts = λ is. absurd (true≢false (sym is));
        gets = λ is. absurd (true≢false (sym is));
        notes = λ _. part_whole log v.account (mine.puts may).whole;
        told = each_nil (IsPart log);
        joined = each_nil (PutterStands h.places log 0);
      } in
      record {
        places = h.places;
        reader = h.reader;
        got = h.got;
        queued = h.queued;
        are = h.are;
        after = h.after;
        nothing = h.nothing;
        fits = all_snoc (PassFits h.places log h.got h.reader) (set views id v) (note_of v)
            (all_set (PassFits h.places log h.got h.reader) (PassFits h.places log h.got h.reader) views id v h.fits mine (λ j u _ f. f))
            right;
      }
