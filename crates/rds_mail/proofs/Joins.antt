-- A note that the getter is told, and a putter that is joined into it, keep the rule.
use Rattle.std.proofs.Common.{◌≡◌, ◌≢◌, ℕ, suc, true, true≢false, List, ◌∷◌, ◌++◌, set, Some, None, sym, ap, ◌∙◌, ⊎_elim, arith}
use Rattle.crossbeam_queue.specs.Fifo.{Merges}
use Rattle.atomic_table.proofs.Lists.{at_set}
use Rattle.rds_seats.specs.Views.{At}
use Rattle.rds_mail.specs.declared.view.View.{View}
use Rattle.rds_mail.specs.declared.view.Account.{Account}
use Rattle.rds_mail.specs.Numbers.{Number, Numbered}
use Rattle.rds_mail.specs.Views.{told, joined, spent}
use Rattle.rds_mail.specs.Shared.{Places, IsPart, PutterStands, PassFits, IsMailed}
use Rattle.rds_mail.proofs.Places.{placed, placed_here, placed_else, unplaced, some_same, not_none}
use Rattle.rds_mail.proofs.Fitting.{all_set, each_nil, each_snoc, not_place, fits_on}

module _ {T : Type 0} where
  -- the second pass was there before the first changed
  was_there : (views : List (View T)) (id other : ℕ) (both u : View T) → other ≢ id → At (set views id both) other u → At views other u
  was_there views id other both u apart at = ⊎_elim
      (λ (t : (other ≡ id) × (both ≡ u)). absurd (apart t.0))
      (λ (t : (other ≢ id) × At views other u). t.1)
      (at_set views id other both u at)

  nothing_left : (places : Places) (log got : List (Numbered T)) (reader place : ℕ) → PassFits places log got reader place spent
  nothing_left places log got reader place = record {
    puts = λ is. absurd (true≢false (sym is));
    gets = λ is. absurd (true≢false (sym is));
    notes = λ is. absurd (true≢false (sym is));
    told = each_nil (IsPart log);
    joined = each_nil (PutterStands places log 0);
  }

  pub tells : (id : ℕ) (v : View T) (other : ℕ) (u : View T) → u.notes ≡ true → Merges IsMailed id v other u (told v u) spent
  tells id v other u note queue views h at apart at' =
      let log : List (Numbered T) = h.got ++ h.queued in
      let both : View T = told v u in
      let mine = h.fits id v at in
      let theirs = h.fits other u (was_there views id other both u apart at') in
      let now : PassFits h.places log h.got h.reader id both = record {
        puts = mine.puts;
        gets = mine.gets;
        notes = mine.notes;
        told = each_snoc (IsPart log) v.told u.account mine.told (theirs.notes note);
        joined = mine.joined;
      } in
      let F : ℕ → View T → Type 0 = PassFits h.places log h.got h.reader in
      record {
        places = h.places;
        reader = h.reader;
        got = h.got;
        queued = h.queued;
        are = h.are;
        after = h.after;
        nothing = h.nothing;
        fits = all_set F F (set views id both) other spent (all_set F F views id both h.fits now (λ j y _ f. f)) (nothing_left h.places log h.got h.reader other) (λ j y _ f. f);
      }

  pub joins : (id : ℕ) (v : View T) (other : ℕ) (u : View T) → u.puts ≡ true → Merges IsMailed id v other u (joined v u) spent
  joins id v other u put queue views h at apart at' =
      let log : List (Numbered T) = h.got ++ h.queued in
      let both : View T = joined v u in
      let number : Number = u.account.number in
      let places : Places = placed number (Some 0) h.places in
      let mine = h.fits id v at in
      let st = (h.fits other u (was_there views id other both u apart at')).puts put in
      let else_none : (p : Number) → h.places p ≡ None → places p ≡ None =
      λ p none. placed_else number (Some 0) h.places p (λ same. not_none (suc other) (h.places p) (ap h.places (sym same) ∙ st.here) none) ∙ none in
      let stands : (s : ℕ) (a : Account T) → s ≢ suc other → PutterStands h.places log s a → PutterStands places log s a = λ s a away old. record {
        here = placed_else number (Some 0) h.places a.number (λ same. away (some_same s (suc other) (sym old.here ∙ (ap h.places (sym same) ∙ st.here)))) ∙ old.here;
        whole = old.whole;
        splits = λ k le. else_none (k ∷ a.number) (old.splits k le);
      } in
      let ended : PutterStands places log 0 u.account = record {
        here = placed_here number (Some 0) h.places;
        whole = st.whole;
        splits = λ k le. else_none (k ∷ number) (st.splits k le);
      } in
      let F : ℕ → View T → Type 0 = PassFits h.places log h.got h.reader in
      let G : ℕ → View T → Type 0 = PassFits places log h.got h.reader in
      let now : G id both = record {
        puts = λ is. stands (suc id) v.account (λ same. apart (omega arith)) (mine.puts is);
        gets = mine.gets;
        notes = mine.notes;
        told = mine.told;
        joined = each_snoc (PutterStands places log 0) v.joined u.account (λ i a e. stands 0 a (λ z. absurd (omega arith)) (mine.joined i a e)) ended;
      } in
      record {
        places = places;
        reader = h.reader;
        got = h.got;
        queued = h.queued;
        are = h.are;
        after = λ p k none. else_none (k ∷ p) (h.after p k (unplaced number 0 h.places p none).1);
        nothing = λ p none. h.nothing p (unplaced number 0 h.places p none).1;
        fits = all_set (λ j y. j ≢ other → G j y) G (set views id both) other spent
            (all_set F (λ j y. j ≢ other → G j y) views id both h.fits (λ _. now)
            (λ j y _ f away. fits_on h.places places log log h.got h.got h.reader h.reader j y
            (λ s a c old. stands s a (not_place s j other away c) old) (λ a p. p) (λ _ t. t) f))
            (nothing_left places log h.got h.reader other)
            (λ j y away g. g away);
      }
