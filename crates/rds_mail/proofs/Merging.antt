-- What the rule shows of putters that have ended.
use Rattle.std.proofs.Common.{◌≡◌, ◌≢◌, ℕ, ◌<◌, ◌≤◌, true, List, [], ◌∷◌, ◌++◌, None, refl, sym, ap, subst, ◌∙◌, ⊎_elim}
use Rattle.std.proofs.lemmas.Bool.{cases_lt}
use Rattle.crossbeam_queue.specs.Fifo.{Learns}
use Rattle.rds_seats.specs.Views.{At, Each}
use Rattle.rds_mail.specs.declared.view.View.{View}
use Rattle.rds_mail.specs.declared.view.Account.{Account}
use Rattle.rds_mail.specs.Numbers.{Number, Numbered, items_of}
use Rattle.rds_mail.specs.Shared.{Places, PutterStands, IsMailed}
use Rattle.rds_mail.specs.Merging.{AllBegin, HasNumber, AreAll}
use Rattle.rds_mail.specs.Plays.{Compared}
use Rattle.rds_mail.proofs.Numbers.{items_of-append, has_some}

module _ {T : Type 0} where
  -- where all have ended, each putter that there is has ended
  has_ended : (places : Places) (log : List (Numbered T)) (ended : List (Account T)) → Each ended (PutterStands places log 0) → AreAll ended
      → ((p : Number) (k : ℕ) → places p ≡ None → places (k ∷ p) ≡ None) → (p : Number) → places p ≢ None → HasNumber ended p
  has_ended places log ended stand all after [] there = all.first
  has_ended places log ended stand all after (k ∷ p) there =
      let h = has_ended places log ended stand all after p (λ none. there (after p k none)) in
      let a : Account T = h.1 in
      ⊎_elim
      (λ (below : k < a.splits). subst (λ q. HasNumber ended (k ∷ q)) h.3 (all.each h.0 a h.2 k below))
      (λ (beyond : a.splits ≤ k). absurd (there (ap (λ q. places (k ∷ q)) (sym h.3) ∙ (stand h.0 a h.2).splits k beyond)))
      (cases_lt k a.splits)

  pub compares : (id : ℕ) (v : View T) → v.gets ≡ true → Learns IsMailed id v (Compared v)
  compares id v may queue views h at =
      let mine = h.fits id v at in
      let is : v.got ≡ h.got = (mine.gets may).1 in
      let begin : AllBegin v.got v.joined = λ i a e. (
        items_of a.number h.queued,
        (mine.joined i a e).whole ∙ (items_of-append a.number h.got h.queued ∙ ap (λ l. items_of a.number l ++ items_of a.number h.queued) (sym is)),
      ) in (
        (queue, views, h, (id, v, at, refl)),
        begin,
        λ all. record {
          numbers = λ i e at'. has_ended h.places (h.got ++ h.queued) v.joined mine.joined all h.after e.0
              (λ none. has_some h.got h.queued i e (subst (λ l. At l i e) is at') (h.nothing e.0 none));
          begin = begin;
        },
      )
