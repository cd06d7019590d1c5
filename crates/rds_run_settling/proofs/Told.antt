-- What getters were told of.
use Rattle.std.proofs.Common.{◌≡◌, option_map, ℕ, zero, suc, List, [], ◌∷◌, ◌++◌, Some, length, slice_get, refl, sym, ap, subst, ◌∙◌, arith}
use Rattle.std.proofs.lemmas.Option.{slice_get-map}
use Rattle.rds_seats.specs.Views.{At}
use Rattle.rds_mail.specs.declared.view.Account.{Account}
use Rattle.rds_mail.specs.Passes.{Putter, account_of}
use Rattle.rds_fmap.specs.Readers.{ReaderView, WriterView}
use Rattle.rds_model.specs.declared.order.Datagram.{Datagram}
use Rattle.rds_line_parts.specs.Boxes.{IsBoxOf}
use Rattle.rds_socket.specs.Holding.{Holding}
use Rattle.rds_line.specs.Line.{LineView}
use Rattle.rds_host.specs.Telling.{AreBoxesTold, IsTold}
use Rattle.rds_run_callers.specs.Places.{Place, holding_of}
use Rattle.rds_run_callers.specs.Ends.{AreEndsOf, IsEndOf}
use Rattle.rds_run_settling.specs.Tied.{AreSlotsTold, holdings}

module _ {T : Type 0} where
  pub at_append : (xs ys : List T) (i : ℕ) (x : T) → At xs i x → At (xs ++ ys) i x
  at_append [] ys i x at = absurd (cc)
  at_append (y ∷ xs) ys zero x at = at
  at_append (y ∷ xs) ys (suc i) x at = at_append xs ys i x at

  pub at_end : (xs : List T) (x : T) → At (xs ++ x ∷ []) (length xs) x
  at_end [] x = refl
  at_end (y ∷ xs) x = at_end xs x

module _ {T : Type 0} where
  -- a getter that is told more was told of what it was told of
  pub told_more : (told more : List (Account T)) (p : Putter T) → IsTold told p → IsTold (told ++ more) p
  told_more told more p has = (has.0, has.1, at_append told more has.0 has.1 has.2, has.3)

  -- and it is told of the note that comes last
  pub told_last : (told : List (Account T)) (p note : Putter T) → p ≡ note → IsTold (told ++ account_of note ∷ []) p
  told_last told p note is =
      (length told, account_of note, at_end told (account_of note), (ap (λ (q : Putter T). q.number) (sym is), ap (λ (q : Putter T). q.put) (sym is)))

-- what stands at a place of a list that is as long stands at that of the other
pub stood_at : {A B : Type 0} (xs : List A) (ys : List B) (i : ℕ) (y : B) → length ys ≡ length xs → slice_get ys i ≡ Some y → (x : A) × (slice_get xs i ≡ Some x)
stood_at [] [] i y same at = absurd (cc)
stood_at [] (z ∷ ys) i y same at = absurd (omega (arith, same))
stood_at (x ∷ xs) [] i y same at = absurd (omega (arith, same))
stood_at (x ∷ xs) (z ∷ ys) zero y same at = (x, refl)
stood_at (x ∷ xs) (z ∷ ys) (suc i) y same at = stood_at xs ys i y (omega (arith, same)) at

-- a slot that has ended was told of what it was told of before
ended_told : {E : Type 0} (h after : Holding ReaderView) (lines : List (LineView E WriterView)) → IsEndOf h after → AreBoxesTold h lines → AreBoxesTold after lines
ended_told h after lines end told place line box at is =
    subst (λ (t : List (Account Datagram)). IsTold t box) (sym end.keeps.told)
    (told place line box at (subst (λ (n : ℕ). IsBoxOf line.boxes n box) end.keeps.stays.slot is))

pub ends_told : {E : Type 0} (places : List Place) (closed : List (Holding ReaderView)) (lines : List (LineView E WriterView)) → AreEndsOf places closed →
    AreSlotsTold (holdings places) lines → (slot : ℕ) (h : Holding ReaderView) → slice_get closed slot ≡ Some h → AreBoxesTold h lines
ends_told places closed lines ends told slot h at =
    let p = stood_at places closed slot h ends.count at in
    ended_told (holding_of p.0) h lines (ends.each slot p.0 h p.1 at)
    (told slot (holding_of p.0) (slice_get-map holding_of places slot ∙ ap (λ o. option_map holding_of o) p.1))
