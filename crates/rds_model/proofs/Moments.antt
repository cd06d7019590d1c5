-- The moments of a journal.
use Rattle.std.proofs.Common.{◌≡◌, refl, ◌⊎◌, inl, inr, List, ◌∷◌}
use Rattle.rds_model.specs.declared.entry.Entry.{Entry}
use Rattle.rds_model.specs.Past.{Moment, now, before}

-- a moment of what had happened at a moment
pub earlier : {p q j : List Entry} → Moment p q → Moment q j → Moment p j
earlier m now = m
earlier m (before n) = before (earlier m n)

-- what had happened before an entry
pub past_of : {e : Entry} {p j : List Entry} → Moment (e ∷ p) j → Moment p j
past_of m = earlier (before now) m

-- of two moments one comes first, or they are one
pub of_two : {p q j : List Entry} → Moment p j → Moment q j → Moment p q ⊎ Moment q p
of_two now n = inr n
of_two (before m) now = inl (before m)
of_two (before m) (before n) = of_two m n

-- of two entries one comes first, or they are one and the same
pub data InOrder (e : Entry) (p : List Entry) (f : Entry) (q : List Entry) : Type 0 where
  first : Moment (e ∷ p) q → InOrder e p f q
  second : Moment (f ∷ q) p → InOrder e p f q
  same : e ≡ f → p ≡ q → InOrder e p f q

pub of_two_entries : {e f : Entry} {p q j : List Entry} → Moment (e ∷ p) j → Moment (f ∷ q) j → InOrder e p f q
of_two_entries now now = same refl refl
of_two_entries now (before n) = second n
of_two_entries (before m) now = first m
of_two_entries (before m) (before n) = of_two_entries m n
