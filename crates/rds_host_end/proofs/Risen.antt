-- Counts of faults that grow by those of an end.
use Rattle.std.proofs.Common.{◌≡◌, inl, inr, ℕ, zero, suc, arith}
use Rattle.rds_link.specs.Ends.{RisesBy}
use Rattle.rds_host_end.specs.Risen.{StaysRisen}

pub stays_by : (n old new : ℕ) → RisesBy n old new → StaysRisen old new
stays_by n old new (inr last) before fits risen = inr last
stays_by n old new (inl more) before fits (inl below) = inl (omega (arith, more, below))
stays_by zero old new (inl more) before fits (inr last) = inr (omega (arith, more, last))
stays_by (suc n) old new (inl more) before fits (inr last) = inl (omega (arith, more, last, fits))
