-- What several rounds come to, and which hosts it passes.
use Rattle.std.proofs.Common.{◌≡◌, ◌⊎◌, inl, inr, ℕ, suc, ◌<◌, max, min, sym, subst, arith}
use Rattle.rds_fmap.specs.Readers.{WriterView}
use Rattle.rds_line.specs.Line.{LineView}
use Rattle.rds_run_rounds.specs.Causes.{IsBefore}
use Rattle.rds_run_rounds.specs.Connection.{IsFullAt}
use Rattle.rds_run_rounds.specs.Sweep.{ComesTo, GoesOn, IsPair, IsPairBelow, IsPairOf, Passed, Stops}
use Rattle.rds_run_rounds.specs.declared.verdict.Round.{Round}
use Rattle.rds_run_rounds.specs.declared.verdict.Round.TheVariants as verdict

-- a fault doesn't go on
pub never_goes : (came : Round) (low high : ℕ) → GoesOn came → came ≡ verdict.Fault low high → ⊥
never_goes came low high goes is = subst GoesOn is goes

-- rounds that stop nothing pass all hosts
pub goes_past : (came : Round) (low high : ℕ) → GoesOn came → Passed came low high
goes_past verdict.Moved low high goes = tt
goes_past verdict.Idle low high goes = tt
goes_past (verdict.Fault first second) low high goes = absurd goes
goes_past (verdict.Spent host peer entries) low high goes = absurd goes
goes_past verdict.Memory low high goes = absurd goes

-- two rounds that come to what stops nothing stop nothing
pub both_go : (first second came : Round) → ComesTo came first second → GoesOn came → GoesOn first × GoesOn second
both_go first second came (inl (same, inl stops)) goes = absurd (never first stops (subst GoesOn same goes))
  where
    never : (r : Round) → Stops r → GoesOn r → ⊥
    never verdict.Moved stops goes = stops
    never verdict.Idle stops goes = stops
    never (verdict.Fault low high) stops goes = goes
    never (verdict.Spent host peer entries) stops goes = goes
    never verdict.Memory stops goes = goes
both_go first second came (inl (same, inr none)) goes = (subst GoesOn same goes, subst GoesOn (sym none) tt)
both_go first second came (inr it) goes = (it.1, subst GoesOn it.0 goes)

-- what two rounds come to is one of both
pub one_of : (came first second : Round) → ComesTo came first second → (came ≡ first) ⊎ (came ≡ second)
one_of came first second (inl it) = inl it.0
one_of came first second (inr it) = inr it.0

-- the host and the peer of a full journal are the two hosts, whichever is the lower one
pub full_pair : {E : Type 0} (host peer entries low high : ℕ) (one other : LineView E WriterView) → low < high →
    IsFullAt host peer entries low high one other → (min host peer ≡ low) × (max host peer ≡ high)
full_pair host peer entries low high one other less (inl full) =
    let at = full.0 in
    let to = full.1 in (grind (arith, less, at, to), grind (arith, less, at, to))
full_pair host peer entries low high one other less (inr full) =
    let at = full.0 in
    let to = full.1 in (grind (arith, less, at, to), grind (arith, less, at, to))

-- no two hosts come before themselves
pub not_before : (low high first second : ℕ) → first ≡ low → second ≡ high → IsBefore low high first second → ⊥
not_before low high first second same same_too (inl less) = omega (arith, same, less)
not_before low high first second same same_too (inr next) = omega (arith, same_too, next.1)

-- a later pair of a host doesn't come before an earlier one, nor one of a later host
pub late_pair : (low high l place host at : ℕ) → IsPairOf low high host at → IsPair low high l place → IsBefore l (suc place) host (suc at) → ⊥
late_pair low high l place host at among later (inl less) = omega (arith, less, among.0, later.0)
late_pair low high l place host at among later (inr next) = omega (arith, next.1, among.1, later.1)

pub late_host : (low hosts l place host at : ℕ) → IsPairBelow low hosts host at → IsPairOf low hosts l place → IsBefore l (suc place) host (suc at) → ⊥
late_host low hosts l place host at among later (inl less) = omega (arith, less, among.0, later.0)
late_host low hosts l place host at among later (inr next) = omega (arith, next.0, among.0, later.0)
