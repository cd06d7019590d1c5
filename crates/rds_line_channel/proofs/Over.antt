-- How the open end of a line stands after a read or a write.
use Rattle.std.proofs.Common.{◌≡◌, ◌⊎◌, inl, inr, ℕ, ◌≤◌, true, List, refl, sym, ap, subst, arith}
use Rattle.rds_link.specs.declared.end.Got.{Got}
use Rattle.rds_link.specs.declared.end.Got.TheVariants as got
use Rattle.rds_link.specs.declared.end.Put.{Put}
use Rattle.rds_link.specs.declared.end.Put.TheVariants as put
use Rattle.rds_link.specs.Ends.{Means}
use Rattle.rds_link.specs.Standing.{Stand, IsOver, GoesOn}
use Rattle.rds_line_channel.specs.Streams.{ShutByFaultOnly}
use Rattle.rds_line_channel.specs.StreamChanges.{Receives, Sends}

goes_by_fault : (old new : Stand) → GoesOn old new → (new.is_shut ≡ true → 1 ≤ new.faults)
goes_by_fault old new goes shut = absurd (let same = ap (λ s. s.is_shut) goes.2 in let off = goes.0 in cc)

over_by_fault : (old new : Stand) → IsOver old new → (old.is_shut ≡ true → 1 ≤ old.faults) → (new.is_shut ≡ true → 1 ≤ new.faults)
over_by_fault old new (inl had) was shut = subst (λ n. 1 ≤ n) (sym (ap (λ s. s.faults) had.1)) (was had.0)
over_by_fault old new (inr (inl failed)) was shut = subst (λ n. 1 ≤ n) (sym (ap (λ s. s.faults) failed.2)) (omega arith)
over_by_fault old new (inr (inr saw)) was shut = absurd (let same = ap (λ s. s.is_shut) saw.1 in let off = saw.0 in cc)

-- an end that answers `Over` has said it from then on
pub over_said : (old new : Stand) → IsOver old new → (old.is_shut ≡ true → 1 ≤ old.faults) → (new.saw ≡ true) ⊎ (1 ≤ new.faults)
over_said old new (inl had) was = inr (subst (λ n. 1 ≤ n) (sym (ap (λ s. s.faults) had.1)) (was had.0))
over_said old new (inr (inl failed)) was = inr (subst (λ n. 1 ≤ n) (sym (ap (λ s. s.faults) failed.2)) (omega arith))
over_said old new (inr (inr saw)) was = inl (ap (λ s. s.saw) saw.1)

module _ {E : Type 0} (m : Means E) where
  pub received_by_fault : (answer : Got) (piece : List ℕ) (old new : E) → Receives m answer piece old new → ShutByFaultOnly m old → ShutByFaultOnly m new
  received_by_fault (got.Bytes n) piece old new did was = goes_by_fault (m.stand old) (m.stand new) (did.goes (λ e. cc))
  received_by_fault got.Nothing piece old new did was = goes_by_fault (m.stand old) (m.stand new) (did.goes (λ e. cc))
  received_by_fault got.Over piece old new did was = over_by_fault (m.stand old) (m.stand new) (did.over refl) was

  pub sent_by_fault : (answer : Put) (piece : List ℕ) (old new : E) → Sends m answer piece old new → ShutByFaultOnly m old → ShutByFaultOnly m new
  sent_by_fault (put.Took n) piece old new did was = goes_by_fault (m.stand old) (m.stand new) (did.goes (λ e. cc))
  sent_by_fault put.Full piece old new did was = goes_by_fault (m.stand old) (m.stand new) (did.goes (λ e. cc))
  sent_by_fault put.Over piece old new did was = over_by_fault (m.stand old) (m.stand new) (did.over refl) was
