-- Laws, each proved: proofs in other crates use them. Nothing here has to be believed.
-- The numbers and lengths of a legal journal keep their ranges.
use Rattle.std.proofs.Common.{◌≡◌, inl, inr, ℕ, suc, ◌<◌, ◌≤◌, ◌^◌, max, true, Some, List, [], ◌∷◌, length, sym, ◌∙◌, subst, arith}
use Rattle.std.proofs.lemmas.Bool.{cases_eq, cond_both, cond-true}
use Rattle.rds_wire.specs.declared.frame.Frame.{Frame}
use Rattle.rds_wire.specs.declared.kind.TheConstants.{MAX_LENGTH}
use Rattle.rds_model.specs.declared.entry.Entry.{Entry}
use Rattle.rds_model.specs.declared.entry.Entry.TheVariants.{Accept, Pull, Read}
use Rattle.rds_model.specs.Past.{Moment, now, Accepted, accepted, datagram, number, is_datagram, highest_pulled, passes, last_passed}
use Rattle.rds_model.specs.Legal.{IsLegal}
use Rattle.rds_model.specs.NumberLaws.{datagram_newest, datagram_other, highest_grows}
use Rattle.rds_model.specs.LegalityLaws.{acceptable, lawful_read}

-- fewer than 2 ^ 63 datagrams are accepted
pub few_accepted : (past : List Entry) → IsLegal past → accepted past < 2 ^ 63
few_accepted [] legal = omega arith
few_accepted (Accept slot from to payload ∷ past) legal = (acceptable slot from to payload legal now).number
few_accepted (_ ∷ past) legal = few_accepted past legal.1

-- the ports and the payload of an accepted datagram fit
pub record FitsWire (d : Accepted) : Type 0 where
  pub sport : d.sport < 2 ^ 16
  pub dport : d.dport < 2 ^ 16
  pub short : length d.payload ≤ MAX_LENGTH

pub datagram_fits : (past : List Entry) (n : ℕ) (d : Accepted) → IsLegal past → datagram past n ≡ Some d → FitsWire d
datagram_fits [] n d legal known = cc
datagram_fits (Accept slot from to payload ∷ past) n d legal known =
    elim (cases_eq n (suc (accepted past))) [
      | inl newest ↦
          let is : Some (record { place = length past; slot = slot; sport = from; dport = to; payload = payload }) ≡ Some d =
          sym (datagram_newest slot from to payload past n newest) ∙ known in
          let same : record { place = length past; slot = slot; sport = from; dport = to; payload = payload } ≡ d = cc in
          let fits = acceptable slot from to payload legal now in
          subst FitsWire same (record { sport = fits.sport; dport = fits.dport; short = fits.short })
      | inr other ↦ datagram_fits past n d legal.1 (sym (datagram_other slot from to payload past n other) ∙ known)
    ]
datagram_fits (_ ∷ past) n d legal known = datagram_fits past n d legal.1 known

-- a pulled number is at most the highest
pub pulled_bounds : (s : ℕ) (f : Frame) {p j : List Entry} → Moment (Pull s f ∷ p) j → is_datagram f ≡ true → number f ≤ highest_pulled j
pulled_bounds s f {p} m is =
    let here = cond-true (is_datagram f) (max (number f) (highest_pulled p)) (highest_pulled p) is in
    omega (arith, here, highest_grows m)

-- a passed number fits its field
pub last_passed_fits : (past : List Entry) → IsLegal past → last_passed past < 2 ^ 64
last_passed_fits [] legal = omega arith
last_passed_fits (Read stream frame outcome ∷ past) legal =
    cond_both (passes outcome) (number frame) (last_passed past) (λ x. x < 2 ^ 64)
    (λ _. (lawful_read stream frame outcome legal now).header.sequence) (λ _. last_passed_fits past legal.1)
last_passed_fits (_ ∷ past) legal = last_passed_fits past legal.1
