-- A datagram is pulled at most once on each stream.
use Rattle.std.proofs.Common.{◌≡◌, inl, inr, ℕ, suc, ◌+◌, ◌*◌, ◌≤◌, ◌==◌, ◌&&◌, ◌||◌, not, Bool, true, false, Option, Some, None, List, [], ◌∷◌, ◌++◌, length, length-append, refl, ◌∙◌, ap, arith}
use Rattle.std.proofs.Math.Nat.{mul-suc}
use Rattle.std.proofs.lemmas.Bool.{and_from, or_left, eq-eqb, not_from_true, not_from_false, cases_Bool}
use Rattle.rds_wire.specs.declared.frame.Frame.{Frame}
use Rattle.rds_model.specs.declared.entry.Entry.{Entry}
use Rattle.rds_model.specs.declared.entry.Entry.TheVariants.{Accept, Cancel, Open, Pull, Read, Shut, Bad}
use Rattle.rds_model.specs.Past.{now, accepted, number, is_datagram, carries_number, open_stream}
use Rattle.rds_model.specs.Streams.{pulled_on}
use Rattle.rds_model.specs.Sums.{opens}
use Rattle.rds_model.specs.Legal.{IsLegal}
use Rattle.rds_model.specs.LegalityLaws.{lawful_open, lawful_pull, lawful_shut, lawful_bad}
use Rattle.rds_model.proofs.Counts.{bit, pulled, count_to, count_to_most, count_to_within, count_to_less}
use Rattle.rds_model.proofs.Rise.{sent}

-- how many of n numbers weren't pulled on the open stream
abbrev left : ℕ → List Entry → Option ℕ → ℕ
left n past None = 0
left n past (Some s) = count_to n (λ k. not (pulled_on s past k))

fewer : (x r : Bool) → bit (not (x || r)) ≤ bit (not r)
fewer true r = omega arith
fewer false r = omega arith

data_step : (n s : ℕ) (f : Frame) (past : List Entry) → IsLegal (Pull s f ∷ past) → accepted past ≤ n →
    bit (is_datagram f) + left n (Pull s f ∷ past) (Some s) ≤ left n past (Some s)
data_step n s f past legal within =
    let there = λ (k : ℕ). not (pulled_on s (Pull s f ∷ past) k) in
    let here = λ (k : ℕ). not (pulled_on s past k) in
    let less = λ (k : ℕ). fewer (s == s && carries_number k f) (pulled_on s past k) in
    elim (cases_Bool (is_datagram f)) [
      | inl is ↦
          let this = sent s f legal now is in
          let k = number f in
          let own = or_left (s == s && carries_number k f) (pulled_on s past k) (and_from (s == s) (carries_number k f) (eq-eqb s s refl) this.own_number) in
          let gone = not_from_true _ own in
          let waited = not_from_false _ this.once in
          omega (arith, ap bit is, count_to_less n there here less k this.above (omega (arith, this.within, within)) gone waited)
      | inr other ↦ omega (arith, ap bit other, count_to_within n there here less)
    ]

-- each stream has at most as many as were accepted
data_is_few : (n : ℕ) (past : List Entry) → IsLegal past → accepted past ≤ n → (o : Option ℕ) → open_stream past ≡ o →
    pulled is_datagram past + left n past o ≤ n * length (opens past)
data_is_few n [] legal within None is = omega arith
data_is_few n [] legal within (Some s) is = cc
data_is_few n (Open y ∷ past) legal within None is = cc
data_is_few n (Open y ∷ past) legal within (Some s) is =
    let longer : length (opens past ++ y ∷ []) ≡ suc (length (opens past)) = omega (arith, length-append (opens past) (y ∷ [])) in
    omega (
      arith,
      data_is_few n past legal.1 within None (lawful_open y past legal).0,
      ap (λ k. n * k) longer ∙ mul-suc n (length (opens past)),
      count_to_most n (λ k. not (pulled_on s past k)),
    )
data_is_few n (Shut y ∷ past) legal within None is = omega (arith, data_is_few n past legal.1 within (Some y) (lawful_shut y past legal))
data_is_few n (Shut y ∷ past) legal within (Some s) is = cc
data_is_few n (Bad y h found ∷ past) legal within None is = omega (arith, data_is_few n past legal.1 within (Some y) (lawful_bad y h found legal now).on)
data_is_few n (Bad y h found ∷ past) legal within (Some s) is = cc
data_is_few n (Pull y f ∷ past) legal within None is = let lawful = lawful_pull y f legal now in let on = lawful.on in cc
data_is_few n (Pull y f ∷ past) legal within (Some s) is =
    let on = (lawful_pull y f legal now).on in
    let same : y ≡ s = cc in
    omega (
      arith,
      data_is_few n past legal.1 within (Some y) on,
      data_step n y f past legal within,
      ap (λ x. left n (Pull y f ∷ past) (Some x)) same,
    )
data_is_few n (Accept slot sport dport payload ∷ past) legal within o is =
    omega (arith, data_is_few n past legal.1 (omega (arith, within)) o is)
data_is_few n (Cancel slot target ∷ past) legal within o is = omega (arith, data_is_few n past legal.1 within o is)
data_is_few n (Read y f outcome ∷ past) legal within o is = omega (arith, data_is_few n past legal.1 within o is)

pub few_datagrams : (n : ℕ) (past : List Entry) → IsLegal past → accepted past ≤ n → pulled is_datagram past ≤ n * length (opens past)
few_datagrams n past legal within = omega (arith, data_is_few n past legal within (open_stream past) refl)
