-- Each stream that a journal opened was shut, was ended by a header that was refused, or is open still.
use Rattle.std.proofs.Common.{◌≡◌, ◌+◌, ℕ, Option, None, Some, List, [], ◌∷◌, length, refl, ap, arith}
use Rattle.std.proofs.lemmas.List.{length_push}
use Rattle.rds_model.specs.declared.entry.Entry.{Entry}
use Rattle.rds_model.specs.declared.entry.Entry.TheVariants.{Accept, Cancel, Open, Pull, Read, Shut, Bad}
use Rattle.rds_model.specs.Legal.{IsLegal}
use Rattle.rds_model.specs.LegalityLaws.{lawful_bad, lawful_open, lawful_shut}
use Rattle.rds_model.specs.Past.{now, open_stream}
use Rattle.rds_model.specs.Sums.{opens}
use Rattle.rds_line_channel.specs.Carried.{shut_streams, shuts}
use Rattle.rds_run_rounds.specs.Causes.{refusals}

-- how many streams are open
abbrev one_if : Option ℕ → ℕ
one_if None = 0
one_if (Some stream) = 1

counted : (past : List Entry) → IsLegal past → length (opens past) ≡ shuts past + refusals past + one_if (open_stream past)
counted [] legal = refl
counted (Open stream ∷ past) legal =
    let before = counted past legal.1 in
    let none = ap one_if (lawful_open stream past legal).0 in
    let more = length_push (opens past) stream in
    omega (arith, before, none, more)
counted (Shut stream ∷ past) legal =
    let before = counted past legal.1 in
    let one = ap one_if (lawful_shut stream past legal) in
    let more = length_push (shut_streams past) stream in
    omega (arith, before, one, more)
counted (Bad stream header cause ∷ past) legal =
    let before = counted past legal.1 in
    let one = ap one_if (lawful_bad stream header cause legal now).on in
    omega (arith, before, one)
counted (Accept slot sport dport payload ∷ past) legal = counted past legal.1
counted (Cancel slot target ∷ past) legal = counted past legal.1
counted (Pull stream frame ∷ past) legal = counted past legal.1
counted (Read stream frame outcome ∷ past) legal = counted past legal.1

-- so where none is open, each was shut or ended by a header that was refused
pub all_ended : (past : List Entry) → IsLegal past → open_stream past ≡ None → length (opens past) ≡ shuts past + refusals past
all_ended past legal closed =
    let all = counted past legal in
    let none = ap one_if closed in
    omega (arith, all, none)
