-- The numbers of the statuses, and which of them a call may exit with.
use Rattle.std.proofs.Common.{◌≡◌, ◌⊎◌, inl, inr, ℕ, ◌==◌, ◌≤◌, cond, sym, ap, subst, ◌∙◌, refl, arith}
use Rattle.rds_link.specs.Seen.{SinkSeen}
use Rattle.rds_script.specs.declared.cause.Cause.{Cause}
use Rattle.rds_script.specs.Cause.{cause_text}
use Rattle.rds_run.specs.declared.status.Status.{Status}
use Rattle.rds_run.specs.declared.status.Status.TheVariants as ended
use Rattle.rds_run.specs.ExitStatus.{HasTaken, code, IsEndOfRefusal}
use Rattle.rds_run.specs.RunStatus.{IsEndOfTooMany}
use Rattle.rds_run.specs.Texts.{bad_line, too_many_line}
use Rattle.rds_run.specs.Ending.{IsEndOfUsage}

-- which status a number stands for
abbrev pub of_code : ℕ → Status
of_code n =
    cond (n == 0) ended.Written
    (cond (n == 1) ended.Refused
    (cond (n == 2) ended.Usage
    (cond (n == 3) ended.ReadFault
    (cond (n == 4) ended.WriteFault
    (cond (n == 5) ended.WireFault
    (cond (n == 6) ended.Memory
    (cond (n == 7) ended.Spent
    (cond (n == 8) ended.Unfinished ended.TooManyStreams))))))))

back : (s : Status) → of_code (code s) ≡ s
back ended.Written = refl
back ended.Refused = refl
back ended.Usage = refl
back ended.ReadFault = refl
back ended.WriteFault = refl
back ended.WireFault = refl
back ended.Memory = refl
back ended.Spent = refl
back ended.Unfinished = refl
back ended.TooManyStreams = refl

pub is_of : (s : Status) (n : ℕ) → code s ≡ n → s ≡ of_code n
is_of s n e = sym (back s) ∙ ap of_code e

most : (s : Status) → code s ≤ 9
most ended.Written = omega arith
most ended.Refused = omega arith
most ended.Usage = omega arith
most ended.ReadFault = omega arith
most ended.WriteFault = omega arith
most ended.WireFault = omega arith
most ended.Memory = omega arith
most ended.Spent = omega arith
most ended.Unfinished = omega arith
most ended.TooManyStreams = omega arith

pub at_most : (s : Status) (n : ℕ) → n ≡ code s → n ≤ 9
at_most s n is = subst (λ (k : ℕ). k ≤ 9) (sym is) (most s)

-- what the words of no command exit with
pub usage_codes : (sink : SinkSeen) (s : Status) → IsEndOfUsage sink s → (code s ≡ 2) ⊎ (code s ≡ 4)
usage_codes sink ended.Written e = absurd e
usage_codes sink ended.Refused e = absurd e
usage_codes sink ended.Usage e = inl refl
usage_codes sink ended.ReadFault e = absurd e
usage_codes sink ended.WriteFault e = inr refl
usage_codes sink ended.WireFault e = absurd e
usage_codes sink ended.Memory e = absurd e
usage_codes sink ended.Spent e = absurd e
usage_codes sink ended.Unfinished e = absurd e
usage_codes sink ended.TooManyStreams e = absurd e

-- what a refusal exits with
abbrev pub IsRefusalCode : (line : ℕ) → Cause → SinkSeen → ℕ → Type 0
IsRefusalCode line why sink n = ((n ≡ 1) × HasTaken sink (bad_line line (cause_text why))) ⊎ ((n ≡ 3) ⊎ ((n ≡ 4) ⊎ (n ≡ 6)))

refusal_codes : (line : ℕ) (why : Cause) (sink : SinkSeen) (s : Status) → IsEndOfRefusal line why sink s → IsRefusalCode line why sink (code s)
refusal_codes line why sink ended.Written e = absurd e
refusal_codes line why sink ended.Refused e = inl (refl, e)
refusal_codes line why sink ended.Usage e = absurd e
refusal_codes line why sink ended.ReadFault e = absurd e
refusal_codes line why sink ended.WriteFault e = inr (inr (inl refl))
refusal_codes line why sink ended.WireFault e = absurd e
refusal_codes line why sink ended.Memory e = inr (inr (inr refl))
refusal_codes line why sink ended.Spent e = absurd e
refusal_codes line why sink ended.Unfinished e = absurd e
refusal_codes line why sink ended.TooManyStreams e = absurd e

pub refusal_found : (line : ℕ) (why : Cause) (sink : SinkSeen) (s : Status) → IsEndOfRefusal line why sink s ⊎ ((s ≡ ended.ReadFault) ⊎ (s ≡ ended.WriteFault))
    → IsRefusalCode line why sink (code s)
refusal_found line why sink s (inl e) = refusal_codes line why sink s e
refusal_found line why sink s (inr (inl e)) = inr (inl (ap code e))
refusal_found line why sink s (inr (inr e)) = inr (inr (inl (ap code e)))

-- what a script with too many streams exits with
abbrev pub IsTooManyCode : (count : ℕ) → SinkSeen → ℕ → Type 0
IsTooManyCode count sink n = ((n ≡ 9) × HasTaken sink (too_many_line count)) ⊎ ((n ≡ 3) ⊎ ((n ≡ 4) ⊎ (n ≡ 6)))

too_many_codes : (count : ℕ) (sink : SinkSeen) (s : Status) → IsEndOfTooMany count sink s → IsTooManyCode count sink (code s)
too_many_codes count sink ended.Written e = absurd e
too_many_codes count sink ended.Refused e = absurd e
too_many_codes count sink ended.Usage e = absurd e
too_many_codes count sink ended.ReadFault e = absurd e
too_many_codes count sink ended.WriteFault e = inr (inr (inl refl))
too_many_codes count sink ended.WireFault e = absurd e
too_many_codes count sink ended.Memory e = inr (inr (inr refl))
too_many_codes count sink ended.Spent e = absurd e
too_many_codes count sink ended.Unfinished e = absurd e
too_many_codes count sink ended.TooManyStreams e = inl (refl, e)

pub too_many_found : (count : ℕ) (sink : SinkSeen) (s : Status) → IsEndOfTooMany count sink s ⊎ ((s ≡ ended.ReadFault) ⊎ (s ≡ ended.WriteFault))
    → IsTooManyCode count sink (code s)
too_many_found count sink s (inl e) = too_many_codes count sink s e
too_many_found count sink s (inr (inl e)) = inr (inl (ap code e))
too_many_found count sink s (inr (inr e)) = inr (inr (inl (ap code e)))
