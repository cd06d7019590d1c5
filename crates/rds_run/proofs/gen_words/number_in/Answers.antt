use Rattle.std.proofs.Common.{◌≡◌, Some, None, Ok, option_map, refl, sym, subst, arith, rules}
use Rattle.std.specs.Result.{result_ok}
use Rattle.rds_run.specs.GenWords.{IsPlain}
use Rattle.rds_run.proofs.Decimals.{named_by, none_named, none_read, not_named}
use Rattle.rds_run.proofs.gen_words.number_in.Goals.{then-not-is_plain-via-then-not-is_plain, then-not-is_plain-via-else-not-is_plain+then-number-low, then-not-is_plain-via-else-not-is_plain+else-number-low+then-high-number}
use Rattle.rds_run.proofs.gen_words.number_in.Goals as goal

pub returns-in_err-number : goal.returns-in_err-number
returns-in_err-number c =
    let is : option_map (λ s. s.now) c.args.word ≡ Some c.in_ok-word.word.now = search rules in
    let failed : result_ok c.parse.result ≡ None = search rules in
    let gone : c.from_residual-in_err-number.result ≡ None = search rules in
    none_named c.args.low c.args.high _ _ gone (not_named c.args.low c.args.high _ _ c.parse.result (omega (arith, c.ranges.high.fits)) is c.parse.ensures.value.0
    (λ n read plain least most. none_read c.parse.result failed n read))

pub returns-then-not-is_plain : goal.returns-then-not-is_plain
returns-then-not-is_plain c =
    let is : option_map (λ s. s.now) c.args.word ≡ Some c.in_ok-word.word.now = search rules in
    let bytes : c.as_bytes.result.now ≡ c.in_ok-word.word.now = search rules in
    let found : c.parse.result ≡ Ok c.in_ok-number.number = search rules in
    not_named _ _ _ _ c.parse.result (omega (arith, c.ranges.high.fits)) is c.parse.ensures.value.0
    (λ n read plain least most.
    let same : n ≡ c.in_ok-number.number = cc in
    let shown = c.is_plain.ensures.1 (subst IsPlain (sym bytes) plain) in
    elim c.then-not-is_plain.branch [
      | then-not-is_plain-via-then-not-is_plain w ↦ absurd (search (rules, shown, w.if-not-is_plain))
      | then-not-is_plain-via-else-not-is_plain+then-number-low w ↦ absurd (omega (arith, same, least, w.if-number-low.true))
      | then-not-is_plain-via-else-not-is_plain+else-number-low+then-high-number w ↦ absurd (omega (arith, same, most, w.if-high-number.true))
    ])

pub returns : goal.returns
returns c =
    let is : option_map (λ s. s.now) c.args.word ≡ Some c.in_ok-word.word.now = search rules in
    let bytes : c.as_bytes.result.now ≡ c.in_ok-word.word.now = search rules in
    let found : c.parse.result ≡ Ok c.in_ok-number.number = search rules in
    named_by _ _ _ _ c.parse.result _ is c.parse.ensures.value.0 found (subst IsPlain bytes (c.if-not-is_plain.ensures.0 refl)) c.if-number-low.false c.if-high-number.false
