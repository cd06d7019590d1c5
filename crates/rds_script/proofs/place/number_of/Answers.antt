use Rattle.std.proofs.Common.{arith, ◌≡◌, true, get_or, sym, ap, ◌∙◌, ◌+◌, ◌*◌, ℕ}
use Rattle.std.specs.Char.{is_ascii_digit}
use Rattle.rds_script.proofs.Numbers.{digit_is, value_below, value_more, all_more}
use Rattle.rds_script.proofs.place.number_of.Goals as goal

pub overflow_mul-value : goal.overflow_mul-value
overflow_mul-value c =
    let b = value_below c.args.word.now c.loop-digit.digit-index c.loop-digit.invariant.all (omega arith) in
    omega (arith, b, c.loop-digit.invariant.value_is)

pub overflow_add-value : goal.overflow_add-value
overflow_add-value c =
    let one : is_ascii_digit (get_or c.args.word.now c.loop-digit.digit-index 0) ≡ true = sym c.is_ascii_digit.ensures.value ∙ c.if-not-is_ascii_digit.false in
    let b = value_below c.args.word.now c.loop-digit.digit-index c.loop-digit.invariant.all (omega arith) in
    let d = digit_is (get_or c.args.word.now c.loop-digit.digit-index 0) one in
    omega (arith, b, d.high, c.from.ensures, c.loop-digit.invariant.value_is)

pub loop-digit-preserved : goal.loop-digit-preserved
loop-digit-preserved c =
    let one : is_ascii_digit (get_or c.args.word.now c.loop-digit.digit-index 0) ≡ true = sym c.is_ascii_digit.ensures.value ∙ c.if-not-is_ascii_digit.false in
    record {
      all = all_more c.args.word.now c.loop-digit.digit-index c.loop-digit.invariant.all one c.loop-digit-test.true;
      value_is = ap (λ (v : ℕ). v * 10 + c.from.result) c.loop-digit.invariant.value_is ∙ value_more c.args.word.now c.loop-digit.digit-index _ one c.loop-digit-test.true c.from.ensures;
    }
