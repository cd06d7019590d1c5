use Rattle.std.proofs.Common.{◌≡◌, ◌-◌, Bool, List, length, set, arith, sym, ap, ◌∙◌}
use Rattle.rds_report.proofs.FlagLemmas.{length-flags, flags_same, one, one_other, set_one}
use Rattle.rds_report.proofs.flags.set_flag.Goals as goal
use Rattle.rds_report.proofs.flags.set_flag.Goals.{else-number-ge1-via-then-number-ge1+else-number-flags, else-number-ge1-via-else-number-ge1}

pub returns-then-number-flags : goal.returns-then-number-flags
returns-then-number-flags c = λ test m is.
    let long : length c.args.flags.now ≡ m = ap length is ∙ length-flags test m in
    ap (λ (l : List Bool). set l (c.args.number - 1) c.args.value) is
    ∙ set_one test c.args.value c.args.number m c.if-number-ge1.true (omega (arith, c.if-number-flags.true, long))

pub returns-else-number-ge1 : goal.returns-else-number-ge1
returns-else-number-ge1 c = λ test m is.
    let long : length c.args.flags.now ≡ m = ap length is ∙ length-flags test m in
    is ∙ elim c.else-number-ge1.branch [
      | else-number-ge1-via-then-number-ge1+else-number-flags w ↦
          flags_same test (one c.args.number c.args.value test) m
          (λ n a b. sym (one_other c.args.number c.args.value test n (λ e. omega (arith, w.if-number-flags.false, long, a, b, e))))
      | else-number-ge1-via-else-number-ge1 w ↦
          flags_same test (one c.args.number c.args.value test) m
          (λ n a b. sym (one_other c.args.number c.args.value test n (λ e. omega (arith, w.if-number-ge1.false, a, b, e))))
    ]
