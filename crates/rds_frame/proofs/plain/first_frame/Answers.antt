use Rattle.std.proofs.Common.{◌≡◌, ◌∙◌, sym, arith, Err, Result, Option, Some}
use Rattle.std.proofs.lemmas.List.{length-take-le}
use Rattle.rds_wire.specs.declared.frame.Frame.{Frame}
use Rattle.rds_wire.specs.declared.kind.Malformed.{Malformed}
use Rattle.rds_wire.specs.Kinds.{cause, kind_of}
use Rattle.rds_wire.specs.CauseLaws.{answered-err, answered-ok, len-cause}
use Rattle.rds_frame.specs.declared.took.FrameError.{FrameError}
use Rattle.rds_frame.specs.declared.took.FrameError.TheVariants as errors
use Rattle.rds_frame.proofs.FirstFrame.{IsFront, BeginsMalformed-front, IsClear-front, IsClear-short, IsPartial-front, IsSound-front}
use Rattle.rds_frame.proofs.plain.first_frame.Goals as goal

-- the fault of the answer is the fault that was found
some_fault : {a b : Malformed}
    → ◌≡◌ {A = Result (Option Frame) FrameError} (Err (errors.Malformed a)) (Err (errors.Malformed b)) → Some a ≡ Some b
some_fault same = cc

pub returns-in-Err-clause-malformed : goal.returns-in-Err-clause-malformed
returns-in-Err-clause-malformed c =
    let cut = c.in-Some.ensures {u = tt} in
    let d = c.decode-header.result in
    let front : IsFront c.args.bytes.now c.in-Some.head.now c.in-Some.body.now d =
    record { head_is = cut.cases.0; body_is = cut.cases.1; bytes_are = c.decode-header.ensures.bytes; fits = c.decode-header.ensures.header } in
    let faults = c.in-Err.ensures {u = tt} in
    λ fault same. BeginsMalformed-front c.args.highest c.args.known c.args.bytes.now c.in-Some.head.now c.in-Some.body.now d fault front
    (answered-err (kind_of d) c.in-Err.fault (cause d c.args.highest c.args.known) (sym faults) ∙ some_fault same)

pub returns-then-body-len-clause-found : goal.returns-then-body-len-clause-found
returns-then-body-len-clause-found c =
    let cut = c.in-Some.ensures {u = tt} in
    let d = c.decode-header.result in
    let front : IsFront c.args.bytes.now c.in-Some.head.now c.in-Some.body.now d =
    record { head_is = cut.cases.0; body_is = cut.cases.1; bytes_are = c.decode-header.ensures.bytes; fits = c.decode-header.ensures.header } in
    IsPartial-front c.args.bytes.now c.in-Some.head.now c.in-Some.body.now d front c.if-body-len.true

pub returns-in_default-clause-clear : goal.returns-in_default-clause-clear
returns-in_default-clause-clear c =
    let cut = c.in_default.ensures {u = tt} in
    IsClear-short c.args.highest c.args.known c.args.bytes.now cut.cases

pub returns-then-body-len-clause-clear : goal.returns-then-body-len-clause-clear
returns-then-body-len-clause-clear c =
    let cut = c.in-Some.ensures {u = tt} in
    let d = c.decode-header.result in
    let front : IsFront c.args.bytes.now c.in-Some.head.now c.in-Some.body.now d =
    record { head_is = cut.cases.0; body_is = cut.cases.1; bytes_are = c.decode-header.ensures.bytes; fits = c.decode-header.ensures.header } in
    let passes = c.in_default-check.ensures {u = tt} in
    let none = answered-ok (kind_of d) c.in_default-check.field-0 (cause d c.args.highest c.args.known) (sym passes) in
    IsClear-front c.args.highest c.args.known c.args.bytes.now c.in-Some.head.now c.in-Some.body.now d front none

pub copy_of-requires : goal.copy_of-requires
copy_of-requires c =
    let d = c.decode-header.result in
    let passes = c.in_default-check.ensures {u = tt} in
    let none = answered-ok (kind_of d) c.in_default-check.field-0 (cause d c.args.highest c.args.known) (sym passes) in
    omega (arith, len-cause d c.args.highest c.args.known none, length-take-le d.len c.in-Some.body.now c.if-body-len.false)

pub returns-clause-found : goal.returns-clause-found
returns-clause-found c =
    let cut = c.in-Some.ensures {u = tt} in
    let d = c.decode-header.result in
    let front : IsFront c.args.bytes.now c.in-Some.head.now c.in-Some.body.now d =
    record { head_is = cut.cases.0; body_is = cut.cases.1; bytes_are = c.decode-header.ensures.bytes; fits = c.decode-header.ensures.header } in
    let passes = c.in_default-check.ensures {u = tt} in
    let none = answered-ok (kind_of d) c.in_default-check.field-0 (cause d c.args.highest c.args.known) (sym passes) in
    let copied = c.in_ok-payload.ensures {u = tt} in
    IsSound-front c.args.highest c.args.known c.args.bytes.now c.in-Some.head.now c.in-Some.body.now c.in_ok-payload.payload d front none c.if-body-len.false copied
