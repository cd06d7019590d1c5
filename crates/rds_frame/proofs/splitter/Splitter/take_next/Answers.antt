use Rattle.std.proofs.Common.{◌≡◌, ◌∙◌, ◌<◌, sym, ap, arith, inl, inr, Some, None, Err, Result}
use Rattle.std.proofs.lemmas.List.{take_rest}
use Rattle.std.proofs.lemmas.Bool.{cases_lt}
use Rattle.rds_wire.specs.declared.kind.Malformed.{Malformed}
use Rattle.rds_frame.specs.declared.took.Took.{Took}
use Rattle.rds_frame.specs.declared.took.FrameError.{FrameError}
use Rattle.rds_frame.specs.declared.took.FrameError.TheVariants as errors
use Rattle.rds_frame.specs.Holding.{SplitterView}
use Rattle.rds_frame.proofs.Taking.{IsOpen, Filled, IsPassed, IsPassed-whole, Takes-early, Takes-part, Takes-frame, Refuses-header, Keeps-part, Keeps-frame, Keeps-refused, Keeps-failed}
use Rattle.rds_frame.proofs.Keeping.{IsHeld-fields}
use Rattle.rds_frame.proofs.splitter.Splitter.take_next.Goals as goal

-- the fault of the answer is the fault that was found
some_fault : {a b : Malformed} → ◌≡◌ {A = Result Took FrameError} (Err (errors.Malformed a)) (Err (errors.Malformed b)) → Some a ≡ Some b
some_fault same = cc

pub returns-then-self-filled-lt48-clause-ok : goal.returns-then-self-filled-lt48-clause-ok
returns-then-self-filled-lt48-clause-ok c =
    let s = c.self.inside in
    let old : SplitterView = c.args.self.now in
    let piece = c.args.piece.now in
    let filled = c.fill-filled.new.head in
    let n = c.fill-filled.result in
    let is : IsOpen old s.head s.came s.body s.waiting s.refused = record {
      keeps = c.self.invariant;
      view_is = c.self.view_is;
      none_waits = ap (λ (h : SplitterView). h.waiting) c.self.view_is ∙ c.requires.none_waits;
      still_open = ap (λ (h : SplitterView). h.refused) c.self.view_is ∙ c.requires.not_closed;
    } in
    let fill : Filled s.head s.came piece filled n =
    record { used = c.fill-filled.ensures.used; bytes = c.fill-filled.ensures.came; len = c.fill-filled.ensures.len } in
    Takes-early old s.head s.came s.body s.waiting s.refused c.args.highest c.args.known piece filled n is fill c.if-self-filled-lt48.true

pub returns-in-Some-clause-malformed : goal.returns-in-Some-clause-malformed
returns-in-Some-clause-malformed c =
    let s = c.self.inside in
    let old : SplitterView = c.args.self.now in
    let piece = c.args.piece.now in
    let filled = c.fill-filled.new.head in
    let n = c.fill-filled.result in
    let is : IsOpen old s.head s.came s.body s.waiting s.refused = record {
      keeps = c.self.invariant;
      view_is = c.self.view_is;
      none_waits = ap (λ (h : SplitterView). h.waiting) c.self.view_is ∙ c.requires.none_waits;
      still_open = ap (λ (h : SplitterView). h.refused) c.self.view_is ∙ c.requires.not_closed;
    } in
    let fill : Filled s.head s.came piece filled n =
    record { used = c.fill-filled.ensures.used; bytes = c.fill-filled.ensures.came; len = c.fill-filled.ensures.len } in
    let d = c.decode-header.result in
    let bytes = c.decode-header.ensures.bytes in
    let fits = c.decode-header.ensures.header in
    let late = c.if-self-filled-lt48.false in
    let faults = c.in-Some.ensures {u = tt} in
    let early : s.came < 48 = elim (cases_lt s.came 48) [
      | inl below ↦ below
      | inr full ↦ let none : Some c.in-Some.fault ≡ None = faults.passed full in cc
    ] in
    λ fault same. Refuses-header old s.head s.came s.body s.waiting s.refused c.args.highest c.args.known piece filled n d fault is fill late early bytes fits (sym (faults.new early) ∙ some_fault same)

pub returns-in-Some-clause-held : goal.returns-in-Some-clause-held
returns-in-Some-clause-held c =
    let s = c.self.inside in
    let old : SplitterView = c.args.self.now in
    let piece = c.args.piece.now in
    let filled = c.fill-filled.new.head in
    let n = c.fill-filled.result in
    let is : IsOpen old s.head s.came s.body s.waiting s.refused = record {
      keeps = c.self.invariant;
      view_is = c.self.view_is;
      none_waits = ap (λ (h : SplitterView). h.waiting) c.self.view_is ∙ c.requires.none_waits;
      still_open = ap (λ (h : SplitterView). h.refused) c.self.view_is ∙ c.requires.not_closed;
    } in
    let fill : Filled s.head s.came piece filled n =
    record { used = c.fill-filled.ensures.used; bytes = c.fill-filled.ensures.came; len = c.fill-filled.ensures.len } in
    let d = c.decode-header.result in
    let bytes = c.decode-header.ensures.bytes in
    let fits = c.decode-header.ensures.header in
    let late = c.if-self-filled-lt48.false in
    let faults = c.in-Some.ensures {u = tt} in
    let early : s.came < 48 = elim (cases_lt s.came 48) [
      | inl below ↦ below
      | inr full ↦ let none : Some c.in-Some.fault ≡ None = faults.passed full in cc
    ] in
    IsHeld-fields filled 48 s.body s.waiting (Some d) (Keeps-refused old s.head s.came s.body s.waiting s.refused piece filled n d is fill early bytes fits)

pub overflow_sub-missing : goal.overflow_sub-missing
overflow_sub-missing c =
    let s = c.self.inside in
    let old : SplitterView = c.args.self.now in
    let piece = c.args.piece.now in
    let filled = c.fill-filled.new.head in
    let n = c.fill-filled.result in
    let is : IsOpen old s.head s.came s.body s.waiting s.refused = record {
      keeps = c.self.invariant;
      view_is = c.self.view_is;
      none_waits = ap (λ (h : SplitterView). h.waiting) c.self.view_is ∙ c.requires.none_waits;
      still_open = ap (λ (h : SplitterView). h.refused) c.self.view_is ∙ c.requires.not_closed;
    } in
    let fill : Filled s.head s.came piece filled n =
    record { used = c.fill-filled.ensures.used; bytes = c.fill-filled.ensures.came; len = c.fill-filled.ensures.len } in
    let d = c.decode-header.result in
    let bytes = c.decode-header.ensures.bytes in
    let fits = c.decode-header.ensures.header in
    let late = c.if-self-filled-lt48.false in
    let no_fault = c.in_default.ensures {u = tt} in
    let passed : IsPassed c.args.highest c.args.known s.came s.body d =
    IsPassed-whole old s.head s.came s.body s.waiting s.refused c.args.highest c.args.known piece filled n d is fill late bytes fits (λ early. sym (no_fault.new early)) in
    omega (arith, passed.within)

pub advance-requires-clause-came : goal.advance-requires-clause-came
advance-requires-clause-came c =
    let s = c.self.inside in
    let old : SplitterView = c.args.self.now in
    let piece = c.args.piece.now in
    let filled = c.fill-filled.new.head in
    let n = c.fill-filled.result in
    let is : IsOpen old s.head s.came s.body s.waiting s.refused = record {
      keeps = c.self.invariant;
      view_is = c.self.view_is;
      none_waits = ap (λ (h : SplitterView). h.waiting) c.self.view_is ∙ c.requires.none_waits;
      still_open = ap (λ (h : SplitterView). h.refused) c.self.view_is ∙ c.requires.not_closed;
    } in
    let fill : Filled s.head s.came piece filled n =
    record { used = c.fill-filled.ensures.used; bytes = c.fill-filled.ensures.came; len = c.fill-filled.ensures.len } in
    let d = c.decode-header.result in
    let bytes = c.decode-header.ensures.bytes in
    let fits = c.decode-header.ensures.header in
    let late = c.if-self-filled-lt48.false in
    let no_fault = c.in_default.ensures {u = tt} in
    let passed : IsPassed c.args.highest c.args.known s.came s.body d =
    IsPassed-whole old s.head s.came s.body s.waiting s.refused c.args.highest c.args.known piece filled n d is fill late bytes fits (λ early. sym (no_fault.new early)) in
    passed.within

pub advance-requires-clause-limit : goal.advance-requires-clause-limit
advance-requires-clause-limit c =
    let s = c.self.inside in
    let old : SplitterView = c.args.self.now in
    let piece = c.args.piece.now in
    let filled = c.fill-filled.new.head in
    let n = c.fill-filled.result in
    let is : IsOpen old s.head s.came s.body s.waiting s.refused = record {
      keeps = c.self.invariant;
      view_is = c.self.view_is;
      none_waits = ap (λ (h : SplitterView). h.waiting) c.self.view_is ∙ c.requires.none_waits;
      still_open = ap (λ (h : SplitterView). h.refused) c.self.view_is ∙ c.requires.not_closed;
    } in
    let fill : Filled s.head s.came piece filled n =
    record { used = c.fill-filled.ensures.used; bytes = c.fill-filled.ensures.came; len = c.fill-filled.ensures.len } in
    let d = c.decode-header.result in
    let bytes = c.decode-header.ensures.bytes in
    let fits = c.decode-header.ensures.header in
    let late = c.if-self-filled-lt48.false in
    let no_fault = c.in_default.ensures {u = tt} in
    let passed : IsPassed c.args.highest c.args.known s.came s.body d =
    IsPassed-whole old s.head s.came s.body s.waiting s.refused c.args.highest c.args.known piece filled n d is fill late bytes fits (λ early. sym (no_fault.new early)) in
    passed.limit

pub returns-in_err-advance-clause-held : goal.returns-in_err-advance-clause-held
returns-in_err-advance-clause-held c =
    let s = c.self.inside in
    let old : SplitterView = c.args.self.now in
    let piece = c.args.piece.now in
    let filled = c.fill-filled.new.head in
    let n = c.fill-filled.result in
    let is : IsOpen old s.head s.came s.body s.waiting s.refused = record {
      keeps = c.self.invariant;
      view_is = c.self.view_is;
      none_waits = ap (λ (h : SplitterView). h.waiting) c.self.view_is ∙ c.requires.none_waits;
      still_open = ap (λ (h : SplitterView). h.refused) c.self.view_is ∙ c.requires.not_closed;
    } in
    let fill : Filled s.head s.came piece filled n =
    record { used = c.fill-filled.ensures.used; bytes = c.fill-filled.ensures.came; len = c.fill-filled.ensures.len } in
    let d = c.decode-header.result in
    let bytes = c.decode-header.ensures.bytes in
    let fits = c.decode-header.ensures.header in
    let late = c.if-self-filled-lt48.false in
    let no_fault = c.in_default.ensures {u = tt} in
    let passed : IsPassed c.args.highest c.args.known s.came s.body d =
    IsPassed-whole old s.head s.came s.body s.waiting s.refused c.args.highest c.args.known piece filled n d is fill late bytes fits (λ early. sym (no_fault.new early)) in
    let failed = c.in_err-advance.ensures {u = tt} in
    let same = failed.err in
    IsHeld-fields filled s.came c.advance.new.self s.waiting s.refused (Keeps-failed old s.head s.came s.body s.waiting s.refused piece filled c.advance.new.self n is fill same)

pub invariant_of-self-in-None : goal.invariant_of-self-in-None
invariant_of-self-in-None c =
    let s = c.self.inside in
    let old : SplitterView = c.args.self.now in
    let piece = c.args.piece.now in
    let filled = c.fill-filled.new.head in
    let n = c.fill-filled.result in
    let is : IsOpen old s.head s.came s.body s.waiting s.refused = record {
      keeps = c.self.invariant;
      view_is = c.self.view_is;
      none_waits = ap (λ (h : SplitterView). h.waiting) c.self.view_is ∙ c.requires.none_waits;
      still_open = ap (λ (h : SplitterView). h.refused) c.self.view_is ∙ c.requires.not_closed;
    } in
    let fill : Filled s.head s.came piece filled n =
    record { used = c.fill-filled.ensures.used; bytes = c.fill-filled.ensures.came; len = c.fill-filled.ensures.len } in
    let d = c.decode-header.result in
    let bytes = c.decode-header.ensures.bytes in
    let fits = c.decode-header.ensures.header in
    let late = c.if-self-filled-lt48.false in
    let no_fault = c.in_default.ensures {u = tt} in
    let passed : IsPassed c.args.highest c.args.known s.came s.body d =
    IsPassed-whole old s.head s.came s.body s.waiting s.refused c.args.highest c.args.known piece filled n d is fill late bytes fits (λ early. sym (no_fault.new early)) in
    let part = c.in_ok-advance.ensures {u = tt} in
    let grown = c.advance.new.self in
    let facts = rw (c.in-None.is, take_rest piece n) at part.part in
    Keeps-part old s.head s.came s.body s.waiting s.refused c.args.highest c.args.known piece filled grown n d is fill bytes fits passed facts.0 facts.1

pub returns-in-None-clause-ok : goal.returns-in-None-clause-ok
returns-in-None-clause-ok c =
    let s = c.self.inside in
    let old : SplitterView = c.args.self.now in
    let piece = c.args.piece.now in
    let filled = c.fill-filled.new.head in
    let n = c.fill-filled.result in
    let is : IsOpen old s.head s.came s.body s.waiting s.refused = record {
      keeps = c.self.invariant;
      view_is = c.self.view_is;
      none_waits = ap (λ (h : SplitterView). h.waiting) c.self.view_is ∙ c.requires.none_waits;
      still_open = ap (λ (h : SplitterView). h.refused) c.self.view_is ∙ c.requires.not_closed;
    } in
    let fill : Filled s.head s.came piece filled n =
    record { used = c.fill-filled.ensures.used; bytes = c.fill-filled.ensures.came; len = c.fill-filled.ensures.len } in
    let d = c.decode-header.result in
    let bytes = c.decode-header.ensures.bytes in
    let fits = c.decode-header.ensures.header in
    let late = c.if-self-filled-lt48.false in
    let no_fault = c.in_default.ensures {u = tt} in
    let passed : IsPassed c.args.highest c.args.known s.came s.body d =
    IsPassed-whole old s.head s.came s.body s.waiting s.refused c.args.highest c.args.known piece filled n d is fill late bytes fits (λ early. sym (no_fault.new early)) in
    let part = c.in_ok-advance.ensures {u = tt} in
    let grown = c.advance.new.self in
    let facts = rw (c.in-None.is, take_rest piece n) at part.part in
    Takes-part old s.head s.came s.body s.waiting s.refused c.args.highest c.args.known piece filled grown n d is fill late bytes fits passed facts.0

pub returns-in-None-clause-held : goal.returns-in-None-clause-held
returns-in-None-clause-held c =
    let s = c.self.inside in
    let old : SplitterView = c.args.self.now in
    let piece = c.args.piece.now in
    let filled = c.fill-filled.new.head in
    let n = c.fill-filled.result in
    let is : IsOpen old s.head s.came s.body s.waiting s.refused = record {
      keeps = c.self.invariant;
      view_is = c.self.view_is;
      none_waits = ap (λ (h : SplitterView). h.waiting) c.self.view_is ∙ c.requires.none_waits;
      still_open = ap (λ (h : SplitterView). h.refused) c.self.view_is ∙ c.requires.not_closed;
    } in
    let fill : Filled s.head s.came piece filled n =
    record { used = c.fill-filled.ensures.used; bytes = c.fill-filled.ensures.came; len = c.fill-filled.ensures.len } in
    let d = c.decode-header.result in
    let bytes = c.decode-header.ensures.bytes in
    let fits = c.decode-header.ensures.header in
    let late = c.if-self-filled-lt48.false in
    let no_fault = c.in_default.ensures {u = tt} in
    let passed : IsPassed c.args.highest c.args.known s.came s.body d =
    IsPassed-whole old s.head s.came s.body s.waiting s.refused c.args.highest c.args.known piece filled n d is fill late bytes fits (λ early. sym (no_fault.new early)) in
    let part = c.in_ok-advance.ensures {u = tt} in
    let grown = c.advance.new.self in
    let facts = rw (c.in-None.is, take_rest piece n) at part.part in
    IsHeld-fields filled 48 grown s.waiting s.refused
    (Keeps-part old s.head s.came s.body s.waiting s.refused c.args.highest c.args.known piece filled grown n d is fill bytes fits passed facts.0 facts.1)

pub invariant_of-self-in-Some-2 : goal.invariant_of-self-in-Some-2
invariant_of-self-in-Some-2 c =
    let s = c.self.inside in
    let old : SplitterView = c.args.self.now in
    let piece = c.args.piece.now in
    let filled = c.fill-filled.new.head in
    let n = c.fill-filled.result in
    let is : IsOpen old s.head s.came s.body s.waiting s.refused = record {
      keeps = c.self.invariant;
      view_is = c.self.view_is;
      none_waits = ap (λ (h : SplitterView). h.waiting) c.self.view_is ∙ c.requires.none_waits;
      still_open = ap (λ (h : SplitterView). h.refused) c.self.view_is ∙ c.requires.not_closed;
    } in
    let fill : Filled s.head s.came piece filled n =
    record { used = c.fill-filled.ensures.used; bytes = c.fill-filled.ensures.came; len = c.fill-filled.ensures.len } in
    let d = c.decode-header.result in
    let bytes = c.decode-header.ensures.bytes in
    let fits = c.decode-header.ensures.header in
    let late = c.if-self-filled-lt48.false in
    let no_fault = c.in_default.ensures {u = tt} in
    let passed : IsPassed c.args.highest c.args.known s.came s.body d =
    IsPassed-whole old s.head s.came s.body s.waiting s.refused c.args.highest c.args.known piece filled n d is fill late bytes fits (λ early. sym (no_fault.new early)) in
    let part = c.in_ok-advance.ensures {u = tt} in
    let rest = c.advance.new.self in
    let payload = c.in-Some-2.payload in
    let facts = rw (c.in-Some-2.is, take_rest piece n) at part.part in
    Keeps-frame old s.head s.came s.body s.waiting s.refused piece filled rest payload n d is fill fits passed.within facts.0 facts.1 facts.2

pub returns-in-Some-2-clause-ok : goal.returns-in-Some-2-clause-ok
returns-in-Some-2-clause-ok c =
    let s = c.self.inside in
    let old : SplitterView = c.args.self.now in
    let piece = c.args.piece.now in
    let filled = c.fill-filled.new.head in
    let n = c.fill-filled.result in
    let is : IsOpen old s.head s.came s.body s.waiting s.refused = record {
      keeps = c.self.invariant;
      view_is = c.self.view_is;
      none_waits = ap (λ (h : SplitterView). h.waiting) c.self.view_is ∙ c.requires.none_waits;
      still_open = ap (λ (h : SplitterView). h.refused) c.self.view_is ∙ c.requires.not_closed;
    } in
    let fill : Filled s.head s.came piece filled n =
    record { used = c.fill-filled.ensures.used; bytes = c.fill-filled.ensures.came; len = c.fill-filled.ensures.len } in
    let d = c.decode-header.result in
    let bytes = c.decode-header.ensures.bytes in
    let fits = c.decode-header.ensures.header in
    let late = c.if-self-filled-lt48.false in
    let no_fault = c.in_default.ensures {u = tt} in
    let passed : IsPassed c.args.highest c.args.known s.came s.body d =
    IsPassed-whole old s.head s.came s.body s.waiting s.refused c.args.highest c.args.known piece filled n d is fill late bytes fits (λ early. sym (no_fault.new early)) in
    let part = c.in_ok-advance.ensures {u = tt} in
    let rest = c.advance.new.self in
    let payload = c.in-Some-2.payload in
    let facts = rw (c.in-Some-2.is, take_rest piece n) at part.part in
    Takes-frame old s.head s.came s.body s.waiting s.refused c.args.highest c.args.known piece filled rest payload n c.len.result d is fill late bytes fits passed (omega arith) facts.0 facts.1 facts.2

pub returns-in-Some-2-clause-held : goal.returns-in-Some-2-clause-held
returns-in-Some-2-clause-held c =
    let s = c.self.inside in
    let old : SplitterView = c.args.self.now in
    let piece = c.args.piece.now in
    let filled = c.fill-filled.new.head in
    let n = c.fill-filled.result in
    let is : IsOpen old s.head s.came s.body s.waiting s.refused = record {
      keeps = c.self.invariant;
      view_is = c.self.view_is;
      none_waits = ap (λ (h : SplitterView). h.waiting) c.self.view_is ∙ c.requires.none_waits;
      still_open = ap (λ (h : SplitterView). h.refused) c.self.view_is ∙ c.requires.not_closed;
    } in
    let fill : Filled s.head s.came piece filled n =
    record { used = c.fill-filled.ensures.used; bytes = c.fill-filled.ensures.came; len = c.fill-filled.ensures.len } in
    let d = c.decode-header.result in
    let bytes = c.decode-header.ensures.bytes in
    let fits = c.decode-header.ensures.header in
    let late = c.if-self-filled-lt48.false in
    let no_fault = c.in_default.ensures {u = tt} in
    let passed : IsPassed c.args.highest c.args.known s.came s.body d =
    IsPassed-whole old s.head s.came s.body s.waiting s.refused c.args.highest c.args.known piece filled n d is fill late bytes fits (λ early. sym (no_fault.new early)) in
    let part = c.in_ok-advance.ensures {u = tt} in
    let rest = c.advance.new.self in
    let payload = c.in-Some-2.payload in
    let facts = rw (c.in-Some-2.is, take_rest piece n) at part.part in
    IsHeld-fields filled 0 rest (Some (record { header = d; payload = payload })) s.refused
    (Keeps-frame old s.head s.came s.body s.waiting s.refused piece filled rest payload n d is fill fits passed.within facts.0 facts.1 facts.2)
