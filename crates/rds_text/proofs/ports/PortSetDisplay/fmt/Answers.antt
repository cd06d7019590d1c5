use Rattle.std.proofs.Common.{◌≡◌, ℕ, ◌+◌, ◌*◌, ◌<◌, false, ◌++◌, List, length, take, get_or, refl, sym, ap, ◌∙◌, append-nil, length-take, arith, take_all, rules}
use Rattle.std.proofs.Output.{has_written_append, has_written_of_eq, has_written_to_eq}
use Rattle.std.proofs.lemmas.List.{take_more}
use Rattle.rds_text.specs.Words.{dash, numbers, listed}
use Rattle.rds_text.specs.Ports.{set_ports, ports_of_byte}
use Rattle.rds_text.proofs.Listed.{started, listed-append, started-append, started-byte, ports_from-push, numbers-started, numbers-none}
use Rattle.rds_text.proofs.ports.PortSetDisplay.fmt.Goals as goal
use Rattle.rds_text.proofs.ports.PortSetDisplay.fmt.Goals.{then-byte-ne0+in_ok-write_byte, else-byte-ne0}

-- the set ports of one byte more
set_ports-more : (bytes : List ℕ) (i : ℕ) → i < length bytes → set_ports (take (i + 1) bytes) ≡ set_ports (take i bytes) ++ ports_of_byte (8 * i) (get_or bytes i 0)
set_ports-more bytes i h =
    ap set_ports (take_more bytes i 0 h) ∙ ports_from-push 0 (take i bytes) (get_or bytes i 0)
    ∙ ap (λ n. set_ports (take i bytes) ++ ports_of_byte n (get_or bytes i 0)) (omega (arith, length-take i bytes))

pub loop-byte-preserved : goal.loop-byte-preserved
loop-byte-preserved g c =
    let bytes = c.args.self.now.bytes.now in
    let i = c.loop-byte.byte-index in
    let ports = set_ports (take i bytes) in
    let new = ports_of_byte (8 * i) (get_or bytes i 0) in
    let next = set_ports-more bytes i c.loop-byte-test.true in
    let (counted, any_is, written) = c.loop-byte.invariant in
    elim c.if-byte-ne0.branch [
      | then-byte-ne0+in_ok-write_byte w ↦
          let some = started-byte (started false ports) (8 * i) (get_or bytes i 0) w.if-byte-ne0.true (search rules) in
          let text = listed-append false ports new ∙ ap (λ b. listed false ports ++ listed b new) (sym any_is)
          ∙ ap (λ n. listed false ports ++ listed c.loop-byte.any (ports_of_byte n (get_or bytes i 0))) (sym counted) in (
            omega arith,
            w.any-is ∙ sym (ap (started false) next ∙ started-append false ports new ∙ some),
            λ plain.
                let done = written plain in
                has_written_to_eq _ _ _ _ _ w.f-is
                (has_written_of_eq _ _ _ _ _ (sym (ap (listed false) next ∙ text))
                (has_written_append _ _ _ _ _ _ done (w.in_ok-write_byte.ensures done.plain refl))),
          )
      | else-byte-ne0 w ↦
          let same : set_ports (take (i + 1) bytes) ≡ ports =
          next ∙ ap (λ b. ports ++ ports_of_byte (8 * i) b) w.if-byte-ne0.false ∙ append-nil ports in (
            omega arith,
            w.any-is ∙ any_is ∙ ap (started false) (sym same),
            λ plain. has_written_to_eq _ _ _ _ _ w.f-is (has_written_of_eq _ _ _ _ _ (ap (listed false) (sym same)) (written plain)),
          )
    ]

pub returns-then-any-clause-writes : goal.returns-then-any-clause-writes
returns-then-any-clause-writes g c =
    λ plain _.
    let (counted, any_is, written) = c.loop-byte.invariant in
    let bytes = c.args.self.now.bytes.now in
    let whole : take c.loop-byte.byte-index bytes ≡ bytes = take_all c.loop-byte.byte-index bytes c.loop-byte-test.false in
    has_written_of_eq _ _ _ _ _
    (sym (numbers-started _ (sym any_is ∙ c.if-any.true)) ∙ ap (λ l. numbers (set_ports l)) whole)
    (written plain)

pub returns-else-any-clause-writes : goal.returns-else-any-clause-writes
returns-else-any-clause-writes g c =
    λ plain ok.
    let (counted, any_is, written) = c.loop-byte.invariant in
    let bytes = c.args.self.now.bytes.now in
    let whole : take c.loop-byte.byte-index bytes ≡ bytes = take_all c.loop-byte.byte-index bytes c.loop-byte-test.false in
    let none = numbers-none _ (sym any_is ∙ c.if-any.false) in
    let done = written plain in
    has_written_of_eq _ _ _ _ _
    (ap (λ l. l ++ dash) none.0 ∙ sym none.1 ∙ ap (λ l. numbers (set_ports l)) whole)
    (has_written_append _ _ _ _ _ _ done (c.write.ensures.writes done.plain ok))
