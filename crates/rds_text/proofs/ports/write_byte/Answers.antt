use Rattle.std.proofs.Common.{◌≡◌, ◌+◌, [], ◌∷◌, ◌++◌, refl, sym, ap, ◌∙◌}
use Rattle.std.proofs.Output.{has_written_append, has_written_of_eq, has_written_to_eq}
use Rattle.std.proofs.lemmas.Nat.Bits.{shr_and_one}
use Rattle.std.specs.Int.{bit_at}
use Rattle.rds_text.specs.Words.{listed}
use Rattle.rds_text.proofs.Listed.{started, listed-append, started-append, ports_below, ports_below-set, ports_below-clear}
use Rattle.rds_text.proofs.ports.write_byte.Goals as goal
use Rattle.rds_text.proofs.ports.write_byte.Goals.{then-byte-bit-eq1+in_ok-write_port, else-byte-bit-eq1}

pub loop-bit-preserved : goal.loop-bit-preserved
loop-bit-preserved g c =
    let any = c.args.any in
    let k = c.loop-bit.bit in
    let ports = ports_below c.args.first c.args.byte k in
    let port = c.args.first + k in
    elim c.if-byte-bit-eq1.branch [
      | then-byte-bit-eq1+in_ok-write_port w ↦
          let set : bit_at c.args.byte k ≡ 1 = sym (shr_and_one c.args.byte k) ∙ w.if-byte-bit-eq1.true in
          let next = ports_below-set c.args.first c.args.byte k set in
          let text = listed-append any ports (port ∷ []) ∙ ap (λ b. listed any ports ++ listed b (port ∷ [])) (sym c.loop-bit.invariant.0) in (
            w.any-is ∙ sym (ap (started any) next ∙ started-append any ports (port ∷ [])),
            λ plain.
                let done = c.loop-bit.invariant.1 plain in
                has_written_to_eq _ _ _ _ _ w.f-is
                (has_written_of_eq _ _ _ _ _ (sym (ap (listed any) next ∙ text))
                (has_written_append _ _ _ _ _ _ done (w.in_ok-write_port.ensures done.plain refl))),
          )
      | else-byte-bit-eq1 w ↦
          let next = ports_below-clear c.args.first c.args.byte k (λ e. w.if-byte-bit-eq1.false (shr_and_one c.args.byte k ∙ e)) in (
            w.any-is ∙ c.loop-bit.invariant.0 ∙ sym (ap (started any) next),
            λ plain.
                has_written_to_eq _ _ _ _ _ w.f-is
                (has_written_of_eq _ _ _ _ _ (sym (ap (listed any) next)) (c.loop-bit.invariant.1 plain)),
          )
    ]
