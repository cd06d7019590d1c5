-- The journal of an end whose peer keeps no rules is whole.
use Rattle.std.proofs.Common.{◌≡◌, ◌<◌, ◌^◌, ℕ, None, drop, refl, arith}
use Rattle.std.proofs.lemmas.List.{length-replicate}
use Rattle.std.proofs.lemmas.List.Elements.{All-replicate}
use Rattle.rds_wire.specs.Bytes.{IsHeader}
use Rattle.rds_wire.specs.Generations.{generation}
use Rattle.rds_wire.specs.Kinds.{cause}
use Rattle.rds_model.specs.Legal.{IsWhole}
use Rattle.rds_model.specs.Examples.{unsummed, wronged}
use Rattle.rds_model.proofs.ExampleSteps.{more, nothing_yet}

fits : (len flags : ℕ) → len < 2 ^ 32 → flags < 2 ^ 8 → IsHeader (unsummed len flags)
fits len flags fits_len fits_flags = record {
  sequence = omega arith;
  ack = omega arith;
  len = fits_len;
  sport = omega arith;
  dport = omega arith;
  flags = fits_flags;
  credit = omega arith;
  padding = (length-replicate {A = ℕ} 4 0, All-replicate (λ b. b < 256) 4 0 (omega arith));
  csum = omega arith;
  ext = (length-replicate {A = ℕ} 16 0, All-replicate (λ b. b < 256) 16 0 (omega arith));
}

sound_map : cause (unsummed 1 1) 0 0 ≡ None
unfolding cause generation
sound_map = refl

opened : IsWhole (drop 3 wronged)
opened = more _ _ nothing_yet (refl, omega arith) refl

odd : IsWhole (drop 2 wronged)
odd = more _ _ opened (record { on = refl; header = fits 1 1 (omega arith) (omega arith); whole = refl; sound = sound_map; obeys = refl }) refl

ended : IsWhole (drop 1 wronged)
unfolding cause
ended = more _ _ odd (record { on = refl; header = fits 1048577 0 (omega arith) (omega arith); malformed = refl }) refl

pub wronged_is_whole : IsWhole wronged
wronged_is_whole = more _ _ ended (λ e. cc) refl
