use Rattle.std.proofs.Common.{rules, ℕ, ◌%◌, arith}
use Rattle.std.proofs.lemmas.List.FromFn.{take-map-range_with_len}
use Rattle.rds_script_gen.proofs.filling.Filling.payload.Goals as goal

pub returns : goal.returns
returns c =
    let cut = take-map-range_with_len (λ (k : ℕ). k % 256) 0 63 (c.args.i % 64) (omega arith) in
    search rules
