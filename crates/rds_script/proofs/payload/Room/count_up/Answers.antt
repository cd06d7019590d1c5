use Rattle.std.proofs.Common.{rules, ℕ, ◌%◌, arith}
use Rattle.std.proofs.lemmas.List.FromFn.{take-map-range_with_len, length-map-range_with_len}
use Rattle.rds_script.proofs.payload.Room.count_up.Goals as goal

pub returns-then-count-le-BYTES : goal.returns-then-count-le-BYTES
returns-then-count-le-BYTES c =
    let cut = take-map-range_with_len (λ (k : ℕ). k % 256) 0 256 c.args.count (omega arith) in
    search rules

pub of_vec-requires : goal.of_vec-requires
of_vec-requires c =
    let len = length-map-range_with_len (λ (k : ℕ). k % 256) 0 c.args.count in
    search rules
