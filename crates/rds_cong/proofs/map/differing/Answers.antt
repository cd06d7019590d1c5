use Rattle.std.proofs.Common.{ℕ, ◌<◌, ◌^◌, slice_index, refl, arith}
use Rattle.std.proofs.lemmas.Nat.{xor_lt}
use Rattle.rds_cong.proofs.Differing.{tells_none, tells_more, tells_all}
use Rattle.rds_cong.proofs.map.differing.Goals as goal

pub loop-i-init : goal.loop-i-init
loop-i-init c = tells_none 0 c.args.words.now c.args.others.now refl

pub loop-i-preserved : goal.loop-i-preserved
loop-i-preserved c =
    let x : ℕ = slice_index c.args.words.now c.loop-i.i in
    let y : ℕ = slice_index c.args.others.now c.loop-i.i in
    let fits_x : x < 2 ^ 64 = omega (arith, c.type_inv.words c.loop-i.i) in
    let fits_y : y < 2 ^ 64 = omega (arith, c.type_inv.others c.loop-i.i) in
    let fits : c.loop-i.bits < 2 ^ 64 = omega (arith, c.loop-i.auto.bits-fits) in
    tells_more c.loop-i.bits x y c.args.words.now c.args.others.now c.loop-i.i fits fits_x fits_y (xor_lt 64 x y fits_x fits_y) refl refl c.loop-i.invariant

pub returns : goal.returns
returns c = tells_all c.loop-i.bits c.args.words.now c.args.others.now c.loop-i.i c.requires c.loop-i-test.false c.loop-i.auto.i-end c.loop-i.invariant
