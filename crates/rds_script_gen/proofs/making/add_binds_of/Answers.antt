use Rattle.std.proofs.Common.{rules, ◌∙◌, length, ap, arith}
use Rattle.std.proofs.lemmas.List.{length-append}
use Rattle.std.proofs.lemmas.List.FromFn.{length-map-range_with_len}
use Rattle.std.specs.Prelude.{map}
use Rattle.std.specs.List.{range_with_len}
use Rattle.rds_script_gen.specs.Generator.{bind}
use Rattle.rds_script_gen.proofs.Turns.{bind_more}
use Rattle.rds_script_gen.proofs.making.add_binds_of.Goals as goal

pub add-requires : goal.add-requires
add-requires c =
    let count = ap length c.loop-socket.invariant ∙ length-append c.args.listing.now (map (bind c.args.host) (range_with_len 4000 c.loop-socket.socket)) in
    let made = length-map-range_with_len (bind c.args.host) 4000 c.loop-socket.socket in
    omega (arith, count, made, c.loop-socket-test.true, c.requires.few)

pub loop-socket-preserved : goal.loop-socket-preserved
loop-socket-preserved c =
    let more = bind_more c.args.listing.now c.args.host c.loop-socket.socket in
    search rules
