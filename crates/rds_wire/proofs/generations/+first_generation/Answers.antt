use Rattle.std.proofs.Common.{◌∙◌, arith, sym}
use Rattle.rds_wire.proofs.FirstGeneration.{found_behind, generation-found, generation-none}
use Rattle.rds_wire.proofs.generations.+first_generation.Goals as goal

pub returns-in_default : goal.returns-in_default
returns-in_default t c =
    let none = c.in_default.ensures {u = tt} in
    sym (generation-none c.args.area.now c.args.pos c.fits-area (omega arith) none.none)

pub returns-in-Version : goal.returns-in-Version
returns-in-Version t c =
    let found = c.in-Some.ensures {u = tt} in
    let area = c.args.area.now in
    c.first_generation.ensures
    ∙ sym (found_behind area c.in-Some.after c.in-Some.ext c.in-Version.is)
    ∙ sym (generation-found area c.args.pos c.in-Some.after c.in-Some.ext found.found found.after)
