use Rattle.std.proofs.Common.{rules, ◌+◌, arith}
use Rattle.rds_script_gen.proofs.Listings.{listing_more}
use Rattle.rds_script_gen.proofs.listing.Listing.add.Goals as goal

pub invariant_of-self-2 : goal.invariant_of-self-2
invariant_of-self-2 c =
    let more = listing_more c.self.inside.placed.items c.args.command (2 + c.len.result) c.self.invariant (omega (arith, c.len.ensures)) in
    search rules
