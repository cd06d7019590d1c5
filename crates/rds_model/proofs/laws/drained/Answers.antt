use Rattle.rds_model.proofs.Drained.{settled}
use Rattle.rds_model.proofs.Matching.{ArePeers}
use Rattle.rds_model.proofs.laws.drained.Goals as goal

pub returns : goal.returns
returns c s quiet =
    let peers : ArePeers c.args.a.now.past c.args.b.now.past =
    record { legal_a = c.requires.legal_a; legal_b = c.requires.legal_b; honest = c.requires.honest } in
    settled s c.args.a.now.past c.args.b.now.past peers quiet
