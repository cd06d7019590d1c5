use Rattle.rds_model.proofs.Bounded.{bounded}
use Rattle.rds_model.proofs.Matching.{ArePeers, other_way}
use Rattle.rds_model.proofs.laws.bounded.Goals as goal

pub returns-clause-forth : goal.returns-clause-forth
returns-clause-forth c =
    let peers : ArePeers c.args.a.now.past c.args.b.now.past =
    record { legal_a = c.requires.legal_a; legal_b = c.requires.legal_b; honest = c.requires.honest } in
    bounded c.args.a.now.past c.args.b.now.past peers

pub returns-clause-back : goal.returns-clause-back
returns-clause-back c =
    let peers : ArePeers c.args.a.now.past c.args.b.now.past =
    record { legal_a = c.requires.legal_a; legal_b = c.requires.legal_b; honest = c.requires.honest } in
    bounded c.args.b.now.past c.args.a.now.past (other_way c.args.a.now.past c.args.b.now.past peers)
