use Rattle.rds_model.proofs.NoBad.{no_bad}
use Rattle.rds_model.proofs.Matching.{ArePeers, other_way}
use Rattle.rds_model.proofs.laws.no_bad.Goals as goal

pub returns-clause-none_in_a : goal.returns-clause-none_in_a
returns-clause-none_in_a c =
    let peers : ArePeers c.args.a.now.past c.args.b.now.past =
    record { legal_a = c.requires.legal_a; legal_b = c.requires.legal_b; honest = c.requires.honest } in
    no_bad c.args.b.now.past c.args.a.now.past (other_way c.args.a.now.past c.args.b.now.past peers)

pub returns-clause-none_in_b : goal.returns-clause-none_in_b
returns-clause-none_in_b c =
    let peers : ArePeers c.args.a.now.past c.args.b.now.past =
    record { legal_a = c.requires.legal_a; legal_b = c.requires.legal_b; honest = c.requires.honest } in
    no_bad c.args.a.now.past c.args.b.now.past peers
