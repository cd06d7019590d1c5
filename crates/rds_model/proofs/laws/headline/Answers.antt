use Rattle.rds_model.proofs.Headline.{delivered_once}
use Rattle.rds_model.proofs.Matching.{ArePeers, other_way}
use Rattle.rds_model.proofs.laws.headline.Goals as goal

pub returns-clause-forth : goal.returns-clause-forth
returns-clause-forth c sport dport =
    let peers : ArePeers c.args.a.now.past c.args.b.now.past =
    record { legal_a = c.requires.legal_a; legal_b = c.requires.legal_b; honest = c.requires.honest } in
    delivered_once sport dport c.args.a.now.past c.args.b.now.past peers

pub returns-clause-back : goal.returns-clause-back
returns-clause-back c sport dport =
    let peers : ArePeers c.args.a.now.past c.args.b.now.past =
    record { legal_a = c.requires.legal_a; legal_b = c.requires.legal_b; honest = c.requires.honest } in
    delivered_once sport dport c.args.b.now.past c.args.a.now.past (other_way c.args.a.now.past c.args.b.now.past peers)
