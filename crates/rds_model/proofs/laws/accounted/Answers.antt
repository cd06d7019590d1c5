use Rattle.rds_model.proofs.Accounted.{all_accounted}
use Rattle.rds_model.proofs.Matching.{ArePeers}
use Rattle.rds_model.proofs.laws.accounted.Goals as goal

pub returns : goal.returns
returns c sport dport =
    let peers : ArePeers c.args.a.now.past c.args.b.now.past =
    record { legal_a = c.requires.legal_a; legal_b = c.requires.legal_b; honest = c.requires.honest } in
    all_accounted sport dport c.args.a.now.past c.args.b.now.past peers c.requires.none_alive
