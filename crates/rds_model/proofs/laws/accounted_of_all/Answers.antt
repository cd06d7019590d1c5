use Rattle.rds_model.proofs.Accounted.{all_accounted}
use Rattle.rds_model.proofs.Matching.{ArePeers}
use Rattle.rds_model.proofs.laws.accounted_of_all.Goals as goal

pub returns : goal.returns
returns c a b legal_a legal_b honest none_alive sport dport =
    let peers : ArePeers a b = record { legal_a = legal_a; legal_b = legal_b; honest = honest } in
    all_accounted sport dport a b peers none_alive
