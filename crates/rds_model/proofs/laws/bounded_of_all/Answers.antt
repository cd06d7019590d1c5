use Rattle.rds_model.proofs.Bounded.{bounded}
use Rattle.rds_model.proofs.Matching.{ArePeers, other_way}
use Rattle.rds_model.proofs.laws.bounded_of_all.Goals as goal

pub returns : goal.returns
returns c a b legal_a legal_b honest =
    let peers : ArePeers a b = record { legal_a = legal_a; legal_b = legal_b; honest = honest } in
    (bounded a b peers, bounded b a (other_way a b peers))
