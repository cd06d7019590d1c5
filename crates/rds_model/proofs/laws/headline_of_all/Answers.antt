use Rattle.rds_model.proofs.Headline.{delivered_once}
use Rattle.rds_model.proofs.laws.headline_of_all.Goals as goal

pub returns : goal.returns
returns c a b legal_a legal_b honest sport dport =
    delivered_once sport dport a b (record { legal_a = legal_a; legal_b = legal_b; honest = honest })
