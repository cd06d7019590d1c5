use Rattle.rds_model.proofs.Drained.{settled}
use Rattle.rds_model.proofs.laws.drained_of_all.Goals as goal

pub returns : goal.returns
returns c a b legal_a legal_b honest s quiet =
    settled s a b (record { legal_a = legal_a; legal_b = legal_b; honest = honest }) quiet
