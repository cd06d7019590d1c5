use Rattle.rds_history.proofs.SettledHistory.{settled_history}
use Rattle.rds_history.proofs.laws.sound.settled_after_drain.Goals as goal

pub returns : goal.returns
returns c =
    settled_history c.headline_of_all.ensures
    (λ a b legal_a legal_b honest. (c.no_bad_of_all.ensures a b legal_a legal_b honest, c.fifo_of_all.ensures a b legal_a legal_b honest))
    c.drained_of_all.ensures
