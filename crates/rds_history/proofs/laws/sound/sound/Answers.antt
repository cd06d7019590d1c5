use Rattle.rds_history.proofs.SoundHistory.{sound_history}
use Rattle.rds_history.proofs.laws.sound.sound.Goals as goal

pub returns : goal.returns
returns c =
    sound_history c.headline_of_all.ensures
    (λ a b legal_a legal_b honest. (c.no_bad_of_all.ensures a b legal_a legal_b honest, c.fifo_of_all.ensures a b legal_a legal_b honest))
