-- What every mesh keeps between two hosts. Source: this project's own.
use Rattle.std.specs.Prelude.{◌≡◌, ℕ}
use Rattle.rds_model.specs.Past.{newest_stream, open_stream}
use Rattle.rds_model.specs.Legal.{IsWhole}
use Rattle.rds_model.specs.Honest.{IsHonest}
use Rattle.rds_model.specs.Fifo.{HasNoBad}
use Rattle.rds_model.specs.Pairs.{IsDeliveredOnce}
use Rattle.rds_play_pair.specs.Ends.{JointEnd}
use Rattle.rds_play_pair.specs.OnTheWay.{ReadsAll, SendsOneByOne}

-- of one end and the end that it faces
pub record KnownOfEnds (here there : JointEnd) : Type 0 where
  pub streams : open_stream here.past ≡ open_stream there.past
  pub newest : newest_stream here.past ≡ newest_stream there.past
  pub one_forth : SendsOneByOne here there
  pub one_back : SendsOneByOne there here
  pub all_forth : ReadsAll here there
  pub all_back : ReadsAll there here
  pub whole_here : IsWhole here.past
  pub whole_there : IsWhole there.past
  pub honest : IsHonest here.past there.past
  pub forth : (sport dport : ℕ) → IsDeliveredOnce sport dport here.past there.past
  pub back : (sport dport : ℕ) → IsDeliveredOnce sport dport there.past here.past
  pub none_refused : HasNoBad here.past × HasNoBad there.past
