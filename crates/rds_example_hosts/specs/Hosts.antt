-- What a host of the example is, and what sending and receiving leave of its socket. Source: this project's own.
use Rattle.std.specs.Prelude.{◌≡◌, List, [], ◌∷◌, None}
use Rattle.rds_fmap.specs.Readers.{ReaderView, WriterView}
use Rattle.rds_socket.specs.Holding.{Holding, Open}
use Rattle.rds_line.specs.Line.{LineView}
use Rattle.rds_host.specs.Keeping.{SlotKeeps}
use Rattle.rds_host.specs.Passes.{AreAllPasses}
use Rattle.rds_host.specs.Ties.{AreOfHost}

module _ {E : Type 0} where
  -- the slots and the lines are of one host, and have all putters of its queues
  pub record AreTied (slots : List (Holding ReaderView)) (lines : List (LineView E WriterView)) : Type 0 where
    pub host : AreOfHost slots lines
    pub passes : AreAllPasses slots lines

  -- the socket isn't closing, and it has the only slot of the host of these lines
  pub record IsHost (socket : Open ReaderView) (lines : List (LineView E WriterView)) : Type 0 where
    pub untold : socket.told ≡ None
    pub tied : AreTied (socket.own ∷ []) lines

-- the slot is the same, and as many peers were told that the socket closes
pub record SocketKeeps (old new : Open ReaderView) : Type 0 where
  pub slot : SlotKeeps old.own new.own
  pub told : new.told ≡ old.told
