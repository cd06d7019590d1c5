-- What a pull does. Source: this project's own.
use Rattle.std.specs.Prelude.{◌≡◌, ℕ, Bool, true, false, Option, Some, None, List, [], ◌∷◌, ◌++◌}
use Rattle.rds_wire.specs.declared.frame.Frame.{Frame}
use Rattle.rds_wire.specs.declared.kind.Kind.{Kind}
use Rattle.rds_wire.specs.declared.kind.Kind.TheVariants as kind
use Rattle.rds_wire.specs.Bytes.{frame_bytes}
use Rattle.rds_wire.specs.Kinds.{kind_of}
use Rattle.rds_model.specs.declared.entry.Entry.TheVariants.{Pull}
use Rattle.rds_conn.specs.declared.conn.Pulled.{Pulled}
use Rattle.rds_conn.specs.declared.conn.Pulled.TheVariants as pulled
use Rattle.rds_conn.specs.Connection.{Connection, with_entries}

-- how a pull names a frame of this kind
abbrev pub name_of_pull : Kind → Pulled
name_of_pull kind.Data = pulled.Data
name_of_pull kind.Ack = pulled.Ack
name_of_pull kind.Map = pulled.Map
name_of_pull kind.OddMap = pulled.Map

-- a frame was pulled
abbrev pub is_frame : Pulled → Bool
is_frame pulled.Data = true
is_frame pulled.Ack = true
is_frame pulled.Map = true
is_frame pulled.Nothing = false
is_frame pulled.Down = false

-- the frame that is owed to stream s goes to the journal, and its bytes to the queue
pub record PullsFrame (s : ℕ) (f : Frame) (old new : Connection) (out_old out_new : List ℕ) (came : Pulled) : Type 0 where
  pub entry : new ≡ with_entries (Pull s f ∷ []) old
  pub bytes : out_new ≡ out_old ++ frame_bytes f
  pub named : came ≡ name_of_pull (kind_of f.header)

-- nothing happens where nothing is owed
pub record PullsNothing (old new : Connection) (out_old out_new : List ℕ) (came : Pulled) : Type 0 where
  pub same : new ≡ old
  pub no_bytes : out_new ≡ out_old
  pub named : came ≡ pulled.Nothing

-- what a pull does where this is owed to stream s
abbrev pub Pulls : ℕ → Option Frame → Connection → Connection → List ℕ → List ℕ → Pulled → Type 0
Pulls s None old new out_old out_new came = PullsNothing old new out_old out_new came
Pulls s (Some f) old new out_old out_new came = PullsFrame s f old new out_old out_new came
