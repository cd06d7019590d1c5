-- The datagram that is pulled next. Source: this project's own.
use Rattle.std.specs.Prelude.{◌≡◌, ℕ, Option, Some, None, List, [], ◌∷◌}
use Rattle.rds_model.specs.declared.entry.Entry.{Entry}
use Rattle.rds_model.specs.declared.entry.Msg.{Msg}
use Rattle.rds_model.specs.Past.{Accepted, datagram}
use Rattle.rds_model.specs.Alive.{due_numbers}
use Rattle.rds_model.specs.Store.{message}

-- a message tells what was accepted under its number
pub record IsMessage (past : List Entry) (m : Msg) : Type 0 where
  pub d : Accepted
  pub known : datagram past m.num ≡ Some d
  pub is : m ≡ message m.num d

-- the message is that of the least number that is due on stream s
pub record IsFirstDue (s : ℕ) (past : List Entry) (m : Msg) : Type 0 where
  pub rest : List ℕ
  pub first : due_numbers s past ≡ m.num ∷ rest
  pub tells : IsMessage past m

-- the message of the least number that is due on stream s, if one is
abbrev pub IsNextDue : ℕ → List Entry → Option Msg → Type 0
IsNextDue s past None = due_numbers s past ≡ []
IsNextDue s past (Some m) = IsFirstDue s past m
