-- The mailbox of a socket. This project's own.
use Rattle.std.specs.Prelude.{ℕ}
use Rattle.rds_model.specs.declared.order.Datagram.{Datagram}
use Rattle.rds_mail.specs.Passes.{Getter}

-- the name of its bell's source, and its getter
pub record Box : Type 0 where
  pub bell : ℕ
  pub get : Getter Datagram
