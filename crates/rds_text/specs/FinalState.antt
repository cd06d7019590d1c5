-- What hosts have in the end. Source: this project's own.
use Rattle.std.specs.Prelude.{ℕ, ◌==◌, if◌then◌else◌, List, [], ◌∷◌}
use Rattle.rds_model.specs.declared.order.Datagram.{Datagram}
use Rattle.rds_model.specs.declared.entry.Entry.{Entry}

-- a socket: its slot, the port that it was bound to, what it handed out, and what it left unread
pub record FinalSocket : Type 0 where
  pub slot : ℕ
  pub port : ℕ
  pub got : List Datagram
  pub unread : List Datagram

-- a journal with the host at an address, newest entry first
pub record FinalJournal : Type 0 where
  pub peer : ℕ
  pub past : List Entry

-- a host: its address, its journals, and its sockets by slot
pub record FinalHost : Type 0 where
  pub addr : ℕ
  pub sides : List FinalJournal
  pub sockets : List FinalSocket

-- the journal with the host at an address
abbrev pub past_with : ℕ → List FinalJournal → List Entry
past_with peer [] = []
past_with peer (s ∷ sides) = if s.peer == peer then s.past else past_with peer sides

-- the journal that the host at an address has of its connection with a peer
abbrev pub past_of : (addr peer : ℕ) → List FinalHost → List Entry
past_of addr peer [] = []
past_of addr peer (host ∷ hosts) = if host.addr == addr then past_with peer host.sides else past_of addr peer hosts

-- the sockets of the host at an address
abbrev pub sockets_of : ℕ → List FinalHost → List FinalSocket
sockets_of addr [] = []
sockets_of addr (host ∷ hosts) = if host.addr == addr then host.sockets else sockets_of addr hosts
