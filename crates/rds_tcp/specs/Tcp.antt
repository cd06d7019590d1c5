-- What contracts see of an end of a stream over TCP, and of what opens such streams. This project's own.
use Rattle.std.specs.Prelude.{◌≡◌, ℕ, List, [], Option, None, Some, false}
use Rattle.rtrb.specs.Ring.{sent, received, known_items, known_free}
use Rattle.rds_link.specs.Ends.{Means}
use Rattle.rds_link.specs.declared.wire.WireError.{WireError}
use Rattle.rds_link.specs.Standing.{AreTwoEnds}
use Rattle.rds_tcp.specs.declared.end.TcpEnd.{TcpEnd}

-- what was taken out of the ring of an end, and what is known to wait there
abbrev pub taken : TcpEnd → List ℕ
taken e = elim e.inp [ None ↦ [] | Some ring ↦ received ring ]

abbrev pub waiting : TcpEnd → List ℕ
waiting e = elim e.inp [ None ↦ [] | Some ring ↦ known_items ring ]

-- It tells nothing of content, since no clause knows what a network does. What it sent and got is what it put into its one ring
-- and took from the other.
abbrev pub tcp_means : Means TcpEnd
tcp_means = record {
  tells = false;
  sent = λ e. sent e.out;
  got = taken;
  known = waiting;
  room = λ e. known_free e.out;
  calls = λ e. 0;
  fail = λ e. [];
  stand = λ e. e.standing.stand;
  nothings = λ e. e.nothings;
  fulls = λ e. e.fulls;
  meets = λ a b. AreTwoEnds a.standing b.standing;
}

-- the end has put nothing into its one ring, and taken nothing from the other
abbrev pub HasMovedNothing : TcpEnd → Type 0
HasMovedNothing e = (sent e.out ≡ []) × (taken e ≡ [])

-- a wire: why its thread wasn't started, where it wasn't, its three counts, and how many of its ends are out
pub record WireView : Type 0 where
  pub refused : Option WireError
  pub faults : ℕ
  pub nothings : ℕ
  pub fulls : ℕ
  pub out : ℕ

-- a wire that has opened no stream
abbrev pub new_wire : Option WireError → WireView
new_wire refused = record { refused = refused; faults = 0; nothings = 0; fulls = 0; out = 0 }
