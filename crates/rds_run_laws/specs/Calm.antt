-- Scripts of which a run comes to the same, however its threads take turns. Source: this project's own.
use Rattle.std.specs.Prelude.{◌≡◌, ◌≢◌, ◌<◌, ◌≤◌, ℕ, Bool, true, false, Some, List, ◌++◌, All, Contains, filter, length, slice_get}
use Rattle.rds_wire.specs.declared.kind.TheConstants.{MAX_LENGTH}
use Rattle.rds_model.specs.declared.entry.Entry.{Entry}
use Rattle.rds_model.specs.declared.entry.TheConstants.{MAX_SLOTS}
use Rattle.rds_model.specs.Sums.{orders}
use Rattle.rds_text.specs.FinalState.{FinalHost, FinalJournal}
use Rattle.rds_text.specs.Lines.{end_line}
use Rattle.rds_text.specs.Hosts.{address_of}
use Rattle.rds_text.specs.Report.{Counts, Group}
use Rattle.rds_report.specs.ItemReport.{is_same}
use Rattle.rds_report.specs.Summary.{summary_line}
use Rattle.rds_script.specs.declared.script.Command.{Command}
use Rattle.rds_script.specs.declared.script.Command.TheVariants.{Bind, BindAny, Send, Recv, Cancel, Close, Open, Move, Cut, Drain}
use Rattle.rds_script.specs.declared.script.Placed.{Placed}
use Rattle.rds_run_hosts.specs.Obeyed.{after_binds, is_bind_of, leading_binds}
use Rattle.rds_run_rounds.specs.Grid.{peer_at}
use Rattle.rds_run_threads.specs.Ends.{AreAcknowledged, AreEnds}
use Rattle.rds_run_laws.specs.Put.{sent_between}
use Rattle.rds_run_laws.specs.Sent.{generated_bytes, sent_sum}
use Rattle.rds_run_laws.specs.Weights.{Weight, by_length, orders_sum, passed_sum}

-- the command binds a port that isn't reserved, and each of its buffers has room for so many bytes
abbrev pub BindsAmply : (bytes : ℕ) → Command → Type 0
BindsAmply bytes (Bind host port sndbuf rcvbuf) = (2 ≤ port) × (bytes ≤ sndbuf) × (bytes ≤ rcvbuf)
BindsAmply bytes _ = ⊥

-- the command has the host bind the port
abbrev pub BindsPort : (host port : ℕ) → Command → Type 0
BindsPort host port (Bind by at sndbuf rcvbuf) = (by ≡ host) × (at ≡ port)
BindsPort host port _ = ⊥

-- one of these commands does
abbrev pub HasBind : (host port : ℕ) → List Placed → Type 0
HasBind host port commands = (placed : Placed) × Contains commands placed × BindsPort host port placed.command

-- A send goes from a port that one of these binds takes to one that another host's bind takes, two of so many hosts, and is short enough.
pub record SendsAcross (hosts : ℕ) (binds : List Placed) (host port to dport bytes : ℕ) : Type 0 where
  pub from : HasBind host port binds
  pub into : HasBind to dport binds
  pub known : host < hosts
  pub to_known : to < hosts
  pub apart : to ≢ host
  pub short : bytes ≤ MAX_LENGTH

-- the command sends so, or it binds, takes back and closes nothing
abbrev pub IsCalmAfter : (hosts : ℕ) → (binds : List Placed) → Command → Type 0
IsCalmAfter hosts binds (Bind host port sndbuf rcvbuf) = ⊥
IsCalmAfter hosts binds (BindAny host port sndbuf rcvbuf) = ⊥
IsCalmAfter hosts binds (Send host port to dport payload) = SendsAcross hosts binds host port to dport (length payload)
IsCalmAfter hosts binds (Recv host port) = Unit {0}
IsCalmAfter hosts binds (Cancel host port to dport) = ⊥
IsCalmAfter hosts binds (Close host port) = ⊥
IsCalmAfter hosts binds (Open host to) = Unit {0}
IsCalmAfter hosts binds (Move host to bytes) = Unit {0}
IsCalmAfter hosts binds (Cut host to) = Unit {0}
IsCalmAfter hosts binds Drain = Unit {0}

-- The binds of the script come first, each with a port that it names and with buffers that have room for all that the script sends, no more than
-- a host has slots. Then each send goes from a bound port to a bound port of another host, and nothing is taken back or closed.
pub record IsCalm (hosts : ℕ) (commands : List Placed) : Type 0 where
  pub binds : All (λ (placed : Placed). BindsAmply (sent_sum by_length commands) placed.command) (leading_binds commands)
  pub slots : (host : ℕ) → length (filter (is_bind_of host) commands) ≤ MAX_SLOTS
  pub rest : All (λ (placed : Placed). IsCalmAfter hosts (leading_binds commands) placed.command) (after_binds commands)

-- The journal of a host with a peer was ordered to send exactly what the commands have the one send to the other, and what it passed is exactly
-- what they have the other send to the one, by whatever weight of datagrams.
pub record CarriesAll (host peer : ℕ) (commands : List Placed) (past : List Entry) : Type 0 where
  pub sent : (weight : Weight) → orders_sum weight (orders past) ≡ sent_between weight host peer commands
  pub came : (weight : Weight) → passed_sum weight past ≡ sent_between weight peer host commands

-- so it is of each journal of each host
abbrev pub CarryAll : List Placed → List FinalHost → Type 0
CarryAll commands ends = (host place : ℕ) (end : FinalHost) (side : FinalJournal) → slice_get ends host ≡ Some end → slice_get end.sides place ≡ Some side →
    CarriesAll host (peer_at host place) commands side.past

-- So many hosts, over streams that tell their bytes, ran a calm script to an end at which they have this, and nothing is left unacknowledged.
pub record HaveRunCalmly (hosts : ℕ) (commands : List Placed) (ends : List FinalHost) : Type 0 where
  pub calm : IsCalm hosts commands
  pub did : AreEnds true hosts commands ends
  pub acknowledged : AreAcknowledged ends

-- so many datagrams were accepted, and all of them were received
abbrev pub all_received : (count : ℕ) → Counts
all_received count = record { accepted = count; received = count; unread = 0; dropped = 0; port0 = 0; cancelled = 0 }

-- the command sends a datagram of the port pair
abbrev pub is_send_of : Group → Command → Bool
is_send_of g (Send host port to dport payload) = is_same g (record { to = address_of to; dport = dport; from = address_of host; sport = port })
is_send_of g _ = false

-- how many of the commands do
abbrev pub sends_of : Group → List Placed → ℕ
sends_of g commands = length (filter (λ (placed : Placed). is_send_of g placed.command) commands)

-- The summary of a generated script, by the words that ask for it: each of its datagrams was received, and they have so many bytes.
abbrev pub generated_summary : (seed sends : ℕ) → List ℕ
generated_summary seed sends = summary_line seed sends (all_received sends) (generated_bytes sends) ++ end_line
