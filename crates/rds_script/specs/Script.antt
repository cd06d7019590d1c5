-- What every script keeps. The ranges are this project's own.
use Rattle.std.specs.Prelude.{◌≢◌, ℕ, ◌<◌, ◌≤◌, List, length, All, sum_by}
use Rattle.rds_script.specs.declared.script.Script.{Script}
use Rattle.rds_script.specs.declared.script.Placed.{Placed}
use Rattle.rds_script.specs.declared.script.Command.{Command}
use Rattle.rds_script.specs.declared.script.Command.TheVariants.{Bind, BindAny, Send, Recv, Cancel, Close, Open, Move, Cut, Drain}

-- the host is one of so many, and the port is a port
pub record IsSocket (hosts host port : ℕ) : Type 0 where
  pub known : host < hosts
  pub fits : port ≤ 65535

-- a socket with buffers in range
pub record IsBinding (hosts host port sndbuf rcvbuf : ℕ) : Type 0 where
  pub socket : IsSocket hosts host port
  pub sndbuf_low : 1 ≤ sndbuf
  pub sndbuf_high : sndbuf ≤ 16777216
  pub rcvbuf_low : 2 ≤ rcvbuf
  pub rcvbuf_high : rcvbuf ≤ 16777216

-- two hosts of so many
pub record IsPair (hosts host to : ℕ) : Type 0 where
  pub first : host < hosts
  pub second : to < hosts
  pub apart : to ≢ host

-- the hosts, ports, buffers and bytes of a command are in range
abbrev pub IsCommand : ℕ → Command → Type 0
IsCommand hosts (Bind host port sndbuf rcvbuf) = IsBinding hosts host port sndbuf rcvbuf
IsCommand hosts (BindAny host port sndbuf rcvbuf) = IsBinding hosts host port sndbuf rcvbuf
IsCommand hosts (Send host port to dport payload) = IsSocket hosts host port × IsSocket hosts to dport × (length payload ≤ 2097152)
IsCommand hosts (Recv host port) = IsSocket hosts host port
IsCommand hosts (Cancel host port to dport) = IsSocket hosts host port × IsSocket hosts to dport
IsCommand hosts (Close host port) = IsSocket hosts host port
IsCommand hosts (Open host to) = IsPair hosts host to
IsCommand hosts (Move host to bytes) = IsPair hosts host to × (1 ≤ bytes) × (bytes ≤ 4294967295)
IsCommand hosts (Cut host to) = IsPair hosts host to
IsCommand hosts Drain = Unit {0}

-- how many payload bytes a command sends
abbrev pub payload_len : Command → ℕ
payload_len (Bind host port sndbuf rcvbuf) = 0
payload_len (BindAny host port sndbuf rcvbuf) = 0
payload_len (Send host port to dport payload) = length payload
payload_len (Recv host port) = 0
payload_len (Cancel host port to dport) = 0
payload_len (Close host port) = 0
payload_len (Open host to) = 0
payload_len (Move host to bytes) = 0
payload_len (Cut host to) = 0
payload_len Drain = 0

-- 1 for a cut, and 0 for any other command
abbrev pub cut_count : Command → ℕ
cut_count (Bind host port sndbuf rcvbuf) = 0
cut_count (BindAny host port sndbuf rcvbuf) = 0
cut_count (Send host port to dport payload) = 0
cut_count (Recv host port) = 0
cut_count (Cancel host port to dport) = 0
cut_count (Close host port) = 0
cut_count (Open host to) = 0
cut_count (Move host to bytes) = 0
cut_count (Cut host to) = 1
cut_count Drain = 0

-- the payload bytes of all sends
abbrev pub payload_total : List Placed → ℕ
payload_total commands = sum_by (λ p. payload_len p.command) commands

-- how many cuts there are
abbrev pub cut_total : List Placed → ℕ
cut_total commands = sum_by (λ p. cut_count p.command) commands

-- a script is in range, all of it
pub record IsScript (s : Script) : Type 0 where
  pub hosts_low : 2 ≤ s.hosts
  pub hosts_high : s.hosts ≤ 8
  pub each : All (λ p. IsCommand s.hosts p.command) s.commands.items
  pub total : payload_total s.commands.items ≤ 16777216
  pub cuts : cut_total s.commands.items ≤ 1024
