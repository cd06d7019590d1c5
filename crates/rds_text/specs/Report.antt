-- The report: what became of the datagrams of each port pair. Source: this project's own.
use Rattle.std.specs.Prelude.{ℕ, ◌+◌, ◌-◌, ◌==◌, ◌&&◌, not, nat_lt, if◌then◌else◌, Bool, List, [], ◌∷◌, ◌++◌, length, filter, codes}
use Rattle.std.specs.List.{flat_map}
use Rattle.std.specs.Fmt.{decimal}
use Rattle.rds_model.specs.declared.order.Datagram.{Datagram}
use Rattle.rds_model.specs.declared.entry.Entry.{Entry}
use Rattle.rds_model.specs.declared.entry.Entry.TheVariants.{Accept}
use Rattle.rds_model.specs.Streams.{was_passed}
use Rattle.rds_model.specs.Pairs.{accepted_for, dropped, taken_by_port_0, taken_back}
use Rattle.rds_text.specs.Words.{host_name, hex}
use Rattle.rds_text.specs.Hosts.{host_at}
use Rattle.rds_text.specs.FinalState.{FinalSocket, FinalJournal, FinalHost, past_of, sockets_of}
use Rattle.rds_text.specs.Lines.{text_line, phrase}

-- a port pair: from port sport of the host at `from` to port dport of the host at `to`
pub record Group : Type 0 where
  pub to : ℕ
  pub dport : ℕ
  pub from : ℕ
  pub sport : ℕ

-- a stands before b: by the receiving host, then its port, then the sending host, then its port
abbrev pub is_before : Group → Group → Bool
is_before a b =
    if not (a.to == b.to) then nat_lt a.to b.to
    else (if not (a.dport == b.dport) then nat_lt a.dport b.dport
    else (if not (a.from == b.from) then nat_lt a.from b.from
    else nat_lt a.sport b.sport))

-- ascending pairs, and one more in its place, unless it is among them
abbrev pub with_group : Group → List Group → List Group
with_group a [] = a ∷ []
with_group a (b ∷ groups) =
    if is_before a b then a ∷ b ∷ groups else (if is_before b a then b ∷ with_group a groups else b ∷ groups)

-- pairs in ascending order, each once
abbrev pub ascending : List Group → List Group
ascending [] = []
ascending (a ∷ groups) = with_group a (ascending groups)

-- the pair of each datagram that was accepted
abbrev pub accepted_groups : (from to : ℕ) → List Entry → List Group
accepted_groups from to [] = []
accepted_groups from to (Accept slot sport dport payload ∷ past) =
    record { to = to; dport = dport; from = from; sport = sport } ∷ accepted_groups from to past
accepted_groups from to (_ ∷ past) = accepted_groups from to past

-- the pairs with a datagram that was accepted, ascending
abbrev pub groups : List FinalHost → List Group
groups hosts =
    ascending (flat_map (λ (host : FinalHost). flat_map (λ (s : FinalJournal). accepted_groups host.addr s.peer s.past) host.sides) hosts)

-- those of the datagrams that are of the pair
abbrev pub of_group : Group → List Datagram → List Datagram
of_group g ds = filter (λ (d : Datagram). (d.from == g.from && (d.sport == g.sport)) && (d.dport == g.dport)) ds

-- the datagrams of the pair that were handed out, socket by socket; those of a socket stand in the order of their numbers
abbrev pub received : List FinalHost → Group → List Datagram
received hosts g = of_group g (flat_map (λ (s : FinalSocket). s.got) (sockets_of g.to hosts))

-- the datagrams of the pair that wait, or that were left unread
abbrev pub unread : List FinalHost → Group → List Datagram
unread hosts g = of_group g (flat_map (λ (s : FinalSocket). s.unread) (sockets_of g.to hosts))

-- the numbers of the pair that were taken back and never arrived
abbrev pub cancelled : List FinalHost → Group → List ℕ
cancelled hosts g =
    filter (λ n. not (was_passed (past_of g.to g.from hosts) n)) (taken_back g.sport g.dport (past_of g.from g.to hosts))

-- how many datagrams of the pair had which fate
pub record Counts : Type 0 where
  pub accepted : ℕ
  pub received : ℕ
  pub unread : ℕ
  pub dropped : ℕ
  pub port0 : ℕ
  pub cancelled : ℕ

abbrev pub counts : List FinalHost → Group → Counts
counts hosts g = record {
  accepted = length (accepted_for g.sport g.dport (past_of g.from g.to hosts));
  received = length (received hosts g);
  unread = length (unread hosts g);
  dropped = length (dropped g.sport g.dport (past_of g.to g.from hosts));
  port0 = length (taken_by_port_0 g.sport g.dport (past_of g.to g.from hosts));
  cancelled = length (cancelled hosts g);
}

-- how many datagrams have none of these fates yet
abbrev pub pending : Counts → ℕ
pending c = c.accepted - (c.received + c.unread + c.dropped + c.port0 + c.cancelled)

abbrev pub pair_text : Group → List ℕ
pair_text g =
    phrase (host_name (host_at g.from) ∷ codes ":" ∷ decimal g.sport ∷ codes ">" ∷ host_name (host_at g.to) ∷ codes ":"
    ∷ decimal g.dport ∷ [])

abbrev pub counts_line : Counts → List ℕ
counts_line c =
    text_line (codes " accepted " ∷ decimal c.accepted ∷ codes " received " ∷ decimal c.received ∷ codes " unread " ∷ decimal c.unread
    ∷ codes " dropped " ∷ decimal c.dropped ∷ codes " port0 " ∷ decimal c.port0 ∷ codes " cancelled " ∷ decimal c.cancelled
    ∷ codes " pending " ∷ decimal (pending c) ∷ [])

abbrev pub data_line : Datagram → List ℕ
data_line d = text_line (codes " data=" ∷ hex d.payload ∷ [])

-- a line with the counts of a pair, and a line for each datagram of it that was handed out
abbrev pub group_text : List FinalHost → Group → List ℕ
group_text hosts g = pair_text g ++ (counts_line (counts hosts g) ++ flat_map data_line (received hosts g))

-- the report
abbrev pub report : List FinalHost → List ℕ
report hosts = flat_map (group_text hosts) (groups hosts) ++ text_line (codes "end ok" ∷ [])
