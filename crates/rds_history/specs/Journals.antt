-- What a past says of the connections. Source: this project's own.
use Rattle.std.specs.Prelude.{ℕ, suc, ◌+◌, ◌==◌, ◌&&◌, not, if◌then◌else◌, Bool, true, false, List, [], ◌∷◌, drop, filter}
use Rattle.std.specs.Option.{option_map_or}
use Rattle.rds_model.specs.declared.entry.Entry.{Entry}
use Rattle.rds_model.specs.declared.entry.Entry.TheVariants.{Open, Read}
use Rattle.rds_model.specs.declared.entry.Outcome.{Outcome}
use Rattle.rds_model.specs.declared.entry.Outcome.TheVariants as outcome
use Rattle.rds_model.specs.Past.{open_stream}
use Rattle.rds_model.specs.Streams.{written_bytes}
use Rattle.rds_cong.specs.Map.{no_ports, with_port, without_port}
use Rattle.rds_text.specs.Ports.{below}
use Rattle.rds_history.specs.Events.{Event, Appended, Marked, Moved}

-- the peers of host h, all other hosts, ascending
abbrev pub peers : (hosts h : ℕ) → List ℕ
peers hosts h = filter (λ k. not (k == h)) (below hosts)

-- the journal that host h keeps of its connection with k, newest entry first
abbrev pub journal : (h k : ℕ) → List Event → List Entry
journal h k [] = []
journal h k (Appended host peer e ∷ past) = if host == h && (peer == k) then e ∷ journal h k past else journal h k past
journal h k (_ ∷ past) = journal h k past

-- how many bytes went from h to k since h opened its newest stream
abbrev pub moved_count : (h k : ℕ) → List Event → ℕ
moved_count h k [] = 0
moved_count h k (Moved from to count ∷ past) =
    if from == h && (to == k) then moved_count h k past + count else moved_count h k past
moved_count h k (Appended host peer (Open stream) ∷ past) =
    if host == h && (peer == k) then 0 else moved_count h k past
moved_count h k (_ ∷ past) = moved_count h k past

-- how many bytes went between all hosts, from the beginning
abbrev pub moved_in_all : List Event → ℕ
moved_in_all [] = 0
moved_in_all (Moved from to count ∷ past) = moved_in_all past + count
moved_in_all (_ ∷ past) = moved_in_all past

-- the bytes that were written to the open stream, or none
abbrev pub written_to_open : List Entry → List ℕ
written_to_open past = option_map_or (λ stream. written_bytes stream past) (open_stream past) []

-- the bytes in flight from h to k: those written to the open stream that didn't go yet
abbrev pub in_flight : (h k : ℕ) → List Event → List ℕ
in_flight h k past = drop (moved_count h k past) (written_to_open (journal h k past))

-- a port of host h is congested
abbrev pub is_marked : (h port : ℕ) → List Event → Bool
is_marked h port [] = false
is_marked h port (Marked host at set queued limit ∷ past) = if host == h && (at == port) then set else is_marked h port past
is_marked h port (_ ∷ past) = is_marked h port past

-- the congestion map of host h: its congested ports
abbrev pub own_map : ℕ → List Event → List ℕ
own_map h [] = no_ports
own_map h (Marked host port true queued limit ∷ past) = if host == h then with_port (own_map h past) port else own_map h past
own_map h (Marked host port false queued limit ∷ past) = if host == h then without_port (own_map h past) port else own_map h past
own_map h (_ ∷ past) = own_map h past

abbrev pub is_map_outcome : Outcome → Bool
is_map_outcome outcome.Map = true
is_map_outcome _ = false

-- how many congestion maps were read
abbrev pub maps_read : List Entry → ℕ
maps_read [] = 0
maps_read (Read stream frame outcome ∷ past) = if is_map_outcome outcome then suc (maps_read past) else maps_read past
maps_read (_ ∷ past) = maps_read past
