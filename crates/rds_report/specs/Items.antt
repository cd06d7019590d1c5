-- Private: needed by the proofs of `report` and `summary` only. The items of the report: each datagram, once for each thing
-- that is counted of it. Source: this project's own.
use Rattle.std.specs.Prelude.{ℕ, suc, ◌==◌, ◌&&◌, not, Bool, true, false, Option, Some, None, List, [], ◌∷◌, ◌++◌, filter, map}
use Rattle.std.specs.List.{flat_map, list_any}
use Rattle.rds_model.specs.declared.order.Datagram.{Datagram}
use Rattle.rds_model.specs.declared.entry.Entry.{Entry}
use Rattle.rds_model.specs.declared.entry.Entry.TheVariants.{Accept, Cancel, Read}
use Rattle.rds_model.specs.declared.entry.Outcome.{Outcome}
use Rattle.rds_model.specs.declared.entry.Outcome.TheVariants as outcome
use Rattle.rds_model.specs.Past.{accepted, number, passes}
use Rattle.rds_model.specs.Log.{Log}
use Rattle.rds_model.specs.Alive.{up_to, was_taken_back}
use Rattle.rds_model.specs.Streams.{was_passed}
use Rattle.rds_report.specs.declared.item.Group.{Group as Key}
use Rattle.rds_report.specs.Item.{What, Accepted, Received, Unread, Dropped, Port0, Cancelled, Item}
use Rattle.rds_text.specs.FinalState.{FinalSocket, FinalJournal, FinalHost, past_of}
use Rattle.rds_text.specs.Report.{Group}

-- whether each number from 1 to m passes a test
abbrev pub flags : (ℕ → Bool) → ℕ → List Bool
flags test m = map test (up_to m)

-- a port pair as the report has it
abbrev pub seen : Key → Group
seen k = record { to = k.to; dport = k.dport; from = k.from; sport = k.sport }

-- an item of a pair
abbrev pub item : (to dport from sport : ℕ) → What → Item
item to dport from sport what = record { group = record { to = to; dport = dport; from = from; sport = sport }; what = what }

-- the pair of an entry, where it is an acceptance
abbrev pub acceptance_pair : (from to : ℕ) → Entry → Option Key
acceptance_pair from to (Accept slot sport dport payload) = Some (record { to = to; dport = dport; from = from; sport = sport })
acceptance_pair from to _ = None

-- the items of an acceptance: itself, and once more where it is lost
abbrev pub accepted_items : (from to sport dport : ℕ) → Bool → List Item
accepted_items from to sport dport true = item to dport from sport Accepted ∷ item to dport from sport Cancelled ∷ []
accepted_items from to sport dport false = item to dport from sport Accepted ∷ []

-- the items of an entry, where it is an acceptance that isn't lost
abbrev pub acceptance_items : (from to : ℕ) → Entry → List Item
acceptance_items from to (Accept slot sport dport payload) = accepted_items from to sport dport false
acceptance_items from to _ = []

-- the items of a datagram that was read, where it went to no socket
abbrev pub read_items : (to dport from sport : ℕ) → Outcome → List Item
read_items to dport from sport outcome.NoSocket = item to dport from sport Dropped ∷ []
read_items to dport from sport outcome.Ping = item to dport from sport Port0 ∷ []
read_items to dport from sport outcome.Void = item to dport from sport Port0 ∷ []
read_items to dport from sport _ = []

-- the items of an entry, where it is a read of what went to no socket
abbrev pub arrival_items : (from to : ℕ) → Entry → List Item
arrival_items from to (Read stream frame outcome) = read_items to frame.header.dport from frame.header.sport outcome
arrival_items from to _ = []

-- the items of what a host sent, where such numbers were taken back and never arrived
abbrev pub sent_items : (from to : ℕ) → (ℕ → Bool) → List Entry → List Item
sent_items from to lost [] = []
sent_items from to lost (Accept slot sport dport payload ∷ past) =
    sent_items from to lost past ++ accepted_items from to sport dport (lost (suc (accepted past)))
sent_items from to lost (_ ∷ past) = sent_items from to lost past

-- the items of what came to a host and went to no socket
abbrev pub came_items : (from to : ℕ) → List Entry → List Item
came_items from to [] = []
came_items from to (Read stream frame outcome ∷ past) =
    came_items from to past ++ read_items to frame.header.dport from frame.header.sport outcome
came_items from to (_ ∷ past) = came_items from to past

-- the items of a socket of the host at an address
abbrev pub socket_items : ℕ → FinalSocket → List Item
socket_items to s =
    map (λ (d : Datagram). item to d.dport d.from d.sport (Received d.payload)) s.got
    ++ map (λ (d : Datagram). item to d.dport d.from d.sport Unread) s.unread

-- the numbers that were taken back and never arrived, by the journals of both ends
abbrev pub is_lost : (past back : List Entry) → ℕ → Bool
is_lost past back n = was_taken_back past n && not (was_passed back n)

-- an entry is a cancellation
abbrev pub is_cancellation : Entry → Bool
is_cancellation (Cancel slot target) = true
is_cancellation _ = false

-- some entry is a cancellation
abbrev pub has_cancellation : List Entry → Bool
has_cancellation past = list_any is_cancellation past

-- the entries of a journal, or none
abbrev pub past_in : Option Log → List Entry
past_in None = []
past_in (Some journal) = journal.past

-- an entry is a passed read of a number
abbrev pub passes_number : Entry → ℕ → Bool
passes_number (Read stream frame outcome) n = passes outcome && (number frame == n)
passes_number _ n = false

-- the items of a journal of a host
abbrev pub side_items : List FinalHost → ℕ → FinalJournal → List Item
side_items hosts addr s =
    sent_items addr s.peer (is_lost s.past (past_of s.peer addr hosts)) s.past ++ came_items s.peer addr s.past

-- the items of a host
abbrev pub host_items : List FinalHost → FinalHost → List Item
host_items hosts host = flat_map (side_items hosts host.addr) host.sides ++ flat_map (socket_items host.addr) host.sockets

-- all items
abbrev pub items : List FinalHost → List Item
items hosts = flat_map (host_items hosts) hosts

-- an item is of a pair to the host at an address
abbrev pub is_to : ℕ → Item → Bool
is_to to i = i.group.to == to

-- the items of the pairs to that host
abbrev pub items_to : ℕ → List FinalHost → List Item
items_to to hosts = filter (is_to to) (items hosts)
