-- The lines of the transcript, as bytes of ASCII. Source: this project's own.
use Rattle.std.specs.Prelude.{ℕ, Bool, true, false, List, [], ◌∷◌, ◌++◌, codes}
use Rattle.std.specs.Fmt.{decimal}
use Rattle.rds_wire.specs.declared.header.Header.{Header}
use Rattle.rds_wire.specs.declared.frame.Frame.{Frame}
use Rattle.rds_wire.specs.declared.kind.Kind.{Kind}
use Rattle.rds_wire.specs.declared.kind.Kind.TheVariants.{Data, Ack, Map, OddMap}
use Rattle.rds_wire.specs.Kinds.{kind_of}
use Rattle.rds_model.specs.declared.entry.Target.{Target}
use Rattle.rds_model.specs.declared.entry.Target.TheVariants.{Port, All}
use Rattle.rds_model.specs.declared.entry.Outcome.{Outcome}
use Rattle.rds_model.specs.declared.entry.Outcome.TheVariants as outcome
use Rattle.rds_text.specs.Words.{host_name, slot_name, hex, hex_byte, numbers}
use Rattle.rds_text.specs.Ports.{set_ports}

-- words, one after another, and LF
abbrev pub text_line : List (List ℕ) → List ℕ
text_line [] = 10 ∷ []
text_line (word ∷ words) = word ++ text_line words

-- words, one after another
abbrev pub phrase : List (List ℕ) → List ℕ
phrase [] = []
phrase (word ∷ []) = word
phrase (word ∷ words) = word ++ phrase words

-- the journal that host h keeps of its connection with k
abbrev pub journal_name : ℕ → ℕ → List ℕ
journal_name h k = phrase (host_name h ∷ codes ":" ∷ host_name k ∷ [])

-- a congestion map
abbrev pub map_text : Header → List ℕ → List ℕ
map_text h payload = phrase (codes "map ack=" ∷ decimal h.ack ∷ codes " set=" ∷ numbers (set_ports payload) ∷ [])

-- an acknowledgement
abbrev pub ack_text : Header → List ℕ
ack_text h = phrase (codes "ack ack=" ∷ decimal h.ack ∷ codes " flags=" ∷ hex_byte h.flags ∷ [])

-- a datagram
abbrev pub datagram_text : Header → List ℕ
datagram_text h =
    phrase (codes "data n=" ∷ decimal h.sequence ∷ codes " ack=" ∷ decimal h.ack ∷ codes " flags=" ∷ hex_byte h.flags
    ∷ codes " " ∷ decimal h.sport ∷ codes ">" ∷ decimal h.dport ∷ codes " len=" ∷ decimal h.len ∷ [])

-- what a frame is, by its kind
abbrev pub text_of_kind : Kind → Header → List ℕ → List ℕ
text_of_kind Map h payload = map_text h payload
text_of_kind OddMap h payload = map_text h payload
text_of_kind Ack h payload = ack_text h
text_of_kind Data h payload = datagram_text h

abbrev pub frame_text : Frame → List ℕ
frame_text f = text_of_kind (kind_of f.header) f.header f.payload

-- what became of a datagram that was read, with a space before it; other frames have no such word
abbrev pub outcome_text : Outcome → List ℕ
outcome_text outcome.Old = codes " old"
outcome_text outcome.NoSocket = codes " no-socket"
outcome_text (outcome.Slot slot) = phrase (codes " slot " ∷ decimal slot ∷ [])
outcome_text outcome.Ping = codes " ping"
outcome_text outcome.Void = codes " void"
outcome_text outcome.AckOnly = []
outcome_text outcome.Map = []
outcome_text outcome.OddMap = []

-- which of a socket's datagrams a cancellation covers
abbrev pub target_text : Target → List ℕ
target_text (Port port) = decimal port
target_text All = codes "all"

-- the lines of entries, in the journal of host h with k

abbrev pub accept_line : (h k n slot sport dport : ℕ) → List ℕ → List ℕ
accept_line h k n slot sport dport payload =
    text_line (journal_name h k ∷ codes " accept n=" ∷ decimal n ∷ codes " slot=" ∷ slot_name slot ∷ codes " " ∷ decimal sport
    ∷ codes ">" ∷ decimal dport ∷ codes " data=" ∷ hex payload ∷ [])

abbrev pub cancel_line : (h k slot : ℕ) → Target → (begun unbegun : List ℕ) → List ℕ
cancel_line h k slot target begun unbegun =
    text_line (journal_name h k ∷ codes " cancel slot=" ∷ decimal slot ∷ codes " dport=" ∷ target_text target
    ∷ codes " begun=" ∷ numbers begun ∷ codes " unbegun=" ∷ numbers unbegun ∷ [])

abbrev pub open_line : (h k stream : ℕ) → List ℕ
open_line h k stream = text_line (journal_name h k ∷ codes " open k=" ∷ decimal stream ∷ [])

abbrev pub pull_line : (h k stream : ℕ) → Frame → List ℕ
pull_line h k stream frame =
    text_line (journal_name h k ∷ codes " pull k=" ∷ decimal stream ∷ codes " " ∷ frame_text frame ∷ [])

abbrev pub read_line : (h k stream : ℕ) → Frame → Outcome → List ℕ
read_line h k stream frame outcome =
    text_line (journal_name h k ∷ codes " read k=" ∷ decimal stream ∷ codes " " ∷ frame_text frame ∷ outcome_text outcome ∷ [])

abbrev pub shut_line : (h k stream : ℕ) → List ℕ
shut_line h k stream = text_line (journal_name h k ∷ codes " shut k=" ∷ decimal stream ∷ [])

-- the lines of commands

abbrev pub bind_line : (host port slot : ℕ) → List ℕ
bind_line host port slot = text_line (codes "bind " ∷ host_name host ∷ codes " " ∷ decimal port ∷ codes " slot " ∷ decimal slot ∷ [])

-- the socket at the port was handed the bytes that port sport of host `from` had sent
abbrev pub recv_line : (host port from sport : ℕ) → List ℕ → List ℕ
recv_line host port from sport payload =
    text_line (codes "recv " ∷ host_name host ∷ codes " " ∷ decimal port ∷ codes " " ∷ host_name from ∷ codes ":" ∷ decimal sport
    ∷ codes " data=" ∷ hex payload ∷ [])

abbrev pub recv_none_line : (host port : ℕ) → List ℕ
recv_none_line host port = text_line (codes "recv " ∷ host_name host ∷ codes " " ∷ decimal port ∷ codes " none" ∷ [])

abbrev pub drained_line : List ℕ
drained_line = text_line (codes "drained" ∷ [])

-- the line of a script that fills a journal: that of `host` with `peer`, which has so many entries
abbrev pub spent_line : (host peer entries : ℕ) → List ℕ
spent_line host peer entries =
    text_line (codes "spent " ∷ host_name host ∷ codes " " ∷ host_name peer ∷ codes " " ∷ decimal entries ∷ [])

-- so many bytes were moved
abbrev pub move_line : (h k count : ℕ) → List ℕ
move_line h k count =
    text_line (codes "move " ∷ host_name h ∷ codes " " ∷ host_name k ∷ codes " moved " ∷ decimal count ∷ [])

-- so many bytes were in flight each way when the stream was cut
abbrev pub cut_line : (h k forth back : ℕ) → List ℕ
cut_line h k forth back =
    text_line (codes "cut " ∷ host_name h ∷ codes " " ∷ host_name k ∷ codes " lost " ∷ decimal forth ∷ codes " " ∷ decimal back ∷ [])

abbrev pub close_line : (h port slot unread : ℕ) → List ℕ
close_line h port slot unread =
    text_line (codes "close " ∷ host_name h ∷ codes " " ∷ decimal port ∷ codes " slot " ∷ decimal slot ∷ codes " unread "
    ∷ decimal unread ∷ [])

abbrev pub mark_word : Bool → List ℕ
mark_word true = codes "set"
mark_word false = codes "clear"

-- a port became congested or free
abbrev pub mark_line : (h port : ℕ) → Bool → (queued limit : ℕ) → List ℕ
mark_line h port set queued limit =
    text_line (codes "mark " ∷ host_name h ∷ codes " " ∷ decimal port ∷ codes " " ∷ mark_word set ∷ codes " queued="
    ∷ decimal queued ∷ codes " limit=" ∷ decimal limit ∷ [])

-- the last line of each whole text
abbrev pub end_line : List ℕ
end_line = text_line (codes "end ok" ∷ [])
