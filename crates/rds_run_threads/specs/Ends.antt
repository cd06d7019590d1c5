-- What a run comes to: what its hosts have in the end, and what was written. Source: this project's own.
use Rattle.std.specs.Prelude.{◌≡◌, ◌⊎◌, ◌≤◌, ◌+◌, ℕ, suc, All, Bool, true, List, Some, length, map, Option, slice_get}
use Rattle.rds_link.specs.Seen.{SinkSeen}
use Rattle.rds_link.specs.Streaming.{HasRisen, SinkGained, SinkGainedFront}
use Rattle.rds_model.specs.declared.entry.Entry.{Entry}
use Rattle.rds_model.specs.Honest.{IsHonest}
use Rattle.rds_model.specs.Pairs.{IsAllAccounted}
use Rattle.rds_text.specs.FinalState.{FinalHost, FinalJournal}
use Rattle.rds_text.specs.Hosts.{address_of}
use Rattle.rds_text.specs.Report.{Group, counts, groups, pending}
use Rattle.rds_text.specs.FinalViews.{host_views}
use Rattle.rds_text.specs.Lines.{spent_line}
use Rattle.rds_script.specs.declared.script.Placed.{Placed}
use Rattle.rds_run_rounds.specs.Drained.{AreDrained}
use Rattle.rds_run_rounds.specs.Grid.{OfEachPair, others}
use Rattle.rds_run_rounds.specs.Sound.{AreSoundJournals}
use Rattle.rds_run_threads.specs.Causes.{AreLackingStream, AreUnacknowledged, IsFullJournal, alive_in_ends}
use Rattle.rds_run_threads.specs.Outcome.{IsOutcome}
use Rattle.rds_run_threads.specs.Reliable.{HasReceived, IsReliableTo}
use Rattle.rds_run_threads.specs.Texts.{fault_line, text_of, unfinished_line}
use Rattle.rds_run_threads.specs.declared.form.Form.{Form}
use Rattle.rds_run_threads.specs.declared.form.RunEnd.{RunEnd}
use Rattle.rds_run_threads.specs.declared.form.RunEnd.TheVariants as ended

-- this holds of each journal that hosts have in the end
abbrev pub OfEachJournal : (List Entry → Type 0) → List FinalHost → Type 0
OfEachJournal Holds ends = All (λ (end : FinalHost). All (λ (side : FinalJournal). Holds side.past) end.sides) ends

-- no journal is full: with two more entries each is still within the limit
abbrev pub NoneFull : (limit : ℕ) → List FinalHost → Type 0
NoneFull limit ends = OfEachJournal (λ past. length past + 2 ≤ limit) ends

-- what holds of the journals of each two hosts, the lower host first
abbrev pub OfEachJournals : ((low high : ℕ) → List Entry → List Entry → Type 0) → List FinalHost → Type 0
OfEachJournals Holds ends =
    OfEachPair (λ low high (one : FinalJournal) (other : FinalJournal). Holds low high one.past other.past) (map (λ (end : FinalHost). end.sides) ends)

-- what holds of each two hosts and their journals with each other, the lower host first, where each stream between them gave a beginning of
-- what was written to it
abbrev pub OfEachHonestPair : ((low high : ℕ) (one other : FinalHost) (own back : List Entry) → Type 0) → List FinalHost → Type 0
OfEachHonestPair Holds ends =
    (low place : ℕ) (one other : FinalHost) (a b : FinalJournal) → low ≤ place → slice_get ends low ≡ Some one → slice_get ends (suc place) ≡ Some other →
    slice_get one.sides place ≡ Some a → slice_get other.sides low ≡ Some b → IsHonest a.past b.past → Holds low (suc place) one other a.past b.past

-- From each host to each other one, where each stream between them gave a beginning of what was written to it: for each port pair what was
-- delivered was sent, in order and each once, each sent datagram up to the last that arrived is accounted for, and the sockets hand it out
-- so.
abbrev pub AreReliable : List FinalHost → Type 0
AreReliable ends = OfEachHonestPair (λ low high one other own back.
    IsReliableTo low own back other.sockets × IsReliableTo high back own one.sockets) ends

-- What so many hosts have in the end, by host: each did the script's commands, and has a journal of its connection with each other one, in
-- ascending order. The journals are sound. What the sockets of each host handed out is what its journals delivered; where streams gave
-- beginnings of what was written to them, as those of ends that tell their bytes did, it is what the other hosts sent.
pub record AreEnds (tells : Bool) (hosts : ℕ) (commands : List Placed) (ends : List FinalHost) : Type 0 where
  pub count : length ends ≡ hosts
  pub addresses : (host : ℕ) (end : FinalHost) → slice_get ends host ≡ Some end → end.addr ≡ address_of host
  pub peers : (host : ℕ) (end : FinalHost) → slice_get ends host ≡ Some end →
      map (λ (side : FinalJournal). side.peer) end.sides ≡ map address_of (others hosts host)
  pub sound : OfEachJournals (λ low high. AreSoundJournals tells) ends
  pub did : (host : ℕ) (end : FinalHost) → slice_get ends host ≡ Some end → IsOutcome hosts host commands end.sides end.sockets
  pub received : All HasReceived ends
  pub reliable : AreReliable ends

-- nothing is left to do between any two hosts
abbrev pub AreDrainedHosts : List FinalHost → Type 0
AreDrainedHosts ends = OfEachJournals (λ low high. AreDrained) ends

-- No datagram is pending: for each port pair of the report at least as many were received, are unread, found no socket, were taken by port 0
-- or were taken back as were accepted.
abbrev pub NonePending : List FinalHost → Type 0
NonePending ends = All (λ (g : Group). pending (counts ends g) ≡ 0) (groups ends)

-- no datagram from any port of the host of one address to any port of that of the other is pending
abbrev pub NonePendingFrom : (from to : ℕ) → List FinalHost → Type 0
NonePendingFrom from to ends = (sport dport : ℕ) → pending (counts ends (record { to = to; dport = dport; from = from; sport = sport })) ≡ 0

-- between any two hosts, where each stream between them gave a beginning of what was written to it, no datagram is pending, either way
abbrev pub NonePendingWhereHonest : List FinalHost → Type 0
NonePendingWhereHonest ends = OfEachHonestPair (λ low high one other own back.
    NonePendingFrom one.addr other.addr ends × NonePendingFrom other.addr one.addr ends) ends

-- between any two hosts, where each stream between them gave a beginning of what was written to it, each accepted datagram of each port pair was
-- delivered, found no socket, was taken by port 0, or was taken back and never arrived, either way
abbrev pub AllAccountedWhereHonest : List FinalHost → Type 0
AllAccountedWhereHonest ends = OfEachHonestPair (λ low high one other own back. (sport dport : ℕ) →
    IsAllAccounted sport dport own back × IsAllAccounted sport dport back own) ends

-- No datagram is left unacknowledged: no number is alive in any journal, and where streams gave beginnings of what was written to them, each is
-- accounted for and none is pending.
pub record AreAcknowledged (ends : List FinalHost) : Type 0 where
  pub none_alive : alive_in_ends ends ≡ 0
  pub accounted : AllAccountedWhereHonest ends
  pub none_pending : NonePendingWhereHonest ends

-- between any two hosts nothing is left to do, and no datagram is pending
abbrev pub AreSettledHosts : List FinalHost → Type 0
AreSettledHosts ends = AreDrainedHosts ends × NonePending ends

-- the whole text was written, and the run ended so; or the sink failed, after it took a beginning of the text
abbrev pub Writes : SinkSeen → List ℕ → (end result : RunEnd) → Type 0
Writes sink text end result =
    ((result ≡ end) × SinkGained sink.held_before sink.held_after text)
    ⊎ ((result ≡ ended.WriteFault) × HasRisen sink.faults_before sink.faults_after × SinkGainedFront sink.held_before sink.held_after text)

-- What a run that came to this end has to write: the text of its form on what its hosts have in the end, which is sound, or its line. Where all
-- is acknowledged, or some of it isn't, no journal is full.
abbrev pub HasToWrite : (form : Form) (tells : Bool) (limit hosts : ℕ) (commands : List Placed) → RunEnd → List ℕ → Type 0
HasToWrite form tells limit hosts commands (ended.Ok ends) text =
    AreEnds tells hosts commands (host_views ends.items) × AreAcknowledged (host_views ends.items)
    × (tells ≡ true → AreSettledHosts (host_views ends.items)) × NoneFull limit (host_views ends.items) × (text ≡ text_of form (host_views ends.items))
HasToWrite form tells limit hosts commands (ended.WireFault low high stream own other) text =
    AreLackingStream tells hosts commands low high stream own.past other.past × (text ≡ fault_line low high stream)
HasToWrite form tells limit hosts commands (ended.Spent host peer entries own other) text =
    IsFullJournal tells limit hosts commands host peer entries own.past other.past × (text ≡ spent_line host peer entries)
HasToWrite form tells limit hosts commands (ended.Unfinished count ends) text =
    AreEnds tells hosts commands (host_views ends.items) × AreUnacknowledged tells count (host_views ends.items) × NoneFull limit (host_views ends.items)
    × (text ≡ unfinished_line count)
HasToWrite form tells limit hosts commands ended.WriteFault text = ⊥
HasToWrite form tells limit hosts commands ended.Memory text = ⊥

-- How a run ended. The sink failed; or memory ran out, and nothing was written; or the run came to an end at which it has something to write,
-- and the sink took the whole of that.
abbrev pub IsEndOfRun : (form : Form) (tells : Bool) (limit hosts : ℕ) (commands : List Placed) → SinkSeen → RunEnd → Type 0
IsEndOfRun form tells limit hosts commands sink ended.WriteFault = HasRisen sink.faults_before sink.faults_after
IsEndOfRun form tells limit hosts commands sink ended.Memory = sink.held_after ≡ sink.held_before
IsEndOfRun form tells limit hosts commands sink end =
    (text : List ℕ) × HasToWrite form tells limit hosts commands end text × SinkGained sink.held_before sink.held_after text
