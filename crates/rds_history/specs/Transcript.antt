-- The transcript: the lines of a past. Source: this project's own.
use Rattle.std.specs.Prelude.{ℕ, suc, not, List, [], ◌∷◌, ◌++◌, filter}
use Rattle.rds_model.specs.declared.entry.Entry.{Entry}
use Rattle.rds_model.specs.declared.entry.Entry.TheVariants.{Accept, Cancel, Open, Pull, Read, Shut, Bad}
use Rattle.rds_model.specs.Past.{accepted}
use Rattle.rds_model.specs.Streams.{was_pulled}
use Rattle.rds_model.specs.Alive.{covered}
use Rattle.rds_history.specs.Events.{Event, Appended, Bound, Closed, Received, Marked, Moved, Printed}
use Rattle.rds_text.specs.Hosts.{host_at}
use Rattle.rds_history.specs.Journals.{journal}
use Rattle.rds_text.specs.Lines.{accept_line, cancel_line, open_line, pull_line, read_line, shut_line, bind_line, recv_line, close_line, mark_line}

-- the line of an entry of the journal of host h with k, after this past of the journal. No script makes a malformed
-- header.
abbrev pub entry_line : (h k : ℕ) → List Entry → Entry → List ℕ
entry_line h k past (Accept slot sport dport payload) = accept_line h k (suc (accepted past)) slot sport dport payload
entry_line h k past (Cancel slot target) =
    cancel_line h k slot target (filter (was_pulled past) (covered slot target past))
    (filter (λ n. not (was_pulled past n)) (covered slot target past))
entry_line h k past (Open stream) = open_line h k stream
entry_line h k past (Pull stream frame) = pull_line h k stream frame
entry_line h k past (Read stream frame outcome) = read_line h k stream frame outcome
entry_line h k past (Shut stream) = shut_line h k stream
entry_line h k past (Bad stream header cause) = []

-- the lines of a past
abbrev pub lines : List Event → List ℕ
lines [] = []
lines (Appended h k e ∷ past) = lines past ++ entry_line h k (journal h k past) e
lines (Bound h port slot sndbuf rcvbuf ∷ past) = lines past ++ bind_line h port slot
lines (Closed h port slot unread ∷ past) = lines past ++ close_line h port slot unread
lines (Received h port slot d ∷ past) = lines past ++ recv_line h port (host_at d.from) d.sport d.payload
lines (Marked h port set queued limit ∷ past) = lines past ++ mark_line h port set queued limit
lines (Moved h k count ∷ past) = lines past
lines (Printed text ∷ past) = lines past ++ text
