-- The one history of a script, and the text that is printed of it. Source: this project's own.
use Rattle.std.specs.Prelude.{ℕ, Ok, Err, List, [], ◌∷◌, ◌++◌, map}
use Rattle.rds_script.specs.Grammar.{Meaning}
use Rattle.rds_script.specs.declared.script.Placed.{Placed}
use Rattle.rds_script.specs.declared.script.Command.{Command}
use Rattle.rds_script.specs.declared.script.Command.TheVariants as command
use Rattle.rds_text.specs.Ports.{below}
use Rattle.rds_history.specs.Events.{Event}
use Rattle.rds_text.specs.Hosts.{address_of}
use Rattle.rds_history.specs.Journals.{journal, peers}
use Rattle.rds_history.specs.Sockets.{next_slot, bound_port, handed_out, queue}
use Rattle.rds_history.specs.Courses.{Course, and_then}
use Rattle.rds_history.specs.Bind.{bind, bind_any}
use Rattle.rds_history.specs.Send.{send}
use Rattle.rds_history.specs.Recv.{recv}
use Rattle.rds_history.specs.Cancel.{cancel, close}
use Rattle.rds_history.specs.Open.{open_pair, cut}
use Rattle.rds_history.specs.Move.{move}
use Rattle.rds_history.specs.Drain.{drain}
use Rattle.rds_text.specs.Lines.{spent_line}
use Rattle.rds_history.specs.Transcript.{lines}
use Rattle.rds_text.specs.FinalState.{FinalSocket, FinalHost}
use Rattle.rds_text.specs.Report.{report}

-- what a command comes to
abbrev pub after : (limit hosts : ℕ) → Command → List Event → Course
after limit hosts (command.Bind host port sndbuf rcvbuf) past = bind host port sndbuf rcvbuf past
after limit hosts (command.BindAny host port sndbuf rcvbuf) past = bind_any host port sndbuf rcvbuf past
after limit hosts (command.Send host port to dport payload) past = send limit hosts host port to dport payload past
after limit hosts (command.Recv host port) past = recv host port past
after limit hosts (command.Cancel host port to dport) past = cancel limit host port to dport past
after limit hosts (command.Close host port) past = close limit hosts host port past
after limit hosts (command.Open host to) past = open_pair limit host to past
after limit hosts (command.Move host to bytes) past = move limit host to bytes past
after limit hosts (command.Cut host to) past = cut limit host to past
after limit hosts command.Drain past = drain limit hosts past

-- what commands come to, one after another
abbrev pub history : (limit hosts : ℕ) → List Placed → List Event → Course
history limit hosts [] past = Ok past
history limit hosts (placed ∷ commands) past = and_then (after limit hosts placed.command past) (history limit hosts commands)

-- the socket of a slot of host h
abbrev pub socket : (h : ℕ) → List Event → ℕ → FinalSocket
socket h past slot =
    record { slot = slot; port = bound_port h slot past; got = handed_out h slot past; unread = queue h slot past }

-- the sockets of host h by slot
abbrev pub sockets : ℕ → List Event → List FinalSocket
sockets h past = map (socket h past) (below (next_slot h past))

-- what host h has in the end
abbrev pub final_host : (hosts h : ℕ) → List Event → FinalHost
final_host hosts h past = record {
  addr = address_of h;
  sides = map (λ k. record { peer = address_of k; past = journal h k past }) (peers hosts h);
  sockets = sockets h past;
}

-- what the hosts have in the end
abbrev pub final_hosts : ℕ → List Event → List FinalHost
final_hosts hosts past = map (λ h. final_host hosts h past) (below hosts)

-- the text of a course: its transcript and its report, or the line of the journal that was full
abbrev pub text_of : ℕ → Course → List ℕ
text_of hosts (Ok past) = lines past ++ report (final_hosts hosts past)
text_of hosts (Err full) = spent_line full.host full.peer full.entries

-- the one course of a script, where no journal may have more than `limit` entries
abbrev pub course : Meaning → (limit : ℕ) → Course
course script limit = history limit script.hosts script.commands []

-- the text of a script
abbrev pub text : Meaning → (limit : ℕ) → List ℕ
text script limit = text_of script.hosts (course script limit)
