-- Each command of a script in range keeps what a past keeps.
use Rattle.std.proofs.Common.{ℕ, ◌≤◌, ◌^◌, None, List, [], ◌∷◌, sym}
use Rattle.std.specs.Prelude.{unwrap_or, All}
use Rattle.std.proofs.lemmas.List.Elements.{All-head, All-tail}
use Rattle.rds_script.specs.declared.script.Command.{Command}
use Rattle.rds_script.specs.declared.script.Command.TheVariants as command
use Rattle.rds_script.specs.declared.script.Placed.{Placed}
use Rattle.rds_script.specs.Script.{IsCommand, IsPair}
use Rattle.rds_text.specs.Lines.{drained_line}
use Rattle.rds_history.specs.Events.{Event}
use Rattle.rds_history.specs.Courses.{and_then, prints, each, again}
use Rattle.rds_history.specs.Bind.{free_port}
use Rattle.rds_history.specs.Move.{move_up_to}
use Rattle.rds_history.specs.Drain.{HostPair, pairs, open_if_closed, both_ways, round, rounds, drain}
use Rattle.rds_history.specs.History.{after, history}
use Rattle.rds_history.proofs.EventInvariants.{Holds, holds_then, holds_again}
use Rattle.rds_history.proofs.JoinedReads.{HonestLaws}
use Rattle.rds_history.proofs.PastEnds.{AreTwo, two_turned, Keeps, keeps_printed}
use Rattle.rds_history.proofs.PastMoves.{keeps_move_up_to}
use Rattle.rds_history.proofs.ScriptHosts.{holds_each_where, IsOfTwo, pairs_are_two}
use Rattle.rds_history.proofs.PastSockets.{keeps_bind, keeps_recv, keeps_send, keeps_cancel, keeps_close}
use Rattle.rds_history.proofs.PastStreams.{keeps_open_if_closed, keeps_open, keeps_cut, keeps_move}

-- the script's commands
module _ (hosts : ℕ) (laws : HonestLaws) (limit : ℕ) (small : limit ≤ 2 ^ 63) where
  keeps_both_ways : (pair : HostPair) → IsOfTwo hosts pair → (past : List Event) → Keeps hosts past → Holds (Keeps hosts) (both_ways limit pair past)
  keeps_both_ways pair two past keeps =
      holds_then (Keeps hosts) (Keeps hosts) (move_up_to limit pair.low pair.high None past) (move_up_to limit pair.high pair.low None)
      (keeps_move_up_to laws hosts limit pair.low pair.high small two None past keeps)
      (λ later there. keeps_move_up_to laws hosts limit pair.high pair.low small (two_turned hosts pair.low pair.high two) None later there)

  keeps_drain : (past : List Event) → Keeps hosts past → Holds (Keeps hosts) (drain limit hosts past)
  keeps_drain past keeps =
      let two = pairs_are_two hosts in
      holds_then (Keeps hosts) (Keeps hosts) (each (pairs hosts) (open_if_closed limit) past)
      (λ opened. and_then (again (rounds limit) (round limit hosts) opened) (prints drained_line))
      (holds_each_where (Keeps hosts) (IsOfTwo hosts) (pairs hosts) (open_if_closed limit) past keeps two
      (λ pair is before there. keeps_open_if_closed hosts limit pair.low pair.high is before there))
      (λ opened there. holds_then (Keeps hosts) (Keeps hosts) (again (rounds limit) (round limit hosts) opened) (prints drained_line)
      (holds_again (Keeps hosts) (rounds limit) (round limit hosts) opened there
      (λ before now. holds_each_where (Keeps hosts) (IsOfTwo hosts) (pairs hosts) (both_ways limit) before now two keeps_both_ways))
      (λ later last. keeps_printed hosts drained_line later last))

  two_of : (host to : ℕ) → IsPair hosts host to → AreTwo hosts host to
  two_of host to is = record { first = is.first; second = is.second; apart = λ same. is.apart (sym same) }

  pub keeps_after : (c : Command) (past : List Event) → IsCommand hosts c → Keeps hosts past → Holds (Keeps hosts) (after limit hosts c past)
  keeps_after (command.Bind host port sndbuf rcvbuf) past is keeps = keeps_bind hosts host port sndbuf rcvbuf past keeps
  keeps_after (command.BindAny host port sndbuf rcvbuf) past is keeps = keeps_bind hosts host (unwrap_or (free_port host port past) port) sndbuf rcvbuf past keeps
  keeps_after (command.Send host port to dport payload) past is keeps =
      keeps_send hosts limit host port to dport payload past is.0.known is.1.known small is.0.fits is.1.fits keeps
  keeps_after (command.Recv host port) past is keeps = keeps_recv hosts host port past keeps
  keeps_after (command.Cancel host port to dport) past is keeps = keeps_cancel hosts limit host port to dport past is.0.known is.1.known keeps
  keeps_after (command.Close host port) past is keeps = keeps_close hosts limit host port past is.known keeps
  keeps_after (command.Open host to) past is keeps = keeps_open hosts limit host to (two_of host to is) past keeps
  keeps_after (command.Move host to bytes) past is keeps = keeps_move hosts limit host to (two_of host to is.0) laws small bytes past keeps
  keeps_after (command.Cut host to) past is keeps = keeps_cut hosts limit host to (two_of host to is) past keeps
  keeps_after command.Drain past is keeps = keeps_drain past keeps

  pub keeps_history : (commands : List Placed) (past : List Event) → All (λ (p : Placed). IsCommand hosts p.command) commands → Keeps hosts past →
      Holds (Keeps hosts) (history limit hosts commands past)
  keeps_history [] past all keeps = keeps
  keeps_history (placed ∷ commands) past all keeps =
      holds_then (Keeps hosts) (Keeps hosts) (after limit hosts placed.command past) (history limit hosts commands)
      (keeps_after placed.command past (All-head (λ (p : Placed). IsCommand hosts p.command) placed commands all) keeps)
      (λ later there. keeps_history commands later (All-tail (λ (p : Placed). IsCommand hosts p.command) placed commands all) there)
