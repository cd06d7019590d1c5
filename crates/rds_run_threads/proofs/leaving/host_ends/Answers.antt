use Rattle.std.proofs.Common.{◌≡◌, ◌≤◌, ◌+◌, Vec, length, ◌∙◌, arith}
use Rattle.std.specs.Global.{Global}
use Rattle.std.proofs.lemmas.List.{length-map}
use Rattle.rds_text.specs.FinalViews.{AreFinalHosts, host_views}
use Rattle.rds_text.specs.declared.final_state.HostEnd.{HostEnd}
use Rattle.rds_run_rounds.specs.Causes.{OwesNothing, alive_in_rows}
use Rattle.rds_run_rounds.specs.Grid.{rows_of}
use Rattle.rds_run_threads.specs.Causes.{alive_in_ends}
use Rattle.rds_run_threads.specs.Counted.{EndsOweNothing, HaveAllUsedUp, HaveUsedUp}
use Rattle.rds_run_threads.specs.Cuts.{AreCutsOfEnds}
use Rattle.rds_run_threads.specs.Ends.{AreAcknowledged, AreEnds, AreSettledHosts, NoneFull}
use Rattle.rds_run_threads.specs.Settled.{AreLeftOf}
use Rattle.rds_run_threads.proofs.NonePending.{all_where_honest, none_pending, none_where_honest}
use Rattle.rds_run_threads.proofs.Alive.{alive_left, silent_counted, silent_drained}
use Rattle.rds_run_threads.proofs.Counted.{of_each_left}
use Rattle.rds_run_threads.proofs.CutsOfRun.{cuts_of_ends}
use Rattle.rds_run_threads.proofs.Room.{room_within}
use Rattle.rds_run_threads.proofs.Sound.{drained_of, ends_of, final_of, pairs_of}
use Rattle.rds_run_threads.proofs.UsedUp.{all_used_up}
use Rattle.rds_run_threads.proofs.Written.{on_ok}
use Rattle.rds_run_threads.proofs.leaving.host_ends.Goals as goal

pub all_ends-requires-clause-few : goal.all_ends-requires-clause-few
all_ends-requires-clause-few g c =
    let few = c.requires.done.2.few in
    let count = c.requires.done.2.shape.count in
    omega (arith, few, count, length-map c.args.lines.items (λ list. list.items))

pub returns-clause-ends : goal.returns-clause-ends
returns-clause-ends g c = λ limit hosts commands done did.
    on_ok (λ (ends : Vec HostEnd Global). AreLeftOf c.args.callers.items (rows_of c.args.lines.items) ends.items)
    (λ (ends : Vec HostEnd Global). AreEnds g.W.End.End.means.tells hosts commands (host_views ends.items)) c.all_ends.result
    (λ ends left.
    ends_of g.W.End.End.means limit hosts c.args.callers.items (rows_of c.args.lines.items) ends.items done c.requires.settled.count left commands
    did) c.all_ends.ensures.left

pub returns-clause-hosts : goal.returns-clause-hosts
returns-clause-hosts g c =
    on_ok (λ (ends : Vec HostEnd Global). AreLeftOf c.args.callers.items (rows_of c.args.lines.items) ends.items)
    (λ (ends : Vec HostEnd Global). AreFinalHosts (host_views ends.items)) c.all_ends.result
    (λ ends left.
    final_of g.W.End.End.means c.requires.done.0 c.requires.done.1 c.args.callers.items (rows_of c.args.lines.items) ends.items c.requires.done.2
    c.requires.settled.count left) c.all_ends.ensures.left

pub returns-clause-settled : goal.returns-clause-settled
returns-clause-settled g c = λ limit hosts commands done did tells drained.
    on_ok (λ (ends : Vec HostEnd Global). AreLeftOf c.args.callers.items (rows_of c.args.lines.items) ends.items)
    (λ (ends : Vec HostEnd Global). AreSettledHosts (host_views ends.items)) c.all_ends.result
    (λ ends left.
    let m = g.W.End.End.means in
    let nothing = drained_of m limit hosts c.args.callers.items (rows_of c.args.lines.items) ends.items done c.requires.settled.count left drained in
    let are = ends_of m limit hosts c.args.callers.items (rows_of c.args.lines.items) ends.items done c.requires.settled.count left commands did in (
      nothing,
      none_pending m.tells hosts commands (host_views ends.items) are c.accounted_of_all.ensures (silent_drained (host_views ends.items) nothing) tells,
    )) c.all_ends.ensures.left

pub returns-clause-acknowledged : goal.returns-clause-acknowledged
returns-clause-acknowledged g c = λ limit hosts commands done did acknowledged.
    on_ok (λ (ends : Vec HostEnd Global). AreLeftOf c.args.callers.items (rows_of c.args.lines.items) ends.items)
    (λ (ends : Vec HostEnd Global). AreAcknowledged (host_views ends.items)) c.all_ends.result
    (λ ends left.
    let m = g.W.End.End.means in
    let are = ends_of m limit hosts c.args.callers.items (rows_of c.args.lines.items) ends.items done c.requires.settled.count left commands did in
    let none = alive_left c.args.callers.items (rows_of c.args.lines.items) ends.items c.requires.settled.count left ∙ acknowledged in record {
      none_alive = none;
      accounted =
          all_where_honest m.tells hosts commands (host_views ends.items) are c.accounted_of_all.ensures (silent_counted (host_views ends.items) none);
      none_pending =
          none_where_honest m.tells hosts commands (host_views ends.items) are c.accounted_of_all.ensures (silent_counted (host_views ends.items) none);
    }) c.all_ends.ensures.left

pub returns-clause-alive : goal.returns-clause-alive
returns-clause-alive g c =
    on_ok (λ (ends : Vec HostEnd Global). AreLeftOf c.args.callers.items (rows_of c.args.lines.items) ends.items)
    (λ (ends : Vec HostEnd Global). alive_in_ends (host_views ends.items) ≡ alive_in_rows (rows_of c.args.lines.items)) c.all_ends.result
    (λ ends left. alive_left c.args.callers.items (rows_of c.args.lines.items) ends.items c.requires.settled.count left) c.all_ends.ensures.left

pub returns-clause-owe : goal.returns-clause-owe
returns-clause-owe g c = λ owe.
    on_ok (λ (ends : Vec HostEnd Global). AreLeftOf c.args.callers.items (rows_of c.args.lines.items) ends.items)
    (λ (ends : Vec HostEnd Global). EndsOweNothing (host_views ends.items)) c.all_ends.result
    (λ ends left. of_each_left OwesNothing c.args.callers.items (rows_of c.args.lines.items) ends.items c.requires.settled.count left owe) c.all_ends.ensures.left

-- refused where a full journal is kept
pub returns-clause-room : goal.returns-clause-room
returns-clause-room g c = λ limit hosts done room.
    on_ok (λ (ends : Vec HostEnd Global). AreLeftOf c.args.callers.items (rows_of c.args.lines.items) ends.items)
    (λ (ends : Vec HostEnd Global). NoneFull limit (host_views ends.items)) c.all_ends.result
    (λ ends left.
    of_each_left (λ past. length past + 2 ≤ limit) c.args.callers.items (rows_of c.args.lines.items) ends.items c.requires.settled.count left
    (room_within g.W.End.End.means limit hosts (rows_of c.args.lines.items) done room))
    c.all_ends.ensures.left

pub returns-clause-used : goal.returns-clause-used
returns-clause-used g c = λ commands closed used.
    on_ok (λ (ends : Vec HostEnd Global). AreLeftOf c.args.callers.items (rows_of c.args.lines.items) ends.items)
    (λ (ends : Vec HostEnd Global). HaveAllUsedUp commands (host_views ends.items)) c.all_ends.result
    (λ ends left.
    pairs_of g.W.End.End.means c.requires.done.0 c.requires.done.1 c.args.callers.items (rows_of c.args.lines.items) ends.items c.requires.done.2
    c.requires.settled.count left (λ low high. HaveUsedUp low high commands)
    (all_used_up g.W.End.End.means c.requires.done.0 c.requires.done.1 (rows_of c.args.lines.items) c.requires.done.2 commands used closed))
    c.all_ends.ensures.left

-- refused where a line's cuts are lost
pub returns-clause-cut : goal.returns-clause-cut
returns-clause-cut g c = λ limit hosts commands done did used.
    on_ok (λ (ends : Vec HostEnd Global). AreLeftOf c.args.callers.items (rows_of c.args.lines.items) ends.items)
    (λ (ends : Vec HostEnd Global). AreCutsOfEnds commands (host_views ends.items)) c.all_ends.result
    (λ ends left.
    cuts_of_ends g.W.End.End.means limit hosts c.args.callers.items (rows_of c.args.lines.items) ends.items done c.requires.settled.count left commands did used)
    c.all_ends.ensures.left
