use Rattle.std.proofs.Common.{◌≡◌, List, [], ◌∷◌, ◌++◌, map, sym, ◌∙◌, ap}
use Rattle.std.proofs.lemmas.List.{map-id}
use Rattle.std.proofs.lemmas.Iterator.Adapters.{YieldsList-from_vec}
use Rattle.std.proofs.lemmas.Iterator.Consumers.{YieldsList-end}
use Rattle.rds_model.specs.declared.order.Datagram.{Datagram}
use Rattle.rds_play_hosts.specs.declared.host.Arrived.{Arrived}
use Rattle.rds_text.specs.declared.final_state.Kept.{Kept}
use Rattle.rds_text.specs.FinalState.{FinalSocket as Left}
use Rattle.rds_text.specs.FinalViews.{socket_view}
use Rattle.rds_play_hosts.proofs.KeptSockets.{map_push, left_by, sockets_left}
use Rattle.rds_play_hosts.proofs.host.ScriptHost.into_kept.Goals as goal

pub loop-socket-preserved : goal.loop-socket-preserved
loop-socket-preserved c =
    let s = c.in-Some.socket in
    let k : Kept = record { slot = s.slot; port = s.port; got = s.got; unread = c.in_ok-unread.unread } in
    let old = c.loop-socket.kept.items in
    let pushed : c.push.new.self.items ≡ old ++ k ∷ [] = c.in_ok-push.ensures.items in
    let unread : c.in_ok-unread.unread.items ≡ map (λ (a : Arrived). a.datagram) s.queue.items = c.in_ok-unread.ensures in
    ap (map socket_view) pushed ∙ map_push socket_view old k
    ∙ ap (λ (ds : List Datagram). map socket_view old ++ record { slot = s.slot; port = s.port; got = s.got.items; unread = ds } ∷ []) unread
    ∙ ap (λ (l : List Left). l ++ left_by s ∷ []) c.loop-socket.invariant ∙ sym (map_push left_by c.loop-socket.yielded s)

pub returns : goal.returns
returns c = λ h past told.
    let all = YieldsList-end (YieldsList-from_vec c.args.self.sockets.items (cc) (cc)) c.loop-socket.yielded c.loop-socket.socket-iterator c.loop-socket.yielded_by c.next.result c.next.new.self c.in-None.is c.next.ensures.steps in
    c.loop-socket.invariant ∙ ap (map left_by) (sym (map-id c.loop-socket.yielded) ∙ all.0) ∙ sockets_left h past c.args.self told
