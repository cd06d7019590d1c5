use Rattle.std.proofs.Common.{◌≡◌, List, [], ◌∷◌, ◌++◌, map, sym, ◌∙◌, ap}
use Rattle.std.proofs.lemmas.List.{map-id}
use Rattle.std.proofs.lemmas.Iterator.Adapters.{YieldsList-from_vec}
use Rattle.std.proofs.lemmas.Iterator.Consumers.{YieldsList-end}
use Rattle.rds_model.specs.declared.order.Datagram.{Datagram}
use Rattle.rds_play_hosts.specs.declared.host.Arrived.{Arrived}
use Rattle.rds_play_hosts.proofs.KeptSockets.{map_push}
use Rattle.rds_play_hosts.proofs.ending.unread.Goals as goal

pub loop-arrived-preserved : goal.loop-arrived-preserved
loop-arrived-preserved c =
    let x = c.in-Some.arrived in
    let pushed : c.push.new.self.items ≡ c.loop-arrived.unread.items ++ x.datagram ∷ [] = c.in_ok-push.ensures.items in
    pushed ∙ ap (λ (l : List Datagram). l ++ x.datagram ∷ []) c.loop-arrived.invariant
    ∙ sym (map_push (λ (a : Arrived). a.datagram) c.loop-arrived.yielded x)

pub returns : goal.returns
returns c =
    let all = YieldsList-end (YieldsList-from_vec c.args.queue.items (cc) (cc)) c.loop-arrived.yielded c.loop-arrived.arrived-iterator c.loop-arrived.yielded_by c.next.result c.next.new.self c.in-None.is c.next.ensures.steps in
    c.loop-arrived.invariant ∙ ap (map (λ (a : Arrived). a.datagram)) (sym (map-id c.loop-arrived.yielded) ∙ all.0)
