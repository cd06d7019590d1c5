use Rattle.std.specs.declared.vec.IntoIter.{IntoIter}
use Rattle.std.specs.Global.{Global}
use Rattle.std.specs.Vec.Iter.{into_iter_items}
use Rattle.std.proofs.lemmas.List.Elements.{All-push}
use Rattle.rds_fmap.specs.Readers.{ReaderView}
use Rattle.rds_socket_parts.specs.Boxes.{Box}
use Rattle.rds_socket_parts.specs.Lanes.{Lane}
use Rattle.rds_socket.specs.Holding.{Holding, IsEnded}
use Rattle.rds_host_end.proofs.Columns.{mapped_push, pushed_map}
use Rattle.rds_host_end.proofs.slots.take_slots.Goals as goal

pub loop-slot-preserved : goal.loop-slot-preserved
loop-slot-preserved c =
    let inv = c.loop-slot.invariant in
    let seen = c.loop-slot.yielded in
    let slot = c.in-Some.slot in
    let took = c.take_slot-inbox in (
      mapped_push (λ (b : Box). b.get) (λ (h : Holding ReaderView). h.inbox.get) c.loop-slot.inboxes.items c.push.new.self.items seen took.result.0 slot
          c.in_ok-push.ensures.items inv.0 took.ensures.inbox,
      mapped_push (λ (it : IntoIter (Lane ReaderView) Global). into_iter_items it) (λ (h : Holding ReaderView). h.routes) c.loop-slot.routes.items c.push-in-loop-slot.new.self.items seen took.result.1 slot
          c.in_ok-push-2.ensures.items inv.1 took.ensures.routes,
      pushed_map (λ (h : Holding ReaderView). h.ports) c.loop-slot.ports.items c.push-in-loop-slot-2.new.self.items seen took.result.2 slot
          c.in_ok-push-3.ensures.items inv.2 took.ensures.ports,
      pushed_map (λ (h : Holding ReaderView). h.words.seat) c.loop-slot.words.items c.push-in-loop-slot-3.new.self.items seen took.result.3 slot
          c.in_ok-push-4.ensures.items inv.3 took.ensures.words,
      All-push IsEnded seen slot inv.4 took.ensures.ended,
    )
