use Rattle.std.proofs.Common.{◌≡◌, ◌∙◌, not, filter}
use Rattle.std.specs.Prelude.{string_bytes}
use Rattle.rds_model.specs.Alive.{covered}
use Rattle.rds_model.specs.Streams.{was_pulled}
use Rattle.rds_play_pair.specs.Steps.{ordered}
use Rattle.rds_play_mesh.specs.Ends.{ChangesPair, end_at}
use Rattle.rds_play_world.specs.Telling.{state}
use Rattle.rds_play_world.proofs.Sending.{order_went}
use Rattle.rds_play_world.proofs.TakingBack.{tells_cancelled}
use Rattle.rds_play_world.proofs.world.World.take_out.Goals as goal

pub returns-clause-told : goal.returns-clause-told
returns-clause-told c = λ limit hosts past told.
    let h = c.args.host in
    let k = c.args.peer in
    let s = state c.args.self.now in
    let o = c.cancellation.result in
    let changed = order_went (ChangesPair h k (ordered o (end_at h k s.mesh)) (end_at k h s.mesh) s.mesh c.order.new.self)
    c.order.result c.or_memory.result c.in_ok-or_memory.field-0 c.or_memory.ensures c.in_ok-or_memory.was c.order.ensures.ok in
    let j = (end_at h k s.mesh).past in
    let begun : c.deref.result.now ≡ filter (was_pulled j) (covered c.args.slot c.args.target j) = cc (c.in_ok-covered.ensures.begun) in
    let unbegun : c.deref-2.result.now ≡ filter (λ n. not (was_pulled j n)) (covered c.args.slot c.args.target j) = cc (c.in_ok-covered.ensures.unbegun) in
    tells_cancelled limit hosts h k c.args.slot c.args.target o past s c.order.new.self (string_bytes c.cancel_line.new.text) c.deref.result.now c.deref-2.result.now
    (c.args.self.now.meshed ∙ told.count_is) c.requires.host c.requires.peer c.requires.apart c.requires.slot
    c.cancellation.ensures.entry c.cancellation.ensures.allowed told changed
    begun unbegun c.in_ok-cancel_line.ensures
