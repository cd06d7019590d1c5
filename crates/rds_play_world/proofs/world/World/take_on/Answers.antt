use Rattle.std.proofs.Common.{◌∙◌}
use Rattle.rds_play_pair.specs.Steps.{ordered}
use Rattle.rds_play_mesh.specs.Ends.{ChangesPair, end_at}
use Rattle.rds_play_world.specs.Telling.{state}
use Rattle.rds_play_world.proofs.Sending.{order_went, tells_accepted}
use Rattle.rds_play_world.proofs.world.World.take_on.Goals as goal

pub returns-clause-told : goal.returns-clause-told
returns-clause-told c = λ limit hosts past slot sport dport payload told is allowed.
    let h = c.args.host in
    let k = c.args.to in
    let s = state c.args.self.now in
    let o = c.args.order.now in
    let changed = order_went (ChangesPair h k (ordered o (end_at h k s.mesh)) (end_at k h s.mesh) s.mesh c.order.new.self)
    c.order.result c.or_memory.result c.in_ok-or_memory.field-0 c.or_memory.ensures c.in_ok-or_memory.was c.order.ensures.ok in
    tells_accepted limit hosts h k slot sport dport payload o past s c.order.new.self (state c.print_newest.new.self) c.print_newest.result
    (c.args.self.now.meshed ∙ told.count_is) c.requires.host c.requires.peer c.requires.apart is allowed told changed c.print_newest.ensures.line
