use Rattle.std.proofs.Common.{◌∙◌}
use Rattle.rds_play_pair.specs.Steps.{stream_shut}
use Rattle.rds_play_mesh.specs.Ends.{ChangesPair, end_at}
use Rattle.rds_play_world.specs.Telling.{state}
use Rattle.rds_play_world.proofs.OpeningBoth.{tells_shut, went_well}
use Rattle.rds_play_world.proofs.world.World.shut_ends.Goals as goal

pub returns-clause-told : goal.returns-clause-told
returns-clause-told c = λ limit hosts past stream told on.
    let h = c.args.host in
    let k = c.args.peer in
    let s = state c.args.self.now in
    let changed = went_well (ChangesPair h k (stream_shut (end_at h k s.mesh)) (stream_shut (end_at k h s.mesh)) s.mesh c.cut.new.self)
    c.cut.result c.or_memory.result c.in_ok-or_memory.field-0 c.or_memory.ensures c.in_ok-or_memory.was c.cut.ensures.ok in
    tells_shut limit hosts h k stream past s c.cut.new.self (state c.print_newest.new.self) (state c.print_newest-2.new.self) c.print_newest-2.result
    told (c.args.self.now.meshed ∙ told.count_is) c.requires.host c.requires.peer c.requires.apart on c.known.ensures changed
    c.in_ok-print_newest.ensures.line c.print_newest-2.ensures.line
