use Rattle.std.proofs.Common.{List, length, ◌∙◌, ap}
use Rattle.rds_model.specs.declared.entry.Entry.{Entry}
use Rattle.rds_play_pair.specs.Steps.{passed}
use Rattle.rds_play_mesh.specs.Ends.{ChangesPair, end_at}
use Rattle.rds_play_world.specs.Telling.{state}
use Rattle.rds_play_world.proofs.Changing.{done_well}
use Rattle.rds_play_world.proofs.Passing.{passed_read}
use Rattle.rds_play_world.proofs.world.World.pass.Goals as goal

pub returns-clause-read : goal.returns-clause-read
returns-clause-read c = λ stream f waits on.
    let h = c.args.host in
    let k = c.args.peer in
    let s = state c.args.self.now in
    let changed = done_well (ChangesPair h k (passed c.args.slot (end_at h k s.mesh)) (end_at k h s.mesh) s.mesh c.pass.new.self)
    c.pass.result c.or_memory.result c.in_ok-or_memory.field-0 c.or_memory.ensures c.in_ok-or_memory.was c.pass.ensures.ok in
    passed_read h k stream c.len-first.result c.args.slot f s c.pass.new.self _ waits on changed
    (c.len-first.ensures.len ∙ ap (λ (j : List Entry). length j) c.journal.ensures) c.in_ok-print.ensures.line
