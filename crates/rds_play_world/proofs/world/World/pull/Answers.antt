use Rattle.std.proofs.Common.{◌≡◌, ◌<◌, List, get_or, length, refl, ◌∙◌, ap, subst}
use Rattle.rds_model.specs.declared.entry.Entry.{Entry}
use Rattle.rds_play_pair.specs.Steps.{pulled}
use Rattle.rds_play_mesh.specs.Ends.{ChangesPair, end_at}
use Rattle.rds_play_world.specs.Telling.{state}
use Rattle.rds_play_world.proofs.Changing.{done_well}
use Rattle.rds_play_world.proofs.Pulling.{tells_pulled}
use Rattle.rds_play_world.proofs.world.World.pull.Goals as goal

pub returns-clause-told : goal.returns-clause-told
returns-clause-told c = λ limit hosts past told idle.
    let h = c.args.from in
    let k = c.args.to in
    let s = state c.args.self.now in
    let x = c.index.result.now in
    let at : x ≡ get_or s.hosts h x = cc in
    let h_in : h < hosts = subst (λ n. h < n) told.count_is c.requires.from in
    let k_in : k < hosts = subst (λ n. k < n) told.count_is c.requires.to in
    let changed = done_well (ChangesPair h k (pulled c.map-map.result.now (end_at k h s.mesh).waiting (end_at h k s.mesh)) (end_at k h s.mesh) s.mesh c.pull.new.self)
    c.pull.result c.or_memory.result c.in_ok-or_memory.field-0 c.or_memory.ensures c.in_ok-or_memory.was c.pull.ensures.ok in
    tells_pulled limit hosts h k c.len-first.result c.map-map.result.now past s _ c.requires.apart (c.args.self.now.meshed ∙ told.count_is) h_in k_in
    told idle (c.map-map.ensures h past (told.hosts_are h h_in x at)) changed (c.len-first.ensures.len ∙ ap (λ (j : List Entry). length j) c.journal.ensures)
    c.in_ok-print.ensures.line c.in_ok-print.ensures.none refl
