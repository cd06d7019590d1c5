use Rattle.std.proofs.Common.{◌<◌, refl, ◌∙◌, subst}
use Rattle.rds_play_world.specs.Telling.{state}
use Rattle.rds_play_world.proofs.Arriving.{fed_well, tells_fed}
use Rattle.rds_play_world.proofs.world.World.feed.Goals as goal

pub returns-clause-told : goal.returns-clause-told
returns-clause-told c = λ limit hosts past told some most.
    let h = c.args.from in
    let k = c.args.to in
    let s = state c.args.self.now in
    let h_in : h < hosts = subst (λ n. h < n) told.count_is c.requires.from in
    let k_in : k < hosts = subst (λ n. k < n) told.count_is c.requires.to in
    let changed = fed_well h k c.args.count past s.mesh c.feed.new.self c.feed.result c.or_memory.result c.in_ok-or_memory.field-0 limit (told.ends_are h k h_in k_in c.requires.apart)
    most c.or_memory.ensures c.in_ok-or_memory.was c.feed.ensures.used c.feed.ensures.ok in
    tells_fed limit hosts h k c.args.count past s (record s { mesh = c.feed.new.self }) c.requires.apart (c.args.self.now.meshed ∙ told.count_is) h_in k_in told some most
    c.known.ensures changed refl
