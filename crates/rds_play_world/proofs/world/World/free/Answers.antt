use Rattle.std.proofs.Common.{◌≡◌, ◌<◌, get_or, length, subst, arith}
use Rattle.std.specs.Prelude.{string_bytes}
use Rattle.rds_play_world.specs.Telling.{state}
use Rattle.rds_play_world.proofs.Closing.{tells_unbound}
use Rattle.rds_play_world.proofs.world.World.free.Goals as goal

pub returns-clause-told : goal.returns-clause-told
returns-clause-told c = λ limit hosts past told bound.
    let h = c.args.host in
    let slot = c.args.slot in
    let s = state c.args.self.now in
    let x = c.index_mut.result.now in
    let at : x ≡ get_or s.hosts h x = cc in
    let h_in : h < hosts = subst (λ n. h < n) told.count_is c.requires.host in
    let host = told.hosts_are h h_in x at in
    let size : h < length s.hosts = omega (arith, c.requires.host, c.args.self.now.housed, c.args.self.now.hosts.ok.0) in
    tells_unbound limit hosts h c.from.result c.args.port slot past s c.unbind.new.self (string_bytes c.unbind.new.text) (cc) size
    told (c.in_ok-unbind.ensures.told past bound host) (c.in_ok-unbind.ensures.text past bound host told.text_is)
