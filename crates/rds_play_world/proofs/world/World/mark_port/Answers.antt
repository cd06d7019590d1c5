use Rattle.std.proofs.Common.{◌≡◌, ◌<◌, get_or, length, subst, arith}
use Rattle.std.specs.Prelude.{string_bytes}
use Rattle.rds_play_world.specs.Telling.{state}
use Rattle.rds_play_world.proofs.Readings.{tells_marked}
use Rattle.rds_play_world.proofs.world.World.mark_port.Goals as goal

pub returns-clause-told : goal.returns-clause-told
returns-clause-told c = λ limit hosts past told in_range.
    let h = c.args.host in
    let s = state c.args.self.now in
    let x = c.index_mut.result.now in
    let at : x ≡ get_or s.hosts h x = cc in
    let h_in : h < hosts = subst (λ n. h < n) told.count_is c.requires.host in
    let host = told.hosts_are h h_in x at in
    let size : h < length s.hosts = omega (arith, c.requires.host, c.args.self.now.housed, c.args.self.now.hosts.ok.0) in
    tells_marked limit hosts h c.from.result c.args.port c.args.slot past s c.mark.new.self (string_bytes c.mark.new.text) (cc) size told
    (c.in_ok-mark.ensures.told past in_range host) (c.in_ok-mark.ensures.text past in_range host told.text_is)
