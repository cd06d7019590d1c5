use Rattle.std.proofs.Common.{◌≡◌, ◌<◌, get_or, length, subst, arith}
use Rattle.std.specs.Prelude.{string_bytes}
use Rattle.rds_history.specs.Mark.{update_mark}
use Rattle.rds_play_world.specs.Telling.{none_waits, state}
use Rattle.rds_play_world.proofs.OneHost.{of_mark, tells_host}
use Rattle.rds_play_world.proofs.world.World.mark.Goals as goal

pub returns-clause-marked : goal.returns-clause-marked
returns-clause-marked c = λ limit hosts past in_range told.
    let h = c.args.host in
    let slot = c.args.slot in
    let s = state c.args.self.now in
    let x = c.index_mut.result.now in
    let at : x ≡ get_or s.hosts h x = cc in
    let h_in : h < hosts = subst (λ n. h < n) told.count_is c.requires.host in
    let host = told.hosts_are h h_in x at in
    let size : h < length s.hosts = omega (arith, c.requires.host, c.args.self.now.housed, c.args.self.now.hosts.ok.0) in
    tells_host none_waits limit hosts h c.from.result past (update_mark h c.args.port slot past) s c.mark.new.self (string_bytes c.mark.new.text) (cc) size
    (of_mark h c.args.port slot past) told (c.in_ok-mark.ensures.told past in_range host) (c.in_ok-mark.ensures.text past in_range host told.text_is)
