use Rattle.std.proofs.Common.{◌≡◌, ◌<◌, ◌∷◌, get_or, length, ◌∙◌, subst, arith}
use Rattle.std.specs.Prelude.{string_bytes}
use Rattle.rds_history.specs.Events.{Received}
use Rattle.rds_play_world.specs.Telling.{none_waits, state}
use Rattle.rds_play_world.proofs.OneHost.{of_nothing, of_received, tells_host}
use Rattle.rds_play_world.proofs.world.World.hand_out.Goals as goal

pub returns-clause-none : goal.returns-clause-none
returns-clause-none c = λ limit hosts past in_range told empty.
    let h = c.args.host in
    let s = state c.args.self.now in
    let x = c.index_mut.result.now in
    let at : x ≡ get_or s.hosts h x = cc in
    let h_in : h < hosts = subst (λ n. h < n) told.count_is c.requires.host in
    let host = told.hosts_are h h_in x at in
    let size : h < length s.hosts = omega (arith, c.requires.host, c.args.self.now.housed, c.args.self.now.hosts.ok.0) in
    let out = c.in_ok-some.ensures.none past in_range host empty in (
      out.0,
      tells_host none_waits limit hosts h c.from.result past past s c.hand_out.new.self (string_bytes c.hand_out.new.text) (cc) size
          (of_nothing h past) told out.1 (c.in_ok-some.ensures.none_text past in_range host empty ∙ told.text_is),
    )

pub returns-clause-some : goal.returns-clause-some
returns-clause-some c = λ limit hosts past in_range told d waiting is.
    let h = c.args.host in
    let s = state c.args.self.now in
    let x = c.index_mut.result.now in
    let at : x ≡ get_or s.hosts h x = cc in
    let h_in : h < hosts = subst (λ n. h < n) told.count_is c.requires.host in
    let host = told.hosts_are h h_in x at in
    let size : h < length s.hosts = omega (arith, c.requires.host, c.args.self.now.housed, c.args.self.now.hosts.ok.0) in
    let out = c.in_ok-some.ensures.some past d waiting in_range host is in (
      out.0,
      tells_host none_waits limit hosts h c.from.result past (Received h c.args.port c.args.slot d ∷ past) s c.hand_out.new.self (string_bytes c.hand_out.new.text) (cc) size
          (of_received h c.args.port c.args.slot d past) told out.1 (c.in_ok-some.ensures.some_text past d waiting in_range host is told.text_is),
    )
