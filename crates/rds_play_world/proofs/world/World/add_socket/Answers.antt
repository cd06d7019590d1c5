use Rattle.std.proofs.Common.{◌≡◌, ◌<◌, List, ℕ, ◌∷◌, ◌++◌, get_or, length, ◌∙◌, ap, subst, arith}
use Rattle.std.specs.Prelude.{string_bytes}
use Rattle.rds_text.specs.Lines.{bind_line}
use Rattle.rds_history.specs.Events.{Bound}
use Rattle.rds_history.specs.Sockets.{next_slot}
use Rattle.rds_history.specs.Transcript.{lines}
use Rattle.rds_play_world.specs.Telling.{none_waits, state}
use Rattle.rds_play_world.proofs.OneHost.{of_bound, tells_host}
use Rattle.rds_play_world.proofs.world.World.add_socket.Goals as goal

pub returns-clause-bound : goal.returns-clause-bound
returns-clause-bound c = λ limit hosts past told.
    let h = c.args.host in
    let port = c.args.port in
    let s = state c.args.self.now in
    let x = c.index_mut.result.now in
    let at : x ≡ get_or s.hosts h x = cc in
    let h_in : h < hosts = subst (λ n. h < n) told.count_is c.requires.host in
    let host = told.hosts_are h h_in x at in
    let size : h < length s.hosts = omega (arith, c.requires.host, c.args.self.now.housed, c.args.self.now.hosts.ok.0) in
    let text : string_bytes c.bind_line.new.text ≡ lines past ++ bind_line h port (next_slot h past) =
    c.in_ok-bind_line.ensures ∙ ap (λ (l : List ℕ). l ++ bind_line h port c.in_ok-slot.slot) told.text_is
    ∙ ap (λ i. lines past ++ bind_line h port i) (c.in_ok-slot.ensures.slot h past host) in
    tells_host none_waits limit hosts h c.from.result past (Bound h port (next_slot h past) c.args.sndbuf c.args.rcvbuf ∷ past) s c.add.new.self (string_bytes c.bind_line.new.text) (cc) size
    (of_bound h port (next_slot h past) c.args.sndbuf c.args.rcvbuf past) told (c.in_ok-slot.ensures.told h past host) text
