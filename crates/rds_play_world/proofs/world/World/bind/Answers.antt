use Rattle.std.proofs.Common.{◌≡◌, ℕ, ◌<◌, Option, None, Ok, List, ◌∷◌, get_or, ap, subst}
use Rattle.std.specs.Prelude.{codes}
use Rattle.rds_history.specs.Bind.{bind, bind_refusal}
use Rattle.rds_history.specs.Courses.{Course, or_refuses}
use Rattle.rds_history.specs.Events.{Event, Bound}
use Rattle.rds_text.specs.Refusals.{socket_refused_line}
use Rattle.rds_history.specs.Sockets.{next_slot}
use Rattle.rds_play_world.specs.Coming.{Comes}
use Rattle.rds_play_world.specs.Telling.{none_waits, state}
use Rattle.rds_play_world.proofs.Comings.{comes_made}
use Rattle.rds_play_world.proofs.world.World.bind.Goals as goal

bind_is : (h port sndbuf rcvbuf : ℕ) (past : List Event) → None ≡ bind_refusal h port past →
    Ok (Bound h port (next_slot h past) sndbuf rcvbuf ∷ past) ≡ bind h port sndbuf rcvbuf past
bind_is h port sndbuf rcvbuf past none =
    ap (λ (r : Option (List ℕ)). or_refuses r (socket_refused_line (codes "bind") h port) (λ (before : List Event). Ok (Bound h port (next_slot h before) sndbuf rcvbuf ∷ before)) past) none

pub returns-in-None-clause-course : goal.returns-in-None-clause-course
returns-in-None-clause-course c = λ limit hosts past told.
    let h = c.args.host in
    let x = c.index.result.now in
    let at : x ≡ get_or c.args.self.now.hosts.items h x = cc in
    let h_in : h < hosts = subst (λ n. h < n) told.count_is c.requires.host in
    let none = c.in-None.ensures.why h past (told.hosts_are h h_in x at) in
    subst (λ (course : Course). Comes {A = Unit {0}} limit hosts course c.add_socket.result (state c.add_socket.new.self))
    (bind_is h c.args.port c.args.sndbuf c.args.rcvbuf past none)
    (comes_made (Unit {0}) none_waits limit hosts (Bound h c.args.port (next_slot h past) c.args.sndbuf c.args.rcvbuf ∷ past) c.add_socket.result
    (state c.add_socket.new.self) (c.add_socket.ensures.bound limit hosts past told) c.add_socket.ensures.stop)
