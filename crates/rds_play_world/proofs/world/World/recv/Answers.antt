use Rattle.std.proofs.Common.{◌≡◌, ℕ, ◌<◌, Option, Some, Ok, ◌∷◌, get_or, refl, subst}
use Rattle.std.specs.Prelude.{string_bytes, codes}
use Rattle.std.specs.Option.{option_map_or}
use Rattle.rds_text.specs.Refusals.{no_socket, socket_refused_line}
use Rattle.rds_history.specs.Courses.{prints}
use Rattle.rds_history.specs.Events.{Received}
use Rattle.rds_history.specs.Mark.{update_mark}
use Rattle.rds_history.specs.Recv.{hand_out}
use Rattle.rds_history.specs.Sockets.{holder, queue, next_slot}
use Rattle.rds_play_world.specs.Coming.{Comes}
use Rattle.rds_play_world.specs.Telling.{none_waits, state}
use Rattle.rds_play_world.proofs.Comings.{comes_made}
use Rattle.rds_play_world.proofs.Receiving.{received_some, received_none}
use Rattle.rds_play_world.proofs.world.World.recv.Goals as goal

pub returns-then-branch-clause-course : goal.returns-then-branch-clause-course
returns-then-branch-clause-course c = λ limit hosts past told.
    let h = c.args.host in
    let port = c.args.port in
    let slot = c.in-Some.slot in
    let s = state c.args.self.now in
    let x = c.index.result.now in
    let at : x ≡ get_or s.hosts h x = cc in
    let h_in : h < hosts = subst (λ n. h < n) told.count_is c.requires.host in
    let host = told.hosts_are h h_in x at in
    let held : Some slot ≡ holder h port past = c.in-Some.ensures.holder h past host in
    let in_range : slot < next_slot h past = c.in-Some.ensures.bound h past host in
    subst (λ (o : Option ℕ). Comes {A = Unit {0}} limit hosts (option_map_or (λ slot. hand_out (queue h slot past) h port slot past) o (prints (socket_refused_line (codes "recv") h port no_socket) past)) c.mark.result (state c.mark.new.self)) held
    (received_some limit hosts h port slot past (queue h slot past) c.in_ok-hand_out.field-0 c.mark.result (state c.hand_out.new.self) (state c.mark.new.self)
    c.if-branch.true refl (c.in_ok-hand_out.ensures.none limit hosts past in_range told) (c.in_ok-hand_out.ensures.some limit hosts past in_range told)
    (λ d told_later. comes_made (Unit {0}) none_waits limit hosts (update_mark h port slot (Received h port slot d ∷ past)) c.mark.result (state c.mark.new.self)
    (c.mark.ensures.marked limit hosts (Received h port slot d ∷ past) in_range told_later) c.mark.ensures.stop))

pub returns-clause-course : goal.returns-clause-course
returns-clause-course c = λ limit hosts past told.
    let h = c.args.host in
    let port = c.args.port in
    let slot = c.in-Some.slot in
    let s = state c.args.self.now in
    let x = c.index.result.now in
    let at : x ≡ get_or s.hosts h x = cc in
    let h_in : h < hosts = subst (λ n. h < n) told.count_is c.requires.host in
    let host = told.hosts_are h h_in x at in
    let held : Some slot ≡ holder h port past = c.in-Some.ensures.holder h past host in
    let in_range : slot < next_slot h past = c.in-Some.ensures.bound h past host in
    subst (λ (o : Option ℕ). Comes {A = Unit {0}} limit hosts (option_map_or (λ slot. hand_out (queue h slot past) h port slot past) o (prints (socket_refused_line (codes "recv") h port no_socket) past)) (Ok tt) (record (state c.hand_out.new.self) { text = string_bytes c.recv_none_line.new.text })) held
    (received_none limit hosts h port slot past (queue h slot past) c.in_ok-hand_out.field-0 (state c.hand_out.new.self) (string_bytes c.recv_none_line.new.text)
    c.if-branch.false refl (c.in_ok-hand_out.ensures.none limit hosts past in_range told) (c.in_ok-hand_out.ensures.some limit hosts past in_range told)
    c.in_ok-recv_none_line.ensures)
