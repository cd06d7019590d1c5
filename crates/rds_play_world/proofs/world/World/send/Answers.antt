use Rattle.std.proofs.Common.{◌≡◌, ℕ, ◌<◌, ◌∙◌, Option, Some, None, length, get_or, subst}
use Rattle.std.specs.Option.{option_map_or}
use Rattle.rds_model.specs.declared.entry.Entry.TheVariants.{Accept}
use Rattle.rds_text.specs.Refusals.{no_socket, send_refused_line}
use Rattle.rds_history.specs.Courses.{appends, or_refuses, prints}
use Rattle.rds_history.specs.Send.{send_refusal}
use Rattle.rds_history.specs.Sockets.{holder}
use Rattle.rds_play_world.specs.Coming.{Comes}
use Rattle.rds_play_world.specs.Telling.{state}
use Rattle.rds_play_world.proofs.Sending.{has_slots}
use Rattle.rds_play_world.proofs.world.World.send.Goals as goal

pub send_from-requires-clause-slots : goal.send_from-requires-clause-slots
send_from-requires-clause-slots c =
    let t = c.requires.telling in
    has_slots t.0 t.1 t.2 (state c.args.self.now) (c.args.self.now.meshed ∙ t.3.count_is) t.3

pub returns-in-Some-clause-course : goal.returns-in-Some-clause-course
returns-in-Some-clause-course c = λ limit hosts past told.
    let h = c.args.host in
    let port = c.args.port in
    let k = c.args.to in
    let x = c.index.result.now in
    let at : x ≡ get_or c.args.self.now.hosts.items h x = cc in
    let host = told.hosts_are h (subst (λ n. h < n) told.count_is c.requires.host) x at in
    let held : Some c.in-Some.slot ≡ holder h port past = c.in-Some.ensures.holder h past host in
    subst (λ (o : Option ℕ). Comes {A = Unit {0}} limit hosts (option_map_or (λ slot. or_refuses (send_refusal hosts h slot k c.args.dport (length c.args.payload.now) past) (send_refused_line h port k c.args.dport)
    (appends limit h k (Accept slot port c.args.dport c.args.payload.now)) past) o (prints (send_refused_line h port k c.args.dport no_socket) past)) c.send_from.result (state c.send_from.new.self)) held
    (c.send_from.ensures.course limit hosts past told (c.in-Some.ensures.bound h past host))

pub returns-in-None-clause-course : goal.returns-in-None-clause-course
returns-in-None-clause-course c = λ limit hosts past told.
    let h = c.args.host in
    let port = c.args.port in
    let k = c.args.to in
    let x = c.index.result.now in
    let at : x ≡ get_or c.args.self.now.hosts.items h x = cc in
    let host = told.hosts_are h (subst (λ n. h < n) told.count_is c.requires.host) x at in
    let held : None ≡ holder h port past = c.in-None.ensures.holder h past host in
    subst (λ (o : Option ℕ). Comes {A = Unit {0}} limit hosts (option_map_or (λ slot. or_refuses (send_refusal hosts h slot k c.args.dport (length c.args.payload.now) past) (send_refused_line h port k c.args.dport)
    (appends limit h k (Accept slot port c.args.dport c.args.payload.now)) past) o (prints (send_refused_line h port k c.args.dport no_socket) past)) c.refuse_send.result (state c.refuse_send.new.self)) held
    (c.refuse_send.ensures.course limit hosts past told)
