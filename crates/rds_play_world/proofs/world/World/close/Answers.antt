use Rattle.std.proofs.Common.{◌≡◌, ℕ, ◌<◌, Option, Some, None, Ok, get_or, subst}
use Rattle.std.specs.Prelude.{codes}
use Rattle.std.specs.Option.{option_map_or}
use Rattle.rds_model.specs.declared.entry.Entry.TheVariants.{Cancel}
use Rattle.rds_model.specs.declared.entry.Target.TheVariants.{All}
use Rattle.rds_text.specs.Refusals.{no_socket, socket_refused_line}
use Rattle.rds_history.specs.Cancel.{unbind}
use Rattle.rds_history.specs.Courses.{and_then, appends, each, prints}
use Rattle.rds_history.specs.Journals.{peers}
use Rattle.rds_history.specs.Sockets.{holder}
use Rattle.rds_play_world.specs.Coming.{Comes}
use Rattle.rds_play_world.specs.Telling.{state}
use Rattle.rds_play_world.proofs.world.World.close.Goals as goal

pub returns-in-Some-clause-course : goal.returns-in-Some-clause-course
returns-in-Some-clause-course c = λ limit hosts past told.
    let h = c.args.host in
    let port = c.args.port in
    let x = c.index.result.now in
    let at : x ≡ get_or c.args.self.now.hosts.items h x = cc in
    let host = told.hosts_are h (subst (λ n. h < n) told.count_is c.requires.host) x at in
    let held : Some c.in-Some.slot ≡ holder h port past = c.in-Some.ensures.holder h past host in
    subst (λ (o : Option ℕ). Comes {A = Unit {0}} limit hosts (option_map_or (λ slot. and_then (each (peers hosts h) (λ k. appends limit h k (Cancel slot All)) past) (λ later. Ok (unbind h port slot later)))
    o (prints (socket_refused_line (codes "close") h port no_socket) past)) c.close_slot.result (state c.close_slot.new.self)) held
    (c.close_slot.ensures.course limit hosts past told (c.in-Some.ensures.bound h past host))

pub returns-in-None-clause-course : goal.returns-in-None-clause-course
returns-in-None-clause-course c = λ limit hosts past told.
    let h = c.args.host in
    let port = c.args.port in
    let x = c.index.result.now in
    let at : x ≡ get_or c.args.self.now.hosts.items h x = cc in
    let host = told.hosts_are h (subst (λ n. h < n) told.count_is c.requires.host) x at in
    let held : None ≡ holder h port past = c.in-None.ensures.holder h past host in
    subst (λ (o : Option ℕ). Comes {A = Unit {0}} limit hosts (option_map_or (λ slot. and_then (each (peers hosts h) (λ k. appends limit h k (Cancel slot All)) past) (λ later. Ok (unbind h port slot later)))
    o (prints (socket_refused_line (codes "close") h port no_socket) past)) c.refuse_socket.result (state c.refuse_socket.new.self)) held
    (c.refuse_socket.ensures.course limit hosts past told)
