use Rattle.std.proofs.Common.{◌≡◌, ℕ, Option, Some, None, List, length, subst}
use Rattle.rds_model.specs.declared.entry.Entry.TheVariants.{Accept}
use Rattle.rds_text.specs.Refusals.{refusal_text, send_refused_line}
use Rattle.rds_history.specs.Courses.{appends, or_refuses}
use Rattle.rds_history.specs.Send.{send_refusal}
use Rattle.rds_play_world.specs.Coming.{Comes}
use Rattle.rds_play_world.specs.Telling.{state}
use Rattle.rds_play_world.proofs.world.World.send_from.Goals as goal

pub returns-in-Some-clause-course : goal.returns-in-Some-clause-course
returns-in-Some-clause-course c = λ limit hosts past told bound.
    let h = c.args.host in
    let port = c.args.port in
    let slot = c.args.slot in
    let k = c.args.to in
    let dport = c.args.dport in
    let why : Some (refusal_text c.in-Some.why) ≡ send_refusal hosts h slot k dport (length c.args.payload.now) past =
    subst (λ (n : ℕ). Some (refusal_text c.in-Some.why) ≡ send_refusal hosts h slot k dport n past) c.len.ensures.len (c.in-Some.ensures.why limit hosts past told bound) in
    subst (λ (o : Option (List ℕ)). Comes {A = Unit {0}} limit hosts (or_refuses o (send_refused_line h port k dport) (appends limit h k (Accept slot port dport c.args.payload.now)) past)
    c.refuse_send.result (state c.refuse_send.new.self)) why
    (c.refuse_send.ensures.course limit hosts past told)

pub returns-in-None-clause-course : goal.returns-in-None-clause-course
returns-in-None-clause-course c = λ limit hosts past told bound.
    let h = c.args.host in
    let port = c.args.port in
    let slot = c.args.slot in
    let k = c.args.to in
    let dport = c.args.dport in
    let why : None ≡ send_refusal hosts h slot k dport (length c.args.payload.now) past =
    subst (λ (n : ℕ). None ≡ send_refusal hosts h slot k dport n past) c.len.ensures.len (c.in-None.ensures.why limit hosts past told bound) in
    subst (λ (o : Option (List ℕ)). Comes {A = Unit {0}} limit hosts (or_refuses o (send_refused_line h port k dport) (appends limit h k (Accept slot port dport c.args.payload.now)) past)
    c.accept_from.result (state c.accept_from.new.self)) why
    (c.accept_from.ensures.course limit hosts past told)
