use Rattle.std.proofs.Common.{◌≡◌, ◌+◌, ◌<◌, ℕ, suc, Some, IfSome, [], List, ap, ◌∙◌, sym, subst, arith}
use Rattle.std.specs.Prelude.{All}
use Rattle.rds_wire.specs.declared.frame.Frame.{Frame}
use Rattle.rds_model.specs.declared.entry.Msg.{Msg}
use Rattle.rds_model.specs.declared.entry.Verdict.TheVariants as verdict
use Rattle.rds_model.specs.Past.{accepted}
use Rattle.rds_model.specs.Reading.{verdict_of}
use Rattle.rds_conn.specs.Connection.{Connection}
use Rattle.rds_conn.proofs.Costs.{acked_steps}
use Rattle.rds_conn.proofs.KeepsOrders.{takes_message}
use Rattle.rds_conn.proofs.KeepsPassing.{keeps_answered, frees_answered, answer_next, passed_fits, of_some}
use Rattle.rds_conn.proofs.conn.Conn.pass_ping.Goals as goal

pub acknowledge-requires-clause-fits : goal.acknowledge-requires-clause-fits
acknowledge-requires-clause-fits g c = passed_fits c.self.inside c.self.invariant

pub overflow_add-self : goal.overflow_add-self
overflow_add-self g c =
    let spare = ap (λ (v : Connection). v.log.spare) c.self.view_is in
    let takes = takes_message c.self.inside c.self.invariant (omega (arith, spare, c.requires.ready.entries)) in
    omega (arith, takes.fits)

pub accept-requires-clause-few : goal.accept-requires-clause-few
accept-requires-clause-few g c =
    let waiting : c.self.inside.splitter.waiting ≡ Some c.in-Some-done.frame = sym c.done.ensures.frame ∙ c.in-Some-done.is in
    let ping = subst (λ (v : Connection). IfSome v.waiting (λ (f : Frame). verdict_of v.log.past f.header ≡ verdict.Ping)) (sym c.self.view_is) c.requires.waiting in
    let spare = ap (λ (v : Connection). v.log.spare) c.self.view_is in
    (answer_next c.self.inside c.in-Some.stream c.in-Some-done.frame c.acknowledge.new.store c.acknowledge.new.freed c.self.invariant
    (omega (arith, spare, c.requires.ready.entries)) c.in-Some.is waiting
    (of_some (λ (f : Frame). verdict_of c.self.inside.journal.past f.header ≡ verdict.Ping) c.self.inside.splitter.waiting c.in-Some-done.frame waiting ping)
    (record { store_is = c.acknowledge.ensures.store; frees = c.acknowledge.ensures.freed })).few

pub accept-requires-clause-above : goal.accept-requires-clause-above
accept-requires-clause-above g c =
    let waiting : c.self.inside.splitter.waiting ≡ Some c.in-Some-done.frame = sym c.done.ensures.frame ∙ c.in-Some-done.is in
    let ping = subst (λ (v : Connection). IfSome v.waiting (λ (f : Frame). verdict_of v.log.past f.header ≡ verdict.Ping)) (sym c.self.view_is) c.requires.waiting in
    let spare = ap (λ (v : Connection). v.log.spare) c.self.view_is in
    let number : c.self.inside.accepted + 1 ≡ suc (accepted c.self.inside.journal.past) = omega (arith, c.self.invariant.counted.accepted_is) in
    subst (λ n. All (λ (m : Msg). m.num < n) c.acknowledge.new.store.messages) (sym number)
    (answer_next c.self.inside c.in-Some.stream c.in-Some-done.frame c.acknowledge.new.store c.acknowledge.new.freed c.self.invariant
    (omega (arith, spare, c.requires.ready.entries)) c.in-Some.is waiting
    (of_some (λ (f : Frame). verdict_of c.self.inside.journal.past f.header ≡ verdict.Ping) c.self.inside.splitter.waiting c.in-Some-done.frame waiting ping)
    (record { store_is = c.acknowledge.ensures.store; frees = c.acknowledge.ensures.freed })).above

pub invariant_of-self : goal.invariant_of-self
invariant_of-self g c =
    let waiting : c.self.inside.splitter.waiting ≡ Some c.in-Some-done.frame = sym c.done.ensures.frame ∙ c.in-Some-done.is in
    let ping = subst (λ (v : Connection). IfSome v.waiting (λ (f : Frame). verdict_of v.log.past f.header ≡ verdict.Ping)) (sym c.self.view_is) c.requires.waiting in
    let spare = ap (λ (v : Connection). v.log.spare) c.self.view_is in
    let store_spare = ap (λ (v : Connection). v.store_spare) c.self.view_is in
    let empty : c.in-Some-take.pong ≡ [] =
    of_some (λ (bytes : List ℕ). bytes ≡ []) c.self.inside.pong c.in-Some-take.pong (sym c.take.ensures.value ∙ c.in-Some-take.is) c.self.invariant.pong in
    rw (c.accept.ensures.entry, c.accept.ensures.message, c.push.ensures, empty, c.done.ensures.after, c.take.ensures.after, c.after_read-self-inside.ensures)
    (keeps_answered c.self.inside c.in-Some.stream c.in-Some-done.frame c.acknowledge.new.store c.acknowledge.new.freed
    c.self.invariant (omega (arith, spare, c.requires.ready.entries)) (omega (arith, store_spare, c.requires.ready.messages)) c.in-Some.is waiting
    (of_some (λ (f : Frame). verdict_of c.self.inside.journal.past f.header ≡ verdict.Ping) c.self.inside.splitter.waiting c.in-Some-done.frame waiting ping)
    (record { store_is = c.acknowledge.ensures.store; frees = c.acknowledge.ensures.freed }))

pub returns-clause-freed : goal.returns-clause-freed
returns-clause-freed g c =
    let waiting : c.self.inside.splitter.waiting ≡ Some c.in-Some-done.frame = sym c.done.ensures.frame ∙ c.in-Some-done.is in
    let ping = subst (λ (v : Connection). IfSome v.waiting (λ (f : Frame). verdict_of v.log.past f.header ≡ verdict.Ping)) (sym c.self.view_is) c.requires.waiting in
    let empty : c.in-Some-take.pong ≡ [] =
    of_some (λ (bytes : List ℕ). bytes ≡ []) c.self.inside.pong c.in-Some-take.pong (sym c.take.ensures.value ∙ c.in-Some-take.is) c.self.invariant.pong in
    rw (← c.self.view_is, c.accept.ensures.entry, c.push.ensures, empty)
    (λ s within. frees_answered c.self.inside c.in-Some.stream c.in-Some-done.frame c.acknowledge.new.store c.acknowledge.new.freed s
    c.self.invariant within c.in-Some.is waiting
    (of_some (λ (f : Frame). verdict_of c.self.inside.journal.past f.header ≡ verdict.Ping) c.self.inside.splitter.waiting c.in-Some-done.frame waiting ping)
    (record { store_is = c.acknowledge.ensures.store; frees = c.acknowledge.ensures.freed }))

pub returns-clause-few : goal.returns-clause-few
returns-clause-few g c =
    let waiting : c.self.inside.splitter.waiting ≡ Some c.in-Some-done.frame = sym c.done.ensures.frame ∙ c.in-Some-done.is in
    rw (← c.self.view_is) (acked_steps c.self.inside c.in-Some-done.frame c.acknowledge.new.store c.args.steps.now c.acknowledge.new.steps
    c.self.invariant waiting c.acknowledge.ensures.store c.acknowledge.ensures.few)
