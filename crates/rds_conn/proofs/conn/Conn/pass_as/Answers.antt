use Rattle.std.proofs.Common.{◌≡◌, Some, IfSome, ap, ◌∙◌, sym, subst, arith}
use Rattle.rds_wire.specs.declared.frame.Frame.{Frame}
use Rattle.rds_model.specs.Reading.{verdict_of, Obeys}
use Rattle.rds_conn.specs.Connection.{Connection}
use Rattle.rds_conn.proofs.Costs.{acked_steps}
use Rattle.rds_conn.proofs.KeepsPassing.{keeps_passed, frees_passed, passed_fits, of_some}
use Rattle.rds_conn.proofs.conn.Conn.pass_as.Goals as goal

pub acknowledge-requires-clause-fits : goal.acknowledge-requires-clause-fits
acknowledge-requires-clause-fits g c = passed_fits c.self.inside c.self.invariant

pub invariant_of-self : goal.invariant_of-self
invariant_of-self g c =
    let waiting : c.self.inside.splitter.waiting ≡ Some c.in-Some-done.frame = sym c.done.ensures.frame ∙ c.in-Some-done.is in
    let lawful = subst (λ (v : Connection). IfSome v.waiting (λ (f : Frame). Obeys (verdict_of v.log.past f.header) c.args.outcome)) (sym c.self.view_is) c.requires.lawful in
    let spare = ap (λ (v : Connection). v.log.spare) c.self.view_is in
    rw (c.push.ensures, c.done.ensures.after, c.passed_after-self-inside.ensures, c.after_read-self-inside.ensures)
    (keeps_passed c.self.inside c.in-Some.stream c.in-Some-done.frame c.args.outcome c.acknowledge.new.store c.acknowledge.new.freed
    c.self.invariant (omega (arith, spare, c.requires.ready.entries)) c.in-Some.is waiting
    (of_some (λ (f : Frame). Obeys (verdict_of c.self.inside.journal.past f.header) c.args.outcome) c.self.inside.splitter.waiting c.in-Some-done.frame waiting lawful)
    c.requires.no_pong (record { store_is = c.acknowledge.ensures.store; frees = c.acknowledge.ensures.freed }))

pub returns-clause-freed : goal.returns-clause-freed
returns-clause-freed g c =
    rw (← c.self.view_is, c.push.ensures)
    (λ s within. frees_passed c.self.inside c.in-Some.stream c.in-Some-done.frame c.args.outcome c.acknowledge.new.store c.acknowledge.new.freed s
    c.self.invariant within (record { store_is = c.acknowledge.ensures.store; frees = c.acknowledge.ensures.freed }))

pub returns-clause-few : goal.returns-clause-few
returns-clause-few g c =
    let waiting : c.self.inside.splitter.waiting ≡ Some c.in-Some-done.frame = sym c.done.ensures.frame ∙ c.in-Some-done.is in
    rw (← c.self.view_is) (acked_steps c.self.inside c.in-Some-done.frame c.acknowledge.new.store c.args.steps.now c.acknowledge.new.steps
    c.self.invariant waiting c.acknowledge.ensures.store c.acknowledge.ensures.few)
