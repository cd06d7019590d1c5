use Rattle.std.proofs.Common.{refl, ap}
use Rattle.rds_model.specs.declared.order.Order.TheVariants as order
use Rattle.rds_run_callers.specs.Places.{Vacant, Bound, Ended, Spare}
use Rattle.rds_run_callers.specs.States.{shown}
use Rattle.rds_run_callers.proofs.Asking.{asks_of, cuts_place}
use Rattle.rds_run_callers.proofs.state.State.cut.Goals as goal

pub returns-in-Vacant-clause-done : goal.returns-in-Vacant-clause-done
returns-in-Vacant-clause-done g c =
    let old = c.in-Vacant.vacant in
    let new = c.cut.new.self in
    cuts_place c.args.peer c.args.self.now (Vacant old) (Vacant new) c.told.result
    (asks_of c.args.peer order.Cut old new c.cut.result c.told.result c.told.ensures.allowed c.cut.ensures.put c.cut.ensures.refused c.cut.ensures.same c.cut.ensures.rest)
    (ap shown c.in-Vacant.is) refl

pub returns-in-Bound-clause-done : goal.returns-in-Bound-clause-done
returns-in-Bound-clause-done g c =
    let old = c.in-Bound.tenant in
    let new = c.cut-in-Bound.new.self in
    cuts_place c.args.peer c.args.self.now (Bound old.socket old.got.items) (Bound new.socket new.got.items) c.cut-in-Bound.result c.cut-in-Bound.ensures.done
    (ap shown c.in-Bound.is) (λ i. Bound (c.cut-in-Bound.ensures.rest i) (ap (λ v. v.items) c.cut-in-Bound.ensures.got i))

pub returns-in-Ended-clause-done : goal.returns-in-Ended-clause-done
returns-in-Ended-clause-done g c =
    let old = c.in-Ended.former in
    let new = c.cut-in-Ended.new.self in
    cuts_place c.args.peer c.args.self.now (Ended old.port old.closed old.got.items) (Ended new.port new.closed new.got.items) c.cut-in-Ended.result c.cut-in-Ended.ensures.done
    (ap shown c.in-Ended.is) (λ i. Ended (c.cut-in-Ended.ensures.port i) new.closed (ap (λ v. v.items) c.cut-in-Ended.ensures.got i))

pub returns-in-Spare-clause-done : goal.returns-in-Spare-clause-done
returns-in-Spare-clause-done g c =
    let old = c.in-Spare.spare in
    let new = c.cut-in-Spare.new.self in
    cuts_place c.args.peer c.args.self.now (Spare old.closed) (Spare new.closed) c.cut-in-Spare.result c.cut-in-Spare.ensures.done
    (ap shown c.in-Spare.is) refl
