use Rattle.std.proofs.Common.{◌≡◌, ap, subst, sym, ◌∙◌}
use Rattle.std.proofs.lemmas.Option.{same_Some}
use Rattle.rds_run_callers.specs.Ends.{IsEndOf}
use Rattle.rds_run_callers.specs.Places.{Place, Vacant, Bound, Ended, Spare, holding_of}
use Rattle.rds_run_callers.specs.States.{shown}
use Rattle.rds_run_callers.proofs.Claiming.{open_with, port_shown, unheld}
use Rattle.rds_run_callers.proofs.Keeping.{ends_same}
use Rattle.rds_run_callers.proofs.state.State.end.Goals as goal

pub returns-in-Vacant-clause-ports : goal.returns-in-Vacant-clause-ports
returns-in-Vacant-clause-ports g c =
    let p = Vacant c.in-Vacant.vacant in
    port_shown c.args.self p c.end.result (ap shown c.in-Vacant.is) (unheld p c.end.result (λ port is. cc) c.end.ensures.claimed)

pub returns-in_ok-kept-in-Bound-clause-ports : goal.returns-in_ok-kept-in-Bound-clause-ports
returns-in_ok-kept-in-Bound-clause-ports g c =
    let tenant = c.in-Bound.tenant in
    let ended = c.in_ok-kept-in-Bound in
    port_shown c.args.self (Bound tenant.socket tenant.got.items) ended.closed (ap shown c.in-Bound.is)
    (open_with tenant.socket tenant.got.items ended.closed ended.ensures.claimed ended.ensures.holds)

pub returns-in_ok-kept-in-Ended-clause-ports : goal.returns-in_ok-kept-in-Ended-clause-ports
returns-in_ok-kept-in-Ended-clause-ports g c =
    let former = c.in-Ended.former in
    let p = Ended former.port former.closed former.got.items in
    let ended = c.in_ok-kept-in-Ended in
    port_shown c.args.self p ended.closed (ap shown c.in-Ended.is) (unheld p ended.closed (λ port is. cc) ended.ensures.claimed)

pub returns-in-Spare-clause-ports : goal.returns-in-Spare-clause-ports
returns-in-Spare-clause-ports g c =
    let p = Spare c.in-Spare.spare.closed in
    port_shown c.args.self p c.end-in-Spare.result (ap shown c.in-Spare.is) (unheld p c.end-in-Spare.result (λ port is. cc) c.end-in-Spare.ensures.claimed)

pub returns-in-Vacant-clause-ends : goal.returns-in-Vacant-clause-ends
returns-in-Vacant-clause-ends g c p is =
    let vacant = c.in-Vacant.vacant in
    let same : Vacant vacant ≡ p = same_Some (Vacant vacant) p (sym (ap shown c.in-Vacant.is) ∙ is) in
    subst (λ (q : Place). IsEndOf (holding_of q) c.end.result) same
    (subst (IsEndOf vacant) (sym (c.end.ensures.closed ∙ c.new.ensures)) (ends_same vacant))
