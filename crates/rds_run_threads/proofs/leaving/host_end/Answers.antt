use Rattle.std.proofs.Common.{IfOk, subst}
use Rattle.rds_run_threads.specs.Settled.{HasEnded}
use Rattle.rds_run_threads.proofs.Left.{gathered}
use Rattle.rds_run_threads.proofs.leaving.host_end.Goals as goal

pub gather-requires-clause-host : goal.gather-requires-clause-host
gather-requires-clause-host g c =
    let ended = subst (λ s. IfOk s (HasEnded c.requires.0)) c.in-Ok.is c.requires.2 in
    c.tied_ends.ensures.host c.requires.0 c.in-Ok.closed.items c.args.lines.items c.requires.1 ended.slots

pub gather-requires-clause-passes : goal.gather-requires-clause-passes
gather-requires-clause-passes g c =
    let ended = subst (λ s. IfOk s (HasEnded c.requires.0)) c.in-Ok.is c.requires.2 in
    c.tied_ends.ensures.passes c.requires.0 c.in-Ok.closed.items c.args.lines.items c.requires.1 ended.slots

-- refused where a socket's datagrams are left out, and where a slot's mailbox isn't told of them
pub returns-clause-left : goal.returns-clause-left
returns-clause-left g c = λ host places told at settled heard ended.
    let lines = c.args.lines.items in
    let has = subst (λ s. IfOk s (HasEnded told)) c.in-Ok.is ended in
    let boxes = c.tied_ends.ensures.told told c.in-Ok.closed.items lines heard.told has.slots in
    let ensures = c.gather.ensures in
    gathered host c.args.addr places told (c.in-Ok.kept, c.in-Ok.closed) lines c.gather.result at settled heard has boxes ensures.addr
    ensures.journals ensures.kept ensures.joined ensures.looks ensures.owned ensures.found ensures.grounded ensures.cut
