use Rattle.std.proofs.Common.{Some, ap, rules, ◌∙◌}
use Rattle.rds_fmap.specs.Readers.{ReaderView}
use Rattle.rds_socket.specs.Holding.{Holding}
use Rattle.rds_run_callers.proofs.Claiming.{claims_of}
use Rattle.rds_run_callers.proofs.tenant.Tenant.end.Goals as goal

pub returns-clause-empty : goal.returns-clause-empty
returns-clause-empty g c = search rules

pub returns-clause-name : goal.returns-clause-name
returns-clause-name g c = search rules

pub returns-clause-claimed : goal.returns-clause-claimed
returns-clause-claimed g c =
    let now = c.receive_all.new.self.socket in
    claims_of c.args.self.socket.port now.port now.own c.finish.result c.finish.ensures c.receive_all.ensures.port c.known.ensures.held.claimed

pub returns-clause-holds : goal.returns-clause-holds
returns-clause-holds g c =
    ap (λ (h : Holding ReaderView). h.ports.view.port) c.finish.ensures ∙ (c.known.ensures.port ∙ ap Some c.receive_all.ensures.port)
