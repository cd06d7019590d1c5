use Rattle.std.proofs.Common.{ℕ, Some, sym, ap, subst, refl, ◌∙◌}
use Rattle.rds_fmap.specs.Readers.{ReaderView}
use Rattle.rds_socket_parts.specs.Ports.{HasClaimedOnly}
use Rattle.rds_socket.specs.Holding.{Holding, Open}
use Rattle.rds_run_callers.proofs.Claiming.{claims_same, claims_of, claims_closed}
use Rattle.rds_run_callers.proofs.tenant.Tenant.close.Goals as goal

pub new-requires-clause-claimed : goal.new-requires-clause-claimed
new-requires-clause-claimed g c =
    claims_of c.port-port.result c.args.self.socket.port c.in-Ok.closed c.in-Ok.closed refl (sym c.port-port.ensures)
    (claims_closed c.args.self.socket c.in-Ok.closed c.in-Ok.ensures.closed c.known.ensures.held.claimed)

pub new-requires-in-Err-clause-claimed : goal.new-requires-in-Err-clause-claimed
new-requires-in-Err-clause-claimed g c =
    claims_same (Some c.port-port.result) c.args.self.socket.own c.finish.result
    (ap (λ (h : Holding ReaderView). h.ports) c.finish.ensures ∙ ap (λ (o : Open ReaderView). o.own.ports) c.in-Err.ensures.closing.3)
    (subst (λ (q : ℕ). HasClaimedOnly (Some q) c.args.self.socket.own.ports.view) (sym c.port-port.ensures) c.known.ensures.held.claimed)
