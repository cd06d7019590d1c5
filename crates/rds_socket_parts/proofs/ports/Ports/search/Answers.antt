use Rattle.std.proofs.Common.{◌∙◌, sym}
use Rattle.rds_socket_parts.specs.Ports.{first_port}
use Rattle.rds_socket_parts.proofs.Claims.{search_more}
use Rattle.rds_socket_parts.proofs.ports.Ports.search.Goals as goal

pub loop-preserved : goal.loop-preserved
loop-preserved c =
    let at = c.loop.invariant in
    search_more c.args.self.now c.loop.self c.claim.new.self (first_port c.args.start) c.loop.counter c.loop.port c.next_port-port.result at.0 c.claim.result
    at.1 at.2 at.3 at.4 at.5 c.claim.ensures.answer (sym c.is_ok.ensures.value ∙ c.if-is_ok.false) c.claim.ensures.seat c.next_port-port.ensures
