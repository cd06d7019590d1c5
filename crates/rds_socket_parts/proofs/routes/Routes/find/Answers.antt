use Rattle.rds_socket_parts.proofs.Finding.{found}
use Rattle.rds_socket_parts.proofs.routes.Routes.find.Goals as goal

pub returns-clause-found : goal.returns-clause-found
returns-clause-found g c = found c.args.peer c.args.self.now _ c.position_of.ensures.place
