use Rattle.std.proofs.Common.{[], ◌∷◌, ◌∙◌}
use Rattle.std.proofs.lemmas.Result.{IfOk-at_ok}
use Rattle.rds_fmap.specs.Readers.{ReaderView}
use Rattle.rds_socket.specs.Holding.{Open}
use Rattle.rds_example_hosts.specs.Hosts.{SocketKeeps}
use Rattle.rds_example_hosts.proofs.Keeping.{alone_keeps, tied_on}
use Rattle.rds_example_hosts.proofs.working.run.Goals as goal

pub returns-clause-a : goal.returns-clause-a
returns-clause-a g c =
    let old = c.args.a.socket in
    let new = c.in_ok-a.a in
    let lines = c.args.a.lines.items in
    let after = c.run_beside-talked.result.1.0.items in
    let keeps : SocketKeeps old new = IfOk-at_ok (λ (s : Open ReaderView × Open ReaderView). SocketKeeps old s.0) c.in_ok-a.was c.run_beside-talked.ensures.a in
    record {
      untold = keeps.told ∙ c.requires.a.untold;
      tied = tied_on c.host_keeps.ensures.host c.host_keeps.ensures.passes (old.own ∷ []) (new.own ∷ []) lines after c.requires.a.tied
          (alone_keeps old.own new.own keeps.slot) (c.turned_keeps.ensures lines after c.run_beside-talked.ensures.lines_a);
    }

pub returns-clause-b : goal.returns-clause-b
returns-clause-b g c =
    let old = c.args.b.socket in
    let new = c.in_ok-a.b in
    let lines = c.args.b.lines.items in
    let after = c.run_beside-talked.result.1.1.items in
    let keeps : SocketKeeps old new = IfOk-at_ok (λ (s : Open ReaderView × Open ReaderView). SocketKeeps old s.1) c.in_ok-a.was c.run_beside-talked.ensures.b in
    record {
      untold = keeps.told ∙ c.requires.b.untold;
      tied = tied_on c.host_keeps.ensures.host c.host_keeps.ensures.passes (old.own ∷ []) (new.own ∷ []) lines after c.requires.b.tied
          (alone_keeps old.own new.own keeps.slot) (c.turned_keeps.ensures lines after c.run_beside-talked.ensures.lines_b);
    }
