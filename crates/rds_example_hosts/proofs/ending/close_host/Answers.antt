use Rattle.std.proofs.Common.{List, [], ◌∷◌, subst, sym}
use Rattle.rds_fmap.specs.Readers.{ReaderView}
use Rattle.rds_socket.specs.Holding.{Holding}
use Rattle.rds_host.specs.Keeping.{SlotsKeep}
use Rattle.rds_example_hosts.proofs.Keeping.{alone_keeps, tied_on}
use Rattle.rds_example_hosts.proofs.ending.close_host.Goals as goal

pub settled-requires-clause-tied : goal.settled-requires-clause-tied
settled-requires-clause-tied g c =
    let slots = c.args.host.socket.own ∷ [] in
    let lines = c.args.host.lines.items in
    let keeps =
    subst (λ (l : List (Holding ReaderView)). SlotsKeep slots l) (sym c.in_ok-closed.ensures.items)
    (alone_keeps c.args.host.socket.own c.in_ok-close.field-0 c.in_ok-close.ensures.slot) in
    tied_on c.host_keeps.ensures.host c.host_keeps.ensures.passes slots c.in_ok-closed.closed.items lines lines c.requires.tied keeps
    (c.lines_keep.ensures.same lines)
