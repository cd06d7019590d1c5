use Rattle.std.proofs.Common.{List, ◌++◌, drop, length, take, subst, sym, ◌∙◌}
use Rattle.rds_fmap.specs.Readers.{ReaderView}
use Rattle.rds_socket.specs.Holding.{Holding}
use Rattle.rds_host.specs.Keeping.{SlotsKeep}
use Rattle.rds_example_hosts.proofs.Keeping.{back, boxes_of, moved, none_of, routes_of, tied_on}
use Rattle.rds_example_hosts.proofs.ending.settled.Goals as goal

pub settle-requires-clause-host : goal.settle-requires-clause-host
settle-requires-clause-host g c =
    (moved c.args.closed.items c.deref_mut.result.now c.args.lines.items c.deref_mut-2.result.now c.deref_mut.ensures.value c.deref_mut-2.ensures.value c.requires.tied).host

pub settle-requires-clause-routes : goal.settle-requires-clause-routes
settle-requires-clause-routes g c =
    let tied = moved c.args.closed.items c.deref_mut.result.now c.args.lines.items c.deref_mut-2.result.now c.deref_mut.ensures.value c.deref_mut-2.ensures.value c.requires.tied in
    routes_of c.deref_mut.result.now c.deref_mut-2.result.now tied.passes

pub settle-requires-clause-boxes : goal.settle-requires-clause-boxes
settle-requires-clause-boxes g c =
    let tied = moved c.args.closed.items c.deref_mut.result.now c.args.lines.items c.deref_mut-2.result.now c.deref_mut.ensures.value c.deref_mut-2.ensures.value c.requires.tied in
    boxes_of c.deref_mut.result.now c.deref_mut-2.result.now tied.passes

pub returns : goal.returns
returns g c =
    let host = c.host_keeps.ensures.host in
    let passes = c.host_keeps.ensures.passes in
    let slots = c.deref_mut.result.now in
    let lines = c.deref_mut-2.result.now in
    let ended = c.settle.new.closed in
    let after = c.settle.new.lines in
    let tied = moved c.args.closed.items slots c.args.lines.items lines c.deref_mut.ensures.value c.deref_mut-2.ensures.value c.requires.tied in
    let keeps = subst (λ (l : List (Holding ReaderView)). SlotsKeep slots l) (none_of c.settle.new.sockets ended c.settle.auto.sockets) c.settle.ensures.slots_keep in
    let told = tied_on host passes slots ended lines after tied keeps c.settle.ensures.lines_keep in
    let slots_back = back ended (drop (length ended) c.args.closed.items) c.args.closed.len (sym (c.settle.auto.closed ∙ c.deref_mut.ensures.len)) in
    let lines_back = back after (drop (length after) c.args.lines.items) c.args.lines.len (sym (c.settle.auto.lines ∙ c.deref_mut-2.ensures.len)) in
    let given = take c.args.closed.len (ended ++ drop (length ended) c.args.closed.items) in
    let turned = take c.args.lines.len (after ++ drop (length after) c.args.lines.items) in
    tied_on host passes given given turned c.work-lines.result.items (moved ended given after turned slots_back lines_back told)
    (c.slots_keep.ensures.same given) (c.turned_keeps.ensures turned c.work-lines.result.items c.work-lines.ensures)
