use Rattle.std.proofs.Common.{[], ◌∷◌, refl, sym}
use Rattle.rds_example_hosts.proofs.Keeping.{alone_keeps, moved, tied_on}
use Rattle.rds_example_hosts.proofs.hosts.make_host.Goals as goal

pub returns : goal.returns
returns c =
    let vacant = c.only.result in
    let socket = c.in_ok-socket.socket in
    let slots = c.in-Ok.slots.items in
    let lines = c.in-Ok.lines.items in
    record {
      untold = c.in_ok-socket.ensures.open;
      tied = tied_on c.host_keeps.ensures.host c.host_keeps.ensures.passes (vacant ∷ []) (socket.own ∷ []) lines lines
          (moved slots (vacant ∷ []) lines lines (sym c.only.ensures) refl (record { host = c.in-Ok.ensures.host; passes = c.in-Ok.ensures.passes }))
          (alone_keeps vacant socket.own c.in_ok-socket.ensures.slot) (c.lines_keep.ensures.same lines);
    }
