use Rattle.std.proofs.Common.{List, [], map, subst}
use Rattle.std.proofs.lemmas.List.{append-nil}
use Rattle.rds_bindtab.specs.declared.view.Telling.{Telling}
use Rattle.rds_fmap.specs.Readers.{ReaderView}
use Rattle.rds_socket.specs.Holding.{Open}
use Rattle.rds_host.specs.Settled.{AreLinesToldMore, ports_of}
use Rattle.rds_host.proofs.Knowing.{lines_keep_told}
use Rattle.rds_host.proofs.Told.{slots_keep_told}
use Rattle.rds_host.proofs.ToldLines.{can_back, can_front, can_still, settled_more}
use Rattle.rds_host.proofs.ToldPorts.{ports_still}
use Rattle.rds_host.proofs.settling.settle.Goals as goal

pub settle_sockets-requires : goal.settle_sockets-requires
settle_sockets-requires g c =
    can_front (map (λ (s : Open ReaderView). s.own) c.args.sockets.now) c.args.closed.now c.args.lines.now
    (record { host = c.requires.host; routes = c.requires.routes; boxes = c.requires.boxes })

pub settle_closed-requires-clause-tell : goal.settle_closed-requires-clause-tell
settle_closed-requires-clause-tell g c =
    can_still c.args.closed.now c.args.lines.now c.settle_sockets.new.lines (lines_keep_told _ _ _ c.settle_sockets.ensures.told.lines_stay)
    (can_back (map (λ (s : Open ReaderView). s.own) c.args.sockets.now) c.args.closed.now c.args.lines.now
    (record { host = c.requires.host; routes = c.requires.routes; boxes = c.requires.boxes }))

pub returns-clause-orders : goal.returns-clause-orders
returns-clause-orders g c = (settled_more _ _ _ _ _ _ _ _ _ c.settle_sockets.ensures.told c.settle_closed.ensures).orders

pub returns-clause-boxes : goal.returns-clause-boxes
returns-clause-boxes g c = (settled_more _ _ _ _ _ _ _ _ _ c.settle_sockets.ensures.told c.settle_closed.ensures).boxes

pub returns-clause-ports : goal.returns-clause-ports
returns-clause-ports g c =
    ports_still [] (map (λ (s : Open ReaderView). s.own) c.settle_sockets.new.sockets) c.settle_sockets.new.lines c.settle_closed.new.lines
    c.settle_closed.ensures.lines_stay c.settle_sockets.ensures.ports

pub returns-clause-slots : goal.returns-clause-slots
returns-clause-slots g c = (settled_more _ _ _ _ _ _ _ _ _ c.settle_sockets.ensures.told c.settle_closed.ensures).slots_stay

pub returns-clause-slots_keep : goal.returns-clause-slots_keep
returns-clause-slots_keep g c = slots_keep_told _ _ (settled_more _ _ _ _ _ _ _ _ _ c.settle_sockets.ensures.told c.settle_closed.ensures).slots_stay

pub returns-clause-sockets : goal.returns-clause-sockets
returns-clause-sockets g c = c.settle_sockets.ensures.same

pub returns-clause-lines : goal.returns-clause-lines
returns-clause-lines g c =
    let ports = ports_of c.args.sockets.now in
    subst (λ (p : List Telling). AreLinesToldMore p c.args.lines.now c.settle_closed.new.lines) (append-nil ports)
    (settled_more _ _ _ _ _ _ _ _ _ c.settle_sockets.ensures.told c.settle_closed.ensures).lines_stay

pub returns-clause-lines_keep : goal.returns-clause-lines_keep
returns-clause-lines_keep g c = lines_keep_told _ _ _ (settled_more _ _ _ _ _ _ _ _ _ c.settle_sockets.ensures.told c.settle_closed.ensures).lines_stay
