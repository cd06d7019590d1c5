use Rattle.std.proofs.Common.{◌≡◌, ◌+◌, List, [], ◌∷◌, ◌++◌, Some, get_or, map, option_map, set, slice_get, take, refl, ap, subst, ◌∙◌, arith}
use Rattle.std.proofs.lemmas.List.{take_all}
use Rattle.std.proofs.lemmas.Option.{slice_get-get_or, slice_get-map, slice_get_within}
use Rattle.rds_bindtab.specs.declared.view.Telling.{Telling}
use Rattle.rds_fmap.specs.Readers.{ReaderView}
use Rattle.rds_socket.specs.Holding.{Holding, Open}
use Rattle.rds_host.specs.Settled.{AreSettled, ports_of}
use Rattle.rds_host.specs.Telling.{ArePortsTold}
use Rattle.rds_host.proofs.Knowing.{lines_keep_told}
use Rattle.rds_host.proofs.Sockets.{one_port_more, sockets_same, sockets_set}
use Rattle.rds_host.proofs.Told.{same_at}
use Rattle.rds_host.proofs.ToldLines.{can_one, can_still, none_settled, settled_set}
use Rattle.rds_host.proofs.ToldPorts.{none_ported, ported_set}
use Rattle.rds_host.proofs.settling.settle_sockets.Goals as goal

abbrev own : Open ReaderView → Holding ReaderView
own s = s.own

pub settle_socket-requires : goal.settle_socket-requires
settle_socket-requires g c =
    let inv = c.loop-i.invariant in
    let new = c.loop-i.sockets in
    let i = c.loop-i.i in
    let s = get_or new i c.index-sockets-i.result in
    let at : slice_get new i ≡ Some s = slice_get-get_or new i c.index-sockets-i.result (omega arith) in
    let stood = same_at new c.args.sockets.now i s inv.1 at in
    can_still (s.own ∷ []) c.args.lines.now c.loop-i.lines (lines_keep_told _ _ _ inv.2.lines_stay)
    (can_one (map own c.args.sockets.now) c.args.lines.now i s.own (slice_get-map own c.args.sockets.now i ∙ ap (option_map own) stood) c.requires)

pub loop-i-init : goal.loop-i-init
loop-i-init g c = (refl, refl, none_settled c.args.lines.now, none_ported c.args.lines.now, sockets_same c.args.sockets.now)

pub loop-i-preserved : goal.loop-i-preserved
loop-i-preserved g c =
    let inv = c.loop-i.invariant in
    let new = c.loop-i.sockets in
    let i = c.loop-i.i in
    let s = get_or new i c.index-sockets-i.result in
    let at : slice_get new i ≡ Some s = slice_get-get_or new i c.index-sockets-i.result (omega arith) in
    let after = c.settle_socket.new.socket in
    let told = c.settle_socket.ensures.told in
    let was = ports_of (take i c.args.sockets.now) in
    let now = ports_of (s ∷ []) in
    let next = settled_set own was now c.args.sockets.now new i s after c.args.lines.now c.loop-i.lines c.settle_socket.new.lines inv.0 inv.1 at inv.2 told in
    let ports : was ++ now ≡ ports_of (take (i + 1) c.args.sockets.now) = one_port_more c.args.sockets.now i s (same_at new c.args.sockets.now i s inv.1 at) in (
      next.0,
      next.1,
      subst
          (λ (p : List Telling). AreSettled p (map own (take (i + 1) c.args.sockets.now)) (map own (take (i + 1) (set new i after))) c.args.lines.now c.settle_socket.new.lines)
          ports next.2,
      ported_set own now new i after c.loop-i.lines c.settle_socket.new.lines (slice_get_within new i s at) told.lines_stay inv.3 c.settle_socket.ensures.ports,
      sockets_set c.args.sockets.now new i s after at c.settle_socket.ensures.same inv.4,
    )

pub returns-clause-told : goal.returns-clause-told
returns-clause-told g c =
    let inv = c.loop-i.invariant in
    subst (λ (l : List (Open ReaderView)). AreSettled (ports_of c.args.sockets.now) (map own c.args.sockets.now) (map own l) c.args.lines.now c.loop-i.lines) (take_all c.loop-i.i c.loop-i.sockets (omega arith))
    (subst (λ (l : List (Open ReaderView)). AreSettled (ports_of l) (map own l) (map own (take c.loop-i.i c.loop-i.sockets)) c.args.lines.now c.loop-i.lines) (take_all c.loop-i.i c.args.sockets.now (omega arith)) inv.2)

pub returns-clause-ports : goal.returns-clause-ports
returns-clause-ports g c =
    subst (λ (l : List (Open ReaderView)). ArePortsTold (map own l) c.loop-i.lines) (take_all c.loop-i.i c.loop-i.sockets (omega arith)) c.loop-i.invariant.3

pub returns-clause-same : goal.returns-clause-same
returns-clause-same g c = c.loop-i.invariant.4
