use Rattle.std.proofs.Common.{◌<◌, sym, ◌∙◌, subst, arith}
use Rattle.rds_play_mesh.specs.Ends.{MeshView}
use Rattle.rds_play_mesh.specs.Inside.{mesh_view}
use Rattle.rds_play_pair.specs.Ends.{HasRoomForTwo, IsFull}
use Rattle.std.specs.Prelude.{OnOk}
use Rattle.rds_play_mesh.proofs.Stepping.{Found, inside, here_is, same_mesh}
use Rattle.rds_play_mesh.proofs.mesh.Mesh.reserve.Goals as goal

pub index_mut-requires : goal.index_mut-requires
index_mut-requires c =
    let m = mesh_view c.self.inside in
    let host = subst (λ (v : MeshView). c.args.host < v.count) (sym c.self.view_is) c.requires.host in
    let peer = subst (λ (v : MeshView). c.args.peer < v.count) (sym c.self.view_is) c.requires.peer in
    let within = inside c.args.host c.args.peer c.place.result m host peer c.requires.apart c.self.invariant.full c.place.ensures in
    omega (arith, within, c.self.inside.joints.ok.0)

pub returns-clause-same : goal.returns-clause-same
returns-clause-same c =
    let m = mesh_view c.self.inside in
    let host = subst (λ (v : MeshView). c.args.host < v.count) (sym c.self.view_is) c.requires.host in
    let peer = subst (λ (v : MeshView). c.args.peer < v.count) (sym c.self.view_is) c.requires.peer in
    let found : Found c.args.host c.args.peer c.place.result c.end_of.result c.index_mut.result.now m =
    record { host = host; peer = peer; apart = c.requires.apart; full = c.self.invariant.full; at = c.place.ensures; end = c.end_of.ensures; is = c.index_mut.ensures.value } in
    same_mesh c.place.result c.index_mut.result.now c.reserve.new.self m found.is c.reserve.ensures.same ∙ c.self.view_is

pub returns-clause-room : goal.returns-clause-room
returns-clause-room c =
    let m = mesh_view c.self.inside in
    let host = subst (λ (v : MeshView). c.args.host < v.count) (sym c.self.view_is) c.requires.host in
    let peer = subst (λ (v : MeshView). c.args.peer < v.count) (sym c.self.view_is) c.requires.peer in
    let found : Found c.args.host c.args.peer c.place.result c.end_of.result c.index_mut.result.now m =
    record { host = host; peer = peer; apart = c.requires.apart; full = c.self.invariant.full; at = c.place.ensures; end = c.end_of.ensures; is = c.index_mut.ensures.value } in
    rw (← c.self.view_is)
    (subst (λ e. OnOk c.reserve.result (HasRoomForTwo e)) (here_is c.args.host c.args.peer c.place.result c.end_of.result c.index_mut.result.now m found) c.reserve.ensures.room)

pub returns-clause-spent : goal.returns-clause-spent
returns-clause-spent c = λ entries is.
    let m = mesh_view c.self.inside in
    let host = subst (λ (v : MeshView). c.args.host < v.count) (sym c.self.view_is) c.requires.host in
    let peer = subst (λ (v : MeshView). c.args.peer < v.count) (sym c.self.view_is) c.requires.peer in
    let found : Found c.args.host c.args.peer c.place.result c.end_of.result c.index_mut.result.now m =
    record { host = host; peer = peer; apart = c.requires.apart; full = c.self.invariant.full; at = c.place.ensures; end = c.end_of.ensures; is = c.index_mut.ensures.value } in
    rw (← c.self.view_is)
    (subst (IsFull entries) (here_is c.args.host c.args.peer c.place.result c.end_of.result c.index_mut.result.now m found) (c.reserve.ensures.spent entries is))
