use Rattle.std.proofs.Common.{◌<◌, refl, sym, subst, arith}
use Rattle.rds_play_mesh.specs.Ends.{MeshView}
use Rattle.rds_play_mesh.specs.Inside.{mesh_view}
use Rattle.rds_play_pair.specs.Steps.{ordered}
use Rattle.rds_play_pair.specs.Ends.{IsFull}
use Rattle.rds_play_mesh.proofs.Stepping.{Found, inside, one_ok, here_is}
use Rattle.rds_play_mesh.proofs.mesh.Mesh.order.Goals as goal

pub index_mut-requires : goal.index_mut-requires
index_mut-requires c =
    let m = mesh_view c.self.inside in
    let host = subst (λ (v : MeshView). c.args.host < v.count) (sym c.self.view_is) c.requires.host in
    let peer = subst (λ (v : MeshView). c.args.peer < v.count) (sym c.self.view_is) c.requires.peer in
    let within = inside c.args.host c.args.peer c.place.result m host peer c.requires.apart c.self.invariant.full c.place.ensures in
    omega (arith, within, c.self.inside.joints.ok.0)

pub returns-clause-ok : goal.returns-clause-ok
returns-clause-ok c =
    let m = mesh_view c.self.inside in
    let host = subst (λ (v : MeshView). c.args.host < v.count) (sym c.self.view_is) c.requires.host in
    let peer = subst (λ (v : MeshView). c.args.peer < v.count) (sym c.self.view_is) c.requires.peer in
    let found : Found c.args.host c.args.peer c.place.result c.end_of.result c.index_mut.result.now m =
    record { host = host; peer = peer; apart = c.requires.apart; full = c.self.invariant.full; at = c.place.ensures; end = c.end_of.ensures; is = c.index_mut.ensures.value } in
    rw (← c.self.view_is)
    (one_ok c.order.result c.args.host c.args.peer c.place.result c.end_of.result c.index_mut.result.now c.order.new.self m (ordered c.args.order.now) (ordered c.args.order.now) found refl c.order.ensures.ok)

pub returns-clause-spent : goal.returns-clause-spent
returns-clause-spent c = λ entries is.
    let m = mesh_view c.self.inside in
    let host = subst (λ (v : MeshView). c.args.host < v.count) (sym c.self.view_is) c.requires.host in
    let peer = subst (λ (v : MeshView). c.args.peer < v.count) (sym c.self.view_is) c.requires.peer in
    let found : Found c.args.host c.args.peer c.place.result c.end_of.result c.index_mut.result.now m =
    record { host = host; peer = peer; apart = c.requires.apart; full = c.self.invariant.full; at = c.place.ensures; end = c.end_of.ensures; is = c.index_mut.ensures.value } in
    rw (← c.self.view_is)
    (subst (IsFull entries) (here_is c.args.host c.args.peer c.place.result c.end_of.result c.index_mut.result.now m found) (c.order.ensures.spent entries is))
