use Rattle.std.proofs.Common.{◌<◌, refl, sym, ◌∙◌, ap, subst, arith}
use Rattle.rds_play_mesh.specs.Ends.{MeshView, joint_of}
use Rattle.rds_play_mesh.specs.Inside.{mesh_view}
use Rattle.rds_play_mesh.specs.Places.{end_of}
use Rattle.rds_play_mesh.proofs.Stepping.{Found, found_is, inside}
use Rattle.rds_play_mesh.proofs.mesh.Mesh.joint.Goals as goal

pub index-requires : goal.index-requires
index-requires c =
    let m = mesh_view c.self.inside in
    let host = subst (λ (v : MeshView). c.args.host < v.count) (sym c.self.view_is) c.requires.host in
    let peer = subst (λ (v : MeshView). c.args.peer < v.count) (sym c.self.view_is) c.requires.peer in
    let within = inside c.args.host c.args.peer c.place.result m host peer c.requires.apart c.self.invariant.full c.place.ensures in
    omega (arith, within, c.self.inside.joints.ok.0)

pub returns : goal.returns
returns c =
    let m = mesh_view c.self.inside in
    let host = subst (λ (v : MeshView). c.args.host < v.count) (sym c.self.view_is) c.requires.host in
    let peer = subst (λ (v : MeshView). c.args.peer < v.count) (sym c.self.view_is) c.requires.peer in
    let found : Found c.args.host c.args.peer c.place.result (end_of c.args.host c.args.peer) c.index.result.now m =
    record { host = host; peer = peer; apart = c.requires.apart; full = c.self.invariant.full; at = c.place.ensures; end = refl; is = c.index.ensures } in
    found_is c.args.host c.args.peer c.place.result (end_of c.args.host c.args.peer) c.index.result.now m found ∙ ap (joint_of c.args.host c.args.peer) c.self.view_is
