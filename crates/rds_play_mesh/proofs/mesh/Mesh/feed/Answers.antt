use Rattle.std.proofs.Common.{◌≡◌, ◌<◌, length, refl, sym, ◌∙◌, ap, subst, arith}
use Rattle.rds_play_mesh.specs.Ends.{MeshView}
use Rattle.rds_play_mesh.specs.Inside.{mesh_view}
use Rattle.rds_play_mesh.specs.Places.{end_of}
use Rattle.rds_play_pair.specs.Ends.{IsFull, facing, of_end}
use Rattle.rds_play_pair.specs.Steps.{fed}
use Rattle.std.specs.Prelude.{IfOk, min}
use Rattle.rds_play_mesh.proofs.Stepping.{Found, inside, facing_at, fed_ok, fed_used}
use Rattle.rds_play_mesh.proofs.mesh.Mesh.feed.Goals as goal

pub index_mut-requires : goal.index_mut-requires
index_mut-requires c =
    let m = mesh_view c.self.inside in
    let host = subst (λ (v : MeshView). c.args.host < v.count) (sym c.self.view_is) c.requires.host in
    let peer = subst (λ (v : MeshView). c.args.peer < v.count) (sym c.self.view_is) c.requires.peer in
    let within = inside c.args.host c.args.peer c.place.result m host peer c.requires.apart c.self.invariant.full c.place.ensures in
    omega (arith, within, c.self.inside.joints.ok.0)

pub returns-clause-ok : goal.returns-clause-ok
returns-clause-ok c =
    let m = mesh_view c.self.inside in
    let host = subst (λ (v : MeshView). c.args.host < v.count) (sym c.self.view_is) c.requires.host in
    let peer = subst (λ (v : MeshView). c.args.peer < v.count) (sym c.self.view_is) c.requires.peer in
    let found : Found c.args.host c.args.peer c.place.result (end_of c.args.host c.args.peer) c.index_mut.result.now m =
    record { host = host; peer = peer; apart = c.requires.apart; full = c.self.invariant.full; at = c.place.ensures; end = refl; is = c.index_mut.ensures.value } in
    rw (← c.self.view_is)
    (fed_ok c.feed.result c.args.host c.args.peer c.place.result c.index_mut.result.now c.feed.new.self m found
    (subst (λ x. IfOk c.feed.result (λ used. c.feed.new.self ≡ fed x used c.index_mut.result.now)) c.end_of.ensures c.feed.ensures.ok))

pub returns-clause-used : goal.returns-clause-used
returns-clause-used c =
    let m = mesh_view c.self.inside in
    let host = subst (λ (v : MeshView). c.args.host < v.count) (sym c.self.view_is) c.requires.host in
    let peer = subst (λ (v : MeshView). c.args.peer < v.count) (sym c.self.view_is) c.requires.peer in
    let found : Found c.args.host c.args.peer c.place.result (end_of c.args.host c.args.peer) c.index_mut.result.now m =
    record { host = host; peer = peer; apart = c.requires.apart; full = c.self.invariant.full; at = c.place.ensures; end = refl; is = c.index_mut.ensures.value } in
    rw (← c.self.view_is)
    (fed_used c.feed.result c.args.host c.args.peer c.place.result c.args.bytes c.index_mut.result.now m found
    (subst (λ x. IfOk c.feed.result (λ used. used ≡ min c.args.bytes (length (facing x c.index_mut.result.now).flying))) c.end_of.ensures c.feed.ensures.used))

pub returns-clause-spent : goal.returns-clause-spent
returns-clause-spent c = λ entries is.
    let m = mesh_view c.self.inside in
    let host = subst (λ (v : MeshView). c.args.host < v.count) (sym c.self.view_is) c.requires.host in
    let peer = subst (λ (v : MeshView). c.args.peer < v.count) (sym c.self.view_is) c.requires.peer in
    let found : Found c.args.host c.args.peer c.place.result (end_of c.args.host c.args.peer) c.index_mut.result.now m =
    record { host = host; peer = peer; apart = c.requires.apart; full = c.self.invariant.full; at = c.place.ensures; end = refl; is = c.index_mut.ensures.value } in
    rw (← c.self.view_is)
    (subst (IsFull entries) (ap (λ x. of_end x c.index_mut.result.now) c.end_of.ensures ∙ facing_at c.args.host c.args.peer c.place.result c.index_mut.result.now m found)
    (c.feed.ensures.spent entries is))
