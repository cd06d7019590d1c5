use Rattle.std.proofs.Common.{◌≡◌}
use Rattle.rds_model.specs.Alive.{covered}
use Rattle.rds_play_mesh.specs.Ends.{end_at}
use Rattle.rds_play_world.proofs.TakingBack.{begun_of, unbegun_of}
use Rattle.rds_play_world.proofs.world.World.covered.Goals as goal

pub returns-clause-begun : goal.returns-clause-begun
returns-clause-begun c =
    let past = (end_at c.args.host c.args.peer c.args.self.now.mesh).past in
    let all : c.deref.result.now ≡ covered c.args.slot c.args.target past = cc (c.in_ok-covered.ensures.ok, c.deref.ensures.value) in
    begun_of (λ parts. parts.begun.items) c.parted.result c.deref.result.now c.args.slot c.args.target past c.highest.result all c.highest.ensures.pulled c.parted.ensures.begun

pub returns-clause-unbegun : goal.returns-clause-unbegun
returns-clause-unbegun c =
    let past = (end_at c.args.host c.args.peer c.args.self.now.mesh).past in
    let all : c.deref.result.now ≡ covered c.args.slot c.args.target past = cc (c.in_ok-covered.ensures.ok, c.deref.ensures.value) in
    unbegun_of (λ parts. parts.unbegun.items) c.parted.result c.deref.result.now c.args.slot c.args.target past c.highest.result all c.highest.ensures.pulled c.parted.ensures.unbegun
