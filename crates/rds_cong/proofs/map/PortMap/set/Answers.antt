use Rattle.std.proofs.Common.{subst, ap, ◌∙◌}
use Rattle.rds_cong.specs.Map.{IsMap, with_port}
use Rattle.rds_cong.proofs.InPlace.{put_at, ports_put, IsWords-put}
use Rattle.rds_cong.specs.WordLaws.{IsMap-bytes}
use Rattle.rds_cong.proofs.map.PortMap.set.Goals as goal

pub returns-clause-value : goal.returns-clause-value
returns-clause-value c =
    put_at c.self.inside.words.items c.args.port c.from.result c.index_mut.result.now
    (record { kept = c.self.invariant; port = c.ranges.port.fits; place = c.from.ensures; read = c.index_mut.ensures.value })
    ∙ ap (λ m. with_port m c.args.port) c.self.view_is

pub returns-clause-ports : goal.returns-clause-ports
returns-clause-ports c q =
    let map = subst IsMap c.self.view_is (IsMap-bytes c.self.inside.words.items c.self.invariant) in
    ports_put c.args.self.now _ c.args.port q map c.ranges.port.fits (returns-clause-value c)

pub invariant_of-self : goal.invariant_of-self
invariant_of-self c =
    IsWords-put c.self.inside.words.items c.args.port c.from.result c.index_mut.result.now
    (record { kept = c.self.invariant; port = c.ranges.port.fits; place = c.from.ensures; read = c.index_mut.ensures.value })
