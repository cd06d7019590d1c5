use Rattle.std.proofs.Common.{subst, ap, ◌∙◌}
use Rattle.rds_cong.specs.Map.{IsMap, without_port}
use Rattle.rds_cong.proofs.InPlace.{taken_at, ports_taken}
use Rattle.rds_cong.specs.WordLaws.{IsMap-bytes}
use Rattle.rds_cong.proofs.map.PortMap.clear.Goals as goal

pub returns-clause-value : goal.returns-clause-value
returns-clause-value c =
    taken_at c.self.inside.words.items c.args.port c.from.result c.index_mut.result.now
    (record { kept = c.self.invariant; port = c.ranges.port.fits; place = c.from.ensures; read = c.index_mut.ensures.value })
    ∙ ap (λ m. without_port m c.args.port) c.self.view_is

pub returns-clause-ports : goal.returns-clause-ports
returns-clause-ports c q =
    let map = subst IsMap c.self.view_is (IsMap-bytes c.self.inside.words.items c.self.invariant) in
    ports_taken c.args.self.now _ c.args.port q map c.ranges.port.fits (returns-clause-value c)
