use Rattle.std.proofs.Common.{◌-◌, ◌*◌, ◌/◌, ◌∙◌, ap}
use Rattle.rds_play_mesh.proofs.Places.{half}
use Rattle.rds_play_mesh.proofs.place.triangle.Goals as goal

pub returns-clause-is : goal.returns-clause-is
returns-clause-is c =
    ap (λ n. n * c.saturating_sub.result / 2) c.from-hosts.ensures
    ∙ half c.args.hosts c.saturating_sub.result (c.saturating_sub.ensures ∙ ap (λ n. n - 1) c.from-hosts.ensures)
