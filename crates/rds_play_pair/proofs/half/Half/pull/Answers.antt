use Rattle.std.proofs.Common.{◌∙◌, ap}
use Rattle.rds_play_pair.specs.Changes.{pulled}
use Rattle.rds_play_pair.proofs.Halves.{pulled_side}
use Rattle.rds_play_pair.proofs.half.Half.pull.Goals as goal

pub returns-in-Ok-clause-ok : goal.returns-in-Ok-clause-ok
returns-in-Ok-clause-ok c =
    pulled_side c.ready.new.self.conn c.pull-pulled.new.self c.ready.new.self.out c.pull-pulled.new.out c.args.map.now c.in-Ok.field-0
    c.in-Ok.ensures.still c.in-Ok.ensures.owed
    ∙ ap (pulled c.args.map.now) c.ready.ensures.same
