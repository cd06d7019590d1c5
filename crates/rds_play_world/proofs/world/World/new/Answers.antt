use Rattle.std.proofs.Common.{refl, ◌∙◌, sym}
use Rattle.rds_play_world.proofs.Beginning.{tells_nothing}
use Rattle.rds_play_world.proofs.world.World.new.Goals as goal

pub returns-clause-told : goal.returns-clause-told
returns-clause-told c =
    let hosts = c.in_ok-hosts.field-0 in
    let peers = c.in_ok-peers.field-0 in
    tells_nothing c.args.limit c.args.count _ c.requires.few refl refl c.new-2.ensures.bytes (sym hosts.ok.0 ∙ c.in_ok-hosts.ensures.count) c.in_ok-hosts.ensures.new
    c.in_ok-new.ensures (sym peers.ok.0 ∙ c.in_ok-peers.ensures.count) c.in_ok-peers.ensures.new
