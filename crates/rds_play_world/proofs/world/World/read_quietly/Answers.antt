use Rattle.std.proofs.Common.{◌<◌, ◌∷◌, ◌∙◌, subst, Some, None}
use Rattle.rds_model.specs.declared.entry.Entry.TheVariants.{Read}
use Rattle.rds_history.specs.Events.{Appended}
use Rattle.rds_play_mesh.specs.Ends.{end_at}
use Rattle.rds_play_world.specs.Happening.{IsRead, outcome_here}
use Rattle.rds_play_world.specs.Telling.{Tells, state}
use Rattle.rds_play_world.proofs.Passing.{end_waits, ok_then}
use Rattle.rds_play_world.proofs.Readings.{here_on, tells_plain}
use Rattle.rds_play_world.proofs.world.World.read_quietly.Goals as goal

pub returns-clause-told : goal.returns-clause-told
returns-clause-told c = λ limit hosts stream f past waits plain.
    let k = c.args.host in
    let h = c.args.peer in
    let s = state c.args.self.now in
    let t = state c.pass.new.self in
    let k_in : k < hosts = subst (λ n. k < n) waits.tells.count_is c.requires.host in
    let h_in : h < hosts = subst (λ n. h < n) waits.tells.count_is c.requires.peer in
    let e = end_waits limit hosts k h stream f past s k_in h_in c.requires.apart waits in
    let o = outcome_here None (end_at k h s.mesh) f in
    ok_then c.pass.result (IsRead k h stream f o s t) (Tells limit hosts (Appended k h (Read stream f o) ∷ past) t)
    (λ came. tells_plain limit hosts k h stream f o past s t c.requires.apart (c.args.self.now.meshed ∙ waits.tells.count_is) k_in h_in waits came plain)
    (c.pass.ensures.read stream f e.waiting_is (here_on limit k h (Some f) stream past (end_at k h s.mesh) e waits.on))
