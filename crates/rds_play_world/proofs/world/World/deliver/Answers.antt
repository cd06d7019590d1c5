use Rattle.std.proofs.Common.{◌≡◌, ◌<◌, ◌∷◌, Some, refl, ◌∙◌, subst}
use Rattle.rds_model.specs.declared.entry.Entry.TheVariants.{Read}
use Rattle.rds_model.specs.declared.entry.Outcome.TheVariants as outcome
use Rattle.rds_history.specs.Events.{Appended}
use Rattle.rds_play_mesh.specs.Ends.{end_at}
use Rattle.rds_play_world.specs.Happening.{IsRead}
use Rattle.rds_play_world.specs.Telling.{Tells, state}
use Rattle.rds_play_world.proofs.Changing.{peers_no_map}
use Rattle.rds_play_world.proofs.Passing.{end_waits, ok_then, tells_read}
use Rattle.rds_play_world.proofs.Readings.{here_on, read_after}
use Rattle.rds_play_world.proofs.world.World.deliver.Goals as goal

pub returns-clause-told : goal.returns-clause-told
returns-clause-told c = λ limit hosts stream f past waits is in_range.
    let k = c.args.host in
    let h = c.args.peer in
    let s = state c.args.self.now in
    let mid = state c.take_in.new.self in
    let t = state c.pass.new.self in
    let k_in : k < hosts = subst (λ n. k < n) waits.tells.count_is c.requires.host in
    let h_in : h < hosts = subst (λ n. h < n) waits.tells.count_is c.requires.peer in
    let e = end_waits limit hosts k h stream f past s k_in h_in c.requires.apart waits in
    let o = outcome.Slot c.args.slot in
    let queued = c.in_ok-take_in.ensures.queued limit hosts stream f past waits in_range in
    let same : mid ≡ record s { hosts = mid.hosts } = c.in_ok-take_in.ensures.rest in
    ok_then c.pass.result (IsRead k h stream f o (record s { hosts = mid.hosts }) t) (Tells limit hosts (Appended k h (Read stream f o) ∷ past) t)
    (λ came. tells_read limit hosts k h stream f o past s mid.hosts s.peers t c.requires.apart (c.args.self.now.meshed ∙ waits.tells.count_is) k_in h_in waits came refl queued
    (peers_no_map hosts k h (Read stream f o) past s.peers (record { last_same = λ j. refl; count_same = λ j. refl }) waits.tells.peers_are))
    (read_after c.pass.result k h stream (Some c.args.slot) f o mid (record s { hosts = mid.hosts }) t same is e.waiting_is (here_on limit k h (Some f) stream past (end_at k h s.mesh) e waits.on)
    (c.pass.ensures.read stream f))
