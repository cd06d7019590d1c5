use Rattle.std.proofs.Common.{◌≡◌, ◌<◌, ◌∷◌, Some, None, List, refl, ◌∙◌, subst}
use Rattle.std.specs.Prelude.{OnOk}
use Rattle.rds_model.specs.declared.entry.Entry.TheVariants.{Read}
use Rattle.rds_model.specs.declared.entry.Outcome.TheVariants as outcome
use Rattle.rds_model.specs.declared.entry.Verdict.TheVariants as verdict
use Rattle.rds_history.specs.Events.{Event, Appended}
use Rattle.rds_history.specs.Journals.{journal}
use Rattle.rds_play_mesh.specs.Ends.{end_at}
use Rattle.rds_play_world.specs.Happening.{IsRead, outcome_here}
use Rattle.rds_play_world.specs.Telling.{Tells, state}
use Rattle.rds_play_world.proofs.Changing.{hosts_untouched}
use Rattle.rds_play_world.proofs.Passing.{end_waits, ok_then, outcome_here_is, read_on_as, tells_read}
use Rattle.rds_play_world.proofs.Readings.{here_on, read_after}
use Rattle.rds_play_world.proofs.world.World.read_map.Goals as goal

pub returns-clause-told : goal.returns-clause-told
returns-clause-told c = λ limit hosts stream f past waits verdict_is.
    let k = c.args.host in
    let h = c.args.peer in
    let s = state c.args.self.now in
    let mid = state c.keep_map.new.self in
    let t = state c.pass.new.self in
    let k_in : k < hosts = subst (λ n. k < n) waits.tells.count_is c.requires.host in
    let h_in : h < hosts = subst (λ n. h < n) waits.tells.count_is c.requires.peer in
    let e = end_waits limit hosts k h stream f past s k_in h_in c.requires.apart waits in
    let o = outcome.Map in
    let kept = c.in_ok-keep_map.ensures.kept limit hosts stream f past waits verdict_is in
    let same : mid ≡ record s { peers = mid.peers } = c.in_ok-keep_map.ensures.rest in
    let is : outcome_here None (end_at k h s.mesh) f ≡ o = outcome_here_is None (end_at k h s.mesh) (journal k h past) f verdict.Map e.journal_is verdict_is in
    subst (λ (p : List Event). OnOk c.pass.result (Tells limit hosts p t)) (read_on_as k h stream f past verdict.Map o verdict_is refl)
    (ok_then c.pass.result (IsRead k h stream f o (record s { peers = mid.peers }) t) (Tells limit hosts (Appended k h (Read stream f o) ∷ past) t)
    (λ came. tells_read limit hosts k h stream f o past s s.hosts mid.peers t c.requires.apart (c.args.self.now.meshed ∙ waits.tells.count_is) k_in h_in waits came refl
    (hosts_untouched hosts (Appended k h (Read stream f o)) past s.hosts (λ a own. refl) waits.tells.hosts_are) kept)
    (read_after c.pass.result k h stream None f o mid (record s { peers = mid.peers }) t same is e.waiting_is (here_on limit k h (Some f) stream past (end_at k h s.mesh) e waits.on)
    (c.pass.ensures.read stream f)))
