use Rattle.std.proofs.Common.{◌≡◌, ◌<◌, ◌∷◌, ◌++◌, Some, None, List, refl, ◌∙◌, subst}
use Rattle.std.specs.Prelude.{OnOk}
use Rattle.rds_model.specs.declared.entry.Entry.{Entry}
use Rattle.rds_model.specs.declared.entry.Outcome.TheVariants as outcome
use Rattle.rds_model.specs.declared.entry.Outcome.{Outcome}
use Rattle.rds_model.specs.declared.entry.Verdict.TheVariants as verdict
use Rattle.rds_model.specs.Past.{accepted}
use Rattle.rds_history.specs.Events.{Event}
use Rattle.rds_history.specs.Journals.{journal}
use Rattle.rds_history.specs.Transcript.{entry_line}
use Rattle.rds_play_mesh.specs.Ends.{end_at}
use Rattle.rds_play_world.specs.Happening.{IsRead, outcome_here}
use Rattle.rds_play_world.specs.Printing.{PrintsAlone}
use Rattle.rds_play_world.specs.Telling.{Tells, state}
use Rattle.rds_play_world.proofs.Passing.{end_waits, ok_then, read_on_as}
use Rattle.rds_play_world.proofs.Readings.{here_on, ping_is, tells_ping}
use Rattle.rds_play_world.proofs.world.World.read_ping.Goals as goal

pub returns-clause-told : goal.returns-clause-told
returns-clause-told c = λ limit hosts stream f past waits verdict_is.
    let k = c.args.host in
    let h = c.args.peer in
    let s = state c.args.self.now in
    let t = state c.pass.new.self in
    let u = state c.print_newest.new.self in
    let k_in : k < hosts = subst (λ n. k < n) waits.tells.count_is c.requires.host in
    let h_in : h < hosts = subst (λ n. h < n) waits.tells.count_is c.requires.peer in
    let e = end_waits limit hosts k h stream f past s k_in h_in c.requires.apart waits in
    let is : outcome_here None (end_at k h s.mesh) f ≡ outcome.Ping = ping_is None (end_at k h s.mesh) (journal k h past) f e.journal_is verdict_is in
    let came : IsRead k h stream f outcome.Ping s t = subst (λ (x : Outcome). IsRead k h stream f x s t) is
    (c.in_ok-pass.ensures.read stream f e.waiting_is (here_on limit k h (Some f) stream past (end_at k h s.mesh) e waits.on)) in
    subst (λ (p : List Event). OnOk c.print_newest.result (Tells limit hosts p u)) (read_on_as k h stream f past verdict.Ping outcome.Ping verdict_is refl)
    (ok_then c.print_newest.result ((x : Entry) (before : List Entry) → (end_at k h t.mesh).past ≡ x ∷ before →
    PrintsAlone (accepted (x ∷ before)) before x → u ≡ record t { text = t.text ++ entry_line k h before x }) (Tells limit hosts _ u)
    (λ printed. tells_ping limit hosts k h stream f past s t u c.requires.apart (c.args.self.now.meshed ∙ waits.tells.count_is) k_in h_in waits came printed)
    c.print_newest.ensures.line)
