use Rattle.std.proofs.Common.{◌≡◌, ◌<◌, ◌∷◌, Some, None, get_or, length, sym, ◌∙◌, ap, subst, arith}
use Rattle.std.specs.Option.{option_copied}
use Rattle.rds_wire.specs.declared.frame.Frame.{Frame}
use Rattle.rds_model.specs.declared.entry.Entry.TheVariants.{Read}
use Rattle.rds_model.specs.declared.entry.Outcome.TheVariants as outcome
use Rattle.rds_history.specs.Events.{Appended}
use Rattle.rds_play_hosts.specs.Telling.{TellsHost}
use Rattle.rds_play_world.specs.Telling.{state}
use Rattle.rds_play_world.proofs.Passing.{end_waits, ok_then}
use Rattle.rds_play_world.proofs.Readings.{queued_here, some_same}
use Rattle.rds_play_world.proofs.world.World.take_in.Goals as goal

pub returns-in-Some-clause-queued : goal.returns-in-Some-clause-queued
returns-in-Some-clause-queued c = λ limit hosts stream f past waits in_range.
    let k = c.args.host in
    let h = c.args.peer in
    let slot = c.args.slot in
    let s = state c.args.self.now in
    let k_in : k < hosts = subst (λ n. k < n) waits.tells.count_is c.requires.host in
    let h_in : h < hosts = subst (λ n. h < n) waits.tells.count_is c.requires.peer in
    let e = end_waits limit hosts k h stream f past s k_in h_in c.requires.apart waits in
    let frame : c.in-Some.frame.now ≡ f = some_same c.in-Some.frame.now f (sym (ap (λ o. option_copied o) c.in-Some.is) ∙ c.waiting.ensures ∙ e.waiting_is) in
    let x = c.index_mut.result.now in
    let at : x ≡ get_or s.hosts k x = cc in
    let size : k < length s.hosts = omega (arith, c.requires.host, c.args.self.now.housed, c.args.self.now.hosts.ok.0) in
    ok_then c.take_in.result (TellsHost k (Appended k h (Read stream c.in-Some.frame.now (outcome.Slot slot)) ∷ past) c.take_in.new.self) _
    (λ told. queued_here limit hosts k h stream slot c.from.result f past s c.take_in.new.self (cc) size waits
    (subst (λ (g : Frame). TellsHost k (Appended k h (Read stream g (outcome.Slot slot)) ∷ past) c.take_in.new.self) frame told))
    (c.take_in.ensures k stream past (waits.tells.hosts_are k k_in x at) in_range)

pub returns-in-None-clause-queued : goal.returns-in-None-clause-queued
returns-in-None-clause-queued c = λ limit hosts stream f past waits in_range.
    let k = c.args.host in
    let h = c.args.peer in
    let k_in : k < hosts = subst (λ n. k < n) waits.tells.count_is c.requires.host in
    let h_in : h < hosts = subst (λ n. h < n) waits.tells.count_is c.requires.peer in
    let e = end_waits limit hosts k h stream f past (state c.args.self.now) k_in h_in c.requires.apart waits in
    let none : None ≡ Some f = sym (ap (λ o. option_copied o) c.in-None.is) ∙ c.waiting.ensures ∙ e.waiting_is in
    absurd (cc)
