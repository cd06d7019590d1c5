use Rattle.std.proofs.Common.{◌≡◌, ℕ, ◌<◌, ◌∷◌, Option, Some, None, List, get_or, refl, sym, ◌∙◌, ap, subst}
use Rattle.std.specs.Prelude.{OnOk}
use Rattle.std.specs.Option.{option_map_or}
use Rattle.rds_model.specs.declared.entry.Entry.TheVariants.{Read}
use Rattle.rds_model.specs.declared.entry.Outcome.TheVariants as outcome
use Rattle.rds_model.specs.declared.entry.Verdict.TheVariants as verdict
use Rattle.rds_history.specs.Events.{Event, Appended}
use Rattle.rds_history.specs.Journals.{journal}
use Rattle.rds_history.specs.Mark.{update_mark}
use Rattle.rds_history.specs.Sockets.{holder}
use Rattle.rds_play_world.specs.Telling.{Tells, state}
use Rattle.rds_play_world.proofs.Passing.{delivered_here, port_is, read_on_as}
use Rattle.rds_play_world.proofs.Readings.{read_plainly}
use Rattle.rds_play_world.proofs.world.World.read_datagram.Goals as goal

pub returns-in_default-clause-told : goal.returns-in_default-clause-told
returns-in_default-clause-told c = λ limit hosts stream f past waits verdict_is.
    let k = c.args.host in
    let h = c.args.peer in
    let s = state c.args.self.now in
    let k_in : k < hosts = subst (λ n. k < n) waits.tells.count_is c.requires.host in
    let h_in : h < hosts = subst (λ n. h < n) waits.tells.count_is c.requires.peer in
    let x = c.index.result.now in
    let at : x ≡ get_or s.hosts k x = cc in
    let none : None ≡ holder k c.args.port past = sym c.in_default.is ∙ c.holder.ensures.holder k past (waits.tells.hosts_are k k_in x at) in
    read_plainly limit hosts k h stream f past s (state c.read_quietly.new.self) c.read_quietly.result (verdict.Deliver c.args.port) outcome.NoSocket c.requires.apart k_in h_in
    waits verdict_is refl (ap (λ (o : Option ℕ). option_map_or (λ slot. outcome.Slot slot) o outcome.NoSocket) (sym none)) tt
    (c.read_quietly.ensures.told limit hosts stream f past waits)

pub returns-clause-told : goal.returns-clause-told
returns-clause-told c = λ limit hosts stream f past waits verdict_is.
    let k = c.args.host in
    let h = c.args.peer in
    let port = c.args.port in
    let slot = c.in-Some.slot in
    let s = state c.args.self.now in
    let t = state c.mark_port.new.self in
    let k_in : k < hosts = subst (λ n. k < n) waits.tells.count_is c.requires.host in
    let h_in : h < hosts = subst (λ n. h < n) waits.tells.count_is c.requires.peer in
    let x = c.index.result.now in
    let at : x ≡ get_or s.hosts k x = cc in
    let host = waits.tells.hosts_are k k_in x at in
    let held : Some slot ≡ holder k port past = c.in-Some.ensures.holder k past host in
    let in_range = c.in-Some.ensures.bound k past host in
    let is = delivered_here limit hosts k h stream port slot f past s k_in h_in c.requires.apart waits verdict_is c.in-Some.ensures.slot in
    let after : List Event = Appended k h (Read stream f (outcome.Slot slot)) ∷ past in
    let delivered = c.in_ok-deliver.ensures.told limit hosts stream f past waits is in_range in
    let named : f.header.dport ≡ port = port_is (journal k h past) f.header port verdict_is in
    subst (λ (p : List Event). OnOk c.mark_port.result (Tells limit hosts p t))
    (ap (λ (n : ℕ). update_mark k n slot after) (sym named)
    ∙ read_on_as k h stream f past (verdict.Deliver port) (outcome.Slot slot) verdict_is (ap (λ (o : Option ℕ). option_map_or (λ z. outcome.Slot z) o outcome.NoSocket) (sym held)))
    (c.mark_port.ensures.told limit hosts after delivered in_range)
