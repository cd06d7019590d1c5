use Rattle.std.proofs.Common.{◌≡◌, ℕ, ◌-◌, List, ap, length, ◌∙◌, map, sym, subst, arith}
use Rattle.rds_text.specs.Hosts.{address_of}
use Rattle.rds_run_callers.specs.Places.{Place}
use Rattle.rds_host.specs.Lines.{AreNewLines}
use Rattle.rds_host.specs.Slots.{AreNewSlots}
use Rattle.rds_socket_parts.specs.Lanes.{Ascend}
use Rattle.rds_run_rounds.specs.Grid.{others}
use Rattle.rds_run_settling.specs.Tied.{AreTied}
use Rattle.rds_run_hosts.specs.Obeyed.{AreNewPlaces}
use Rattle.rds_run_hosts.proofs.Made.{all_empty_numbered, all_empty_unused, peers_ascend, peers_count, without_streams}
use Rattle.rds_run_hosts.proofs.Obeying.{length_vacant, new_places}
use Rattle.rds_run_hosts.proofs.making.party.Goals as goal
use Rattle.rds_run_hosts.proofs.making.party.Goals.{After-deref}

peers_are : (g : _) (c : After-deref g) → c.deref.result.now ≡ map address_of (others c.args.script.now.hosts c.args.host)
peers_are g c = c.deref.ensures.value ∙ c.in_ok-peers.ensures

peers_length : (g : _) (c : After-deref g) → length c.deref.result.now ≡ c.args.script.now.hosts - 1
peers_length g c = ap length (peers_are g c) ∙ peers_count c.args.script.now.hosts c.args.host

pub make-requires-clause-peers : goal.make-requires-clause-peers
make-requires-clause-peers g c = let size = peers_length g c in omega (arith, size, c.requires.hosts)

pub make-requires-clause-ascend : goal.make-requires-clause-ascend
make-requires-clause-ascend g c = subst Ascend (sym (peers_are g c)) (peers_ascend c.args.script.now.hosts c.args.host)

pub make-requires-clause-streams : goal.make-requires-clause-streams
make-requires-clause-streams g c = omega (arith, c.in_ok-none.ensures.count, c.len.ensures, c.deref.ensures.len)

pub make-requires-clause-numbered : goal.make-requires-clause-numbered
make-requires-clause-numbered g c = all_empty_numbered c.in_ok-none.none.items c.in_ok-none.ensures.none

pub make-requires-clause-unused : goal.make-requires-clause-unused
make-requires-clause-unused g c = all_empty_unused g.E.End.means c.in_ok-none.none.items c.in_ok-none.ensures.none

pub returns-clause-slots : goal.returns-clause-slots
returns-clause-slots g c =
    let d = (goal.at.returns-clause-slots g c).After-deref in
    subst (λ (ps : List Place). AreNewPlaces c.args.script.now.hosts c.args.host ps) (sym c.in_ok-new.ensures.places)
    (new_places c.slots-slots.result c.args.script.now.hosts c.args.host c.in_ok-vacants.vacants.items
    (subst (λ (ps : List ℕ). AreNewSlots c.slots-slots.result ps c.in_ok-vacants.vacants.items) (peers_are g d) c.in_ok-vacants.ensures.slots))

pub returns-clause-lines : goal.returns-clause-lines
returns-clause-lines g c =
    let d = (goal.at.returns-clause-lines g c).After-deref in
    let none = c.in_ok-none.none.items in
    let made = subst (λ (ps : List ℕ). AreNewLines (address_of c.args.host) c.args.limit ps (map (λ list. list.items) none) c.in_ok-vacants.lines.items) (peers_are g d)
    (subst (λ (a : ℕ). AreNewLines a c.args.limit c.deref.result.now (map (λ list. list.items) none) c.in_ok-vacants.lines.items) c.address.ensures
    c.in_ok-vacants.ensures.lines) in
    without_streams c.args.limit c.args.script.now.hosts c.args.host none c.in_ok-vacants.lines.items c.requires.hosts.0
    (let size = peers_length g d in omega (arith, size, c.in_ok-none.ensures.count, c.len.ensures, c.deref.ensures.len)) c.in_ok-none.ensures.none made

pub returns-clause-tied : goal.returns-clause-tied
returns-clause-tied g c =
    subst (λ (ps : List Place). AreTied ps c.in_ok-vacants.lines.items) (sym c.in_ok-new.ensures.places)
    (c.tied_keeps.ensures.made c.in_ok-vacants.vacants.items c.in_ok-vacants.lines.items c.in_ok-vacants.ensures.host c.in_ok-vacants.ensures.passes)

pub returns-clause-count : goal.returns-clause-count
returns-clause-count g c =
    ap length c.in_ok-new.ensures.places
    ∙ (length_vacant c.in_ok-vacants.vacants.items ∙ (c.in_ok-vacants.ensures.slots.count ∙ c.slots-slots.ensures.count))
