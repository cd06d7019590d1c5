-- Which port a slot has claimed, through the calls on it.
use Rattle.std.proofs.Common.{◌≡◌, ◌≤◌, ◌+◌, ◌-◌, ◌%◌, arith, length, ℕ, List, Option, Some, sym, ap, subst, ⊎_elim, ◌∙◌}
use Rattle.std.proofs.lemmas.List.Elements.{Contains-push_cases}
use Rattle.std.proofs.lemmas.Option.{same_Some}
use Rattle.rds_bindtab.specs.declared.view.View.{View}
use Rattle.rds_bindtab.specs.declared.view.Step.TheVariants.{Claimed, Released}
use Rattle.rds_bindtab.specs.Seats.{PortSeat, after_release, port_of}
use Rattle.rds_fmap.specs.Readers.{ReaderView}
use Rattle.rds_socket_parts.specs.Ports.{HasClaimedOnly, SearchFits}
use Rattle.rds_socket.specs.Holding.{Holding, Open}
use Rattle.rds_socket.specs.Calls.{IsClosed}
use Rattle.rds_model.specs.declared.order.Datagram.{Datagram}
use Rattle.rds_run_callers.specs.Places.{Bound, Place}
use Rattle.rds_run_callers.specs.Ends.{HasItsPort, claimed_port, open_port}
use Rattle.rds_run_callers.specs.States.{shown}
use Rattle.rds_run_callers.specs.declared.state.State.{State}

-- the seat at the port table is the same
pub claims_same : (port : Option ℕ) (old new : Holding ReaderView) → new.ports ≡ old.ports → HasClaimedOnly port old.ports.view → HasClaimedOnly port new.ports.view
claims_same port old new same claimed = subst (λ (p : PortSeat). HasClaimedOnly port p.view) (sym same) claimed

-- all that is held is the same, and so is the port, which has another name
pub claims_of : (port other : ℕ) (old new : Holding ReaderView) → new ≡ old → other ≡ port → HasClaimedOnly (Some other) old.ports.view → HasClaimedOnly (Some port) new.ports.view
claims_of port other old new same called claimed =
    claims_same (Some port) old new (ap (λ (h : Holding ReaderView). h.ports) same) (subst (λ (q : ℕ). HasClaimedOnly (Some q) old.ports.view) called claimed)

-- a release claims nothing
claims_released : (v : View) (port : Option ℕ) → HasClaimedOnly port v → HasClaimedOnly port (after_release v)
claims_released v port only q s m =
    ⊎_elim (λ was. only q s was) (λ (e : Released (port_of v) ≡ Claimed q s 0). absurd (cc)) (Contains-push_cases v.steps (Released (port_of v)) (Claimed q s 0) m)

-- the port was released
pub claims_closed : (o : Open ReaderView) (h : Holding ReaderView) → IsClosed o h → HasClaimedOnly (Some o.port) o.own.ports.view → HasClaimedOnly (Some o.port) h.ports.view
claims_closed o h closed claimed =
    subst (λ (k : Holding ReaderView). HasClaimedOnly (Some o.port) k.ports.view) (sym closed.1.1) (claims_released o.own.ports.view (Some o.port) claimed)

-- no port is held where no socket is open
pub unheld : (p : Place) (h : Holding ReaderView) → ((port : ℕ) → open_port p ≡ Some port → ⊥) → HasClaimedOnly (claimed_port p) h.ports.view → HasItsPort p h
unheld p h none claimed = record { claimed = claimed; holds = λ port is. absurd (none port is) }

pub open_with : (o : Open ReaderView) (got : List Datagram) (h : Holding ReaderView) → HasClaimedOnly (Some o.port) h.ports.view → h.ports.view.port ≡ Some o.port →
    HasItsPort (Bound o got) h
open_with o got h claimed holds = record { claimed = claimed; holds = λ port is. holds ∙ is }

-- a slot shows one place
pub port_shown : (x : State) (q : Place) (h : Holding ReaderView) → shown x ≡ Some q → HasItsPort q h → (p : Place) → shown x ≡ Some p → HasItsPort p h
port_shown x q h shows has p at = subst (λ (r : Place). HasItsPort r h) (same_Some q p (sym shows ∙ at)) has

-- a search finds no reserved port
pub search_low : (old : PortSeat) (p port : ℕ) (new : PortSeat) → SearchFits old p (Some port) new → 2 ≤ port
search_low old p port new fits =
    let at : port ≡ 2 + (p - 2 + length fits.0) % 65534 = fits.3 in
    omega arith
