-- What an order without a payload comes to.
use Rattle.std.proofs.Common.{◌≡◌, ℕ, Result, Ok, Err, Some, IfErr, OnOk, OnErr, inl, inr, refl, sym, ap, subst, ◌∙◌}
use Rattle.std.proofs.lemmas.Option.{same_Some}
use Rattle.rds_model.specs.declared.order.Order.{Order}
use Rattle.rds_model.specs.declared.order.Order.TheVariants as order
use Rattle.rds_wire.specs.declared.memory.Memory.{Memory}
use Rattle.rds_fmap.specs.Readers.{ReaderView}
use Rattle.rds_socket_parts.specs.declared.error.CancelError.{CancelError}
use Rattle.rds_socket_parts.specs.declared.error.CancelError.TheVariants as cancel
use Rattle.rds_socket_parts.specs.Lanes.{IsPutTo}
use Rattle.rds_socket_parts.specs.Refusals.{AskRefused}
use Rattle.rds_socket.specs.Holding.{Holding, Open}
use Rattle.rds_socket.specs.Calls.{with_own, with_routes}
use Rattle.rds_run_callers.specs.Places.{Place, holding_of, with_holding}
use Rattle.rds_run_callers.specs.Tenants.{Asks, Cuts, IsAllowed}
use Rattle.rds_run_callers.specs.States.{shown}
use Rattle.rds_run_callers.specs.declared.state.State.{State}

pub asks_of : (peer : ℕ) (item : Order) (old new : Holding ReaderView) (asked : Result (Unit {0}) CancelError) (result : Result (Unit {0}) Memory)
    → OnOk result (IsAllowed asked) → OnOk asked (IsPutTo peer item old.routes new.routes) → IfErr asked (AskRefused peer old.routes) → OnErr asked (new ≡ old)
    → new ≡ with_routes old new.routes → OnOk result (Asks peer item old new)
asks_of peer item old new (Ok a) (Ok r) allowed put refused same rest = inl (put, rest)
asks_of peer item old new (Err (cancel.NoRoute named)) (Ok r) allowed put refused same rest = inr (refused.1, same)
asks_of peer item old new (Err cancel.Memory) (Ok r) allowed put refused same rest = absurd allowed
asks_of peer item old new asked (Err e) allowed put refused same rest = tt

own_same : (asked : Result (Unit {0}) CancelError) (old new : Open ReaderView) → OnErr asked (new ≡ old) → OnErr asked (new.own ≡ old.own)
own_same (Ok a) old new same = tt
own_same (Err e) old new same = ap (λ (o : Open ReaderView). o.own) same

pub asks_open : (peer : ℕ) (item : Order) (old new : Open ReaderView) (asked : Result (Unit {0}) CancelError) (result : Result (Unit {0}) Memory)
    → OnOk result (IsAllowed asked) → OnOk asked (IsPutTo peer item old.own.routes new.own.routes) → IfErr asked (AskRefused peer old.own.routes) → OnErr asked (new ≡ old)
    → new ≡ with_own old (with_routes old.own new.own.routes) → OnOk result (Asks peer item old.own new.own)
asks_open peer item old new asked result allowed put refused same rest =
    asks_of peer item old.own new.own asked result allowed put refused (own_same asked old new same) (ap (λ (o : Open ReaderView). o.own) rest)

-- what a slot shows after a cut was asked for
pub cuts_place : (peer : ℕ) (x : State) (old new : Place) (result : Result (Unit {0}) Memory) → OnOk result (Asks peer order.Cut (holding_of old) (holding_of new))
    → shown x ≡ Some old → new ≡ with_holding old (holding_of new) → OnOk result ((p : Place) → shown x ≡ Some p → (q : Place) × Cuts peer p q × (Some new ≡ Some q))
cuts_place peer x old new (Ok r) asks shows is = λ p e.
    subst (λ (o : Place). (q : Place) × Cuts peer o q × (Some new ≡ Some q)) (same_Some old p (sym shows ∙ e)) (new, (holding_of new, asks, is), refl)
cuts_place peer x old new (Err e) asks shows is = tt
