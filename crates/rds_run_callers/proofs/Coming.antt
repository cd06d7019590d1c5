-- What a call on the slots comes to.
use Rattle.std.proofs.Common.{◌≡◌, ℕ, ◌+◌, List, [], length, set, Result, Ok, Some, slice_get, OnOk, OnErr, inr, refl, sym, ap, subst, ◌∙◌, arith}
use Rattle.std.proofs.lemmas.Result.{on_ok_weaker}
use Rattle.rds_wire.specs.declared.memory.Memory.{Memory}
use Rattle.rds_model.specs.declared.order.Datagram.{Datagram}
use Rattle.rds_fmap.specs.Readers.{ReaderView}
use Rattle.rds_socket.specs.Holding.{Holding, Open}
use Rattle.rds_run_callers.specs.Places.{Place, Bound, Ended, HasKept, IsUnbound, PlaceKeeps, PlacesKeep, holding_of, with_holding}
use Rattle.rds_run_callers.specs.Tenants.{Cuts}
use Rattle.rds_run_callers.specs.Doing.{IsFree, IsNext, AtPort, BindsNext, CutsByLast}
use Rattle.rds_run_callers.specs.States.{shown, shown_all, AreSlots, AreNot, ComesTo, holds_port}
use Rattle.rds_run_callers.specs.declared.state.State.{State}
use Rattle.rds_run_callers.specs.declared.state.State.TheVariants as state
use Rattle.rds_run_callers.specs.declared.tenant.Tenant.{Tenant}
use Rattle.rds_run_callers.specs.declared.former.FormerTenant.{FormerTenant}
use Rattle.rds_run_callers.proofs.Putting.{places_same}
use Rattle.rds_run_callers.proofs.Seen.{count_seen, here_seen, set_twice}
use Rattle.rds_run_callers.proofs.Doings.{at_port, bind_outcome, binds_next, cut_outcome, cut_put, cuts_by_last, former_put, free_seen, next_put, tenant_put}

-- nothing was done
pub nothing : (Done : List Place → List Place → Type 0) (old new : List State) → AreSlots old → new ≡ old → Done (shown_all old) (shown_all old) → ComesTo Done old new (Ok tt)
nothing Done old new sound same done =
    subst (λ (l : List State). ComesTo Done old l (Ok tt)) (sym same) (record { sound = sound; keeps = places_same (shown_all old); done = done })

-- no socket holds the port
pub none_at : (port : ℕ) (Rel : Open ReaderView → List Datagram → Place → Type 0) (old new : List State) → AreSlots old → AreNot (holds_port port) old → new ≡ old
    → ComesTo (AtPort port Rel) old new (Ok tt)
none_at port Rel old new sound none same = nothing (AtPort port Rel) old new sound same (inr (free_seen old sound.whole port none, refl))

module _ (r : Result (Unit {0}) Memory) (old away : List State) (slot : ℕ) (sound : AreSlots old) (lifted : away ≡ set old slot state.Away) where
  back_in : (y : State) → set away slot y ≡ set old slot y
  back_in y = ap (λ (l : List State). set l slot y) lifted ∙ set_twice old slot state.Away y

  module _ (port : ℕ) (Rel : Open ReaderView → List Datagram → Place → Type 0) (t : Tenant) (was : slice_get old slot ≡ Some (state.Bound t)) (held : t.socket.port ≡ port) where
    -- the socket of the port is another now
    pub tenant_back : (u : Tenant) (new : List State) → new ≡ set away slot (state.Bound u) → u.socket.port ≡ t.socket.port → PlaceKeeps t.socket.own u.socket.own → OnOk r (Rel t.socket t.got.items (Bound u.socket u.got.items))
        → ComesTo (AtPort port Rel) old new r
    tenant_back u new made same keeps rel =
        let put = tenant_put old new slot t u sound was same keeps (made ∙ back_in (state.Bound u)) in
        record { sound = put.changed.sound; keeps = put.keeps; done = at_port r port Rel old new (shown_all old) slot t (Bound u.socket u.got.items) refl put held rel }

    -- it has ended
    pub former_back : (f : FormerTenant) (new : List State) → new ≡ set away slot (state.Ended f) → PlaceKeeps t.socket.own f.closed → OnOk r (Rel t.socket t.got.items (Ended f.port f.closed f.got.items))
        → ComesTo (AtPort port Rel) old new r
    former_back f new made keeps rel =
        let put = former_put old new slot t f sound was keeps (made ∙ back_in (state.Ended f)) in
        record { sound = put.changed.sound; keeps = put.keeps; done = at_port r port Rel old new (shown_all old) slot t (Ended f.port f.closed f.got.items) refl put held rel }

  -- the next slot was to be bound to a free port
  pub next_back : (port : ℕ) (Fits : Holding ReaderView → Open ReaderView → Type 0) (h : Holding ReaderView) (y : State) (new : List State) → new ≡ set away slot y → slice_get old slot ≡ Some (state.Vacant h) → IsNext (shown_all old) slot h
      → IsFree (shown_all old) port → OnOk r ((o : Open ReaderView) × Fits h o × (o.port ≡ port) × (shown y ≡ Some (Bound o []))) → OnErr r ((p : Place) × (shown y ≡ Some p) × IsUnbound p)
      → ((p : Place) → shown y ≡ Some p → PlaceKeeps h (holding_of p) × HasKept p) → ComesTo (BindsNext Fits) old new r
  next_back port Fits h y new made was next free bound failed keeps =
      let out = bind_outcome r y port (λ (o : Open ReaderView). Fits h o × (o.port ≡ port)) (λ o f. f.1) (on_ok_weaker r (λ b. (b.0, (b.1, b.2), b.3)) bound) failed in
      let put = next_put old new slot h y out.0 sound was next out.1 (keeps out.0 out.1) (λ o got e. subst (λ (q : ℕ). IsFree (shown_all old) q) (sym (out.2 o got e)) free) (made ∙ back_in y) in
      record {
        sound = put.changed.sound;
        keeps = put.keeps;
        done = binds_next r Fits old new (shown_all old) slot h y out.0 refl put next out.1 (on_ok_weaker r (λ b. (b.0, b.1, b.3)) bound);
      }

-- a cut was asked for by the last slot
pub last_cut : (r : Result (Unit {0}) Memory) (peer : ℕ) (old : List State) (last : ℕ) (x y : State) (new : List State) → new ≡ set (set old last state.Away) last y → AreSlots old → slice_get old last ≡ Some x → last + 1 ≡ length old → OnErr r (y ≡ x)
    → OnOk r ((p : Place) → shown x ≡ Some p → (q : Place) × Cuts peer p q × (shown y ≡ Some q))
    → ((p q : Place) → shown x ≡ Some p → shown y ≡ Some q → PlaceKeeps (holding_of p) (holding_of q)) → ComesTo (CutsByLast peer) old new r
last_cut r peer old last x y new made sound at count same done keeps =
    let p = here_seen old sound.whole last x at in
    let out = cut_outcome r peer x y p.0 p.1 same done in
    let put = cut_put old new last x y p.0 out.0 sound at p.1 out.1 out.2 keeps (made ∙ set_twice old last state.Away y) in
    record {
      sound = put.changed.sound;
      keeps = put.keeps;
      done = cuts_by_last r peer old new (shown_all old) last p.0 (with_holding p.0 out.0) refl put (let n = count_seen old sound.whole in omega arith) out.3;
    }

-- the same, as a caller shows its slots
pub keeps_shown : (Done : List Place → List Place → Type 0) (old new : List State) (places : List Place) (r : Result (Unit {0}) Memory) → shown_all old ≡ places → ComesTo Done old new r → PlacesKeep places (shown_all new)
keeps_shown Done old new places r view came = subst (λ (l : List Place). PlacesKeep l (shown_all new)) view came.keeps

pub done_shown : (Done : List Place → List Place → Type 0) (old new : List State) (places : List Place) (r : Result (Unit {0}) Memory) → shown_all old ≡ places → ComesTo Done old new r → OnOk r (Done places (shown_all new))
done_shown Done old new places r view came = subst (λ (l : List Place). OnOk r (Done l (shown_all new))) view came.done
