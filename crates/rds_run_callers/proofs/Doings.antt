-- What the calls on one slot do to all of them.
use Rattle.std.proofs.Common.{◌≡◌, ℕ, ◌<◌, ◌+◌, ◌≤◌, Bool, true, false, not, List, [], ◌∷◌, ◌++◌, length, set, Result, Ok, Err, Option, Some, None, IfSome, IfNone, slice_get, OnOk, OnErr, inl, inr, refl, sym, ap, subst, ◌∙◌, ⊎_elim, arith}
use Rattle.std.proofs.lemmas.Bool.{cases_lt, eq-eqb}
use Rattle.std.proofs.Common.{eqb-true}
use Rattle.std.proofs.lemmas.Option.{same_Some, slice_get_within}
use Rattle.rds_wire.specs.declared.memory.Memory.{Memory}
use Rattle.rds_model.specs.declared.order.Datagram.{Datagram}
use Rattle.rds_model.specs.declared.order.Order.{Order}
use Rattle.rds_model.specs.declared.order.Order.TheVariants as order
use Rattle.rds_mail.specs.Learning.{AllGot}
use Rattle.rds_mail.specs.Passes.{Putter, after_note}
use Rattle.rds_mail.specs.Numbers.{bare_items}
use Rattle.rds_fmap.specs.Readers.{ReaderView}
use Rattle.rds_socket.specs.Calls.{with_own, with_inbox, IsReceived}
use Rattle.rds_socket.specs.Holding.{Holding, Open}
use Rattle.rds_run_callers.specs.Places.{Place, Vacant, Bound, Ended, Spare, ArePlaces, HasKept, IsUsed, IsUnbound, IsVacantPlace, PlaceKeeps, holding_of, with_holding, told_by}
use Rattle.rds_run_callers.specs.Tenants.{Asks, Cuts, ReceivesNext}
use Rattle.rds_run_callers.specs.Doing.{IsFree, IsHeld, IsNext, NoneVacant, AtPort, BindsNext, CutsByLast}
use Rattle.rds_run_callers.specs.States.{shown, shown_all, NoneAway, AreSlots, AreNot, holds_port, is_vacant}
use Rattle.rds_run_callers.specs.declared.state.State.{State}
use Rattle.rds_run_callers.specs.declared.state.State.TheVariants as state
use Rattle.rds_run_callers.specs.declared.tenant.Tenant.{Tenant}
use Rattle.rds_run_callers.specs.declared.former.FormerTenant.{FormerTenant}
use Rattle.rds_run_callers.proofs.Seen.{IsChanged, IsPut, change_state, put_state, read_seen, find_seen}
use Rattle.rds_run_callers.proofs.Putting.{MayStand}
use Rattle.std.specs.Option.{is_some}

true_false : true ≡ false → ⊥
true_false e = absurd (cc)

abbrev socket_or : Open ReaderView → Place → Open ReaderView
socket_or d (Vacant h) = d
socket_or d (Bound o got) = o
socket_or d (Ended port h got) = d
socket_or d (Spare h) = d

pub used_not : (p : Place) → IsUsed p → IsVacantPlace p → ⊥
used_not p used v = subst IsUsed v.1 used

pub unbound_not : (p : Place) (o : Open ReaderView) (got : List Datagram) → IsUnbound p → p ≡ Bound o got → ⊥
unbound_not p o got not e = subst IsUnbound e not

-- what shows as bound holds its port, and what shows as vacant is
shows_held : (x : State) (o : Open ReaderView) (got : List Datagram) (port : ℕ) → shown x ≡ Some (Bound o got) → o.port ≡ port → holds_port port x ≡ true
shows_held (state.Vacant h) o got port e at = absurd (unbound_not (Vacant h) o got tt (same_Some (Vacant h) (Bound o got) e))
shows_held (state.Bound t) o got port e at = eq-eqb t.socket.port port (ap (λ (p : Place). (socket_or o p).port) (same_Some (Bound t.socket t.got.items) (Bound o got) e) ∙ at)
shows_held (state.Ended f) o got port e at = absurd (unbound_not (Ended f.port f.closed f.got.items) o got tt (same_Some (Ended f.port f.closed f.got.items) (Bound o got) e))
shows_held (state.Spare s) o got port e at = absurd (unbound_not (Spare s.closed) o got tt (same_Some (Spare s.closed) (Bound o got) e))
shows_held state.Away o got port e at = absurd (cc)

shows_vacant : (x : State) (h : Holding ReaderView) → shown x ≡ Some (Vacant h) → is_vacant x ≡ true
shows_vacant (state.Vacant k) h e = refl
shows_vacant (state.Bound t) h e = absurd (used_not (Bound t.socket t.got.items) tt (h, same_Some (Bound t.socket t.got.items) (Vacant h) e))
shows_vacant (state.Ended f) h e = absurd (used_not (Ended f.port f.closed f.got.items) tt (h, same_Some (Ended f.port f.closed f.got.items) (Vacant h) e))
shows_vacant (state.Spare s) h e = absurd (used_not (Spare s.closed) tt (h, same_Some (Spare s.closed) (Vacant h) e))
shows_vacant state.Away h e = absurd (cc)

held_shows : (states : List State) (whole : NoneAway states) (slot port : ℕ) (x : State) → slice_get states slot ≡ Some x → holds_port port x ≡ true → IsHeld (shown_all states) port
held_shows states whole slot port (state.Vacant h) at held = absurd (cc)
held_shows states whole slot port (state.Bound t) at held = (slot, t.socket, t.got.items, read_seen states whole slot (state.Bound t) at, eqb-true t.socket.port port held)
held_shows states whole slot port (state.Ended f) at held = absurd (cc)
held_shows states whole slot port (state.Spare s) at held = absurd (cc)
held_shows states whole slot port state.Away at held = absurd (cc)

module _ (states : List State) (whole : NoneAway states) where
  pub free_seen : (port : ℕ) → AreNot (holds_port port) states → IsFree (shown_all states) port
  free_seen port none slot o got at e =
      let f = find_seen states whole slot (Bound o got) at in
      true_false (sym (shows_held f.0 o got port f.2 e) ∙ none slot f.0 f.1)

  pub held_seen : (slot port : ℕ) → (x : State) × (slice_get states slot ≡ Some x) × (holds_port port x ≡ true) → IsHeld (shown_all states) port
  held_seen slot port f = held_shows states whole slot port f.0 f.1 f.2

  pub none_seen : AreNot is_vacant states → NoneVacant (shown_all states)
  none_seen none slot h at =
      let f = find_seen states whole slot (Vacant h) at in
      true_false (sym (shows_vacant f.0 h f.2) ∙ none slot f.0 f.1)

  pub next_seen : (slot : ℕ) (h : Holding ReaderView) → ((other : ℕ) (x : State) → slice_get states other ≡ Some x → other < slot → is_vacant x ≡ false)
      → slice_get states slot ≡ Some (state.Vacant h) → IsNext (shown_all states) slot h
  next_seen slot h first at = (
    read_seen states whole slot (state.Vacant h) at,
    λ other k there.
        let f = find_seen states whole other (Vacant k) there in ⊎_elim
        (λ (l : other < slot). absurd (true_false (sym (shows_vacant f.0 k f.2) ∙ first other f.0 f.1 l)))
        (λ (l : slot ≤ other). l)
        (cases_lt other slot),
  )

-- the socket at a slot is another now
pub tenant_put : (old new : List State) (slot : ℕ) (t u : Tenant) → AreSlots old → slice_get old slot ≡ Some (state.Bound t) → u.socket.port ≡ t.socket.port
    → PlaceKeeps t.socket.own u.socket.own → new ≡ set old slot (state.Bound u) → IsPut old new slot (Bound t.socket t.got.items) (Bound u.socket u.got.items)
tenant_put old new slot t u sound at port keeps made =
    put_state old new slot (state.Bound t) (state.Bound u) (Bound t.socket t.got.items) (Bound u.socket u.got.items) sound at refl refl made keeps (λ was. record {
      number = keeps.stays.slot;
      kept = (u.kept, u.sends);
      port = λ o q got more other e there same.
          sound.places.ports other slot q t.socket more t.got.items there was (sym same ∙ (sym (ap (λ (p : Place). (socket_or o p).port) e) ∙ port));
      from = λ v. absurd (used_not (Bound u.socket u.got.items) tt v);
      order = λ other h there ne le. absurd (used_not (Bound t.socket t.got.items) tt (sound.places.order other slot h (Bound t.socket t.got.items) there was le));
    })

-- the socket at a slot has ended
pub former_put : (old new : List State) (slot : ℕ) (t : Tenant) (f : FormerTenant) → AreSlots old → slice_get old slot ≡ Some (state.Bound t)
    → PlaceKeeps t.socket.own f.closed → new ≡ set old slot (state.Ended f) → IsPut old new slot (Bound t.socket t.got.items) (Ended f.port f.closed f.got.items)
former_put old new slot t f sound at keeps made =
    put_state old new slot (state.Bound t) (state.Ended f) (Bound t.socket t.got.items) (Ended f.port f.closed f.got.items) sound at refl refl made keeps (λ was. record {
      number = keeps.stays.slot;
      kept = f.kept;
      port = λ o q got more other e there same. absurd (unbound_not (Ended f.port f.closed f.got.items) o got tt e);
      from = λ v. absurd (used_not (Ended f.port f.closed f.got.items) tt v);
      order = λ other h there ne le. absurd (used_not (Bound t.socket t.got.items) tt (sound.places.order other slot h (Bound t.socket t.got.items) there was le));
    })

-- a vacant slot is another now
pub next_put : (old new : List State) (slot : ℕ) (h : Holding ReaderView) (y : State) (p : Place) → AreSlots old → slice_get old slot ≡ Some (state.Vacant h) → IsNext (shown_all old) slot h
    → shown y ≡ Some p → PlaceKeeps h (holding_of p) × HasKept p → ((o : Open ReaderView) (got : List Datagram) → p ≡ Bound o got → IsFree (shown_all old) o.port)
    → new ≡ set old slot y → IsPut old new slot (Vacant h) p
next_put old new slot h y p sound at next shows keeps free made =
    put_state old new slot (state.Vacant h) y (Vacant h) p sound at refl shows made keeps.0 (λ was. record {
      number = keeps.0.stays.slot;
      kept = keeps.1;
      port = λ o q got more other e there same. absurd (free o got e other q more there (sym same));
      from = λ v. (h, refl);
      order = λ other k there ne le. let l = next.1 other k there in absurd (ne (omega arith));
    })

-- a slot holds something else from whose mailbox nothing else was taken
alike_stands : (places : List Place) (slot : ℕ) (p : Place) (h : Holding ReaderView) (was : slice_get places slot ≡ Some p) → ArePlaces places
    → h.words.slot ≡ (holding_of p).words.slot → h.inbox.get.got ≡ (holding_of p).inbox.get.got → MayStand places slot p (with_holding p h) was
alike_stands places slot (Vacant k) h was a number got = record {
  number = number;
  kept = got ∙ a.kept slot (Vacant k) was;
  port = λ o q g more other e there same. absurd (unbound_not (Vacant h) o g tt e);
  from = λ v. (k, refl);
  order = λ other v there ne le. (h, refl);
}
alike_stands places slot (Bound u list) h was a number got =
    let kept = a.kept slot (Bound u list) was in record {
      number = number;
      kept = (kept.0 ∙ ap bare_items (sym got), kept.1);
      port = λ o q g more other e there same.
          a.ports other slot q u more list there was (sym same ∙ sym (ap (λ (x : Place). (socket_or o x).port) e));
      from = λ v. absurd (used_not (Bound (with_own u h) list) tt v);
      order = λ other v there ne le. absurd (used_not (Bound u list) tt (a.order other slot v (Bound u list) there was le));
    }
alike_stands places slot (Ended port k list) h was a number got = record {
  number = number;
  kept = a.kept slot (Ended port k list) was ∙ ap bare_items (sym got);
  port = λ o q g more other e there same. absurd (unbound_not (Ended port h list) o g tt e);
  from = λ v. absurd (used_not (Ended port h list) tt v);
  order = λ other v there ne le. absurd (used_not (Ended port k list) tt (a.order other slot v (Ended port k list) there was le));
}
alike_stands places slot (Spare k) h was a number got = record {
  number = number;
  kept = got ∙ a.kept slot (Spare k) was;
  port = λ o q g more other e there same. absurd (unbound_not (Spare h) o g tt e);
  from = λ v. absurd (used_not (Spare h) tt v);
  order = λ other v there ne le. absurd (used_not (Spare k) tt (a.order other slot v (Spare k) there was le));
}

pub holds : (p : Place) (h : Holding ReaderView) → holding_of (with_holding p h) ≡ h
holds (Vacant k) h = refl
holds (Bound o got) h = refl
holds (Ended port k got) h = refl
holds (Spare k) h = refl

-- the slot holds something else now
pub alike_change : (old new : List State) (slot : ℕ) (x y : State) (p : Place) (h : Holding ReaderView) → AreSlots old → slice_get old slot ≡ Some x → shown x ≡ Some p
    → shown y ≡ Some (with_holding p h) → h.words.slot ≡ (holding_of p).words.slot → h.inbox.get.got ≡ (holding_of p).inbox.get.got → new ≡ set old slot y
    → IsChanged old new slot p (with_holding p h)
alike_change old new slot x y p h sound at shows shows_new number got made =
    change_state old new slot x y p (with_holding p h) sound at shows shows_new made (λ was. alike_stands (shown_all old) slot p h was sound.places number got)

-- a slot by which a cut was asked for, or which is the same
asks_got : (peer : ℕ) (item : Order) (old new : Holding ReaderView) → Asks peer item old new → new.inbox.get.got ≡ old.inbox.get.got
asks_got peer item old new (inl put) = ap (λ (h : Holding ReaderView). h.inbox.get.got) put.1
asks_got peer item old new (inr none) = ap (λ (h : Holding ReaderView). h.inbox.get.got) none.1

with_same : (p : Place) → p ≡ with_holding p (holding_of p)
with_same (Vacant k) = refl
with_same (Bound o got) = refl
with_same (Ended port k got) = refl
with_same (Spare k) = refl

-- what a slot shows after a cut was asked for by it: it holds something else, from whose mailbox nothing was taken
pub cut_outcome : (r : Result (Unit {0}) Memory) (peer : ℕ) (x y : State) (p : Place) → shown x ≡ Some p → OnErr r (y ≡ x)
    → OnOk r ((p : Place) → shown x ≡ Some p → (q : Place) × Cuts peer p q × (shown y ≡ Some q))
    → (h : Holding ReaderView) × (shown y ≡ Some (with_holding p h)) × (h.inbox.get.got ≡ (holding_of p).inbox.get.got) × OnOk r (Cuts peer p (with_holding p h))
cut_outcome (Ok r) peer x y p shows same done =
    let d = done p shows in
    let h = d.1.0 in
    (h, d.2 ∙ ap Some d.1.2, asks_got peer order.Cut (holding_of p) h d.1.1, (h, d.1.1, refl))
cut_outcome (Err r) peer x y p shows same done = (holding_of p, ap shown same ∙ (shows ∙ ap Some (with_same p)), refl, tt)

pub cut_put : (old new : List State) (slot : ℕ) (x y : State) (p : Place) (h : Holding ReaderView) → AreSlots old → slice_get old slot ≡ Some x → shown x ≡ Some p
    → shown y ≡ Some (with_holding p h) → h.inbox.get.got ≡ (holding_of p).inbox.get.got → ((p q : Place) → shown x ≡ Some p → shown y ≡ Some q → PlaceKeeps (holding_of p) (holding_of q))
    → new ≡ set old slot y → IsPut old new slot p (with_holding p h)
cut_put old new slot x y p h sound at shows shows_new got keeps made =
    let k = keeps p (with_holding p h) shows shows_new in
    put_state old new slot x y p (with_holding p h) sound at shows shows_new made k
    (λ was. alike_stands (shown_all old) slot p h was sound.places (sym (ap (λ (z : Holding ReaderView). z.words.slot) (holds p h)) ∙ k.stays.slot) got)

pub cuts_by_last : (r : Result (Unit {0}) Memory) (peer : ℕ) (old new : List State) (places : List Place) (slot : ℕ) (p q : Place) → shown_all old ≡ places → IsPut old new slot p q
    → slot + 1 ≡ length (shown_all old) → OnOk r (Cuts peer p q) → OnOk r (CutsByLast peer places (shown_all new))
cuts_by_last (Ok r) peer old new places slot p q view put last cuts =
    subst (λ (l : List Place). CutsByLast peer l (shown_all new)) view (inl (slot, p, q, last, put.changed.was, cuts, put.changed.is))
cuts_by_last (Err r) peer old new places slot p q view put last cuts = tt

-- no socket holds the port, and nothing changed
pub at_none : (port : ℕ) (Rel : Open ReaderView → List Datagram → Place → Type 0) (old new : List State) (places : List Place) → shown_all old ≡ places → NoneAway old
    → AreNot (holds_port port) old → new ≡ old → AtPort port Rel places (shown_all new)
at_none port Rel old new places view whole none same = inr (subst (λ (l : List Place). IsFree l port) view (free_seen old whole port none), ap shown_all same ∙ view)

pub receives : (any : Bool) (t u : Tenant) → (any ≡ true → (item : Datagram) × IsReceived item t.socket u.socket × (u.got.items ≡ t.got.items ++ item ∷ []))
    → (any ≡ false → (u.socket ≡ t.socket) × (u.got.items ≡ t.got.items)) → (any ≡ false → AllGot t.socket.own.inbox.get)
    → ReceivesNext t.socket t.got.items (Bound u.socket u.got.items)
receives true t u got same empty = let g = got refl in inl (g.0, u.socket, g.1, ap (λ l. Bound u.socket l) g.2)
receives false t u got same empty = let s = same refl in inr (empty refl, λ i. Bound (s.0 i) (s.1 i))

-- whether a search found none
pub when_none : {P : Type 0} (r : Option ℕ) (b : Bool) → is_some r ≡ not b → IfNone r P → b ≡ true → P
when_none None b e p is = p
when_none (Some x) b e p is = absurd (cc)

pub when_some : {P : ℕ → Type 0} (r : Option ℕ) (b : Bool) → is_some r ≡ not b → IfSome r P → b ≡ false → (x : ℕ) × P x
when_some None b e p is = absurd (cc)
when_some (Some x) b e p is = (x, p)

-- what a bind came to: a new socket at this port, or none
pub bind_outcome : (r : Result (Unit {0}) Memory) (y : State) (port : ℕ) (Fits : Open ReaderView → Type 0) → ((o : Open ReaderView) → Fits o → o.port ≡ port)
    → OnOk r ((o : Open ReaderView) × Fits o × (shown y ≡ Some (Bound o []))) → OnErr r ((p : Place) × (shown y ≡ Some p) × IsUnbound p)
    → (p : Place) × (shown y ≡ Some p) × ((o : Open ReaderView) (got : List Datagram) → p ≡ Bound o got → o.port ≡ port)
bind_outcome (Ok r) y port Fits at bound failed = (Bound bound.0 [], bound.2, λ o got e. sym (ap (λ (p : Place). (socket_or o p).port) e) ∙ at bound.0 bound.1)
bind_outcome (Err r) y port Fits at bound failed = (failed.0, failed.1, λ o got e. absurd (unbound_not failed.0 o got failed.2 e))

pub binds_next : (r : Result (Unit {0}) Memory) (Fits : Holding ReaderView → Open ReaderView → Type 0) (old new : List State) (places : List Place) (slot : ℕ) (h : Holding ReaderView) (y : State) (p : Place)
    → shown_all old ≡ places → IsPut old new slot (Vacant h) p → IsNext (shown_all old) slot h → shown y ≡ Some p → OnOk r ((o : Open ReaderView) × Fits h o × (shown y ≡ Some (Bound o [])))
    → OnOk r (BindsNext Fits places (shown_all new))
binds_next (Ok r) Fits old new places slot h y p view put next shows bound =
    subst (λ (l : List Place). BindsNext Fits l (shown_all new)) view
    (slot, h, bound.0, next, bound.1, put.changed.is ∙ ap (λ q. set (shown_all old) slot q) (same_Some p (Bound bound.0 []) (sym shows ∙ bound.2)))
binds_next (Err r) Fits old new places slot h y p view put next shows bound = tt

-- what a call on the socket of a port came to
pub at_port : (r : Result (Unit {0}) Memory) (port : ℕ) (Rel : Open ReaderView → List Datagram → Place → Type 0) (old new : List State) (places : List Place) (slot : ℕ) (t : Tenant) (q : Place)
    → shown_all old ≡ places → IsPut old new slot (Bound t.socket t.got.items) q → t.socket.port ≡ port → OnOk r (Rel t.socket t.got.items q) → OnOk r (AtPort port Rel places (shown_all new))
at_port (Ok r) port Rel old new places slot t q view put port_is rel =
    subst (λ (l : List Place). AtPort port Rel l (shown_all new)) view (inl (slot, t.socket, t.got.items, put.changed.was, port_is, (q, rel, put.changed.is)))
at_port (Err r) port Rel old new places slot t q view put port_is rel = tt

-- the state that was taken from a slot shows the place that contracts see there
pub showing : (states : List State) (places : List Place) (slot place : ℕ) (x : State) (p : Place) → NoneAway states → shown_all states ≡ places → place ≡ slot → slice_get states place ≡ Some x
    → slice_get places slot ≡ Some p → shown x ≡ Some p
showing states places slot place x p whole view same here at =
    let f = find_seen states whole slot p (ap (λ l. slice_get l slot) view ∙ at) in
    ap shown (same_Some x f.0 (sym here ∙ (ap (λ i. slice_get states i) same ∙ f.1))) ∙ f.2

-- a slot of which contracts see a place is there
pub place_within : (states : List State) (places : List Place) (slot place : ℕ) (p : Place) → NoneAway states → shown_all states ≡ places → place ≡ slot → slice_get places slot ≡ Some p
    → place < length states
place_within states places slot place p whole view same at =
    let f = find_seen states whole slot p (ap (λ l. slice_get l slot) view ∙ at) in
    let small = slice_get_within states slot f.0 f.1 in
    omega arith

-- a slot was told of what a putter had put
pub heard : (states new : List State) (places : List Place) (slot place : ℕ) (x y : State) (p : Place) (note : Putter Datagram) → AreSlots states → shown_all states ≡ places → place ≡ slot
    → slice_get states place ≡ Some x → new ≡ set states place y → slice_get places slot ≡ Some p → (shown x ≡ Some p → shown y ≡ Some (told_by p note))
    → AreSlots new × (shown_all new ≡ set places slot (told_by p note))
heard states new places slot place x y p note sound view same here made at told =
    let shows = showing states places slot place x p sound.whole view same here at in
    let h = with_inbox (holding_of p) (record (holding_of p).inbox { get = after_note (holding_of p).inbox.get note }) in
    let c = alike_change states new place x y p h sound here shows (told shows) refl refl made in
    (c.sound, c.is ∙ λ i. set (view i) (same i) (told_by p note))
