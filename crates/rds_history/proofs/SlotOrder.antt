-- Sockets that hold a port one after another have rising slots, and so the numbers of a port pair rise from slot to slot.
use Rattle.std.proofs.Common.{◌≡◌, ◌≢◌, ◌⊎◌, inl, inr, ℕ, zero, suc, ◌<◌, ◌≤◌, ◌==◌, ◌&&◌, Bool, true, false, cond, Option, Some, None, Ok, List, [], ◌∷◌, ◌++◌, refl, sym, ◌∙◌, ap, subst, arith, ⊎_elim, append_assoc}
use Rattle.std.proofs.lemmas.Bool.{cases_eq, cond-true, cond-false, and_from, eq-eqb, ne_eqb, eqb-true}
use Rattle.std.proofs.lemmas.Grind.{flat_map-append}
use Rattle.std.proofs.lemmas.List.{append-nil}
use Rattle.std.specs.List.{flat_map}
use Rattle.std.specs.Option.{option_map_or}
use Rattle.rds_wire.specs.declared.frame.Frame.{Frame}
use Rattle.rds_model.specs.declared.entry.Entry.{Entry}
use Rattle.rds_model.specs.declared.entry.Entry.TheVariants.{Accept, Cancel, Open, Pull, Read, Shut, Bad}
use Rattle.rds_model.specs.declared.entry.Outcome.{Outcome}
use Rattle.rds_model.specs.declared.entry.Outcome.TheVariants as outcome
use Rattle.rds_model.specs.Past.{newest_stream, number, open_stream}
use Rattle.rds_model.specs.Pairs.{delivered, delivered_to, is_between}
use Rattle.rds_script.specs.declared.script.Placed.{Placed}
use Rattle.rds_text.specs.Ports.{below}
use Rattle.rds_history.specs.Events.{Event, Appended, Bound, Closed}
use Rattle.rds_history.specs.Courses.{appends}
use Rattle.rds_history.specs.History.{history}
use Rattle.rds_history.specs.Journals.{journal}
use Rattle.rds_history.specs.Open.{open_one, shut_if_open}
use Rattle.rds_history.specs.Sockets.{holder, next_slot}
use Rattle.rds_history.proofs.EventInvariants.{Holds, holds_then, holds_appends, IsRouted, IsKeptInFlight, keeps_history_in_flight}

-- one more slot
pub slots_more : {X : Type 0} (at : ℕ → List X) (n : ℕ) → flat_map at (below (suc n)) ≡ flat_map at (below n) ++ at n
slots_more at n = flat_map-append at (below n) (n ∷ []) ∙ ap (λ l. flat_map at (below n) ++ l) (append-nil (at n))

-- lists that are the same at all slots below n
same_below : (old new : ℕ → List ℕ) (n : ℕ) → ((slot : ℕ) → slot < n → new slot ≡ old slot) → flat_map new (below n) ≡ flat_map old (below n)
same_below old new zero same = refl
same_below old new (suc n) same =
    slots_more new n
    ∙ (λ i. same_below old new n (λ slot low. same slot (omega arith)) i ++ same n (omega arith) i)
    ∙ sym (slots_more old n)

-- one more number at a slot above which there is none
more_below : (old new : ℕ → List ℕ) (to x : ℕ) → new to ≡ old to ++ x ∷ [] → ((slot : ℕ) → to ≢ slot → new slot ≡ old slot) →
    ((slot : ℕ) → to < slot → old slot ≡ []) → (n : ℕ) → to < n → flat_map new (below n) ≡ flat_map old (below n) ++ x ∷ []
more_below old new to x more others none zero low = absurd (omega arith)
more_below old new to x more others none (suc n) low =
    ⊎_elim last (λ apart. earlier apart (more_below old new to x more others none n (omega arith))) (cases_eq to n)
  where
    last : to ≡ n → flat_map new (below (suc n)) ≡ flat_map old (below (suc n)) ++ x ∷ []
    last is =
        slots_more new n
        ∙ (λ i. same_below old new n (λ slot less. others slot (λ same. omega arith)) i ++ subst (λ (slot : ℕ). new slot ≡ old slot ++ x ∷ []) is more i)
        ∙ sym (append_assoc (flat_map old (below n)) (old n) (x ∷ []))
        ∙ ap (λ (l : List ℕ). l ++ x ∷ []) (sym (slots_more old n))

    earlier : to ≢ n → flat_map new (below n) ≡ flat_map old (below n) ++ x ∷ [] → flat_map new (below (suc n)) ≡ flat_map old (below (suc n)) ++ x ∷ []
    earlier apart before =
        let empty : old n ≡ [] = none n (omega arith) in
        slots_more new n
        ∙ ap (λ (l : List ℕ). flat_map new (below n) ++ l) (others n apart ∙ empty)
        ∙ append-nil (flat_map new (below n))
        ∙ before
        ∙ ap (λ (l : List ℕ). l ++ x ∷ [])
        (sym (slots_more old n ∙ ap (λ (l : List ℕ). flat_map old (below n) ++ l) empty ∙ append-nil (flat_map old (below n))))

-- What is kept of a port pair, by the receiver's next slot, the slot that holds the port, the numbers delivered to each slot
-- and those delivered in all.
pub record AreRanked (next : ℕ) (held : Option ℕ) (at : ℕ → List ℕ) (all : List ℕ) : Type 0 where
  pub bound : (slot : ℕ) → held ≡ Some slot → slot < next
  pub unbound : (slot : ℕ) → next ≤ slot → at slot ≡ []
  pub newest : (slot above : ℕ) → held ≡ Some slot → slot < above → at above ≡ []
  pub by_slot : flat_map at (below next) ≡ all

module _ (next : ℕ) (held : Option ℕ) (at : ℕ → List ℕ) (all : List ℕ) (old : AreRanked next held at all) where
  -- one more socket is bound, to the port or to another
  ranked_more : (now : Option ℕ) → ((slot : ℕ) → now ≡ Some slot → (slot ≡ next) ⊎ (held ≡ Some slot)) → AreRanked (suc next) now at all
  ranked_more now is = record {
    bound = λ slot holds. ⊎_elim (λ (same : slot ≡ next). omega arith) (λ (before : held ≡ Some slot). omega (arith, old.bound slot before)) (is slot holds);
    unbound = λ slot high. old.unbound slot (omega arith);
    newest = λ slot above holds higher.
        ⊎_elim (λ (same : slot ≡ next). old.unbound above (omega arith)) (λ (before : held ≡ Some slot). old.newest slot above before higher) (is slot holds);
    by_slot =
        slots_more at next
        ∙ ap (λ (l : List ℕ). flat_map at (below next) ++ l) (old.unbound next (omega arith))
        ∙ append-nil (flat_map at (below next)) ∙ old.by_slot;
  }

  -- the socket of the port is closed
  ranked_none : AreRanked next None at all
  ranked_none = record { bound = λ slot holds. cc; unbound = old.unbound; newest = λ slot above holds higher. cc; by_slot = old.by_slot }

  -- a number is delivered to the holder of the port
  ranked_delivered : (to x : ℕ) (new : ℕ → List ℕ) → held ≡ Some to → new to ≡ at to ++ x ∷ [] → ((slot : ℕ) → to ≢ slot → new slot ≡ at slot) →
      AreRanked next held new (all ++ x ∷ [])
  ranked_delivered to x new holds more others = record {
    bound = old.bound;
    unbound = λ slot high. others slot (λ same. omega (arith, old.bound to holds)) ∙ old.unbound slot high;
    newest = λ slot above holder higher. let same : slot ≡ to = cc in others above (λ is. omega arith) ∙ old.newest slot above holder higher;
    by_slot =
        more_below at new to x more others (λ slot high. old.newest to slot holds high) next (old.bound to holds)
        ∙ ap (λ (l : List ℕ). l ++ x ∷ []) old.by_slot;
  }

  -- nothing is delivered
  ranked_same : (new : ℕ → List ℕ) (total : List ℕ) → ((slot : ℕ) → new slot ≡ at slot) → total ≡ all → AreRanked next held new total
  ranked_same new total same still = record {
    bound = old.bound;
    unbound = λ slot high. same slot ∙ old.unbound slot high;
    newest = λ slot above holds higher. same above ∙ old.newest slot above holds higher;
    by_slot = same_below at new next (λ slot low. same slot) ∙ old.by_slot ∙ sym still;
  }

-- of a port pair and a journal
abbrev pub IsRanked : (sport dport next : ℕ) → Option ℕ → List Entry → Type 0
IsRanked sport dport next held j = AreRanked next held (λ slot. delivered_to slot sport dport j) (delivered sport dport j)

module _ (sport dport next : ℕ) (held : Option ℕ) (j : List Entry) (old : IsRanked sport dport next held j) where
  -- a frame is delivered to a slot
  ranked_slot : (s : ℕ) (f : Frame) (to : ℕ) → (f.header.dport ≡ dport → held ≡ Some to) → IsRanked sport dport next held (Read s f (outcome.Slot to) ∷ j)
  ranked_slot s f to holds = go (is_between sport dport f) refl
    where
      at : ℕ → List ℕ
      at slot = delivered_to slot sport dport j

      no_other : (a b : Bool) → b ≡ false → (a && b) ≡ false
      no_other true b is = is
      no_other false b is = refl

      right : (a b : Bool) → (a && b) ≡ true → b ≡ true
      right true b is = is
      right false b is = cc

      go : (between : Bool) → is_between sport dport f ≡ between → IsRanked sport dport next held (Read s f (outcome.Slot to) ∷ j)
      go false isnt =
          ranked_same next held (λ slot. delivered_to slot sport dport j) (delivered sport dport j) old (λ slot. delivered_to slot sport dport (Read s f (outcome.Slot to) ∷ j))
          (delivered sport dport (Read s f (outcome.Slot to) ∷ j))
          (λ slot. cond-false (to == slot && is_between sport dport f) (delivered_to slot sport dport j ++ number f ∷ []) (delivered_to slot sport dport j) (no_other (to == slot) (is_between sport dport f) isnt))
          (cond-false (is_between sport dport f) (delivered sport dport j ++ number f ∷ []) (delivered sport dport j) isnt)
      go true is =
          subst (AreRanked next held (λ slot. delivered_to slot sport dport (Read s f (outcome.Slot to) ∷ j)))
          (sym (cond-true (is_between sport dport f) (delivered sport dport j ++ number f ∷ []) (delivered sport dport j) is))
          (ranked_delivered next held (λ slot. delivered_to slot sport dport j) (delivered sport dport j) old to (number f) (λ slot. delivered_to slot sport dport (Read s f (outcome.Slot to) ∷ j))
          (holds (eqb-true f.header.dport dport (right (f.header.sport == sport) (f.header.dport == dport) is)))
          (cond-true (to == to && is_between sport dport f) (delivered_to to sport dport j ++ number f ∷ []) (delivered_to to sport dport j) (and_from (to == to) (is_between sport dport f) (eq-eqb to to refl) is))
          (λ slot apart. cond-false (to == slot && is_between sport dport f) (delivered_to slot sport dport j ++ number f ∷ []) (delivered_to slot sport dport j)
          (ap (λ (b : Bool). b && is_between sport dport f) (ne_eqb to slot apart))))

  -- a frame is read
  ranked_read : (s : ℕ) (f : Frame) (o : Outcome) → ((slot : ℕ) → o ≡ outcome.Slot slot → f.header.dport ≡ dport → held ≡ Some slot) →
      IsRanked sport dport next held (Read s f o ∷ j)
  ranked_read s f (outcome.Slot to) holds = ranked_slot s f to (holds to refl)
  ranked_read s f outcome.Old holds = old
  ranked_read s f outcome.NoSocket holds = old
  ranked_read s f outcome.Ping holds = old
  ranked_read s f outcome.Void holds = old
  ranked_read s f outcome.AckOnly holds = old
  ranked_read s f outcome.Map holds = old
  ranked_read s f outcome.OddMap holds = old

-- what each past of a script keeps, of each receiver k, sender h and port pair
abbrev pub InSlotOrder : List Event → Type 0
InSlotOrder past = (k h sport dport : ℕ) → IsRanked sport dport (next_slot k past) (holder k dport past) (journal k h past)

-- an entry that is no read
ranked_silent : (sport dport next : ℕ) (held : Option ℕ) (e : Entry) (j : List Entry) → (IsRanked sport dport next held j → IsRanked sport dport next held (e ∷ j)) →
    IsRanked sport dport next held j → (own : Bool) → IsRanked sport dport next held (cond own (e ∷ j) j)
ranked_silent sport dport next held e j step old true = step old
ranked_silent sport dport next held e j step old false = old

slot_order_entry : (host peer : ℕ) (e : Entry) (past : List Event) → IsRouted host e past → InSlotOrder past → InSlotOrder (Appended host peer e ∷ past)
slot_order_entry host peer (Accept slot from to payload) past routed p k h sport dport =
    ranked_silent sport dport (next_slot k past) (holder k dport past) (Accept slot from to payload) (journal k h past) (λ old. old) (p k h sport dport) (host == k && (peer == h))
slot_order_entry host peer (Cancel slot target) past routed p k h sport dport =
    ranked_silent sport dport (next_slot k past) (holder k dport past) (Cancel slot target) (journal k h past) (λ old. old) (p k h sport dport) (host == k && (peer == h))
slot_order_entry host peer (Open s) past routed p k h sport dport =
    ranked_silent sport dport (next_slot k past) (holder k dport past) (Open s) (journal k h past) (λ old. old) (p k h sport dport) (host == k && (peer == h))
slot_order_entry host peer (Pull s f) past routed p k h sport dport =
    ranked_silent sport dport (next_slot k past) (holder k dport past) (Pull s f) (journal k h past) (λ old. old) (p k h sport dport) (host == k && (peer == h))
slot_order_entry host peer (Shut s) past routed p k h sport dport =
    ranked_silent sport dport (next_slot k past) (holder k dport past) (Shut s) (journal k h past) (λ old. old) (p k h sport dport) (host == k && (peer == h))
slot_order_entry host peer (Bad s header cause) past routed p k h sport dport =
    ranked_silent sport dport (next_slot k past) (holder k dport past) (Bad s header cause) (journal k h past) (λ old. old) (p k h sport dport) (host == k && (peer == h))
slot_order_entry host peer (Read s f o) past routed p k h sport dport = go (host == k) refl
  where
    go : (here : Bool) → (host == k) ≡ here → IsRanked sport dport (next_slot k past) (holder k dport past) (cond (here && (peer == h)) (Read s f o ∷ journal k h past) (journal k h past))
    go false isnt = p k h sport dport
    go true is =
        ranked_silent sport dport (next_slot k past) (holder k dport past) (Read s f o) (journal k h past)
        (λ old. ranked_read sport dport (next_slot k past) (holder k dport past) (journal k h past) old s f o
        (λ slot came port. subst (λ (i : ℕ). holder i dport past ≡ Some slot) (eqb-true host k is)
        (subst (λ (q : ℕ). holder host q past ≡ Some slot) port (routed slot came))))
        (p k h sport dport) (peer == h)

-- a socket is bound, or closed
slot_order_bound : (host port slot sndbuf rcvbuf : ℕ) (past : List Event) → slot ≡ next_slot host past → InSlotOrder past →
    InSlotOrder (Bound host port slot sndbuf rcvbuf ∷ past)
slot_order_bound host port slot sndbuf rcvbuf past next p k h sport dport = go (host == k) refl (port == dport)
  where
    go : (here : Bool) → (host == k) ≡ here → (at : Bool) →
        IsRanked sport dport (cond here (suc (next_slot k past)) (next_slot k past)) (cond (here && at) (Some slot) (holder k dport past)) (journal k h past)
    go false isnt at = p k h sport dport
    go true is false = ranked_more (next_slot k past) (holder k dport past) _ _ (p k h sport dport) (holder k dport past) (λ slot holds. inr holds)
    go true is true =
        ranked_more (next_slot k past) (holder k dport past) _ _ (p k h sport dport) (Some slot)
        (λ other holds. let same : slot ≡ other = cc in inl (sym same ∙ next ∙ ap (λ (i : ℕ). next_slot i past) (eqb-true host k is)))

slot_order_closed : (host port slot unread : ℕ) (past : List Event) → InSlotOrder past → InSlotOrder (Closed host port slot unread ∷ past)
slot_order_closed host port slot unread past p k h sport dport = go (host == k && (port == dport))
  where
    go : (own : Bool) → IsRanked sport dport (next_slot k past) (cond own None (holder k dport past)) (journal k h past)
    go true = ranked_none (next_slot k past) (holder k dport past) _ _ (p k h sport dport)
    go false = p k h sport dport

slot_order_shut : (limit h k : ℕ) (past : List Event) → InSlotOrder past → Holds InSlotOrder (shut_if_open limit h k past)
slot_order_shut limit h k past p = go (open_stream (journal h k past))
  where
    go : (o : Option ℕ) → Holds InSlotOrder (option_map_or (λ stream. appends limit h k (Shut stream) past) o (Ok past))
    go None = p
    go (Some stream) = holds_appends InSlotOrder InSlotOrder limit h k (Shut stream) past p (λ before q. slot_order_entry h k (Shut stream) before tt q)

slot_order_opened : (limit h k : ℕ) (past : List Event) → InSlotOrder past → Holds InSlotOrder (open_one limit h k past)
slot_order_opened limit h k past p =
    let opening : Entry = Open (suc (newest_stream (journal h k past))) in
    holds_appends InSlotOrder InSlotOrder limit h k opening past p (λ before q. slot_order_entry h k opening before tt q)

slot_order_is_kept : IsKeptInFlight InSlotOrder
slot_order_is_kept = record {
  printed = λ line past p a b s d. p a b s d;
  bound = slot_order_bound;
  closed = slot_order_closed;
  marked = λ h port set bytes most past p a b s d. p a b s d;
  moved = λ h k count past within p a b s d. p a b s d;
  received = λ h port slot item waiting past is p a b s d. p a b s d;
  appended = λ h k e past quiet routed p. slot_order_entry h k e past routed p;
  opened = λ limit h k past p. holds_then InSlotOrder InSlotOrder (open_one limit h k past) (open_one limit k h) (slot_order_opened limit h k past p)
      (λ mid q. slot_order_opened limit k h mid q);
  shut = λ limit h k past p. holds_then InSlotOrder InSlotOrder (shut_if_open limit h k past) (shut_if_open limit k h) (slot_order_shut limit h k past p)
      (λ mid q. slot_order_shut limit k h mid q);
}

-- nothing has happened
slot_order_nothing : InSlotOrder []
slot_order_nothing k h sport dport =
    record { bound = λ slot holds. cc; unbound = λ slot high. refl; newest = λ slot above holds higher. cc; by_slot = refl }

-- so after all commands of a script
pub slot_order_history : (limit hosts : ℕ) (commands : List Placed) (past : List Event) → history limit hosts commands [] ≡ Ok past → InSlotOrder past
slot_order_history limit hosts commands past is =
    subst (Holds InSlotOrder) is (keeps_history_in_flight InSlotOrder slot_order_is_kept limit hosts commands [] slot_order_nothing)
