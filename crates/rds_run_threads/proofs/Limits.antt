-- The receive limits that the slots of a host have stored are those that the binds of these slots ask for.
use Rattle.std.proofs.Common.{◌≡◌, ◌⊎◌, inl, inr, ℕ, List, [], ◌∷◌, ◌++◌, append_assoc, Ok, Some, set, slice_get, refl, sym, ap, subst, ◌∙◌, arith}
use Rattle.std.specs.Prelude.{Contains}
use Rattle.std.proofs.lemmas.List.Elements.{Contains-push_cases}
use Rattle.std.proofs.lemmas.Option.{same_Some, slice_get_within}
use Rattle.rds_model.specs.declared.order.Datagram.{Datagram}
use Rattle.rds_model.specs.declared.order.Order.{Order}
use Rattle.rds_model.specs.declared.order.Order.TheVariants as order
use Rattle.rds_meter.specs.declared.view.Step.{Step}
use Rattle.rds_meter.specs.declared.view.Step.TheVariants.{Stored}
use Rattle.rds_meter.specs.Places.{freed_word, limit_word}
use Rattle.rds_meter.specs.Seats.{after_store}
use Rattle.rds_meter.specs.Shared.{HasStored}
use Rattle.rds_fmap.specs.Readers.{IsLook, ReaderView}
use Rattle.rds_socket_parts.specs.Words.{Purse, purse_with}
use Rattle.rds_socket.specs.declared.error.SendError.{SendError}
use Rattle.rds_socket.specs.declared.error.SendError.TheVariants as send
use Rattle.rds_socket.specs.Binds.{BindAnyFits, BindFits}
use Rattle.rds_socket.specs.Holding.{Holding, Open}
use Rattle.rds_socket.specs.Sends.{RefusalFits}
use Rattle.rds_text.specs.Hosts.{address_of}
use Rattle.rds_script.specs.declared.script.Command.{Command}
use Rattle.rds_script.specs.declared.script.Command.TheVariants as script
use Rattle.rds_script.specs.declared.script.Placed.{Placed}
use Rattle.rds_run_callers.specs.Commands.{commander}
use Rattle.rds_run_callers.specs.Doing.{AtPort, BindsNext, IsDone, IsFirstFree}
use Rattle.rds_run_callers.specs.Ends.{StoresNoMore}
use Rattle.rds_run_callers.specs.Places.{Bound, Ended, Place, Spare, Vacant, holding_of, with_holding}
use Rattle.rds_run_callers.specs.Tenants.{Asks, Cancels, Closes, ReceivesNext, SendsFrom, SendsOrNot}
use Rattle.rds_run_callers.specs.StoringLaws.{stores_closed, stores_load, stores_received, stores_same}
use Rattle.rds_run_hosts.specs.Obeyed.{DoesCommand, HasDone, HasObeyed}
use Rattle.rds_run_threads.specs.Outcome.{BindsAt, BindsSlot, BindsWith}
use Rattle.rds_run_threads.proofs.At.{at_set, beside_set, one_at}
use Rattle.rds_run_threads.proofs.CutsPut.{either_way}

asks_words : (to : ℕ) (item : Order) (old new : Holding ReaderView) → Asks to item old new → new.words ≡ old.words
asks_words to item old new (inl put) = ap (λ (h : Holding ReaderView). h.words) put.1
asks_words to item old new (inr none) = ap (λ (h : Holding ReaderView). h.words) none.1

refused : (to dport : ℕ) (payload : List ℕ) (o q : Open ReaderView) (e : SendError) → RefusalFits IsLook to dport payload o e q → StoresNoMore o.own q.own
refused to dport payload o q (send.TooLong len limit) fits = stores_same o.own q.own (ap (λ (x : Open ReaderView). x.own.words) fits.3)
refused to dport payload o q (send.NoRoute named) fits = stores_same o.own q.own (ap (λ (x : Open ReaderView). x.own.words) fits.3)
refused to dport payload o q (send.Congested port version) fits = stores_same o.own q.own (ap (λ (x : Open ReaderView). x.own.words) fits.3)
refused to dport payload o q (send.SendFull queued len limit) fits =
    stores_load o.own q.own (freed_word o.own.words.slot) fits.1.0 (ap (λ (x : Open ReaderView). x.own.words) fits.1.5)
refused to dport payload o q send.Memory fits =
    stores_load o.own q.own (freed_word o.own.words.slot) fits.1.0 (ap (λ (x : Open ReaderView). x.own.words) fits.1.2)

sends_from : (to dport : ℕ) (payload : List ℕ) (o : Open ReaderView) (got : List Datagram) (p : Place) → SendsFrom to dport payload o got p → StoresNoMore o.own (holding_of p)
sends_from to dport payload o got p is = subst (λ (x : Place). StoresNoMore o.own (holding_of x)) (sym is.2) (go is.1)
  where
    go : SendsOrNot to dport payload o is.0 → StoresNoMore o.own is.0.own
    go (inl sent) = stores_load o.own is.0.own (freed_word o.own.words.slot) sent.1 (ap (λ (x : Open ReaderView). x.own.words) sent.5)
    go (inr not_sent) = refused to dport payload o is.0 not_sent.0 not_sent.2

receives : (o : Open ReaderView) (got : List Datagram) (p : Place) → ReceivesNext o got p → StoresNoMore o.own (holding_of p)
receives o got p (inl is) = subst (λ (x : Place). StoresNoMore o.own (holding_of x)) (sym is.3) (stores_received is.0 o is.1 is.2)
receives o got p (inr none) = stores_same o.own (holding_of p) (ap (λ (x : Place). (holding_of x).words) none.1)

cancels : (to dport : ℕ) (o : Open ReaderView) (got : List Datagram) (p : Place) → Cancels to dport o got p → StoresNoMore o.own (holding_of p)
cancels to dport o got p is = subst (λ (x : Place). StoresNoMore o.own (holding_of x)) (sym is.2) (stores_same o.own is.0 (asks_words to (order.Cancel o.own.words.slot dport) o.own is.0 is.1))

closes : (o : Open ReaderView) (got : List Datagram) (p : Place) → Closes o got p → StoresNoMore o.own (holding_of p)
closes o got p is = subst (λ (x : Place). StoresNoMore o.own (holding_of x)) (sym is.2) (stores_closed o is.0 is.1)

holds : (p : Place) (k : Holding ReaderView) → holding_of (with_holding p k) ≡ k
holds (Vacant v) k = refl
holds (Bound o got) k = refl
holds (Ended port v got) k = refl
holds (Spare v) k = refl

module _ (P : (slot limit : ℕ) → Type 0) where
  -- each limit that a slot has stored is such a one
  abbrev pub LimitsAre : List Place → Type 0
  LimitsAre places = (k : ℕ) (p : Place) → slice_get places k ≡ Some p → (slot limit : ℕ) → HasStored slot limit (holding_of p).words.seat.view → P slot limit

  -- what is stored was stored before, or is such a one
  abbrev Adds : Holding ReaderView → Holding ReaderView → Type 0
  Adds old new = (slot limit : ℕ) → HasStored slot limit new.words.seat.view → HasStored slot limit old.words.seat.view ⊎ P slot limit

  stays : (old new : List Place) → new ≡ old → LimitsAre old → LimitsAre new
  stays old new same h = subst (λ (l : List Place). LimitsAre l) (sym same) h

  slot_keeps : (old : List Place) (slot : ℕ) (p q : Place) → slice_get old slot ≡ Some p → Adds (holding_of p) (holding_of q) → LimitsAre old → LimitsAre (set old slot q)
  slot_keeps old slot p q at adds all k x at_x s l has =
      either_way k slot
      (λ is.
      let here = subst (λ (j : ℕ). slice_get (set old slot q) j ≡ Some x) is at_x in
      let x_is : x ≡ q = one_at (set old slot q) slot x q here (at_set old slot q (slice_get_within old slot p at)) in
      go (adds s l (subst (λ (y : Place). HasStored s l (holding_of y).words.seat.view) x_is has)))
      (λ apart. all k x (sym (beside_set old slot k q apart) ∙ at_x) s l has)
    where
      go : HasStored s l (holding_of p).words.seat.view ⊎ P s l → P s l
      go (inl before) = all slot p at s l before
      go (inr new) = new

  no_more : (old new : Holding ReaderView) → StoresNoMore old new → Adds old new
  no_more old new stored s l has = inl (stored s l has)

  abbrev limit_in : Step → ℕ
  limit_in (Stored word limit) = limit
  limit_in _ = 0

  abbrev word_in : Step → ℕ
  word_in (Stored word limit) = word
  word_in _ = 0

  one_more : (old new : Holding ReaderView) (rcvbuf : ℕ) → P old.words.slot rcvbuf → new.words ≡ purse_with old.words (after_store old.words.seat.view old.words.slot rcvbuf) → Adds old new
  one_more old new rcvbuf such is s l has =
      go (Contains-push_cases old.words.seat.view.steps (Stored (limit_word old.words.slot) rcvbuf) (Stored (limit_word s) l)
      (subst (λ (w : Purse). HasStored s l w.seat.view) is has))
    where
      go : Contains old.words.seat.view.steps (Stored (limit_word s) l) ⊎ (Stored (limit_word old.words.slot) rcvbuf ≡ Stored (limit_word s) l) → HasStored s l old.words.seat.view ⊎ P s l
      go (inl before) = inl before
      go (inr same) = inr (subst (λ (n : ℕ). P n l) (ap word_in same) (subst (λ (n : ℕ). P old.words.slot n) (ap limit_in same) such))

  binds_next : (Fits : Holding ReaderView → Open ReaderView → Type 0) (old new : List Place) (rcvbuf : ℕ) → ((slot : ℕ) → BindsAt slot old new → P slot rcvbuf) →
      ((v : Holding ReaderView) (o : Open ReaderView) → Fits v o → o.own.words ≡ purse_with v.words (after_store v.words.seat.view v.words.slot rcvbuf)) →
      BindsNext Fits old new → LimitsAre old → LimitsAre new
  binds_next Fits old new rcvbuf such stored is h =
      subst (λ (l : List Place). LimitsAre l) (sym is.5)
      (slot_keeps old is.0 (Vacant is.1) (Bound is.2 []) is.3.0 (one_more is.1 is.2.own rcvbuf (such is.1.words.slot bound) (stored is.1 is.2 is.4)) h)
    where
      bound : BindsAt is.1.words.slot old new
      bound =
          let within = slice_get_within old is.0 (Vacant is.1) is.3.0 in
          (is.0, is.1, is.2, is.3.0, refl, subst (λ (l : List Place). slice_get l is.0 ≡ Some (Bound is.2 [])) (sym is.5) (at_set old is.0 (Bound is.2 []) within))

  at_port : (Rel : Open ReaderView → List Datagram → Place → Type 0) (port : ℕ) (old new : List Place) →
      ((o : Open ReaderView) (got : List Datagram) (p : Place) → Rel o got p → StoresNoMore o.own (holding_of p)) → AtPort port Rel old new → LimitsAre old → LimitsAre new
  at_port Rel port old new keeps (inl is) h =
      subst (λ (l : List Place). LimitsAre l) (sym is.5.2)
      (slot_keeps old is.0 (Bound is.1 is.2) is.5.0 is.3 (no_more is.1.own (holding_of is.5.0) (keeps is.1 is.2 is.5.0 is.5.1)) h)
  at_port Rel port old new keeps (inr none) h = stays old new none.1 h

  -- a command that was done stores no other limit than that it asks for
  done : (host : ℕ) (command : Command) (old new : List Place) → ((slot rcvbuf : ℕ) → BindsWith host rcvbuf command → BindsAt slot old new → P slot rcvbuf) → commander command ≡ Some host →
      IsDone command old new → LimitsAre old → LimitsAre new
  done host (script.Bind by port sndbuf rcvbuf) old new such own (inl is) h =
      binds_next (λ v o. BindFits v port sndbuf rcvbuf (Ok o)) old new rcvbuf (λ slot. such slot rcvbuf (same_Some by host own, refl)) (λ v o fits. ap (λ (x : Open ReaderView). x.own.words) fits.1) is.2 h
  done host (script.Bind by port sndbuf rcvbuf) old new such own (inr cannot) h = stays old new cannot.1 h
  done host (script.BindAny by port sndbuf rcvbuf) old new such own (inl is) h =
      binds_next (λ v o. BindAnyFits v port sndbuf rcvbuf (Ok o) × IsFirstFree old port o.port) old new rcvbuf (λ slot. such slot rcvbuf (same_Some by host own, refl))
      (λ v o fits. ap (λ (x : Open ReaderView). x.own.words) fits.0.1) is h
  done host (script.BindAny by port sndbuf rcvbuf) old new such own (inr cannot) h = stays old new cannot.1 h
  done host (script.Send by port to dport payload) old new such own is h = at_port (SendsFrom (address_of to) dport payload) port old new (sends_from (address_of to) dport payload) is h
  done host (script.Recv by port) old new such own is h = at_port ReceivesNext port old new receives is h
  done host (script.Cancel by port to dport) old new such own is h = at_port (Cancels (address_of to) dport) port old new (cancels (address_of to) dport) is h
  done host (script.Close by port) old new such own is h = at_port Closes port old new closes is h
  done host (script.Open by to) old new such own is h = stays old new is h
  done host (script.Move by to bytes) old new such own is h = stays old new is h
  done host (script.Cut by to) old new such own (inl is) h =
      let kept : StoresNoMore (holding_of is.1) (holding_of is.2) =
      stores_same (holding_of is.1) (holding_of is.2)
      (ap (λ (x : Place). (holding_of x).words) is.5.2
      ∙ (ap (λ (x : Holding ReaderView). x.words) (holds is.1 is.5.0) ∙ asks_words (address_of to) order.Cut (holding_of is.1) is.5.0 is.5.1)) in
      subst (λ (l : List Place). LimitsAre l) (sym is.6) (slot_keeps old is.0 is.1 is.2 is.4 (no_more (holding_of is.1) (holding_of is.2) kept) h)
  done host (script.Cut by to) old new such own (inr none) h = stays old new none.1 h
  done host script.Drain old new such own is h = stays old new is h

-- one command more was done
obeyed_more : (host : ℕ) (front : List Placed) (placed : Placed) (first old new : List Place) → HasObeyed host front first old → DoesCommand host placed old new →
    HasObeyed host (front ++ placed ∷ []) first new
obeyed_more host [] placed first old new began did = (new, subst (λ (l : List Place). DoesCommand host placed l new) began did, refl)
obeyed_more host (other ∷ front) placed first old new began did = (began.0, began.1, obeyed_more host front placed began.0 old new began.2 did)

-- the commands from some on, of all of them
module _ (host : ℕ) (all : List Placed) (first last : List Place) where
  abbrev IsBoundBy : (slot limit : ℕ) → Type 0
  IsBoundBy slot limit = BindsSlot host slot limit all first last

  all_steps : (front commands : List Placed) (old : List Place) → all ≡ front ++ commands → HasObeyed host front first old → HasObeyed host commands old last →
      LimitsAre IsBoundBy old → LimitsAre IsBoundBy last
  all_steps front [] old whole began is h = stays IsBoundBy old last is h
  all_steps front (placed ∷ commands) old whole began is h =
      all_steps (front ++ placed ∷ []) commands is.0 (whole ∙ sym (append_assoc front (placed ∷ []) commands)) (obeyed_more host front placed first old is.0 began is.1)
      is.2 (go is.1)
    where
      go : DoesCommand host placed old is.0 → LimitsAre IsBoundBy is.0
      go (inl own) = done IsBoundBy host placed.command old is.0
          (λ slot rcvbuf asks bound. record {
            before = front;
            placed = placed;
            after = commands;
            order = whole;
            asks = asks;
            left = old;
            next = is.0;
            began = began;
            did = own.1;
            rest = is.2;
            bound = bound;
          }) own.0 own.1 h
      go (inr other) = stays IsBoundBy old is.0 other.1 h

-- each limit that a slot has stored in the end is one that the bind of the slot asks for
pub limits_of_done : (hosts host : ℕ) (commands : List Placed) (places : List Place) (did : HasDone hosts host commands places) →
    LimitsAre (λ (slot limit : ℕ). BindsSlot host slot limit commands did.first places) places
limits_of_done hosts host commands places did =
    all_steps host commands did.first places [] commands did.first refl refl did.obeyed
    (λ k p at slot limit has.
    let new = did.new k p at in
    let none = ap (λ (x : Place). (holding_of x).words.seat.view.steps) new.vacant ∙ new.steps in
    absurd (let inside = (subst (λ (l : List Step). Contains l (Stored (limit_word slot) limit)) none has).1 in omega arith))
