-- Nothing arrives at a slot that no other host sent.
use Rattle.std.proofs.Common.{◌≡◌, ◌≢◌, inl, inr, ℕ, ◌<◌, ◌≤◌, ◌==◌, ◌&&◌, Bool, true, false, cond, Some, None, List, [], ◌∷◌, ◌++◌, refl, sym, ◌∙◌, ap, subst}
use Rattle.std.specs.Prelude.{All}
use Rattle.std.proofs.lemmas.Bool.{cond-true, cases_lt, eq-eqb, eqb-true, and_from}
use Rattle.std.proofs.lemmas.List.{append-nil}
use Rattle.std.proofs.lemmas.List.Elements.{All-nil, All-push}
use Rattle.rds_wire.specs.declared.frame.Frame.{Frame}
use Rattle.rds_model.specs.declared.entry.Entry.{Entry}
use Rattle.rds_model.specs.declared.entry.Entry.TheVariants.{Accept, Cancel, Open, Pull, Read, Shut, Bad}
use Rattle.rds_model.specs.declared.entry.Outcome.{Outcome}
use Rattle.rds_model.specs.declared.entry.Outcome.TheVariants as outcome
use Rattle.rds_model.specs.declared.order.Datagram.{Datagram}
use Rattle.rds_model.specs.Past.{Moment, now, before, Accepted, datagram, number, passes}
use Rattle.rds_model.specs.Fifo.{Carries}
use Rattle.rds_model.specs.Deliveries.{datagram_from}
use Rattle.rds_text.specs.Hosts.{address_of}
use Rattle.rds_history.specs.Events.{Event, Appended}
use Rattle.rds_history.specs.Journals.{journal}
use Rattle.rds_history.specs.Sockets.{arrived_datagrams, delivery}
use Rattle.rds_history.specs.Sound.{WasSentTo}
use Rattle.rds_history.proofs.HandedOut.{AreAccepted, sent_is}

-- what came to host k in an earlier past was accepted, each by its sender, in the end
pub record CameFrom (k : ℕ) (final past : List Event) : Type 0 where
  pub others : (h : ℕ) → h ≢ k → AreAccepted (journal h k final) (journal k h past)
  pub own : journal k k past ≡ []

module _ (hosts k slot : ℕ) (final : List Event) (beyond : (h : ℕ) → hosts ≤ h → journal h k final ≡ []) where
  abbrev AllSent : List Datagram → Type 0
  AllSent ds = All (WasSentTo hosts k final) ds

  -- the journal before an event
  accepted_before : (a j : List Entry) (e : Entry) (b : Bool) → AreAccepted a (cond b (e ∷ j) j) → AreAccepted a j
  accepted_before a j e true accepted = λ s f o q m passed. accepted s f o q (before m) passed
  accepted_before a j e false accepted = accepted

  none_before : (j : List Entry) (e : Entry) (b : Bool) → cond b (e ∷ j) j ≡ [] → j ≡ []
  none_before j e true none = cc
  none_before j e false none = none

  came_before : (host peer : ℕ) (e : Entry) (past : List Event) → CameFrom k final (Appended host peer e ∷ past) → CameFrom k final past
  came_before host peer e past came = record {
    others = λ h apart. accepted_before (journal h k final) (journal k h past) e (host == k && (peer == h)) (came.others h apart);
    own = none_before (journal k k past) e (host == k && (peer == k)) came.own;
  }

  none_sent : (ds : List Datagram) → AllSent ds → AllSent (ds ++ [])
  none_sent ds sent = subst AllSent (sym (append-nil ds)) sent

  more_sent : (ds : List Datagram) (peer : ℕ) (f : Frame) (o : Outcome) → AllSent ds → (passes o ≡ true → WasSentTo hosts k final (datagram_from (address_of peer) f)) →
      AllSent (ds ++ delivery slot peer f o)
  more_sent ds peer f (outcome.Slot to) sent this = go (to == slot)
    where
      go : (b : Bool) → AllSent (ds ++ cond b (datagram_from (address_of peer) f ∷ []) [])
      go true = All-push (WasSentTo hosts k final) ds (datagram_from (address_of peer) f) sent (this refl)
      go false = none_sent ds sent
  more_sent ds peer f outcome.Old sent this = none_sent ds sent
  more_sent ds peer f outcome.NoSocket sent this = none_sent ds sent
  more_sent ds peer f outcome.Ping sent this = none_sent ds sent
  more_sent ds peer f outcome.Void sent this = none_sent ds sent
  more_sent ds peer f outcome.AckOnly sent this = none_sent ds sent
  more_sent ds peer f outcome.Map sent this = none_sent ds sent
  more_sent ds peer f outcome.OddMap sent this = none_sent ds sent

  -- what host k reads was sent to it
  read_was_sent : (peer s : ℕ) (f : Frame) (o : Outcome) (past : List Event) → CameFrom k final (Appended k peer (Read s f o) ∷ past) →
      passes o ≡ true → WasSentTo hosts k final (datagram_from (address_of peer) f)
  read_was_sent peer s f o past came passed =
      (peer, number f, known, apart, sym (sent_is peer (journal peer k final) f sent))
    where
      here : journal k peer (Appended k peer (Read s f o) ∷ past) ≡ Read s f o ∷ journal k peer past
      here = cond-true (k == k && (peer == peer)) (Read s f o ∷ journal k peer past) (journal k peer past)
          (and_from (k == k) (peer == peer) (eq-eqb k k refl) (eq-eqb peer peer refl))

      apart : peer ≢ k
      apart same =
          let some : Read s f o ∷ journal k peer past ≡ [] =
          sym here ∙ ap (λ (i : ℕ). journal k i (Appended k peer (Read s f o) ∷ past)) same ∙ came.own in
          cc

      at : Moment (Read s f o ∷ journal k peer past) (journal k peer (Appended k peer (Read s f o) ∷ past))
      at = subst (λ (j : List Entry). Moment (Read s f o ∷ journal k peer past) j) (sym here) now

      sent : (d : Accepted) × (datagram (journal peer k final) (number f) ≡ Some d) × Carries f d
      sent = came.others peer apart s f o (journal k peer past) at passed

      known : peer < hosts
      known =
          elim (cases_lt peer hosts) [
            | inl less ↦ less
            | inr far ↦
                let none : datagram (journal peer k final) (number f) ≡ None = ap (λ (j : List Entry). datagram j (number f)) (beyond peer far) in
                let some : Some sent.0 ≡ None = sym sent.1 ∙ none in
                cc
          ]

  pub all_sent : (past : List Event) → CameFrom k final past → AllSent (arrived_datagrams k slot past)
  all_sent [] came = All-nil (WasSentTo hosts k final)
  all_sent (Appended host peer (Read s f o) ∷ past) came = go (host == k) refl (all_sent past (came_before host peer (Read s f o) past came))
    where
      go : (here : Bool) → (host == k) ≡ here → AllSent (arrived_datagrams k slot past) →
          AllSent (cond here (arrived_datagrams k slot past ++ delivery slot peer f o) (arrived_datagrams k slot past))
      go true is sent =
          more_sent (arrived_datagrams k slot past) peer f o sent
          (read_was_sent peer s f o past (subst (λ (i : ℕ). CameFrom k final (Appended i peer (Read s f o) ∷ past)) (eqb-true host k is) came))
      go false is sent = sent
  all_sent (Appended host peer (Accept n from to payload) ∷ past) came = all_sent past (came_before host peer (Accept n from to payload) past came)
  all_sent (Appended host peer (Cancel n target) ∷ past) came = all_sent past (came_before host peer (Cancel n target) past came)
  all_sent (Appended host peer (Open s) ∷ past) came = all_sent past (came_before host peer (Open s) past came)
  all_sent (Appended host peer (Pull s f) ∷ past) came = all_sent past (came_before host peer (Pull s f) past came)
  all_sent (Appended host peer (Shut s) ∷ past) came = all_sent past (came_before host peer (Shut s) past came)
  all_sent (Appended host peer (Bad s header cause) ∷ past) came = all_sent past (came_before host peer (Bad s header cause) past came)
  all_sent (_ ∷ past) came = all_sent past (record { others = came.others; own = came.own })
