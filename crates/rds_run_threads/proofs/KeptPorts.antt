-- A socket that is bound keeps its seat at the port table until it is closed, and no other takes its slot.
use Rattle.std.proofs.Common.{◌≡◌, inl, inr, ℕ, List, ◌∷◌, [], Some, length, slice_get, slice_set, refl, sym, ap, subst, ◌∙◌}
use Rattle.std.proofs.lemmas.Bool.{cases_eq}
use Rattle.std.proofs.lemmas.List.{length-set}
use Rattle.std.proofs.lemmas.Option.{same_Some, slice_get_within}
use Rattle.rds_fmap.specs.Readers.{IsLook, ReaderView}
use Rattle.rds_model.specs.declared.order.Datagram.{Datagram}
use Rattle.rds_model.specs.declared.order.Order.{Order}
use Rattle.rds_text.specs.Hosts.{address_of}
use Rattle.rds_script.specs.declared.script.Command.{Command}
use Rattle.rds_script.specs.declared.script.Command.TheVariants as script
use Rattle.rds_script.specs.declared.script.Placed.{Placed}
use Rattle.rds_socket.specs.declared.error.SendError.{SendError}
use Rattle.rds_socket.specs.declared.error.SendError.TheVariants.{TooLong, NoRoute, Congested, SendFull, Memory}
use Rattle.rds_socket.specs.Holding.{Holding, Open}
use Rattle.rds_socket.specs.Sends.{RefusalFits}
use Rattle.rds_run_callers.specs.Doing.{AtPort, BindsNext, CutsByLast, IsDone}
use Rattle.rds_run_callers.specs.Places.{Bound, Ended, Place, Spare, Vacant, holding_of, with_holding}
use Rattle.rds_run_callers.specs.Tenants.{Asks, Cancels, Closes, ReceivesNext, SendsFrom, SendsOrNot}
use Rattle.rds_run_hosts.specs.Obeyed.{DoesCommand, HasObeyed}
use Rattle.rds_run_threads.proofs.At.{at_set, beside_set, stood_at}

-- the same seat at the port table, and the same port
abbrev pub HasSameSeat : Open ReaderView → Open ReaderView → Type 0
HasSameSeat o q = (q.own.ports ≡ o.own.ports) × (q.port ≡ o.port)

-- a slot that no socket has any more
abbrev IsOver : Place → Type 0
IsOver (Vacant h) = ⊥
IsOver (Bound o got) = ⊥
IsOver (Ended port h got) = Unit {0}
IsOver (Spare h) = Unit {0}

-- what may become of a slot with an open socket: the socket has the same seat, or is no more
abbrev FollowsBound : Open ReaderView → Place → Type 0
FollowsBound o (Vacant h) = ⊥
FollowsBound o (Bound q more) = HasSameSeat o q
FollowsBound o (Ended port h got) = Unit {0}
FollowsBound o (Spare h) = Unit {0}

abbrev Follows : Place → Place → Type 0
Follows (Vacant h) q = Unit {0}
Follows (Bound o got) q = FollowsBound o q
Follows (Ended port h got) q = IsOver q
Follows (Spare h) q = IsOver q

follows_same : (p : Place) → Follows p p
follows_same (Vacant h) = tt
follows_same (Bound o got) = (refl, refl)
follows_same (Ended port h got) = tt
follows_same (Spare h) = tt

over_then : (q r : Place) → IsOver q → Follows q r → IsOver r
over_then (Vacant h) r over next = absurd over
over_then (Bound o got) r over next = absurd over
over_then (Ended port h got) r over next = next
over_then (Spare h) r over next = next

gone_follows : (o : Open ReaderView) (r : Place) → IsOver r → FollowsBound o r
gone_follows o (Vacant h) over = absurd over
gone_follows o (Bound q got) over = absurd over
gone_follows o (Ended port h got) over = tt
gone_follows o (Spare h) over = tt

seat_then : (o q : Open ReaderView) (r : Place) → HasSameSeat o q → FollowsBound q r → FollowsBound o r
seat_then o q (Vacant h) same next = absurd next
seat_then o q (Bound r more) same next = (next.0 ∙ same.0, next.1 ∙ same.1)
seat_then o q (Ended port h got) same next = tt
seat_then o q (Spare h) same next = tt

bound_then : (o : Open ReaderView) (q r : Place) → FollowsBound o q → Follows q r → FollowsBound o r
bound_then o (Vacant h) r first second = absurd first
bound_then o (Bound q more) r first second = seat_then o q r first second
bound_then o (Ended port h got) r first second = gone_follows o r second
bound_then o (Spare h) r first second = gone_follows o r second

follows_then : (p q r : Place) → Follows p q → Follows q r → Follows p r
follows_then (Vacant h) q r first second = tt
follows_then (Bound o got) q r first second = bound_then o q r first second
follows_then (Ended port h got) q r first second = over_then q r first second
follows_then (Spare h) q r first second = over_then q r first second

-- so it is of each slot
record AllFollow (old new : List Place) : Type 0 where
  pub count : length new ≡ length old
  pub each : (slot : ℕ) (p q : Place) → slice_get old slot ≡ Some p → slice_get new slot ≡ Some q → Follows p q

all_same : (old new : List Place) → new ≡ old → AllFollow old new
all_same old new is = record {
  count = ap (λ (l : List Place). length l) is;
  each = λ slot p q at at'.
      subst (Follows p) (same_Some p q (sym at ∙ (ap (λ (l : List Place). slice_get l slot) (sym is) ∙ at'))) (follows_same p);
}

all_then : (a b c : List Place) → AllFollow a b → AllFollow b c → AllFollow a c
all_then a b c first second = record {
  count = second.count ∙ first.count;
  each = λ slot p r at at'.
      let q = stood_at b c slot r second.count at' in
      follows_then p q.0 r (first.each slot p q.0 at q.1) (second.each slot q.0 r q.1 at');
}

-- one slot was set to what follows
one_follows : (old new : List Place) (slot : ℕ) (p q : Place) → slice_get old slot ≡ Some p → Follows p q → new ≡ slice_set old slot q → AllFollow old new
one_follows old new slot p q at follows is = record {
  count = ap (λ (l : List Place). length l) is ∙ length-set old slot q;
  each = λ other x y at_x at_y.
      let there : slice_get (slice_set old slot q) other ≡ Some y = ap (λ (l : List Place). slice_get l other) (sym is) ∙ at_y in
      elim (cases_eq other slot) [
        | inl here ↦
            let x_is : p ≡ x = same_Some p x (sym at ∙ (ap (slice_get old) (sym here) ∙ at_x)) in
            let y_is : q ≡ y = same_Some q y (sym (at_set old slot q (slice_get_within old slot p at)) ∙ (ap (slice_get (slice_set old slot q)) (sym here) ∙ there)) in
            subst (λ (r : Place). Follows r y) x_is (subst (Follows p) y_is follows)
        | inr apart ↦ subst (Follows x) (same_Some x y (sym at_x ∙ (sym (beside_set old slot other q apart) ∙ there))) (follows_same x)
      ];
}

-- what each call does to a socket leaves its seat
sent_seat : (peer dport : ℕ) (payload : List ℕ) (o q : Open ReaderView) → SendsOrNot peer dport payload o q → HasSameSeat o q
sent_seat peer dport payload o q (inl sent) =
    (ap (λ (x : Open ReaderView). x.own.ports) sent.5, ap (λ (x : Open ReaderView). x.port) sent.5)
sent_seat peer dport payload o q (inr (e, other, refused)) = go e refused
  where
    of : (x : Open ReaderView) → q ≡ x → HasSameSeat o x → HasSameSeat o q
    of x is same = subst (HasSameSeat o) (sym is) same

    go : (why : SendError) → RefusalFits IsLook peer dport payload o why q → HasSameSeat o q
    go (TooLong len limit) fits = of o fits.3 (refl, refl)
    go (NoRoute named) fits = of o fits.3 (refl, refl)
    go (Congested port version) fits = of _ fits.3 (refl, refl)
    go (SendFull queued len limit) fits = of _ fits.1.5 (refl, refl)
    go Memory fits = of _ fits.1.2 (refl, refl)

asked_ports : (peer : ℕ) (item : Order) (old new : Holding ReaderView) → Asks peer item old new → new.ports ≡ old.ports
asked_ports peer item old new (inl put) = ap (λ (h : Holding ReaderView). h.ports) put.1
asked_ports peer item old new (inr none) = ap (λ (h : Holding ReaderView). h.ports) none.1

send_follows : (peer dport : ℕ) (payload : List ℕ) (o : Open ReaderView) (got : List Datagram) (p : Place) → SendsFrom peer dport payload o got p → Follows (Bound o got) p
send_follows peer dport payload o got p (q, sends, is) = subst (Follows (Bound o got)) (sym is) (sent_seat peer dport payload o q sends)

receive_follows : (o : Open ReaderView) (got : List Datagram) (p : Place) → ReceivesNext o got p → Follows (Bound o got) p
receive_follows o got p (inl (item, q, received, is)) =
    subst (Follows (Bound o got)) (sym is) (ap (λ (x : Open ReaderView). x.own.ports) received.3, ap (λ (x : Open ReaderView). x.port) received.3)
receive_follows o got p (inr none) = subst (Follows (Bound o got)) (sym none.1) (refl, refl)

cancel_follows : (peer dport : ℕ) (o : Open ReaderView) (got : List Datagram) (p : Place) → Cancels peer dport o got p → Follows (Bound o got) p
cancel_follows peer dport o got p (h, asks, is) = subst (Follows (Bound o got)) (sym is) (asked_ports peer _ o.own h asks, refl)

close_follows : (o : Open ReaderView) (got : List Datagram) (p : Place) → Closes o got p → Follows (Bound o got) p
close_follows o got p (h, closed, is) = subst (Follows (Bound o got)) (sym is) tt

held_follows : (p : Place) (h : Holding ReaderView) → h.ports ≡ (holding_of p).ports → Follows p (with_holding p h)
held_follows (Vacant v) h same = tt
held_follows (Bound o got) h same = (same, refl)
held_follows (Ended port v got) h same = tt
held_follows (Spare v) h same = tt

bind_follows : (Fits : Holding ReaderView → Open ReaderView → Type 0) (old new : List Place) → BindsNext Fits old new → AllFollow old new
bind_follows Fits old new (slot, h, o, next, fits, is) = one_follows old new slot (Vacant h) (Bound o []) next.0 tt is

at_port_follows : (port : ℕ) (Rel : Open ReaderView → List Datagram → Place → Type 0) (old new : List Place) →
    ((o : Open ReaderView) (got : List Datagram) (p : Place) → Rel o got p → Follows (Bound o got) p) → AtPort port Rel old new → AllFollow old new
at_port_follows port Rel old new each (inl (slot, o, got, at, called, (p, rel, is))) = one_follows old new slot (Bound o got) p at (each o got p rel) is
at_port_follows port Rel old new each (inr (free, same)) = all_same old new same

cut_follows : (peer : ℕ) (old new : List Place) → CutsByLast peer old new → AllFollow old new
cut_follows peer old new (inl (slot, p, q, last, at, (h, asks, is), set)) =
    one_follows old new slot p q at (subst (Follows p) (sym is) (held_follows p h (asked_ports peer _ (holding_of p) h asks))) set
cut_follows peer old new (inr (none, same)) = all_same old new same

done_follows : (c : Command) (old new : List Place) → IsDone c old new → AllFollow old new
done_follows (script.Bind host port sndbuf rcvbuf) old new (inl bound) = bind_follows _ old new bound.2
done_follows (script.Bind host port sndbuf rcvbuf) old new (inr refused) = all_same old new refused.1
done_follows (script.BindAny host port sndbuf rcvbuf) old new (inl bound) = bind_follows _ old new bound
done_follows (script.BindAny host port sndbuf rcvbuf) old new (inr refused) = all_same old new refused.1
done_follows (script.Send host port to dport payload) old new did =
    at_port_follows port (SendsFrom (address_of to) dport payload) old new (send_follows (address_of to) dport payload) did
done_follows (script.Recv host port) old new did = at_port_follows port ReceivesNext old new receive_follows did
done_follows (script.Cancel host port to dport) old new did =
    at_port_follows port (Cancels (address_of to) dport) old new (cancel_follows (address_of to) dport) did
done_follows (script.Close host port) old new did = at_port_follows port Closes old new close_follows did
done_follows (script.Open host to) old new did = all_same old new did
done_follows (script.Move host to bytes) old new did = all_same old new did
done_follows (script.Cut host to) old new did = cut_follows (address_of to) old new did
done_follows script.Drain old new did = all_same old new did

does_follow : (host : ℕ) (placed : Placed) (old new : List Place) → DoesCommand host placed old new → AllFollow old new
does_follow host placed old new (inl own) = done_follows placed.command old new own.1
does_follow host placed old new (inr other) = all_same old new other.1

obeyed_follow : (host : ℕ) (commands : List Placed) (first last : List Place) → HasObeyed host commands first last → AllFollow first last
obeyed_follow host [] first last same = all_same first last same
obeyed_follow host (placed ∷ commands) first last (middle, this, later) =
    all_then first middle last (does_follow host placed first middle this) (obeyed_follow host commands middle last later)

-- a slot at which a socket is bound before and after some commands has the same socket, at the same seat
pub seat_kept : (host : ℕ) (commands : List Placed) (first last : List Place) → HasObeyed host commands first last → (slot : ℕ) (o q : Open ReaderView) (got more : List Datagram) →
    slice_get first slot ≡ Some (Bound o got) → slice_get last slot ≡ Some (Bound q more) → HasSameSeat o q
seat_kept host commands first last obeyed slot o q got more at at' = (obeyed_follow host commands first last obeyed).each slot (Bound o got) (Bound q more) at at'
