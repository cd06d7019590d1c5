-- Laws, each proved: proofs in other crates use them. Nothing here has to be believed.
-- A host tells the same of a longer past in which nothing happened to it.
use Rattle.std.proofs.Common.{◌≡◌, ◌≢◌, ⊎_elim, ℕ, suc, ◌==◌, ◌&&◌, ◌<◌, ◌≤◌, Bool, true, false, Some, None, List, [], ◌∷◌, ◌++◌, length, drop, refl, sym, ◌∙◌, ap, subst}
use Rattle.std.specs.Prelude.{sum_by}
use Rattle.std.proofs.lemmas.Bool.{cases_eq, cond_both, cond-true, cond-false, eq-eqb, ne_eqb, and_from, and_left, and_right}
use Rattle.std.proofs.lemmas.List.{append-nil}
use Rattle.rds_model.specs.declared.entry.Entry.{Entry}
use Rattle.rds_model.specs.declared.entry.Entry.TheVariants.{Accept, Cancel, Open, Pull, Read, Shut, Bad}
use Rattle.rds_model.specs.declared.entry.Outcome.{Outcome}
use Rattle.rds_model.specs.declared.entry.Outcome.TheVariants as outcome
use Rattle.rds_model.specs.declared.order.Datagram.{Datagram}
use Rattle.rds_model.specs.Pairs.{is_delivery}
use Rattle.rds_cong.specs.Limit.{congested_after}
use Rattle.rds_cong.specs.Map.{with_port, without_port}
use Rattle.rds_history.specs.Cancel.{unbind, unmark}
use Rattle.rds_history.specs.Events.{Event, Appended, Bound, Closed, Received, Marked, Moved, Printed}
use Rattle.rds_history.specs.Journals.{is_marked, own_map}
use Rattle.rds_history.specs.Mark.{if_changed, update_mark}
use Rattle.rds_history.specs.Sockets.{next_slot, holder, of_bind, delivery, arrived_datagrams, handed_out, queue, queued, receive_buffer}
use Rattle.rds_play_hosts.specs.declared.host.ScriptHost.{ScriptHost}
use Rattle.rds_play_hosts.specs.declared.host.ScriptSocket.{ScriptSocket}
use Rattle.rds_play_hosts.specs.Elsewhere.{IsElsewhere, delivers}
use Rattle.rds_play_hosts.specs.Telling.{TellsHost, TellsSocket, IsFreshSlot}

-- two numbers are theirs, or one isn't
pub same_pair : (h k : ℕ) → (h == h && (k == k)) ≡ true
same_pair h k = and_from (h == h) (k == k) (eq-eqb h h refl) (eq-eqb k k refl)

pub other_pair : (h k a b : ℕ) → (a ≡ h → b ≡ k → ⊥) → (h == a && (k == b)) ≡ false
other_pair h k a b apart =
    ⊎_elim
    (λ (e : h ≡ a). and_right (h == a) (k == b) (ne_eqb k b (λ f. apart (sym e) (sym f))))
    (λ (ne : h ≡ a → ⊥). and_left (h == a) (k == b) (ne_eqb h a ne))
    (cases_eq h a)

-- a later past has the same of the socket of a slot
pub record IsSameSocket (h slot : ℕ) (past later : List Event) : Type 0 where
  pub binds : (choose : (port sndbuf rcvbuf : ℕ) → ℕ) → of_bind choose h slot later ≡ of_bind choose h slot past
  pub came : arrived_datagrams h slot later ≡ arrived_datagrams h slot past
  pub left : handed_out h slot later ≡ handed_out h slot past

-- a later past has the same of a host
pub record IsSameHost (h : ℕ) (past later : List Event) : Type 0 where
  pub slots : next_slot h later ≡ next_slot h past
  pub holders : (port : ℕ) → holder h port later ≡ holder h port past
  pub map_same : own_map h later ≡ own_map h past
  pub marks : (port : ℕ) → is_marked h port later ≡ is_marked h port past
  pub sockets : (slot : ℕ) → IsSameSocket h slot past later

pub socket_same : (h slot : ℕ) (past later : List Event) (s : ScriptSocket) → IsSameSocket h slot past later →
    TellsSocket h slot past s → TellsSocket h slot later s
socket_same h slot past later s same t = record {
  slot_is = t.slot_is;
  port_is = t.port_is ∙ sym (same.binds (λ port sndbuf rcvbuf. port));
  sndbuf_is = t.sndbuf_is ∙ sym (same.binds (λ port sndbuf rcvbuf. sndbuf));
  rcvbuf_is = t.rcvbuf_is ∙ sym (same.binds (λ port sndbuf rcvbuf. rcvbuf));
  queue_is = t.queue_is ∙ sym waits;
  queued_is = t.queued_is ∙ sym (ap (λ (ds : List Datagram). sum_by (λ (d : Datagram). length d.payload) ds) waits);
  got_is = t.got_is ∙ sym same.left;
  within = subst (λ (ds : List Datagram). length ds ≤ length (arrived_datagrams h slot later)) (sym same.left)
      (subst (λ (ds : List Datagram). length (handed_out h slot past) ≤ length ds) (sym same.came) t.within);
}
  where
    waits : drop (length (handed_out h slot later)) (arrived_datagrams h slot later) ≡ drop (length (handed_out h slot past)) (arrived_datagrams h slot past)
    waits = ap (λ (ds : List Datagram). drop (length ds) (arrived_datagrams h slot later)) same.left
        ∙ ap (λ (ds : List Datagram). drop (length (handed_out h slot past)) ds) same.came

pub fresh_same : (h slot : ℕ) (past later : List Event) → IsSameSocket h slot past later → IsFreshSlot h slot past → IsFreshSlot h slot later
fresh_same h slot past later same f = record { none_came = same.came ∙ f.none_came; none_left = same.left ∙ f.none_left }

pub host_same : (h : ℕ) (past later : List Event) (x : ScriptHost) → IsSameHost h past later → TellsHost h past x → TellsHost h later x
host_same h past later x same t = record {
  binds_are = t.binds_are ∙ sym same.slots;
  holders_are = λ port. t.holders_are port ∙ sym (same.holders port);
  map_is = t.map_is ∙ sym same.map_same;
  marks_are = λ port. t.marks_are port ∙ sym (same.marks port);
  sockets_are = λ slot in_range s is. socket_same h slot past later s (same.sockets slot)
      (t.sockets_are slot (subst (λ n. slot < n) same.slots in_range) s is);
  fresh = λ slot above. fresh_same h slot past later (same.sockets slot) (t.fresh slot (subst (λ n. n ≤ slot) same.slots above));
}

-- what is delivered at another host, or nowhere
none_came : (a slot h k : ℕ) (e : Entry) (past : List Event) → (h ≡ a → delivers e ≡ false) →
    arrived_datagrams a slot (Appended h k e ∷ past) ≡ arrived_datagrams a slot past
none_came a slot h k (Read stream f o) past none =
    ⊎_elim
    (λ (e : h ≡ a). cond-true (h == a) (arrived_datagrams a slot past ++ delivery slot k f o) (arrived_datagrams a slot past) (eq-eqb h a e)
    ∙ ap (λ (ds : List Datagram). arrived_datagrams a slot past ++ ds) (nothing o (none e)) ∙ append-nil (arrived_datagrams a slot past))
    (λ (ne : h ≡ a → ⊥). cond-false (h == a) (arrived_datagrams a slot past ++ delivery slot k f o) (arrived_datagrams a slot past) (ne_eqb h a ne))
    (cases_eq h a)
  where
    nothing : (o : Outcome) → is_delivery o ≡ false → delivery slot k f o ≡ []
    nothing (outcome.Slot to) is = cc
    nothing _ is = refl
none_came a slot h k (Accept at sport dport payload) past none = refl
none_came a slot h k (Cancel at target) past none = refl
none_came a slot h k (Open stream) past none = refl
none_came a slot h k (Pull stream frame) past none = refl
none_came a slot h k (Shut stream) past none = refl
none_came a slot h k (Bad stream header cause) past none = refl

map_elsewhere : (a h port queued limit : ℕ) (set : Bool) (past : List Event) → h ≢ a →
    own_map a (Marked h port set queued limit ∷ past) ≡ own_map a past
map_elsewhere a h port queued limit true past apart = cond-false (h == a) (with_port (own_map a past) port) (own_map a past) (ne_eqb h a apart)
map_elsewhere a h port queued limit false past apart = cond-false (h == a) (without_port (own_map a past) port) (own_map a past) (ne_eqb h a apart)

-- an event elsewhere leaves all that a past has of a host
pub same_elsewhere : (a : ℕ) (event : Event) (past : List Event) → IsElsewhere a event → IsSameHost a past (event ∷ past)
same_elsewhere a (Appended h k e) past none = record {
  slots = refl;
  holders = λ port. refl;
  map_same = refl;
  marks = λ port. refl;
  sockets = λ slot. record { binds = λ choose. refl; came = none_came a slot h k e past none; left = refl };
}
same_elsewhere a (Bound h port at sndbuf rcvbuf) past apart = record {
  slots = cond-false (h == a) (suc (next_slot a past)) (next_slot a past) (ne_eqb h a apart);
  holders = λ q. cond-false (h == a && (port == q)) (Some at) (holder a q past) (and_left (h == a) (port == q) (ne_eqb h a apart));
  map_same = refl;
  marks = λ q. refl;
  sockets = λ slot. record {
    binds = λ choose. cond-false (h == a && (at == slot)) (choose port sndbuf rcvbuf) (of_bind choose a slot past) (and_left (h == a) (at == slot) (ne_eqb h a apart));
    came = refl;
    left = refl;
  };
}
same_elsewhere a (Closed h port at unread) past apart = record {
  slots = refl;
  holders = λ q. cond-false (h == a && (port == q)) None (holder a q past) (and_left (h == a) (port == q) (ne_eqb h a apart));
  map_same = refl;
  marks = λ q. refl;
  sockets = λ slot. record { binds = λ choose. refl; came = refl; left = refl };
}
same_elsewhere a (Received h port at d) past apart = record {
  slots = refl;
  holders = λ q. refl;
  map_same = refl;
  marks = λ q. refl;
  sockets = λ slot. record {
    binds = λ choose. refl;
    came = refl;
    left = cond-false (h == a && (at == slot)) (handed_out a slot past ++ d ∷ []) (handed_out a slot past) (and_left (h == a) (at == slot) (ne_eqb h a apart));
  };
}
same_elsewhere a (Marked h port set queued limit) past apart = record {
  slots = refl;
  holders = λ q. refl;
  map_same = map_elsewhere a h port queued limit set past apart;
  marks = λ q. cond-false (h == a && (port == q)) set (is_marked a q past) (and_left (h == a) (port == q) (ne_eqb h a apart));
  sockets = λ slot. record { binds = λ choose. refl; came = refl; left = refl };
}
same_elsewhere a (Moved h k count) past always = record {
  slots = refl;
  holders = λ q. refl;
  map_same = refl;
  marks = λ q. refl;
  sockets = λ slot. record { binds = λ choose. refl; came = refl; left = refl };
}
same_elsewhere a (Printed text) past always = record {
  slots = refl;
  holders = λ q. refl;
  map_same = refl;
  marks = λ q. refl;
  sockets = λ slot. record { binds = λ choose. refl; came = refl; left = refl };
}

-- an event that isn't host a's leaves what host a tells
pub untouched : (a : ℕ) (event : Event) (past : List Event) (x : ScriptHost) → IsElsewhere a event → TellsHost a past x → TellsHost a (event ∷ past) x
untouched a event past x elsewhere t = host_same a past (event ∷ past) x (same_elsewhere a event past elsewhere) t

-- what is true before and after a change is true of what is noted
pub changed_either : (P : List Event → Type 0) (was is : Bool) (change : Event) (past : List Event) → P past → P (change ∷ past) →
    P (if_changed was is change past)
changed_either P true true change past before after = before
changed_either P true false change past before after = after
changed_either P false true change past before after = after
changed_either P false false change past before after = before

-- nor does it matter to host a whether a port of another host becomes congested or free
pub untouched_by_mark : (a h port slot : ℕ) (past : List Event) (x : ScriptHost) → h ≢ a → TellsHost a past x → TellsHost a (update_mark h port slot past) x
untouched_by_mark a h port slot past x apart t =
    let was = is_marked h port past in
    let is = congested_after was (queued h slot past) (receive_buffer h slot past) in
    changed_either (λ (p : List Event). TellsHost a p x) was is (Marked h port is (queued h slot past) (receive_buffer h slot past)) past t
    (untouched a (Marked h port is (queued h slot past) (receive_buffer h slot past)) past x apart t)

-- nor whether it is given up
pub untouched_by_unbind : (a h port slot : ℕ) (past : List Event) (x : ScriptHost) → h ≢ a → TellsHost a past x → TellsHost a (unbind h port slot past) x
untouched_by_unbind a h port slot past x apart t =
    untouched a (Closed h port slot (length (queue h slot past))) (unmark h port slot past) x apart
    (cond_both (is_marked h port past) (Marked h port false 0 (receive_buffer h slot past) ∷ past) past (λ (p : List Event). TellsHost a p x)
    (λ _. untouched a (Marked h port false 0 (receive_buffer h slot past)) past x apart t)
    (λ _. t))
