-- A host of which one socket changed.
use Rattle.std.proofs.Common.{◌≡◌, ⊎_elim, ℕ, ◌<◌, ◌≤◌, List, length, get_or, set, sym, ◌∙◌, ap, subst, arith}
use Rattle.std.proofs.lemmas.Bool.{cases_eq}
use Rattle.std.proofs.lemmas.List.{length-set, get_or-set_same, get_or-set_other}
use Rattle.rds_history.specs.Events.{Event}
use Rattle.rds_history.specs.Journals.{is_marked, own_map}
use Rattle.rds_history.specs.Sockets.{next_slot, holder}
use Rattle.rds_play_hosts.specs.declared.host.ScriptHost.{ScriptHost}
use Rattle.rds_play_hosts.specs.declared.host.ScriptSocket.{ScriptSocket}
use Rattle.rds_play_hosts.specs.HostLaws.{IsSameSocket, socket_same, fresh_same}
use Rattle.rds_play_hosts.specs.Telling.{TellsHost, TellsSocket}

-- a later past has the same of a host but for the socket of a slot
pub record ChangesSlot (h slot : ℕ) (past later : List Event) : Type 0 where
  pub slots : next_slot h later ≡ next_slot h past
  pub holders : (port : ℕ) → holder h port later ≡ holder h port past
  pub map_same : own_map h later ≡ own_map h past
  pub marks : (port : ℕ) → is_marked h port later ≡ is_marked h port past
  pub others : (s : ℕ) → (s ≡ slot → ⊥) → IsSameSocket h s past later

-- the host has another socket at a slot
pub record Replaces (slot : ℕ) (y : ScriptSocket) (old new : ScriptHost) : Type 0 where
  pub sockets_are : new.sockets.items ≡ set old.sockets.items slot y
  pub holders_same : new.holders ≡ old.holders
  pub map_same : new.map ≡ old.map

pub host_replaced : (h slot : ℕ) (past later : List Event) (old new : ScriptHost) (y : ScriptSocket) → TellsHost h past old →
    slot < next_slot h past → ChangesSlot h slot past later → Replaces slot y old new → TellsSocket h slot later y → TellsHost h later new
host_replaced h slot past later old new y t in_range change places told = record {
  binds_are = ap (λ (l : List ScriptSocket). length l) places.sockets_are ∙ length-set old.sockets.items slot y ∙ t.binds_are ∙ sym change.slots;
  holders_are = λ q. let e = t.holders_are q in let f = change.holders q in cc (places.holders_same, e, f);
  map_is = places.map_same ∙ t.map_is ∙ sym change.map_same;
  marks_are = λ q. let e = t.marks_are q in let f = change.marks q in cc (places.map_same, e, f);
  sockets_are = λ s s_in z z_is. socket_at s (subst (λ n. s < n) change.slots s_in) z (z_is ∙ ap (λ (l : List ScriptSocket). get_or l s z) places.sockets_are);
  fresh = λ s above.
      let past_above : next_slot h past ≤ s = subst (λ n. n ≤ s) change.slots above in
      fresh_same h s past later (change.others s (λ e. absurd (omega (arith, e, in_range, past_above)))) (t.fresh s past_above);
}
  where
    socket_at : (s : ℕ) → s < next_slot h past → (z : ScriptSocket) → z ≡ get_or (set old.sockets.items slot y) s z → TellsSocket h s later z
    socket_at s s_in z z_is = ⊎_elim
        (λ (e : s ≡ slot).
        let here : z ≡ y = z_is ∙ ap (λ i. get_or (set old.sockets.items slot y) i z) e
        ∙ get_or-set_same old.sockets.items slot y z (subst (λ n. slot < n) (sym t.binds_are) in_range) in
        subst (λ i. TellsSocket h i later z) (sym e) (subst (λ w. TellsSocket h slot later w) (sym here) told))
        (λ (ne : s ≡ slot → ⊥).
        socket_same h s past later z (change.others s ne)
        (t.sockets_are s s_in z (z_is ∙ get_or-set_other old.sockets.items slot s y z ne)))
        (cases_eq s slot)

-- the socket found at a place is the host's at its slot
pub found_at : (slot i : ℕ) (old : ScriptHost) (x : ScriptSocket) → i ≡ slot → x ≡ get_or old.sockets.items i x → x ≡ get_or old.sockets.items slot x
found_at slot i old x at x_is = x_is ∙ ap (λ j. get_or old.sockets.items j x) at

pub places : (slot i : ℕ) (old new : ScriptHost) (y : ScriptSocket) → i ≡ slot → new.sockets.items ≡ set old.sockets.items i y → new.holders ≡ old.holders →
    new.map ≡ old.map → Replaces slot y old new
places slot i old new y at sockets_are holders_same map_same = record {
  sockets_are = sockets_are ∙ ap (λ j. set old.sockets.items j y) at;
  holders_same = holders_same;
  map_same = map_same;
}
