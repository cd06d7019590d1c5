-- A world tells a longer past after something happened to the sockets of one host.
use Rattle.std.proofs.Common.{◌≡◌, ◌≢◌, ℕ, ◌<◌, List, ◌∷◌, length, set, refl, sym, ◌∙◌, ap, subst}
use Rattle.rds_model.specs.declared.order.Datagram.{Datagram}
use Rattle.rds_model.specs.declared.entry.Entry.{Entry}
use Rattle.rds_model.specs.Drained.{last_map_read}
use Rattle.rds_cong.specs.Limit.{congested_after}
use Rattle.rds_history.specs.Events.{Event, Bound, Received, Marked}
use Rattle.rds_history.specs.Journals.{is_marked, maps_read}
use Rattle.rds_history.specs.Mark.{update_mark}
use Rattle.rds_history.specs.Sockets.{queued, receive_buffer}
use Rattle.rds_history.specs.Transcript.{lines}
use Rattle.rds_play_hosts.specs.declared.host.ScriptHost.{ScriptHost}
use Rattle.rds_play_hosts.specs.HostLaws.{untouched, untouched_by_mark, changed_either}
use Rattle.rds_play_hosts.specs.Telling.{TellsHost}
use Rattle.rds_play_world.specs.declared.peer_map.PeerMap.{PeerMap}
use Rattle.rds_play_world.specs.Telling.{State, TellsPeer, TellsWaiting, Waiting}
use Rattle.rds_play_world.proofs.Ends.{IsStill, end_still}
use Rattle.rds_play_world.proofs.Replacing.{hosts_replaced}

-- what happened is no entry of a journal and moved no byte, and touches no other host
pub record IsOfHost (h : ℕ) (past later : List Event) : Type 0 where
  pub still : (a b : ℕ) → IsStill a b past later
  pub others : (a : ℕ) (x : ScriptHost) → h ≢ a → TellsHost a past x → TellsHost a later x

pub of_bound : (h port slot sndbuf rcvbuf : ℕ) (past : List Event) → IsOfHost h past (Bound h port slot sndbuf rcvbuf ∷ past)
of_bound h port slot sndbuf rcvbuf past = record {
  still = λ a b. record { journal_same = refl; moved_same = refl };
  others = λ a x apart t. untouched a (Bound h port slot sndbuf rcvbuf) past x apart t;
}

pub of_received : (h port slot : ℕ) (d : Datagram) (past : List Event) → IsOfHost h past (Received h port slot d ∷ past)
of_received h port slot d past = record {
  still = λ a b. record { journal_same = refl; moved_same = refl };
  others = λ a x apart t. untouched a (Received h port slot d) past x apart t;
}

pub of_mark : (h port slot : ℕ) (past : List Event) → IsOfHost h past (update_mark h port slot past)
of_mark h port slot past = record {
  still = λ a b.
      let was = is_marked h port past in
      let is = congested_after was (queued h slot past) (receive_buffer h slot past) in
      changed_either (λ (p : List Event). IsStill a b past p) was is (Marked h port is (queued h slot past) (receive_buffer h slot past)) past
      (record { journal_same = refl; moved_same = refl }) (record { journal_same = refl; moved_same = refl });
  others = λ a x apart t. untouched_by_mark a h port slot past x apart t;
}

pub of_nothing : (h : ℕ) (past : List Event) → IsOfHost h past past
of_nothing h past = record { still = λ a b. record { journal_same = refl; moved_same = refl }; others = λ a x apart t. t }

peer_still : (a b : ℕ) (past later : List Event) (p : PeerMap) → IsStill a b past later → TellsPeer a b past p → TellsPeer a b later p
peer_still a b past later p still t = record {
  map_is = t.map_is ∙ sym (ap (λ (j : List Entry). last_map_read j) still.journal_same);
  version_is = t.version_is ∙ sym (ap (λ (j : List Entry). maps_read j) still.journal_same);
}

-- the host at place i, which is h, is this one now
pub tells_host : (w : Waiting) (limit hosts h i : ℕ) (past later : List Event) (s : State) (y : ScriptHost) (text : List ℕ) → i ≡ h → h < length s.hosts →
    IsOfHost h past later → TellsWaiting w limit hosts past s → TellsHost h later y → text ≡ lines later →
    TellsWaiting w limit hosts later (record s { text = text; hosts = set s.hosts i y })
tells_host w limit hosts h i past later s y text at h_in of_host t told text_is =
    subst (λ j. TellsWaiting w limit hosts later (record s { text = text; hosts = set s.hosts j y })) (sym at)
    (record {
      limit_is = t.limit_is;
      count_is = t.count_is;
      text_is = text_is;
      hosts_are = hosts_replaced hosts h past later s.hosts y h_in t.hosts_are told (λ a x apart was. of_host.others a x (λ e. apart (sym e)) was);
      ends_are = λ a b a_in b_in apart. end_still limit a b (w a b) past later _ (of_host.still a b) (t.ends_are a b a_in b_in apart);
      peers_are = λ a b a_in b_in p is. peer_still a b past later p (of_host.still a b) (t.peers_are a b a_in b_in p is);
    })
