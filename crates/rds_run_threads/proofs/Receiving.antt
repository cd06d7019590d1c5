-- What the sockets of a host handed out is what its journals delivered, and what another host sent.
use Rattle.std.proofs.Common.{◌≡◌, ℕ, suc, ◌≤◌, ◌==◌, ◌&&◌, Bool, true, false, cond, Some, List, [], ◌∷◌, All, length, map, option_map, slice_get, Vec, refl, sym, ap, subst, ◌∙◌}
use Rattle.std.specs.Global.{Global}
use Rattle.std.proofs.lemmas.List.Elements.{All-nil, All-cons, All-map, All-weaker}
use Rattle.std.proofs.lemmas.Option.{slice_get-map}
use Rattle.rds_model.specs.declared.entry.Entry.{Entry}
use Rattle.rds_model.specs.declared.order.Datagram.{Datagram}
use Rattle.rds_model.specs.Deliveries.{delivered_datagrams}
use Rattle.rds_model.specs.Pairs.{IsDeliveredOnce}
use Rattle.rds_text.specs.FinalState.{FinalHost, FinalJournal, FinalSocket}
use Rattle.rds_text.specs.Hosts.{address_of}
use Rattle.rds_text.specs.FinalViews.{host_view, side_view, socket_view}
use Rattle.rds_text.specs.declared.final_state.HostEnd.{HostEnd}
use Rattle.rds_text.specs.declared.final_state.Kept.{Kept}
use Rattle.rds_history.specs.Sound.{is_of_ports, of_ports}
use Rattle.rds_fmap.specs.Readers.{ReaderView, WriterView}
use Rattle.rds_socket.specs.Holding.{Holding}
use Rattle.rds_line.specs.Line.{LineView}
use Rattle.rds_host.specs.Telling.{AreBoxesTold}
use Rattle.rds_host_end.specs.Joined.{AreJoined, IsPeer, from_peer, got_by, peer_of}
use Rattle.rds_host_end.specs.Sides.{line_side}
use Rattle.rds_run_callers.specs.Places.{Place}
use Rattle.rds_run_callers.specs.Ends.{IsLeft}
use Rattle.rds_run_threads.specs.Reliable.{HandsOutDelivered, HandsOutSent, HasReceived, IsReliableTo, IsWithPeer, from_host, all_handed}
use Rattle.rds_run_threads.proofs.At.{all_at}
use Rattle.rds_run_threads.proofs.HandedOut.{AreAccepted, agrees_journal}

-- those from a peer, by both definitions
from_host_is : (peer : ℕ) (list : List Datagram) → from_peer peer list ≡ from_host peer list
from_host_is peer [] = refl
from_host_is peer (d ∷ list) = ap (λ (l : List Datagram). cond (d.from == peer) (d ∷ l) l) (from_host_is peer list)

module _ {E : Type 0} where
  -- what holds of each line's journal holds of all journals
  all_sides : (P : FinalJournal → Type 0) (lines : List (LineView E WriterView)) →
      ((place : ℕ) (line : LineView E WriterView) → slice_get lines place ≡ Some line → P (line_side line)) → All P (map line_side lines)
  all_sides P [] each = All-nil P
  all_sides P (line ∷ lines) each = All-cons P (line_side line) (map line_side lines) (each 0 line refl) (all_sides P lines (λ place l at. each (suc place) l at))

  with_peer : (lines : List (LineView E WriterView)) (addr : ℕ) → IsPeer lines addr → IsWithPeer (map line_side lines) addr
  with_peer lines addr (place, line, at, is) = (place, line_side line, slice_get-map line_side lines place ∙ ap (option_map line_side) at, is)

  module _ (places : List Place) (closed : List (Holding ReaderView)) (lines : List (LineView E WriterView)) (joined : AreJoined closed lines)
      (some : 1 ≤ length lines) (told : (slot : ℕ) (h : Holding ReaderView) → slice_get closed slot ≡ Some h → AreBoxesTold h lines) where
    sides_received : (k : Kept) → IsLeft places closed k → All (HandsOutDelivered (socket_view k)) (map line_side lines)
    sides_received k left =
        let h = left.1 in
        let has = left.4 in
        all_sides (HandsOutDelivered (socket_view k)) lines (λ place line at.
        sym (from_host_is (peer_of line) (all_handed (socket_view k)))
        ∙ (ap (from_peer (peer_of line)) has.all ∙ joined.all_got k.slot place h line left.3 at has.empty (told k.slot h left.3)))

    senders_known : (k : Kept) → IsLeft places closed k → All (λ (d : Datagram). IsWithPeer (map line_side lines) d.from) (all_handed (socket_view k))
    senders_known k left =
        let h = left.1 in
        let has = left.4 in
        subst (λ (l : List Datagram). All (λ (d : Datagram). IsWithPeer (map line_side lines) d.from) l) (sym has.all)
        (All-weaker (λ (d : Datagram). IsPeer lines d.from) (λ (d : Datagram). IsWithPeer (map line_side lines) d.from) (λ d is. with_peer lines d.from is)
        (got_by h) (joined.known_senders some k.slot h left.3))

    pub received_of : (end : HostEnd) (kept : Vec Kept Global) → map side_view end.journals.items ≡ map line_side lines → end.kept ≡ kept →
        All (IsLeft places closed) kept.items → HasReceived (host_view end)
    received_of end kept sides is left =
        subst (λ (l : List FinalJournal). HasReceived (record { addr = end.addr; sides = l; sockets = map socket_view end.kept.items })) (sym sides)
        (subst (λ (v : Vec Kept Global). HasReceived (record { addr = end.addr; sides = map line_side lines; sockets = map socket_view v.items })) (sym is)
        (record {
          delivered = All-map (λ (s : FinalSocket). All (HandsOutDelivered s) (map line_side lines)) socket_view kept.items
              (All-weaker (IsLeft places closed) (λ (k : Kept). All (HandsOutDelivered (socket_view k)) (map line_side lines)) sides_received kept.items left);
          known = All-map (λ (s : FinalSocket). All (λ (d : Datagram). IsWithPeer (map line_side lines) d.from) (all_handed s)) socket_view kept.items
              (All-weaker (IsLeft places closed) (λ (k : Kept). All (λ (d : Datagram). IsWithPeer (map line_side lines) d.from) (all_handed (socket_view k)))
              senders_known kept.items left);
        }))

-- the datagrams of a port pair are among those of its host
ports_step : (h sport dport : ℕ) (d : Datagram) (list : List Datagram) → of_ports h sport dport (from_host (address_of h) list) ≡ of_ports h sport dport list →
    (b : Bool) → (d.from == address_of h) ≡ b →
    of_ports h sport dport (cond (d.from == address_of h) (d ∷ from_host (address_of h) list) (from_host (address_of h) list)) ≡ of_ports h sport dport (d ∷ list)
ports_step h sport dport d list rest true is =
    ap (λ (c : Bool). of_ports h sport dport (cond c (d ∷ from_host (address_of h) list) (from_host (address_of h) list))) is
    ∙ ap (λ (l : List Datagram). cond (is_of_ports h sport dport d) (d ∷ l) l) rest
ports_step h sport dport d list rest false is =
    ap (λ (c : Bool). of_ports h sport dport (cond c (d ∷ from_host (address_of h) list) (from_host (address_of h) list))) is
    ∙ (rest ∙ sym (ap (λ (c : Bool). cond (c && (d.sport == sport && (d.dport == dport))) (d ∷ of_ports h sport dport list) (of_ports h sport dport list)) is))

ports_among : (h sport dport : ℕ) (list : List Datagram) → of_ports h sport dport (from_host (address_of h) list) ≡ of_ports h sport dport list
ports_among h sport dport [] = refl
ports_among h sport dport (d ∷ list) = ports_step h sport dport d list (ports_among h sport dport list) (d.from == address_of h) refl

-- what a socket handed out for a port pair is what was sent under the numbers delivered to it
sent_of : (h sport dport : ℕ) (sender receiver : List Entry) (s : FinalSocket) → AreAccepted sender receiver →
    from_host (address_of h) (all_handed s) ≡ delivered_datagrams (address_of h) s.slot receiver → HandsOutSent h sport dport sender receiver s
sent_of h sport dport sender receiver s accepted delivered =
    ap (map (λ (d : Datagram). Some d)) (sym (ports_among h sport dport (all_handed s)) ∙ ap (of_ports h sport dport) delivered)
    ∙ agrees_journal h sport dport s.slot sender receiver accepted

-- a host with such a journal of its connection with host h hands out reliably what h sent
pub reliable_of : (h place : ℕ) (sender : List Entry) (host : FinalHost) (side : FinalJournal) → slice_get host.sides place ≡ Some side →
    side.peer ≡ address_of h → HasReceived host → AreAccepted sender side.past → ((sport dport : ℕ) → IsDeliveredOnce sport dport sender side.past) →
    IsReliableTo h sender side.past host.sockets
reliable_of h place sender host side at peer received accepted once = record {
  once = once;
  handed_out = λ sport dport.
      All-weaker (λ (s : FinalSocket). All (HandsOutDelivered s) host.sides) (HandsOutSent h sport dport sender side.past)
      (λ s all. sent_of h sport dport sender side.past s accepted (delivered s all)) host.sockets received.delivered;
}
  where
    delivered : (s : FinalSocket) → All (HandsOutDelivered s) host.sides →
        from_host (address_of h) (all_handed s) ≡ delivered_datagrams (address_of h) s.slot side.past
    delivered s all =
        subst (λ (addr : ℕ). from_host addr (all_handed s) ≡ delivered_datagrams addr s.slot side.past) peer
        (all_at (HandsOutDelivered s) host.sides place side all at)
