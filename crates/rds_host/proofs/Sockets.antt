-- What stays of sockets whose slots are told more, one after another.
use Rattle.std.proofs.Common.{◌≡◌, ℕ, ◌+◌, List, [], ◌∷◌, ◌++◌, Some, get_or, set, map, take, slice_get, refl, sym, ap, subst, ⊎_elim, ◌∙◌}
use Rattle.std.proofs.lemmas.Bool.{cases_eq}
use Rattle.std.proofs.lemmas.List.{length-set, map_push, take_more}
use Rattle.std.proofs.lemmas.Option.{same_Some, slice_get_within, get_or_from_slice_get}
use Rattle.rds_bindtab.specs.declared.view.Telling.{Telling}
use Rattle.rds_bindtab.specs.Seats.{telling_of}
use Rattle.rds_fmap.specs.Readers.{ReaderView}
use Rattle.rds_line_channel.specs.PlaceLaws.{at_set, beside_set}
use Rattle.rds_socket.specs.Calls.{with_own}
use Rattle.rds_socket.specs.Holding.{Open}
use Rattle.rds_host.specs.Settled.{AreSameSockets, IsSameSocket, ports_of}

pub same_socket_through : (old middle new : Open ReaderView) → IsSameSocket old middle → IsSameSocket middle new → IsSameSocket old new
same_socket_through old middle new first second = second ∙ ap (λ (s : Open ReaderView). with_own s new.own) first

pub sockets_same : (sockets : List (Open ReaderView)) → AreSameSockets sockets sockets
sockets_same sockets = record {
  count = refl;
  each = λ place socket after stood stands. subst (IsSameSocket socket) (same_Some socket after (sym stood ∙ stands)) refl;
}

-- one of them is the same as before
pub sockets_set : (old now : List (Open ReaderView)) (i : ℕ) (socket after : Open ReaderView) → slice_get now i ≡ Some socket → IsSameSocket socket after → AreSameSockets old now
    → AreSameSockets old (set now i after)
sockets_set old now i socket after at same are = record {
  count = length-set now i after ∙ are.count;
  each = λ place first last stood stands.
      ⊎_elim
      (λ (here : place ≡ i).
      let is : after ≡ last = same_Some after last (sym (at_set now i after (slice_get_within now i socket at)) ∙ (ap (slice_get (set now i after)) (sym here) ∙ stands)) in
      let was = are.each place first socket stood (ap (slice_get now) here ∙ at) in
      subst (IsSameSocket first) is (same_socket_through first socket after was same))
      (λ (other : place ≡ i → ⊥). are.each place first last stood (sym (beside_set now i place after other) ∙ stands))
      (cases_eq place i);
}

-- the port of one more socket
pub one_port_more : (sockets : List (Open ReaderView)) (i : ℕ) (socket : Open ReaderView) → slice_get sockets i ≡ Some socket
    → ports_of (take i sockets) ++ telling_of socket.own.ports.view ∷ [] ≡ ports_of (take (i + 1) sockets)
one_port_more sockets i socket at =
    let tells : Open ReaderView → Telling = λ (s : Open ReaderView). telling_of s.own.ports.view in
    let is : get_or sockets i socket ≡ socket = get_or_from_slice_get sockets i socket socket at in
    sym (map_push tells (take i sockets) socket)
    ∙ ap (map tells) (ap (λ x. take i sockets ++ x ∷ []) (sym is) ∙ sym (take_more sockets i socket (slice_get_within sockets i socket at)))
