-- What a send answers, by the numbers that its own steps find. This project's own.
use Rattle.std.specs.Prelude.{◌≡◌, ◌+◌, ◌-◌, ◌<◌, ◌≤◌, ℕ, min, List, length, true, false, Ok, Err, Result}
use Rattle.rds_wire.specs.declared.kind.TheConstants.{MAX_LENGTH}
use Rattle.rds_model.specs.declared.order.Order.{Order}
use Rattle.rds_model.specs.declared.order.Order.TheVariants as order
use Rattle.rds_fmap.specs.declared.seen.Seen.{Seen}
use Rattle.rds_socket_parts.specs.Lanes.{Lane, NoneTo, IsLookTo, IsPutTo}
use Rattle.rds_socket.specs.declared.error.SendError.{SendError}
use Rattle.rds_socket.specs.declared.error.SendError.TheVariants.{TooLong, NoRoute, Congested, SendFull, Memory}
use Rattle.rds_socket.specs.Holding.{Open, most_sent}
use Rattle.rds_socket.specs.Calls.{with_own, with_words, with_routes, with_total, after_freed}

module _ {R : Type 0} where
  -- the longest datagram that the socket may send
  abbrev pub limit_of : Open R → ℕ
  limit_of o = min o.sndbuf MAX_LENGTH

  abbrev pub order_of : Open R → ℕ → List ℕ → Order
  order_of o dport payload = order.Send o.own.words.slot o.port dport payload

  -- the socket after a look, which left these routes
  abbrev pub after_route_look : Open R → List (Lane R) → Open R
  after_route_look o routes = with_own o (with_routes o.own routes)

  -- then after a load that found so many bytes freed
  abbrev pub after_freed_load : Open R → List (Lane R) → ℕ → Open R
  after_freed_load o routes freed = with_own o (with_words (with_routes o.own routes) (after_freed o.own.words freed))

  -- so many bytes fit into the send buffer beside those that a load found not freed, and with them the socket has sent no more than it can
  abbrev pub FitsBuffer : ℕ → Open R → Open R → Type 0
  FitsBuffer len old new = (freed : ℕ) × (old.own.total - freed + len ≤ old.sndbuf) × (new.own.total + len ≤ most_sent)
      × (new ≡ after_freed_load old new.own.routes freed)

  -- the socket once so many bytes were put, which left these routes
  abbrev pub after_put : Open R → List (Lane R) → ℕ → Open R
  after_put o routes len = with_own o (with_total (with_routes o.own routes) (o.own.total + len))

  -- the socket once a look and a load were made and then so many bytes were put
  abbrev pub after_send : Open R → List (Lane R) → ℕ → ℕ → Open R
  after_send o routes freed len = with_own o (with_total (with_words (with_routes o.own routes) (after_freed o.own.words freed)) (o.own.total + len))

  module _ (looks : R → R → ℕ → Seen → Type 0) (peer dport : ℕ) (payload : List ℕ) where
    -- the datagram is short enough, and a look at the peer's map found its port clear
    pub record FindsPortClear (old : Open R) (routes : List (Lane R)) : Type 0 where
      pub short : length payload ≤ limit_of old
      pub version : ℕ
      pub look : IsLookTo looks peer dport (record { version = version; set = false }) old.own.routes routes

    -- why it was refused, and that nothing was put
    abbrev pub RefusalFits : Open R → SendError → Open R → Type 0
    RefusalFits old (TooLong len limit) new = (len ≡ length payload) × (limit ≡ limit_of old) × (limit < len) × (new ≡ old)
    RefusalFits old (NoRoute named) new = (length payload ≤ limit_of old) × (named ≡ peer) × NoneTo old.own.routes peer × (new ≡ old)
    RefusalFits old (Congested port version) new = (length payload ≤ limit_of old) × (port ≡ dport)
        × IsLookTo looks peer dport (record { version = version; set = true }) old.own.routes new.own.routes × (new ≡ after_route_look old new.own.routes)
    RefusalFits old (SendFull queued len limit) new = FindsPortClear old new.own.routes × ((freed : ℕ) × (queued ≡ old.own.total - freed)
        × (len ≡ length payload) × (limit ≡ old.sndbuf) × (limit < queued + len) × (new ≡ after_freed_load old new.own.routes freed))
    RefusalFits old Memory new = FindsPortClear old new.own.routes × ((freed : ℕ) × (old.own.total - freed + length payload ≤ old.sndbuf)
        × (new ≡ after_freed_load old new.own.routes freed))

    -- it was found short enough, clear and within the send buffer, and was put
    abbrev pub IsSent : Open R → Open R → Type 0
    IsSent old new = (routes : List (Lane R)) × (freed : ℕ) × FindsPortClear old routes × (old.own.total - freed + length payload ≤ old.sndbuf)
        × IsPutTo peer (order_of old dport payload) routes new.own.routes × (new ≡ after_send old new.own.routes freed (length payload))

    -- what a send answers
    abbrev pub SendFits : Open R → Result (Unit {0}) (List ℕ × SendError) → Open R → Type 0
    SendFits old (Ok _) new = IsSent old new
    SendFits old (Err e) new = (e.0 ≡ payload) × RefusalFits old e.1 new

-- the order is a datagram
abbrev pub IsSend : Order → Type 0
IsSend o = (slot sport dport : ℕ) × (payload : List ℕ) × (o ≡ order.Send slot sport dport payload)

-- the order is a datagram with this payload
abbrev pub IsSendOf : Order → List ℕ → Type 0
IsSendOf o payload = (slot sport dport : ℕ) × (o ≡ order.Send slot sport dport payload)
