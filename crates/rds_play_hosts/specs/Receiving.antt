-- How a socket takes a datagram in, and how it hands out the one that has waited longest. Source: this project's own.
use Rattle.std.specs.Prelude.{◌≡◌, ℕ, ◌+◌, ◌-◌, [], ◌∷◌, ◌++◌, List, length, map}
use Rattle.rds_wire.specs.declared.frame.Frame.{Frame}
use Rattle.rds_model.specs.Deliveries.{datagram_from}
use Rattle.rds_text.specs.Lines.{recv_line}
use Rattle.rds_text.specs.Hosts.{address_of}
use Rattle.rds_play_hosts.specs.declared.host.Arrived.{Arrived}
use Rattle.rds_play_hosts.specs.declared.host.ScriptSocket.{ScriptSocket}

-- the datagram leaves the queue and is kept with those that were handed out, and its line is printed
pub record HandsOut (h port : ℕ) (a : Arrived) (waiting : List Arrived) (old new : ScriptSocket) (text_old text_new : List ℕ) : Type 0 where
  pub slot_same : new.slot ≡ old.slot
  pub port_same : new.port ≡ old.port
  pub sndbuf_same : new.sndbuf ≡ old.sndbuf
  pub rcvbuf_same : new.rcvbuf ≡ old.rcvbuf
  pub queue_is : new.queue.items ≡ waiting
  pub queued_is : new.queued ≡ old.queued - length a.datagram.payload
  pub got_is : new.got.items ≡ old.got.items ++ a.datagram ∷ []
  pub text_is : text_new ≡ text_old ++ recv_line h port a.from a.datagram.sport a.datagram.payload

-- nothing waits, and nothing is printed
pub record KeepsAll (old new : ScriptSocket) (text_old text_new : List ℕ) : Type 0 where
  pub slot_same : new.slot ≡ old.slot
  pub port_same : new.port ≡ old.port
  pub sndbuf_same : new.sndbuf ≡ old.sndbuf
  pub rcvbuf_same : new.rcvbuf ≡ old.rcvbuf
  pub queue_same : new.queue.items ≡ old.queue.items
  pub queued_same : new.queued ≡ old.queued
  pub got_same : new.got.items ≡ old.got.items
  pub text_same : text_new ≡ text_old

-- the datagram of a frame from a host is queued
pub record TakesIn (from : ℕ) (f : Frame) (old new : ScriptSocket) : Type 0 where
  pub slot_same : new.slot ≡ old.slot
  pub port_same : new.port ≡ old.port
  pub sndbuf_same : new.sndbuf ≡ old.sndbuf
  pub rcvbuf_same : new.rcvbuf ≡ old.rcvbuf
  pub queue_is : map (λ (a : Arrived). a.datagram) new.queue.items ≡
      map (λ (a : Arrived). a.datagram) old.queue.items ++ datagram_from (address_of from) f ∷ []
  pub queued_is : new.queued ≡ old.queued + length f.payload
  pub got_same : new.got.items ≡ old.got.items
