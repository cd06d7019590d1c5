-- Three runs of two journals each, and a journal by itself, newest entry first, to read the definitions against. Source:
-- this project's own.
use Rattle.std.specs.Prelude.{ℕ, List, [], ◌∷◌, length, replicate, codes}
use Rattle.rds_wire.specs.declared.frame.Frame.{Frame}
use Rattle.rds_wire.specs.declared.header.Header.{Header}
use Rattle.rds_wire.specs.declared.kind.Malformed.TheVariants as malformed
use Rattle.rds_wire.specs.declared.kind.TheConstants.{MAP_LENGTH}
use Rattle.rds_wire.specs.Bytes.{sealed}
use Rattle.rds_model.specs.declared.entry.Entry.{Entry}
use Rattle.rds_model.specs.declared.entry.Entry.TheVariants.{Accept, Cancel, Open, Pull, Read, Shut, Bad}
use Rattle.rds_model.specs.declared.entry.Target.TheVariants.{Port, All}
use Rattle.rds_model.specs.declared.entry.Outcome.TheVariants as outcome
use Rattle.rds_model.specs.declared.entry.TheConstants.{NO_SLOT}
use Rattle.rds_model.specs.Legal.{IsWhole}
use Rattle.rds_model.specs.Honest.{IsHonest}

-- a datagram or an acknowledgement
abbrev pub frame : ℕ → ℕ → ℕ → ℕ → ℕ → List ℕ → Frame
frame number ack sport dport flags payload = record {
  header = sealed (record {
    sequence = number;
    ack = ack;
    len = length payload;
    sport = sport;
    dport = dport;
    flags = flags;
    credit = 0;
    padding = replicate 4 0;
    csum = 0;
    ext = replicate 16 0;
  });
  payload = payload;
}

-- a congestion map
abbrev pub map_with : ℕ → List ℕ → Frame
map_with ack map = record {
  header = sealed (record {
    sequence = 0;
    ack = ack;
    len = MAP_LENGTH;
    sport = 0;
    dport = 0;
    flags = 1;
    credit = 0;
    padding = replicate 4 0;
    csum = 0;
    ext = replicate 16 0;
  });
  payload = map;
}

-- A plain run: a datagram, and its acknowledgement.
abbrev pub hello_sender : List ℕ → List Entry
hello_sender map =
    Read 1 (frame 0 1 0 0 0 []) outcome.AckOnly
    ∷ Read 1 (map_with 0 map) outcome.Map
    ∷ Pull 1 (frame 1 0 4000 4001 2 (codes "hello"))
    ∷ Pull 1 (map_with 0 map)
    ∷ Open 1
    ∷ Accept 0 4000 4001 (codes "hello")
    ∷ []

abbrev pub hello_receiver : List ℕ → List Entry
hello_receiver map =
    Pull 1 (frame 0 1 0 0 0 [])
    ∷ Read 1 (frame 1 0 4000 4001 2 (codes "hello")) (outcome.Slot 0)
    ∷ Read 1 (map_with 0 map) outcome.Map
    ∷ Pull 1 (map_with 0 map)
    ∷ Open 1
    ∷ []

-- A run with a cut. Four datagrams are accepted. Stream 1 ends within the payload of the second, which the receiver never
-- reads. The third is taken back before it was pulled. On stream 2 the first and the second are pulled again, marked: the
-- first is an old copy, and the second is passed. The fourth is passed over the third.
abbrev pub cut_sender : List ℕ → List Entry
cut_sender map =
    Read 2 (frame 0 4 0 0 0 []) outcome.AckOnly
    ∷ Read 2 (map_with 1 map) outcome.Map
    ∷ Pull 2 (frame 4 0 4000 4001 2 (codes "fourth"))
    ∷ Pull 2 (frame 2 0 4000 4001 6 (codes "second"))
    ∷ Pull 2 (frame 1 0 4000 4001 6 (codes "first"))
    ∷ Pull 2 (map_with 0 map)
    ∷ Open 2
    ∷ Cancel 0 (Port 4002)
    ∷ Shut 1
    ∷ Pull 1 (frame 2 0 4000 4001 0 (codes "second"))
    ∷ Pull 1 (frame 1 0 4000 4001 0 (codes "first"))
    ∷ Pull 1 (map_with 0 map)
    ∷ Open 1
    ∷ Accept 0 4000 4001 (codes "fourth")
    ∷ Accept 0 4000 4002 (codes "third")
    ∷ Accept 0 4000 4001 (codes "second")
    ∷ Accept 0 4000 4001 (codes "first")
    ∷ []

abbrev pub cut_receiver : List ℕ → List Entry
cut_receiver map =
    Pull 2 (frame 0 4 0 0 0 [])
    ∷ Read 2 (frame 4 0 4000 4001 2 (codes "fourth")) (outcome.Slot 0)
    ∷ Read 2 (frame 2 0 4000 4001 6 (codes "second")) (outcome.Slot 0)
    ∷ Read 2 (frame 1 0 4000 4001 6 (codes "first")) outcome.Old
    ∷ Read 2 (map_with 0 map) outcome.Map
    ∷ Pull 2 (map_with 1 map)
    ∷ Open 2
    ∷ Shut 1
    ∷ Read 1 (frame 1 0 4000 4001 0 (codes "first")) (outcome.Slot 0)
    ∷ Read 1 (map_with 0 map) outcome.Map
    ∷ Pull 1 (map_with 0 map)
    ∷ Open 1
    ∷ []

-- A run with data both ways. The first end sends a datagram, a ping, a datagram to a port that no socket holds, and one
-- from port 0 to port 0. The fifth is taken back before it is pulled, so that no frame has asked for an acknowledgement yet,
-- and an empty one asks. The second end sends a datagram and the pong, and answers what was asked; and so does the first.
abbrev pub talk_first : List ℕ → List Entry
talk_first map =
    Pull 1 (frame 0 2 0 0 0 [])
    ∷ Read 1 (frame 0 4 0 0 0 []) outcome.AckOnly
    ∷ Read 1 (frame 2 4 0 4000 2 []) (outcome.Slot 0)
    ∷ Read 1 (frame 1 1 4001 4000 2 (codes "back")) (outcome.Slot 0)
    ∷ Read 1 (map_with 0 map) outcome.Map
    ∷ Pull 1 (frame 0 0 0 0 2 [])
    ∷ Cancel 0 (Port 4002)
    ∷ Pull 1 (frame 4 0 0 0 0 [])
    ∷ Pull 1 (frame 3 0 4000 4009 0 (codes "nobody"))
    ∷ Pull 1 (frame 2 0 4000 0 0 [])
    ∷ Pull 1 (frame 1 0 4000 4001 0 (codes "there"))
    ∷ Pull 1 (map_with 0 map)
    ∷ Open 1
    ∷ Accept 0 4000 4002 (codes "late")
    ∷ Accept 0 0 0 []
    ∷ Accept 0 4000 4009 (codes "nobody")
    ∷ Accept 0 4000 0 []
    ∷ Accept 0 4000 4001 (codes "there")
    ∷ []

abbrev pub talk_second : List ℕ → List Entry
talk_second map =
    Read 1 (frame 0 2 0 0 0 []) outcome.AckOnly
    ∷ Pull 1 (frame 0 4 0 0 0 [])
    ∷ Read 1 (frame 0 0 0 0 2 []) outcome.AckOnly
    ∷ Pull 1 (frame 2 4 0 4000 2 [])
    ∷ Read 1 (frame 4 0 0 0 0 []) outcome.Void
    ∷ Read 1 (frame 3 0 4000 4009 0 (codes "nobody")) outcome.NoSocket
    ∷ Accept NO_SLOT 0 4000 []
    ∷ Read 1 (frame 2 0 4000 0 0 []) outcome.Ping
    ∷ Pull 1 (frame 1 1 4001 4000 2 (codes "back"))
    ∷ Read 1 (frame 1 0 4000 4001 0 (codes "there")) (outcome.Slot 0)
    ∷ Read 1 (map_with 0 map) outcome.Map
    ∷ Pull 1 (map_with 0 map)
    ∷ Open 1
    ∷ Accept 0 4001 4000 (codes "back")
    ∷ []

-- a header whose sum isn't verified, since it is 0
abbrev pub unsummed : (len flags : ℕ) → Header
unsummed len flags = record {
  sequence = 0;
  ack = 0;
  len = len;
  sport = 0;
  dport = 0;
  flags = flags;
  credit = 0;
  padding = replicate 4 0;
  csum = 0;
  ext = replicate 16 0;
}

-- The journal of an end whose peer keeps no rules, so that no run has it: a congestion map of a wrong length says nothing,
-- and a header that announces one byte too many ends the stream. Then the socket of slot 0 closes.
abbrev pub wronged : List Entry
wronged =
    Cancel 0 All
    ∷ Bad 1 (unsummed 1048577 0) (malformed.Length 1048577)
    ∷ Read 1 (record { header = unsummed 1 1; payload = 7 ∷ [] }) outcome.OddMap
    ∷ Open 1
    ∷ []

-- two journals that keep all rules
pub record AreSound (a b : List Entry) : Type 0 where
  pub sender : IsWhole a
  pub receiver : IsWhole b
  pub honest : IsHonest a b
