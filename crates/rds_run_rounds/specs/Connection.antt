-- The lines of a run: each host has one to each other host. Source: this project's own.
use Rattle.std.specs.Prelude.{◌≡◌, ◌⊎◌, ◌≤◌, ℕ, List, Some, length, slice_get}
use Rattle.rds_text.specs.declared.host.TheConstants.{MAX_HOSTS}
use Rattle.rds_link.specs.Ends.{Means}
use Rattle.rds_text.specs.Hosts.{address_of}
use Rattle.rds_line_channel.specs.Meeting.{AtEach}
use Rattle.rds_line_channel.specs.Streams.{numbers}
use Rattle.rds_line.specs.Line.{IsFull, LineView}
use Rattle.rds_run_rounds.specs.Grid.{AreRows, IsAt, OfEachPair, peer_at}

module _ {E M : Type 0} where
  -- of two hosts and their lines to each other: the journal of this host's line with that peer has so many entries, and two more would
  -- pass its limit
  abbrev pub IsFullAt : (host peer entries : ℕ) → (low high : ℕ) → (one other : LineView E M) → Type 0
  IsFullAt host peer entries low high one other =
      ((host ≡ low) × (peer ≡ high) × IsFull entries one) ⊎ ((host ≡ high) × (peer ≡ low) × IsFull entries other)

  -- a host has a line with a peer whose journal is so
  pub record IsFullHost (host peer entries : ℕ) (rows : List (List (LineView E M))) : Type 0 where
    pub place : ℕ
    pub line : LineView E M
    pub at : IsAt rows host place line
    pub to : peer_at host place ≡ peer
    pub full : IsFull entries line

  -- the lines of two hosts have each other as peers, and their journals have this limit
  pub record AreOfHosts (limit low high : ℕ) (one other : LineView E M) : Type 0 where
    pub one_limit : one.channel.conn.log.limit ≡ limit
    pub other_limit : other.channel.conn.log.limit ≡ limit
    pub one_peer : one.channel.conn.peer ≡ address_of high
    pub other_peer : other.channel.conn.peer ≡ address_of low

  -- a line has the same peer, the same limit of its journal and the same streams as before
  pub record IsSameConnection (old new : LineView E M) : Type 0 where
    pub limit : new.channel.conn.log.limit ≡ old.channel.conn.log.limit
    pub peer : new.channel.conn.peer ≡ old.channel.conn.peer
    pub streams : new.channel.streams.list ≡ old.channel.streams.list

  -- so has each line of a host
  pub record AreSameConnections (old new : List (LineView E M)) : Type 0 where
    pub count : length new ≡ length old
    pub each : (place : ℕ) (line after : LineView E M) → slice_get old place ≡ Some line → slice_get new place ≡ Some after → IsSameConnection line after

module _ {E : Type 0} (m : Means E) where
  -- two hosts have the same streams, and the two ends of each meet
  pub record ArePaired (one other : List (ℕ × E)) : Type 0 where
    pub same : numbers other ≡ numbers one
    pub pairs : AtEach m.meets one other

  -- the lines of two hosts are the two of one connection
  pub record AreConnected {M : Type 0} (limit low high : ℕ) (one other : LineView E M) : Type 0 where
    pub hosts : AreOfHosts limit low high one other
    pub streams : ArePaired one.channel.streams.list other.channel.streams.list

  -- each of so many hosts, which are at most eight, has a line to each other one, and the two lines of each two hosts are connected
  pub record AreHosts {M : Type 0} (limit hosts : ℕ) (rows : List (List (LineView E M))) : Type 0 where
    pub few : hosts ≤ MAX_HOSTS
    pub shape : AreRows hosts rows
    pub connected : OfEachPair (AreConnected limit) rows
