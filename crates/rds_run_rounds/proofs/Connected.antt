-- The lines of a run stay its lines while they turn, and while each keeps its connection.
use Rattle.std.proofs.Common.{◌≡◌, ℕ, suc, List, sym, subst, ◌∙◌}
use Rattle.rds_link.specs.Ends.{Means}
use Rattle.rds_line_channel.specs.Meeting.{AtEach}
use Rattle.rds_line_channel.specs.Streams.{numbers}
use Rattle.rds_line.specs.Line.{LineView}
use Rattle.rds_line.specs.Stays.{LineStays}
use Rattle.rds_host.specs.Lines.{AreTurned}
use Rattle.rds_run_rounds.specs.Connection.{AreConnected, AreHosts, AreSameConnections, IsSameConnection}
use Rattle.rds_run_rounds.specs.Grid.{EachRow, IsAt}
use Rattle.rds_run_rounds.specs.Sweep.{HasAsMany}
use Rattle.rds_run_rounds.proofs.Partners.{rows_keep}
use Rattle.rds_run_rounds.proofs.Places.{was_at}

module _ {E M : Type 0} (m : Means E) where
  pub connected_stays : {Name : Type 0} (pair : M → Name) (limit low high : ℕ) (one other one_after other_after : LineView E M) →
      AreConnected m limit low high one other → LineStays m pair one one_after → LineStays m pair other other_after →
      AreConnected m limit low high one_after other_after
  connected_stays pair limit low high one other one_after other_after c first second = record {
    hosts = record {
      one_limit = first.channel.limit ∙ c.hosts.one_limit;
      other_limit = second.channel.limit ∙ c.hosts.other_limit;
      one_peer = first.channel.peer ∙ c.hosts.one_peer;
      other_peer = second.channel.peer ∙ c.hosts.other_peer;
    };
    streams = record {
      same = second.channel.streams.numbers ∙ (c.streams.same ∙ sym first.channel.streams.numbers);
      pairs =
          second.channel.streams.paired.back one_after.channel.streams.list
          (first.channel.streams.paired.forth other.channel.streams.list c.streams.pairs);
    };
  }

  -- and where the first one alone stays
  pub connected_first : {Name : Type 0} (pair : M → Name) (limit low high : ℕ) (one other one_after : LineView E M) → AreConnected m limit low high one other →
      LineStays m pair one one_after → AreConnected m limit low high one_after other
  connected_first pair limit low high one other one_after c first = record {
    hosts = record {
      one_limit = first.channel.limit ∙ c.hosts.one_limit;
      other_limit = c.hosts.other_limit;
      one_peer = first.channel.peer ∙ c.hosts.one_peer;
      other_peer = c.hosts.other_peer;
    };
    streams = record {
      same = c.streams.same ∙ sym first.channel.streams.numbers;
      pairs = first.channel.streams.paired.forth other.channel.streams.list c.streams.pairs;
    };
  }

  connected_same : (limit low high : ℕ) (one other one_after other_after : LineView E M) → AreConnected m limit low high one other →
      IsSameConnection one one_after → IsSameConnection other other_after → AreConnected m limit low high one_after other_after
  connected_same limit low high one other one_after other_after c first second = record {
    hosts = record {
      one_limit = first.limit ∙ c.hosts.one_limit;
      other_limit = second.limit ∙ c.hosts.other_limit;
      one_peer = first.peer ∙ c.hosts.one_peer;
      other_peer = second.peer ∙ c.hosts.other_peer;
    };
    streams = record {
      same =
          subst (λ (xs : List (ℕ × E)). numbers other_after.channel.streams.list ≡ numbers xs) (sym first.streams)
          (subst (λ (xs : List (ℕ × E)). numbers xs ≡ numbers one.channel.streams.list) (sym second.streams) c.streams.same);
      pairs =
          subst (λ (xs : List (ℕ × E)). AtEach m.meets xs other_after.channel.streams.list) (sym first.streams)
          (subst (AtEach m.meets one.channel.streams.list) (sym second.streams) c.streams.pairs);
    };
  }

  -- what keeps the two lines of each two hosts connected keeps all lines so
  hosts_stay : (Keeps : LineView E M → LineView E M → Type 0) (limit hosts : ℕ) (old new : List (List (LineView E M))) →
      ((low high : ℕ) (one other one_after other_after : LineView E M) → AreConnected m limit low high one other → Keeps one one_after →
      Keeps other other_after → AreConnected m limit low high one_after other_after) →
      AreHosts m limit hosts old → EachRow HasAsMany old new →
      ((host place : ℕ) (line after : LineView E M) → IsAt old host place line → IsAt new host place after → Keeps line after) →
      AreHosts m limit hosts new
  hosts_stay Keeps limit hosts old new stays are lengths each = record {
    few = are.few;
    shape = rows_keep hosts old new are.shape lengths;
    connected = λ low place x y ordered x_at y_at.
        let one = was_at old new lengths low place x x_at in
        let other = was_at old new lengths (suc place) low y y_at in
        stays low (suc place) one.0 other.0 x y (are.connected low place one.0 other.0 ordered one.1 other.1)
        (each low place one.0 x one.1 x_at) (each (suc place) low other.0 y other.1 y_at);
  }

  pub hosts_turn : {Name : Type 0} (pair : M → Name) (limit hosts : ℕ) (old new : List (List (LineView E M))) → AreHosts m limit hosts old →
      EachRow (AreTurned m pair) old new → AreHosts m limit hosts new
  hosts_turn pair limit hosts old new are turned =
      hosts_stay (LineStays m pair) limit hosts old new (connected_stays pair limit) are
      (record { count = turned.count; each = λ host row after stood stands. (turned.each host row after stood stands).count })
      (λ host place line after was is. (turned.each host was.0 is.0 was.1 is.1).each place line after was.2 is.2)

  pub hosts_same : (limit hosts : ℕ) (old new : List (List (LineView E M))) → AreHosts m limit hosts old → EachRow AreSameConnections old new →
      AreHosts m limit hosts new
  hosts_same limit hosts old new are same =
      hosts_stay IsSameConnection limit hosts old new (connected_same limit) are
      (record { count = same.count; each = λ host row after stood stands. (same.each host row after stood stands).count })
      (λ host place line after was is. (same.each host was.0 is.0 was.1 is.1).each place line after was.2 is.2)
