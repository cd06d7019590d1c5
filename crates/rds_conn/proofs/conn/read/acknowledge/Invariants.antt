use Rattle.std.proofs.Common.{◌≡◌, ◌+◌, length}
use Rattle.rds_conn.proofs.Acknowledging.{Acknowledging}
use Rattle.rds_conn.proofs.conn.read.acknowledge.Given as goal

abbrev pub invariant-loop-msg : goal.invariant-loop-msg
invariant-loop-msg g l =
    record {
      so_far : Acknowledging l.upto l.initial.store l.initial.freed l.store l.freed;
      counted : l.steps + length l.store.messages ≡ l.initial.steps + length l.initial.store.messages;
    }

abbrev pub decreases-loop-msg : goal.decreases-loop-msg
decreases-loop-msg g l = length l.store.messages
