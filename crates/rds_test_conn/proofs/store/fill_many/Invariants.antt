use Rattle.std.proofs.Common.{◌≤◌, ◌<◌, ◌+◌, length}
use Rattle.std.specs.List.{All}
use Rattle.rds_model.specs.declared.entry.Msg.{Msg}
use Rattle.rds_msgs.specs.Messages.{messages_from}
use Rattle.rds_test_conn.proofs.store.fill_many.Given as goal

-- the numbers so far, none of slot 1
abbrev pub invariant-loop-num : goal.invariant-loop-num
invariant-loop-num l =
    record {
      above : All (λ (k : Msg). k.num < l.num) l.store.messages;
      none : length (messages_from 1 l.store.messages) ≤ 0;
    }
