use Rattle.std.proofs.Common.{None, false}
use Rattle.rds_conn.proofs.KeepsNothing.{keeps_nothing}
use Rattle.rds_conn.proofs.conn.Conn.new.Goals as goal

pub invariant_of-result : goal.invariant_of-result
invariant_of-result c =
    keeps_nothing
    (record {
      alloc = c.args.alloc;
      me = c.args.me;
      peer = c.args.peer;
      slots = c.args.slots;
      journal = c.in_ok-new.field-0;
      store = c.in_ok-new-2.field-0;
      splitter = c.in_ok-new-3.field-0;
      freed = c.in_ok-new-4.field-0;
      charges = c.in_ok-new-5.field-0;
      spare = 0;
      store_spare = 0;
      pong = None;
      newest = 0;
      stream = None;
      mapped = false;
      map = c.in_ok-new-6.field-0;
      asking = c.new-7.result;
      accepted = 0;
      highest = 0;
      last = 0;
    })
    c.args.limit
    (record {
      journal = c.in_ok-new.ensures.empty;
      store = c.in_ok-new-2.ensures.empty;
      splitter = c.in_ok-new-3.ensures.fresh;
      freed = c.in_ok-new-4.ensures;
      charges = c.in_ok-new-5.ensures;
    })
    c.requires.slots c.requires.most
