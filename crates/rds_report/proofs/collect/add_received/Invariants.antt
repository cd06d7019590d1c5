use Rattle.std.proofs.Common.{◌≡◌, ◌++◌, map, take}
use Rattle.rds_model.specs.declared.order.Datagram.{Datagram}
use Rattle.rds_report.specs.Item as what
use Rattle.rds_report.specs.Items.{item}
use Rattle.rds_report.proofs.collect.add_received.Given as goal

abbrev pub invariant-loop-datagram : goal.invariant-loop-datagram
invariant-loop-datagram l =
    l.items.items ≡ l.fn.items.items
    ++ map (λ (d : Datagram). item l.addr d.dport d.from d.sport (what.Received d.payload)) (take l.datagram-index l.got)
