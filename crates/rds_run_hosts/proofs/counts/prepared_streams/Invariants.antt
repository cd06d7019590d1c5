use Rattle.std.proofs.Common.{◌≡◌, ◌≤◌, ◌+◌, ◌*◌, [], sum_by}
use Rattle.std.specs.List.{range_with_len}
use Rattle.rds_script.specs.Script.{cut_total}
use Rattle.rds_run_hosts.specs.Streams.{streams_below}
use Rattle.rds_run_hosts.proofs.counts.prepared_streams.Given as goal

abbrev pub invariant-loop-host : goal.invariant-loop-host
invariant-loop-host l = record {
  count : l.streams ≡ cut_total l.fn.script.commands.items + sum_by (λ host. streams_below host []) (range_with_len 0 l.host);
  most : l.streams ≤ 1024 + l.host * 24;
}
