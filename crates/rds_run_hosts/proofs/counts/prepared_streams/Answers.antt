use Rattle.std.proofs.Common.{◌≡◌, ◌+◌, ℕ, [], List, filter, length, sum_by, sym, ap, ◌∙◌, arith}
use Rattle.std.specs.List.{All, range_with_len}
use Rattle.rds_script.specs.Grammar.{meaning}
use Rattle.rds_script.specs.Script.{IsCommand, cut_total}
use Rattle.rds_script.specs.declared.script.Placed.{Placed}
use Rattle.rds_script.specs.declared.script.Script.{Script}
use Rattle.rds_run_hosts.specs.Cuts.{is_cut}
use Rattle.rds_run_hosts.specs.Streams.{prepared_streams, streams_below}
use Rattle.rds_run_hosts.proofs.Cuts.{sum_below_more}
use Rattle.rds_run_hosts.proofs.Summing.{cuts_in_all, streams_in_all, three_each}
use Rattle.rds_run_hosts.proofs.counts.prepared_streams.Goals as goal

pub loop-host-init : goal.loop-host-init
loop-host-init c =
    let cuts = c.count_cuts-streams.ensures ∙ ap (λ (l : List Placed). length (filter (λ (p : Placed). is_cut p.command) l)) c.as_slice.ensures.value
    ∙ cuts_in_all c.args.script.now.commands.items in
    let most = c.requires.cuts in
    record { count = omega (arith, cuts); most = omega (arith, cuts, most) }

pub loop-host-preserved : goal.loop-host-preserved
loop-host-preserved c =
    let more = sum_below_more (λ host. streams_below host []) c.loop-host.host in
    let one = three_each c.loop-host.host c.loop-host.host in
    let so_far = c.loop-host.invariant.count in
    let most = c.loop-host.invariant.most in
    let below = c.loop-host-test.true in
    let hosts = c.requires.hosts_high in
    record { count = omega (arith, more, one, so_far); most = omega (arith, most, below, hosts) }

of_all : (s : Script) (hosts streams : ℕ) → hosts ≡ s.hosts → All (λ p. IsCommand s.hosts p.command) s.commands.items →
    streams ≡ cut_total s.commands.items + sum_by (λ host. streams_below host []) (range_with_len 0 hosts) → streams ≡ prepared_streams (meaning s)
unfolding prepared_streams
of_all s hosts streams all known is =
    is ∙ ap (λ (n : ℕ). cut_total s.commands.items + sum_by (λ host. streams_below host []) (range_with_len 0 n)) all
    ∙ sym (streams_in_all s.hosts s.commands.items known)

pub returns : goal.returns
returns c =
    let last = c.loop-host-test.false in
    let most = c.loop-host.auto.host-end in
    of_all c.args.script.now c.loop-host.host c.loop-host.streams (omega (arith, last, most)) c.requires.each c.loop-host.invariant.count
