use Rattle.std.proofs.Common.{◌≡◌, ℕ, List, Vec, [], sum_by, ap, sym, ◌∙◌, subst, arith}
use Rattle.std.specs.Global.{Global}
use Rattle.std.specs.List.{range_with_len}
use Rattle.rds_run_rounds.specs.Grid.{rows_of}
use Rattle.rds_run_rounds.specs.declared.verdict.Wanted.{Wanted}
use Rattle.rds_script.specs.Grammar.{meaning}
use Rattle.rds_script.specs.declared.script.Placed.{Placed}
use Rattle.rds_script.specs.declared.script.Script.{Script}
use Rattle.rds_run_hosts.specs.Preparing.{AreAllCounted, AreAllPrepared}
use Rattle.rds_run_hosts.specs.Growing.{AreMissingBeside, AreRowsKnown}
use Rattle.rds_run_hosts.specs.Held.{ends_prepared}
use Rattle.rds_run_hosts.specs.Streams.{AreMissing, cuts_between, prepared_streams, streams_below}
use Rattle.rds_run_hosts.proofs.Counted.{counted_alike, none_counted}
use Rattle.rds_run_hosts.proofs.Cuts.{same_streams, sum_below_more}
use Rattle.rds_run_hosts.proofs.Known.{all_known, none_known}
use Rattle.rds_run_hosts.proofs.Missing.{missing_both, none_missing}
use Rattle.rds_run_hosts.proofs.Made.{none_prepared}
use Rattle.rds_run_hosts.proofs.streams.prepare.Goals as goal

pub loop-host-init : goal.loop-host-init
loop-host-init g c = record {
  prepared =
      subst (λ (l : List (Vec (Vec (ℕ × g.row.W-End.Denot) Global) Global)). AreAllPrepared g.W.End.End.means 0 (rows_of l)) (sym c.new.ensures.items)
      (none_prepared g.W.End.End.means);
  wanted =
      subst (λ (l : List (Vec (Vec (ℕ × g.row.W-End.Denot) Global) Global)). AreRowsKnown c.in_ok-cuts.cuts.items (rows_of l) (rows_of c.new-2.result.items)) (sym c.new.ensures.items)
      (subst (λ (l : List (Vec Wanted Global)). AreRowsKnown {E = g.row.W-End.Denot} c.in_ok-cuts.cuts.items [] (rows_of l)) (sym c.new-2.ensures.items)
      (none_known c.in_ok-cuts.cuts.items));
  counted = λ small.
      subst (λ (l : List (Vec (Vec (ℕ × g.row.W-End.Denot) Global) Global)).
      AreAllCounted c.in_ok-cuts.cuts.items (g.W.Wire.counted c.args.wire.now).faults (g.W.Wire.counted c.args.wire.now).faults (rows_of l)) (sym c.new.ensures.items)
      (none_counted c.in_ok-cuts.cuts.items (g.W.Wire.counted c.args.wire.now).faults (g.W.Wire.counted c.args.wire.now).faults);
  missing = λ small.
      none_missing 0 (ends_prepared (rows_of c.new.result.items)) (g.W.Wire.counted c.args.wire.now).faults (g.W.Wire.counted c.args.wire.now).faults (omega arith) (omega arith);
  grows = omega arith;
  out = omega arith;
}

pub loop-host-preserved : goal.loop-host-preserved
loop-host-preserved g c = record {
  prepared = c.in-Ok.ensures.prepared;
  wanted =
      subst (λ (l : List Placed). AreRowsKnown l (rows_of c.add_host.new.prepared.streams.items) (rows_of c.add_host.new.prepared.wanted.items)) c.as_slice.ensures.value
      c.in-Ok.ensures.wanted;
  counted = λ small.
      let more = c.add_host.ensures.grows in
      let first = (g.W.Wire.counted c.args.wire.now).faults in
      let same = c.as_slice.ensures.value in
      subst (λ (l : List Placed). AreAllCounted l first (g.W.Wire.counted c.add_host.new.wire).faults (rows_of c.add_host.new.prepared.streams.items)) same
      (c.in-Ok.ensures.counted first c.loop-host.invariant.grows small
      (subst (λ (l : List Placed). AreAllCounted l first (g.W.Wire.counted c.loop-host.wire).faults (rows_of c.loop-host.prepared.streams.items)) (sym same)
      (c.loop-host.invariant.counted (omega (arith, more, small)))));
  missing = λ small.
      let more = c.add_host.ensures.grows in
      let host = c.loop-host.host in
      let old = ends_prepared (rows_of c.loop-host.prepared.streams.items) in
      let new = ends_prepared (rows_of c.add_host.new.prepared.streams.items) in
      let first = (g.W.Wire.counted c.args.wire.now).faults in
      let before = (g.W.Wire.counted c.loop-host.wire).faults in
      let after = (g.W.Wire.counted c.add_host.new.wire).faults in
      let cuts = c.in_ok-cuts.cuts.items in
      subst (λ n. AreMissingBeside n 0 new first after) (sym (sum_below_more (λ h. streams_below h cuts) host))
      (missing_both (sum_by (λ h. streams_below h cuts) (range_with_len 0 host)) (streams_below host cuts) 0 old new first before after more small
      (c.loop-host.invariant.missing (omega (arith, more, small)))
      (subst (λ (l : List Placed). AreMissingBeside (streams_below host l) old new before after) c.as_slice.ensures.value (c.in-Ok.ensures.missing small)));
  grows = (let more = c.add_host.ensures.grows in let so_far = c.loop-host.invariant.grows in omega (arith, more, so_far));
  out = c.add_host.ensures.out (g.W.Wire.out c.args.wire.now) c.loop-host.invariant.out;
}

pub add_host-requires-clause-wanted : goal.add_host-requires-clause-wanted
add_host-requires-clause-wanted g c =
    subst (λ (l : List Placed). AreRowsKnown l (rows_of c.loop-host.prepared.streams.items) (rows_of c.loop-host.prepared.wanted.items)) (sym c.as_slice.ensures.value)
    c.loop-host.invariant.wanted

pub returns-clause-wanted : goal.returns-clause-wanted
returns-clause-wanted g c =
    all_known c.in_ok-cuts.cuts.items c.args.script.now.commands.items (rows_of c.loop-host.prepared.streams.items) (rows_of c.loop-host.prepared.wanted.items)
    c.in_ok-cuts.ensures.all c.loop-host.invariant.wanted

pub returns-clause-counted : goal.returns-clause-counted
returns-clause-counted g c =
    counted_alike c.in_ok-cuts.cuts.items c.args.script.now.commands.items (g.W.Wire.counted c.args.wire.now).faults (g.W.Wire.counted c.loop-host.wire).faults
    (rows_of c.loop-host.prepared.streams.items) c.in_ok-cuts.ensures.all (c.loop-host.invariant.counted c.faults_of.ensures.fits)

-- for all hosts of a script
of_script : (s : Script) (hosts ends before after : ℕ) (cuts : List Placed) → hosts ≡ s.hosts →
    ((low high : ℕ) → cuts_between low high cuts ≡ cuts_between low high s.commands.items) →
    AreMissingBeside (sum_by (λ host. streams_below host cuts) (range_with_len 0 hosts)) 0 ends before after → AreMissing (prepared_streams (meaning s)) ends before after
unfolding prepared_streams
of_script s hosts ends before after cuts all same missing =
    let least = missing.1 in
    let streams = ap (λ (n : ℕ). sum_by (λ host. streams_below host cuts) (range_with_len 0 n)) all ∙ same_streams cuts s.commands.items same s.hosts in
    (missing.0, omega (arith, least, streams), missing.2)

pub returns-clause-missing : goal.returns-clause-missing
returns-clause-missing g c =
    let end : c.loop-host.host ≡ c.args.script.now.hosts = (let t = c.loop-host-test.false in let a = c.loop-host.auto.host-end in omega (arith, t, a)) in
    of_script c.args.script.now c.loop-host.host (ends_prepared (rows_of c.loop-host.prepared.streams.items)) (g.W.Wire.counted c.args.wire.now).faults
    (g.W.Wire.counted c.loop-host.wire).faults c.in_ok-cuts.cuts.items end c.in_ok-cuts.ensures.all (c.loop-host.invariant.missing c.faults_of.ensures.fits)

-- refused where the ends of some host aren't given back
pub returns-in_default-clause-memory : goal.returns-in_default-clause-memory
returns-in_default-clause-memory g c =
    let opened = c.add_host.ensures.out (g.W.Wire.out c.args.wire.now) c.loop-host.invariant.out in
    omega (arith, opened, c.give_back_rows.ensures.out)

pub returns-in_default-clause-grows : goal.returns-in_default-clause-grows
returns-in_default-clause-grows g c =
    let so_far = c.loop-host.invariant.grows in
    omega (arith, so_far, c.add_host.ensures.grows, c.give_back_rows.ensures.faults)
