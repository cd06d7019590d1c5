use Rattle.std.proofs.Common.{◌≡◌, inl, ℕ, false, List, [], refl, rules, sym, subst, arith}
use Rattle.rds_line_channel.specs.Streams.{numbers}
use Rattle.rds_run_hosts.specs.Preparing.{ArePrepared}
use Rattle.rds_run_hosts.specs.Streams.{AreAllUnlessLacking, AreAllUnlessRisen, AreNumbersOf}
use Rattle.rds_run_hosts.proofs.Counted.{numbers_of}
use Rattle.rds_run_hosts.proofs.Known.{none_lacks}
use Rattle.rds_run_hosts.proofs.Preparing.{none_prepared}
use Rattle.rds_run_hosts.proofs.streams.open_all.Goals as goal

pub loop-before-init : goal.loop-before-init
loop-before-init g c =
    let m = g.W.End.End.means in
    let low : c.new.result.items ≡ [] = search rules in
    let high : c.new-2.result.items ≡ [] = search rules in
    record {
      prepared =
          subst (λ (l : List (ℕ × g.row.W-End.Denot)). ArePrepared m 0 l c.new-2.result.items) (sym low)
          (subst (λ (h : List (ℕ × g.row.W-End.Denot)). ArePrepared m 0 [] h) (sym high) (none_prepared m));
      lacks = subst (λ (l : List (ℕ × g.row.W-End.Denot)). AreAllUnlessLacking 0 false (numbers l)) (sym low) none_lacks;
      whole =
          subst (λ (l : List (ℕ × g.row.W-End.Denot)). AreAllUnlessRisen 0 (g.W.Wire.counted c.args.wire.now).faults (g.W.Wire.counted c.args.wire.now).faults (numbers l)) (sym low)
          (λ calm. refl);
      missing = λ small. inl (omega arith);
      grows = omega arith;
      out = omega arith;
    }

pub loop-before-preserved : goal.loop-before-preserved
loop-before-preserved g c = record {
  prepared = c.in-Ok.ensures.prepared;
  lacks = c.in-Ok.ensures.lacks c.loop-before.invariant.lacks;
  whole = c.in-Ok.ensures.whole (g.W.Wire.counted c.args.wire.now).faults c.loop-before.invariant.grows c.loop-before.invariant.whole;
  missing = λ small. c.in-Ok.ensures.missing (g.W.Wire.counted c.args.wire.now).faults small
      (c.loop-before.invariant.missing (let more = c.open_next.ensures.grows in omega (arith, more, small)));
  grows = (let more = c.open_next.ensures.grows in let so_far = c.loop-before.invariant.grows in omega (arith, more, so_far));
  out = c.open_next.ensures.out (g.W.Wire.out c.args.wire.now) c.loop-before.invariant.out;
}

pub returns-clause-prepared : goal.returns-clause-prepared
returns-clause-prepared g c = (_, c.loop-before.invariant.prepared)

pub returns-clause-counted : goal.returns-clause-counted
returns-clause-counted g c = λ small.
    let test = c.loop-before-test.false in
    let most = c.loop-before.auto.before-end in
    let end : c.loop-before.before ≡ c.args.count = omega (arith, test, most) in
    subst (λ n. AreNumbersOf n (g.W.Wire.counted c.args.wire.now).faults (g.W.Wire.counted c.loop-before.wire).faults (numbers c.loop-before.opened.low.items)) end
    (numbers_of g.W.End.End.means c.loop-before.before (g.W.Wire.counted c.args.wire.now).faults (g.W.Wire.counted c.loop-before.wire).faults c.loop-before.opened.low.items
    c.loop-before.opened.high.items c.loop-before.invariant.prepared c.loop-before.invariant.whole (c.loop-before.invariant.missing small))

pub returns-clause-lacks : goal.returns-clause-lacks
returns-clause-lacks g c =
    let test = c.loop-before-test.false in
    let most = c.loop-before.auto.before-end in
    let end : c.loop-before.before ≡ c.args.count = omega (arith, test, most) in
    subst (λ n. AreAllUnlessLacking n c.loop-before.opened.lacks (numbers c.loop-before.opened.low.items)) end c.loop-before.invariant.lacks

-- refused where an end that was opened isn't given back
pub returns-in_default-clause-memory : goal.returns-in_default-clause-memory
returns-in_default-clause-memory g c =
    let opened = c.open_next.ensures.out (g.W.Wire.out c.args.wire.now) c.loop-before.invariant.out in
    omega (arith, opened, c.give_back_ends.ensures.out, c.give_back_ends-in_default.ensures.out)
