use Rattle.std.proofs.Common.{◌≡◌, ◌≤◌, ◌<◌, ℕ, suc, ◌+◌, List, Vec, [], ◌∷◌, ◌++◌, length, set, sum_by, ap, sym, ◌∙◌, subst, arith}
use Rattle.std.specs.Global.{Global}
use Rattle.std.specs.List.{range_with_len}
use Rattle.std.proofs.lemmas.List.{map-append}
use Rattle.std.proofs.lemmas.List.Sums.{sum_by_push}
use Rattle.rds_run_rounds.specs.Grid.{rows_of}
use Rattle.rds_link.specs.Ends.{Means}
use Rattle.rds_line_channel.specs.Streams.{numbers}
use Rattle.rds_run_rounds.specs.declared.verdict.Wanted.{Wanted}
use Rattle.rds_run_hosts.specs.Growing.{AreMissingBeside, AreRowsKnown, GrowsBy, IsCount}
use Rattle.rds_run_hosts.specs.Held.{ends_of_row, ends_prepared}
use Rattle.rds_run_hosts.specs.Preparing.{AreAllCounted, AreAllPrepared}
use Rattle.rds_run_hosts.specs.Streams.{streams_between}
use Rattle.rds_run_hosts.proofs.Counted.{IsCounted, both_numbered, halfway_later, numbers_since}
use Rattle.rds_run_hosts.proofs.At.{length_map}
use Rattle.rds_run_hosts.proofs.Cuts.{sum_below_more}
use Rattle.rds_run_hosts.proofs.Missing.{missing_both, none_missing}
use Rattle.rds_run_hosts.proofs.Growing.{IsHalfway, halfway_more, halfway_pairs, halfway_rows, halfway_start}
use Rattle.rds_run_hosts.proofs.Known.{last_known, rows_known_pushed}
use Rattle.rds_run_hosts.proofs.Made.{IsPair}
use Rattle.rds_run_hosts.proofs.streams.add_host.Goals as goal

abbrev EndsOf : Type 0 → Type 0
EndsOf E = Vec (ℕ × E) Global

pub loop-low-init : goal.loop-low-init
loop-low-init g c =
    let m = g.W.End.End.means in
    let rows = rows_of c.args.prepared.now.streams.items in record {
      half =
          subst (λ (l : List (EndsOf g.row.W-End.Denot)). IsHalfway (IsPair m) c.args.host 0 rows l) (sym c.new.ensures.items)
          (halfway_start (IsPair m) c.args.host rows c.requires.prepared.shape c.requires.prepared.pairs);
      wanted = c.requires.wanted;
      row = ap length c.new-2.ensures.items;
      counted = λ before least small all.
          let holds = IsCounted c.args.all_cuts.now before (g.W.Wire.counted c.args.wire.now).faults in
          subst (λ (l : List (EndsOf g.row.W-End.Denot)). IsHalfway holds c.args.host 0 rows l) (sym c.new.ensures.items)
          (halfway_start holds c.args.host rows c.requires.prepared.shape all);
      missing = λ small.
          none_missing (ends_prepared rows) (ends_prepared rows + ends_of_row c.new.result.items) (g.W.Wire.counted c.args.wire.now).faults (g.W.Wire.counted c.args.wire.now).faults
          (omega arith) (omega arith);
      grows = omega arith;
      out = λ others least. let none : ends_of_row c.new.result.items ≡ 0 = ap ends_of_row c.new.ensures.items in omega (arith, none, least);
    }

-- a pair more
one_pair_more : {E : Type 0} (m : Means E) (Holds : ℕ → ℕ → EndsOf E → EndsOf E → Type 0) (host low count faults after : ℕ)
    (rows new : List (List (EndsOf E))) (row own : List (EndsOf E)) → low < host → (grows : GrowsBy m low count faults after rows new row own) →
    Holds low host grows.one grows.other → IsHalfway Holds host low rows row → IsHalfway Holds host (low + 1) new own
one_pair_more {E} m Holds host low count faults after rows new row own below grows holds half =
    let next : suc low ≡ low + 1 = omega arith in
    subst (λ n. IsHalfway Holds host n new own) next
    (subst (λ (l : List (List (EndsOf E))). IsHalfway Holds host (suc low) l own) (sym grows.lower)
    (subst (λ (l : List (EndsOf E)). IsHalfway Holds host (suc low) (set rows low (grows.stood ++ grows.one ∷ [])) l) (sym grows.later)
    (halfway_more Holds host low rows row grows.stood grows.one grows.other below grows.at holds half)))

pub add_pair-requires-clause-streams : goal.add_pair-requires-clause-streams
add_pair-requires-clause-streams g c =
    let count = c.loop-low.invariant.half.count in
    let size = length_map (λ (v : Vec (EndsOf g.row.W-End.Denot) Global). v.items) c.loop-low.prepared.streams.items in
    omega (arith, count, size, c.loop-low-test.true)

pub add_pair-requires-clause-below : goal.add_pair-requires-clause-below
add_pair-requires-clause-below g c = λ row at. c.loop-low.invariant.half.rest c.loop-low.low row (omega arith) at

pub add_pair-requires-clause-known : goal.add_pair-requires-clause-known
add_pair-requires-clause-known g c = c.loop-low.invariant.wanted

pub add_pair-requires-clause-wanted : goal.add_pair-requires-clause-wanted
add_pair-requires-clause-wanted g c =
    let count = c.loop-low.invariant.half.count in
    let same = c.loop-low.invariant.wanted.count in
    let size = length_map (λ (v : Vec Wanted Global). v.items) c.loop-low.prepared.wanted.items in
    omega (arith, count, same, size, c.loop-low-test.true)

pub loop-low-preserved : goal.loop-low-preserved
loop-low-preserved g c =
    let m = g.W.End.End.means in
    let grows = c.in-Ok.ensures.grows in
    let host = c.args.host in
    let low = c.loop-low.low in
    let commands = c.args.all_cuts.now in
    let faults = (g.W.Wire.counted c.loop-low.wire).faults in
    let after = (g.W.Wire.counted c.add_pair.new.wire).faults in
    let rows = rows_of c.loop-low.prepared.streams.items in
    let new = rows_of c.add_pair.new.prepared.streams.items in
    let row = c.loop-low.row.streams.items in
    let own = c.add_pair.new.row.streams.items in
    let more = c.add_pair.ensures.faults in
    let so_far = c.loop-low.invariant.grows in record {
      half =
          one_pair_more m (IsPair m) host low (streams_between low host commands) faults after rows new row own c.loop-low-test.true grows
          (grows.newest, grows.prepared) c.loop-low.invariant.half;
      wanted = c.in-Ok.ensures.known;
      row = c.in-Ok.ensures.row ∙ ap (λ n. n + 1) c.loop-low.invariant.row;
      counted = λ before least small all.
          let lower : before ≤ faults = omega (arith, least, so_far) in
          one_pair_more m (IsCounted commands before after) host low (streams_between low host commands) faults after rows new row own c.loop-low-test.true grows
          (both_numbered m grows.newest (streams_between low host commands) before after grows.one.items grows.other.items grows.prepared
          (numbers_since (streams_between low host commands) before faults after (numbers grows.one.items) lower (grows.counted small)))
          (halfway_later commands before faults after host low rows row lower more small
          (c.loop-low.invariant.counted before least (omega (arith, more, small)) all));
      missing = λ small.
          let old = rows_of c.args.prepared.now.streams.items in
          subst (λ n. AreMissingBeside n (ends_prepared old) (ends_prepared new + ends_of_row own) (g.W.Wire.counted c.args.wire.now).faults after)
          (sym (sum_below_more (λ low. streams_between low host commands) low))
          (missing_both (sum_by (λ low. streams_between low host commands) (range_with_len 0 low)) (streams_between low host commands) (ends_prepared old)
          (ends_prepared rows + ends_of_row row) (ends_prepared new + ends_of_row own) (g.W.Wire.counted c.args.wire.now).faults faults after more small
          (c.loop-low.invariant.missing (omega (arith, more, small))) (c.in-Ok.ensures.missing small));
      grows = omega (arith, more, so_far);
      out = λ others least. c.add_pair.ensures.out others (c.loop-low.invariant.out others least);
    }

-- the rows with that of the host
with_own : {E : Type 0} (lists : List (Vec (EndsOf E) Global)) (own : Vec (EndsOf E) Global) (new : List (Vec (EndsOf E) Global)) → new ≡ lists ++ own ∷ [] →
    rows_of new ≡ rows_of lists ++ own.items ∷ []
with_own {E} lists own new is =
    ap (λ (l : List (Vec (EndsOf E) Global)). rows_of l) is ∙ map-append (λ (v : Vec (EndsOf E) Global). v.items) lists (own ∷ [])

pub returns-clause-prepared : goal.returns-clause-prepared
returns-clause-prepared g c =
    let m = g.W.End.End.means in
    let host = c.args.host in
    let rows = rows_of c.loop-low.prepared.streams.items in
    let own = c.loop-low.row.streams.items in
    let end : c.loop-low.low ≡ host = (let t = c.loop-low-test.false in let a = c.loop-low.auto.low-end in omega (arith, t, a)) in
    let half = subst (λ n. IsHalfway (IsPair m) host n rows own) end c.loop-low.invariant.half in
    let next : suc host ≡ host + 1 = omega arith in
    let all = with_own c.loop-low.prepared.streams.items c.loop-low.row.streams c.add_row.new.prepared.streams.items c.in_ok-add_row.ensures.streams in
    subst (λ n. AreAllPrepared m n (rows_of c.add_row.new.prepared.streams.items)) next
    (subst (λ (l : List (List (EndsOf g.row.W-End.Denot))). AreAllPrepared m (suc host) l) (sym all)
    (record { shape = halfway_rows (IsPair m) host rows own half; pairs = halfway_pairs (IsPair m) host rows own half }))

pub returns-clause-wanted : goal.returns-clause-wanted
returns-clause-wanted g c =
    let commands = c.args.all_cuts.now in
    let host = c.args.host in
    let rows = rows_of c.loop-low.prepared.streams.items in
    let wanted = rows_of c.loop-low.prepared.wanted.items in
    let own = c.loop-low.row.streams.items in
    let known = c.loop-low.row.wanted.items in
    let end : c.loop-low.low ≡ host = (let t = c.loop-low-test.false in let a = c.loop-low.auto.low-end in omega (arith, t, a)) in
    let half = c.loop-low.invariant.half in
    let all = with_own c.loop-low.prepared.streams.items c.loop-low.row.streams c.add_row.new.prepared.streams.items c.in_ok-add_row.ensures.streams in
    let all_known =
    ap (λ (l : List (Vec Wanted Global)). rows_of l) c.in_ok-add_row.ensures.wanted
    ∙ map-append (λ (v : Vec Wanted Global). v.items) c.loop-low.prepared.wanted.items (c.loop-low.row.wanted ∷ []) in
    let last = last_known commands (length rows) own known (half.later ∙ end ∙ sym half.count) (c.loop-low.invariant.row ∙ sym half.later) in
    subst (λ (l : List (List (EndsOf g.row.W-End.Denot))). AreRowsKnown commands l (rows_of c.add_row.new.prepared.wanted.items)) (sym all)
    (subst (λ (l : List (List Wanted)). AreRowsKnown commands (rows ++ own ∷ []) l) (sym all_known)
    (rows_known_pushed commands rows wanted own known c.loop-low.invariant.wanted last))

pub returns-clause-counted : goal.returns-clause-counted
returns-clause-counted g c = λ before least small counted.
    let commands = c.args.all_cuts.now in
    let after = (g.W.Wire.counted c.loop-low.wire).faults in
    let same : (g.W.Wire.counted c.add_row.new.wire).faults ≡ after = ap (λ (w : g.row.W.Denot). (g.W.Wire.counted w).faults) c.in_ok-add_row.ensures.same in
    let holds = IsCounted commands before after in
    let host = c.args.host in
    let rows = rows_of c.loop-low.prepared.streams.items in
    let own = c.loop-low.row.streams.items in
    let end : c.loop-low.low ≡ host = (let t = c.loop-low-test.false in let a = c.loop-low.auto.low-end in omega (arith, t, a)) in
    let half = subst (λ n. IsHalfway holds host n rows own) end (c.loop-low.invariant.counted before least (subst IsCount same small) counted) in
    let all = with_own c.loop-low.prepared.streams.items c.loop-low.row.streams c.add_row.new.prepared.streams.items c.in_ok-add_row.ensures.streams in
    subst (λ n. AreAllCounted commands before n (rows_of c.add_row.new.prepared.streams.items)) (sym same)
    (subst (λ (l : List (List (EndsOf g.row.W-End.Denot))). AreAllCounted commands before after l) (sym all) (halfway_pairs holds host rows own half))

pub returns-clause-out : goal.returns-clause-out
returns-clause-out g c = λ others least. c.add_row.ensures.out others (c.loop-low.invariant.out others least)

pub returns-in_err-add_row-clause-out : goal.returns-in_err-add_row-clause-out
returns-in_err-add_row-clause-out g c = λ others least. c.add_row.ensures.out others (c.loop-low.invariant.out others least)

-- refused where the ends of the host's own row aren't given back
pub returns-in_default-clause-out : goal.returns-in_default-clause-out
returns-in_default-clause-out g c = λ others least.
    let opened = c.add_pair.ensures.out others (c.loop-low.invariant.out others least) in
    omega (arith, opened, c.give_back_row.ensures.out)

pub returns-clause-missing : goal.returns-clause-missing
returns-clause-missing g c = λ small.
    let before = (g.W.Wire.counted c.args.wire.now).faults in
    let after = (g.W.Wire.counted c.loop-low.wire).faults in
    let same : (g.W.Wire.counted c.add_row.new.wire).faults ≡ after = ap (λ (w : g.row.W.Denot). (g.W.Wire.counted w).faults) c.in_ok-add_row.ensures.same in
    let host = c.args.host in
    let old = ends_prepared (rows_of c.args.prepared.now.streams.items) in
    let rows = rows_of c.loop-low.prepared.streams.items in
    let own = c.loop-low.row.streams.items in
    let end : c.loop-low.low ≡ host = (let t = c.loop-low-test.false in let a = c.loop-low.auto.low-end in omega (arith, t, a)) in
    let all = ap ends_prepared (with_own c.loop-low.prepared.streams.items c.loop-low.row.streams c.add_row.new.prepared.streams.items c.in_ok-add_row.ensures.streams) in
    subst (λ k. AreMissingBeside (sum_by (λ low. streams_between low host c.args.all_cuts.now) (range_with_len 0 host)) old
    (ends_prepared (rows_of c.add_row.new.prepared.streams.items)) before k) (sym same)
    (subst (λ n. AreMissingBeside (sum_by (λ low. streams_between low host c.args.all_cuts.now) (range_with_len 0 host)) old n before after)
    (sym (all ∙ sum_by_push ends_of_row rows own))
    (subst (λ n. AreMissingBeside (sum_by (λ low. streams_between low host c.args.all_cuts.now) (range_with_len 0 n)) old (ends_prepared rows + ends_of_row own) before after)
    end (c.loop-low.invariant.missing (subst IsCount same small))))
