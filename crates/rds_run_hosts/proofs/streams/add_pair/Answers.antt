use Rattle.std.proofs.Common.{◌≡◌, ◌+◌, ℕ, suc, List, Vec, [], ◌∷◌, ◌++◌, Some, length, set, slice_get, sym, ap, ◌∙◌, subst, arith}
use Rattle.std.specs.Global.{Global}
use Rattle.std.proofs.lemmas.List.{length-map, map-set}
use Rattle.rds_run_rounds.specs.Grid.{rows_of}
use Rattle.rds_run_rounds.specs.declared.verdict.Wanted.{Wanted}
use Rattle.rds_line_channel.specs.Streams.{numbers}
use Rattle.rds_run_hosts.specs.Growing.{AreRowsKnown}
use Rattle.rds_run_hosts.specs.Streams.{AreAllUnlessLacking, AreNumbersOf, IsKnown, streams_between}
use Rattle.rds_run_hosts.specs.Held.{ends_of_row, ends_prepared}
use Rattle.rds_run_hosts.proofs.At.{joined, map_at, stands_at}
use Rattle.rds_run_hosts.proofs.Held.{ends_put, ends_still}
use Rattle.rds_run_hosts.proofs.Known.{rows_known_more}
use Rattle.rds_run_hosts.proofs.Missing.{missing_between}
use Rattle.rds_run_hosts.proofs.Preparing.{same_count}
use Rattle.rds_run_hosts.proofs.streams.add_pair.Goals as goal

abbrev StreamsOf : Type 0 → Type 0
StreamsOf E = Vec (Vec (ℕ × E) Global) Global

pub returns-clause-grows : goal.returns-clause-grows
returns-clause-grows g c =
    let rows = c.args.prepared.now.streams.items in
    let stood = c.index_mut-stood.result.now in record {
      stood = stood.items;
      one = c.in_ok-opened.opened.low;
      other = c.in_ok-opened.opened.high;
      newest = c.in_ok-opened.ensures.prepared.0;
      at =
          map_at (λ (v : StreamsOf g.row.W-End.Denot). v.items) rows c.args.low stood
          (subst (λ n. slice_get rows n ≡ Some stood) c.from-place.ensures
          (stands_at rows c.from-place.result stood (omega (arith, c.from-place.ensures, c.requires.streams)) c.index_mut-stood.ensures.value));
      lower =
          map-set (λ (v : StreamsOf g.row.W-End.Denot). v.items) rows c.from-place.result c.push_reserved.new.self
          ∙ ap (λ n. set (rows_of rows) n c.push_reserved.new.self.items) c.from-place.ensures
          ∙ ap (set (rows_of rows) c.args.low) (joined c.in_ok-opened.opened.low c.push_reserved.ensures.items c.reserve.ensures.items);
      later = (joined c.in_ok-opened.opened.high c.push_reserved-2.ensures.items c.reserve-2.ensures.items);
      prepared = c.in_ok-opened.ensures.prepared.1;
      counted = λ small.
          subst (λ n. AreNumbersOf n (g.W.Wire.counted c.args.wire.now).faults (g.W.Wire.counted c.open_all.new.wire).faults (numbers c.in_ok-opened.opened.low.items))
          (ap (λ n. n + 3) c.cuts_between-cuts.ensures.count) (c.in_ok-opened.ensures.counted small);
    }

-- refused where the ends of the streams of two hosts are dropped and not put into their rows
pub returns-clause-out : goal.returns-clause-out
returns-clause-out g c = λ others least.
    let put = ends_put c.args.prepared.now.streams.items c.from-place.result c.args.low c.index_mut-stood.result.now c.push_reserved.new.self c.args.row.now.streams.items _
    c.in_ok-opened.opened.low c.in_ok-opened.opened.high c.from-place.ensures c.requires.streams c.index_mut-stood.ensures.value
    (joined c.in_ok-opened.opened.low c.push_reserved.ensures.items c.reserve.ensures.items)
    (joined c.in_ok-opened.opened.high c.push_reserved-2.ensures.items c.reserve-2.ensures.items) in
    let opened = c.in_ok-opened.ensures.out in
    omega (arith, opened, put, least)

pub returns-in_err-push-clause-out : goal.returns-in_err-push-clause-out
returns-in_err-push-clause-out g c = λ others least.
    let put = ends_put c.args.prepared.now.streams.items c.from-place.result c.args.low c.index_mut-stood.result.now c.push_reserved.new.self c.args.row.now.streams.items _
    c.in_ok-opened.opened.low c.in_ok-opened.opened.high c.from-place.ensures c.requires.streams c.index_mut-stood.ensures.value
    (joined c.in_ok-opened.opened.low c.push_reserved.ensures.items c.reserve.ensures.items)
    (joined c.in_ok-opened.opened.high c.push_reserved-2.ensures.items c.reserve-2.ensures.items) in
    let opened = c.in_ok-opened.ensures.out in
    omega (arith, opened, put, least)

pub returns-in_err-push-2-clause-out : goal.returns-in_err-push-2-clause-out
returns-in_err-push-2-clause-out g c = λ others least.
    let put = ends_put c.args.prepared.now.streams.items c.from-place.result c.args.low c.index_mut-stood.result.now c.push_reserved.new.self c.args.row.now.streams.items _
    c.in_ok-opened.opened.low c.in_ok-opened.opened.high c.from-place.ensures c.requires.streams c.index_mut-stood.ensures.value
    (joined c.in_ok-opened.opened.low c.push_reserved.ensures.items c.reserve.ensures.items)
    (joined c.in_ok-opened.opened.high c.push_reserved-2.ensures.items c.reserve-2.ensures.items) in
    let opened = c.in_ok-opened.ensures.out in
    omega (arith, opened, put, least)

pub returns-in_err-reserve-clause-out : goal.returns-in_err-reserve-clause-out
returns-in_err-reserve-clause-out g c = λ others least.
    let still = ends_still c.args.prepared.now.streams.items c.from-place.result c.args.low c.index_mut-stood.result.now c.reserve.new.self c.from-place.ensures
    c.requires.streams c.index_mut-stood.ensures.value c.reserve.ensures.items in
    omega (arith, still, least)

pub returns-in_err-reserve-2-clause-out : goal.returns-in_err-reserve-2-clause-out
returns-in_err-reserve-2-clause-out g c = λ others least.
    let still = ends_still c.args.prepared.now.streams.items c.from-place.result c.args.low c.index_mut-stood.result.now c.reserve.new.self c.from-place.ensures
    c.requires.streams c.index_mut-stood.ensures.value c.reserve.ensures.items in
    let same = ap ends_of_row c.reserve-2.ensures.items in
    omega (arith, still, same, least)

pub returns-in_err-opened-clause-out : goal.returns-in_err-opened-clause-out
returns-in_err-opened-clause-out g c = λ others least.
    let still = ends_still c.args.prepared.now.streams.items c.from-place.result c.args.low c.index_mut-stood.result.now c.reserve.new.self c.from-place.ensures
    c.requires.streams c.index_mut-stood.ensures.value c.reserve.ensures.items in
    let same = ap ends_of_row c.reserve-2.ensures.items in
    let memory = c.in_err-opened.ensures.memory in
    omega (arith, still, same, memory, least)

pub returns-clause-missing : goal.returns-clause-missing
returns-clause-missing g c = λ small.
    let rows = c.args.prepared.now.streams.items in
    let stood = c.index_mut-stood.result.now in
    let before = (g.W.Wire.counted c.args.wire.now).faults in
    let after = (g.W.Wire.counted c.open_all.new.wire).faults in
    let opened = c.in_ok-opened.opened in
    let of = subst (λ n. AreNumbersOf n before after (numbers opened.low.items)) (ap (λ n. n + 3) c.cuts_between-cuts.ensures.count) (c.in_ok-opened.ensures.counted small) in
    let put = ends_put rows c.from-place.result c.args.low stood c.push_reserved.new.self c.args.row.now.streams.items _ opened.low opened.high
    c.from-place.ensures c.requires.streams c.index_mut-stood.ensures.value (joined opened.low c.push_reserved.ensures.items c.reserve.ensures.items)
    (joined opened.high c.push_reserved-2.ensures.items c.reserve-2.ensures.items) in
    let size = length-map opened.low.items (λ (s : ℕ × g.row.W-End.Denot). s.0) in
    let both = same_count g.W.End.End.means opened.low.items opened.high.items c.in_ok-opened.ensures.prepared.1.paired.same in
    missing_between (streams_between c.args.low c.args.high c.args.all_cuts.now) (ends_prepared (rows_of rows) + ends_of_row c.args.row.now.streams.items) _
    before after (numbers opened.low.items) (omega (arith, put, size, both)) of

-- refused where what is known isn't true of these two hosts
pub returns-clause-known : goal.returns-clause-known
returns-clause-known g c =
    let low = c.args.low in
    let high = c.args.high in
    let commands = c.args.all_cuts.now in
    let rows = c.args.prepared.now.streams.items in
    let wanted = c.args.prepared.now.wanted.items in
    let stood = c.index_mut-stood.result.now in
    let known = c.index_mut.result.now in
    let opened = c.in_ok-opened.opened in
    let w : Wanted = record { lacks = opened.lacks; cuts = c.cuts_between-cuts.result } in
    let at = map_at (λ (v : StreamsOf g.row.W-End.Denot). v.items) rows low stood
    (subst (λ n. slice_get rows n ≡ Some stood) c.from-place.ensures
    (stands_at rows c.from-place.result stood (omega (arith, c.from-place.ensures, c.requires.streams)) c.index_mut-stood.ensures.value)) in
    let at_known = map_at (λ (v : Vec Wanted Global). v.items) wanted low known
    (subst (λ n. slice_get wanted n ≡ Some known) c.from-place.ensures
    (stands_at wanted c.from-place.result known (omega (arith, c.from-place.ensures, c.requires.wanted)) c.index_mut.ensures.value)) in
    let lower = map-set (λ (v : StreamsOf g.row.W-End.Denot). v.items) rows c.from-place.result c.push_reserved.new.self
    ∙ ap (λ n. set (rows_of rows) n c.push_reserved.new.self.items) c.from-place.ensures
    ∙ ap (set (rows_of rows) low) (joined c.in_ok-opened.opened.low c.push_reserved.ensures.items c.reserve.ensures.items) in
    let lower_known = map-set (λ (v : Vec Wanted Global). v.items) wanted c.from-place.result c.push.new.self
    ∙ ap (λ n. set (rows_of wanted) n c.push.new.self.items) c.from-place.ensures
    ∙ ap (set (rows_of wanted) low) c.in_ok-push.ensures.items in
    let is : IsKnown commands low high w (numbers opened.low.items) = record {
      cuts = c.cuts_between-cuts.ensures.count;
      streams = subst (λ n. AreAllUnlessLacking n opened.lacks (numbers opened.low.items)) (ap (λ n. n + 3) c.cuts_between-cuts.ensures.count) c.in_ok-opened.ensures.lacks;
    } in
    let next : IsKnown commands low (suc (length stood.items)) w (numbers opened.low.items) =
    subst (λ n. IsKnown commands low n w (numbers opened.low.items)) (sym (c.requires.below stood.items at)) is in
    subst (λ (l : List (List (Vec (ℕ × g.row.W-End.Denot) Global))). AreRowsKnown commands l (rows_of (set wanted c.from-place.result c.push.new.self))) (sym lower)
    (subst (λ (l : List (List Wanted)). AreRowsKnown commands (set (rows_of rows) low (stood.items ++ opened.low ∷ [])) l) (sym lower_known)
    (rows_known_more commands (rows_of rows) (rows_of wanted) low stood.items known.items opened.low w c.requires.known at at_known next))
