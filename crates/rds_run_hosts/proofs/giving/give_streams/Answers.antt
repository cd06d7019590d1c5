use Rattle.std.proofs.Common.{◌≡◌, ◌<◌, ◌+◌, ℕ, List, Vec, [], ◌∷◌, ◌++◌, Some, length, set, slice_get, refl, sym, ap, subst, ◌∙◌, arith}
use Rattle.std.specs.Global.{Global}
use Rattle.std.proofs.lemmas.List.{length_push, map-set}
use Rattle.std.proofs.lemmas.Iterator.Adapters.{YieldsList-from_vec}
use Rattle.std.proofs.lemmas.Iterator.Consumers.{YieldsList-end, YieldsList-turn}
use Rattle.rds_fmap.specs.Readers.{WriterView}
use Rattle.rds_line.specs.Line.{LineView}
use Rattle.rds_run_rounds.specs.Grid.{rows_of}
use Rattle.rds_run_hosts.specs.Giving.{HasNewLines}
use Rattle.rds_run_hosts.specs.Preparing.{AreAllPrepared}
use Rattle.rds_run_hosts.proofs.At.{length_map, map_at, stands_at}
use Rattle.rds_run_hosts.proofs.Handing.{AreDoneBelow, IsRowGiven, given_counted, given_ends, given_hosts, given_looks, given_numbered, given_parties, new_channels, none_done, one_done}
use Rattle.rds_run_hosts.proofs.Made.{all_numbered, all_unused, row_size}
use Rattle.rds_run_hosts.proofs.giving.give_streams.Goals as goal
use Rattle.rds_run_hosts.proofs.giving.give_streams.Goals.{In-Some, After-index_mut}

abbrev LinesOf : Type 0 → Type 0
LinesOf E = Vec (LineView E WriterView) Global

abbrev StreamsRow : Type 0 → Type 0
StreamsRow E = Vec (Vec (ℕ × E) Global) Global

pub loop-row-init : goal.loop-row-init
loop-row-init g c = (refl, none_done IsRowGiven (rows_of c.args.streams.items) (rows_of c.args.lines.now.items))

row_turn : (g : _) (c : In-Some g) → (c.loop-row.host < length c.args.streams.items) × (slice_get (rows_of c.args.streams.items) c.loop-row.host ≡ Some c.in-Some.row.items)
row_turn g c =
    let turn = YieldsList-turn (YieldsList-from_vec c.args.streams.items c.into_iter-row-iterator.ensures.into_iter_gives.0 (c.into_iter-row-iterator.ensures.into_iter_gives.1 ∙ c.args.streams.ok.0)) c.loop-row.yielded c.loop-row.row-iterator c.loop-row.yielded_by c.next.result c.next.new.self c.in-Some.row c.in-Some.is c.next.ensures.steps in
    let host = c.loop-row.invariant.0 in
    subst (λ n. (n < length c.args.streams.items) × (slice_get (rows_of c.args.streams.items) n ≡ Some c.in-Some.row.items)) (sym host) (
      turn.0,
      map_at (λ (v : StreamsRow g.row.E.Denot). v.items) c.args.streams.items (length c.loop-row.yielded) c.in-Some.row
          (stands_at c.args.streams.items (length c.loop-row.yielded) c.in-Some.row turn.0 turn.1),
    )

row_within : (g : _) (c : In-Some g) → c.loop-row.host < length c.loop-row.lines.items
row_within g c =
    let t = (row_turn g c).0 in
    let n = c.loop-row.invariant.1.count in
    let count = c.requires.streams.shape.count in
    let a = length_map (λ (v : StreamsRow g.row.E.Denot). v.items) c.args.streams.items in
    let b = length_map (λ (v : LinesOf g.row.E.Denot). v.items) c.loop-row.lines.items in
    omega (arith, t, n, count, a, b)

-- the lines at this place, which are new
row_at : (g : _) (c : After-index_mut g) → c.loop-row.host < length c.loop-row.lines.items → slice_get (rows_of c.loop-row.lines.items) c.loop-row.host ≡ Some c.index_mut.result.now.items
row_at g c within =
    map_at (λ (v : LinesOf g.row.E.Denot). v.items) c.loop-row.lines.items c.loop-row.host c.index_mut.result.now
    (stands_at c.loop-row.lines.items c.loop-row.host c.index_mut.result.now within c.index_mut.ensures.value)

row_new : (g : _) (c : After-index_mut g) → c.loop-row.host < length c.loop-row.lines.items → HasNewLines c.requires.new.0 (length (rows_of c.args.lines.now.items)) c.loop-row.host c.index_mut.result.now.items
row_new g c within =
    let before = subst (λ n. AreDoneBelow IsRowGiven n (rows_of c.args.streams.items) (rows_of c.args.lines.now.items) (rows_of c.loop-row.lines.items))
    (sym c.loop-row.invariant.0) c.loop-row.invariant.1 in
    c.requires.new.1.each c.loop-row.host c.index_mut.result.now.items (sym (before.rest c.loop-row.host (omega arith)) ∙ row_at g c within)

pub index_mut-requires : goal.index_mut-requires
index_mut-requires g c = let within = row_within g (goal.at.index_mut-requires g c).In-Some in omega (arith, within, c.loop-row.lines.ok.0)

pub give_row-requires-clause-count : goal.give_row-requires-clause-count
give_row-requires-clause-count g c =
    let at = goal.at.give_row-requires-clause-count g c in
    let size = row_size (length (rows_of c.args.lines.now.items)) (rows_of c.args.streams.items) c.requires.streams.shape c.loop-row.host c.in-Some.row.items (row_turn g at.In-Some).1 in
    let count = (row_new g at.After-index_mut (row_within g at.In-Some)).count in
    omega (arith, size, count)

pub give_row-requires-clause-new : goal.give_row-requires-clause-new
give_row-requires-clause-new g c =
    let at = goal.at.give_row-requires-clause-new g c in
    new_channels c.requires.new.0 (length (rows_of c.args.lines.now.items)) c.loop-row.host c.index_mut.result.now.items
    (row_new g at.After-index_mut (row_within g at.In-Some))

pub give_row-requires-clause-numbered : goal.give_row-requires-clause-numbered
give_row-requires-clause-numbered g c =
    all_numbered g.E.End.means (length (rows_of c.args.lines.now.items)) (rows_of c.args.streams.items) c.requires.streams c.loop-row.host c.in-Some.row.items
    (row_turn g (goal.at.give_row-requires-clause-numbered g c).In-Some).1

pub give_row-requires-clause-unused : goal.give_row-requires-clause-unused
give_row-requires-clause-unused g c =
    all_unused g.E.End.means (length (rows_of c.args.lines.now.items)) (rows_of c.args.streams.items) c.requires.streams c.loop-row.host c.in-Some.row.items
    (row_turn g (goal.at.give_row-requires-clause-unused g c).In-Some).1

pub loop-row-preserved : goal.loop-row-preserved
loop-row-preserved g c =
    let at = goal.at.loop-row-preserved g c in
    let host = c.loop-row.host in
    let streams = rows_of c.args.streams.items in
    let old = rows_of c.args.lines.now.items in
    let rows = rows_of c.loop-row.lines.items in
    let before = subst (λ n. AreDoneBelow IsRowGiven n streams old rows) (sym c.loop-row.invariant.0) c.loop-row.invariant.1 in
    let after = one_done IsRowGiven streams old host rows c.in-Some.row.items c.index_mut.result.now.items c.give_row.new.lines.items before
    (row_turn g at.In-Some).1 (row_at g at.After-index_mut (row_within g at.In-Some))
    (record { given = c.give_row.ensures.given; keeps = c.give_row.ensures.keeps }) in
    let more : host + 1 ≡ length (c.loop-row.yielded ++ c.in-Some.row ∷ []) = ap (λ n. n + 1) c.loop-row.invariant.0 ∙ sym (length_push c.loop-row.yielded c.in-Some.row) in (
      more,
      subst (λ n. AreDoneBelow IsRowGiven n streams old (rows_of (set c.loop-row.lines.items host c.give_row.new.lines))) more
          (subst (λ (l : List (List (LineView g.row.E.Denot WriterView))). AreDoneBelow IsRowGiven (host + 1) streams old l)
          (sym (map-set (λ (v : LinesOf g.row.E.Denot). v.items) c.loop-row.lines.items host c.give_row.new.lines)) after),
    )

done_all : (g : _) (c : goal.After-drop-row-iterator g) → AreDoneBelow IsRowGiven (length (rows_of c.args.streams.items)) (rows_of c.args.streams.items) (rows_of c.args.lines.now.items) (rows_of c.loop-row.lines.items)
done_all g c =
    let all = YieldsList-end (YieldsList-from_vec c.args.streams.items c.into_iter-row-iterator.ensures.into_iter_gives.0 (c.into_iter-row-iterator.ensures.into_iter_gives.1 ∙ c.args.streams.ok.0)) c.loop-row.yielded c.loop-row.row-iterator c.loop-row.yielded_by c.next.result c.next.new.self c.in-None.is c.next.ensures.steps in
    subst (λ n. AreDoneBelow IsRowGiven n (rows_of c.args.streams.items) (rows_of c.args.lines.now.items) (rows_of c.loop-row.lines.items))
    (all.1 ∙ sym (length_map (λ (v : StreamsRow g.row.E.Denot). v.items) c.args.streams.items)) c.loop-row.invariant.1

pub returns-clause-parties : goal.returns-clause-parties
returns-clause-parties g c = λ hosts callers were.
    given_parties g.E.End.means _ _ _ _ c.requires.streams (done_all g c) c.tied_keeps.ensures.lines callers hosts refl were

pub returns-clause-hosts : goal.returns-clause-hosts
returns-clause-hosts g c = λ limit hosts few were.
    let count = were.count in
    given_hosts g.E.End.means hosts _ _ _ (subst (λ n. AreAllPrepared g.E.End.means n (rows_of c.args.streams.items)) count c.requires.streams) (done_all g c) limit were few

pub returns-clause-looks : goal.returns-clause-looks
returns-clause-looks g c = given_looks g.E.End.means _ _ _ _ c.requires.streams (done_all g c) c.requires.new.0 c.requires.new.1

pub returns-clause-counted : goal.returns-clause-counted
returns-clause-counted g c = λ commands before after counted.
    given_counted g.E.End.means _ _ _ _ c.requires.streams (done_all g c) c.requires.new.0 c.requires.new.1 commands before after counted

pub returns-clause-numbered : goal.returns-clause-numbered
returns-clause-numbered g c = given_numbered g.E.End.means _ _ _ _ c.requires.streams (done_all g c) c.requires.new.0 c.requires.new.1

pub returns-clause-ends : goal.returns-clause-ends
returns-clause-ends g c = given_ends g.E.End.means _ _ _ _ c.requires.streams (done_all g c) c.requires.new.0 c.requires.new.1
