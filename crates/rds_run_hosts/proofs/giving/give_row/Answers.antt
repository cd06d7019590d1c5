use Rattle.std.proofs.Common.{◌≡◌, ◌<◌, ◌+◌, All, [], ◌∷◌, ◌++◌, Some, length, set, slice_get, refl, sym, ap, subst, ◌∙◌, arith}
use Rattle.std.proofs.lemmas.List.{length_push}
use Rattle.std.proofs.lemmas.Iterator.Adapters.{YieldsList-from_vec}
use Rattle.std.proofs.lemmas.Iterator.Consumers.{YieldsList-end, YieldsList-turn}
use Rattle.rds_fmap.specs.Readers.{WriterView}
use Rattle.rds_line.specs.Line.{LineView}
use Rattle.rds_line_channel.specs.Channel.{IsNewChannel}
use Rattle.rds_line_channel.specs.Streams.{AreNumbered, IsUnused}
use Rattle.rds_run_hosts.specs.Giving.{AreGiven}
use Rattle.rds_run_hosts.proofs.At.{all_at, stands_at}
use Rattle.rds_run_hosts.proofs.Handing.{AreDoneBelow, IsGiven, StreamsOf, all_given, given_keep, none_done, one_done}
use Rattle.rds_run_hosts.proofs.giving.give_row.Goals as goal
use Rattle.rds_run_hosts.proofs.giving.give_row.Goals.{In-Some, After-index_mut}

pub loop-ends-init : goal.loop-ends-init
loop-ends-init g c = (refl, none_done IsGiven c.args.streams.items c.args.lines.now.items)

ends_turn : (g : _) (c : In-Some g) → (c.loop-ends.place < length c.args.streams.items) × (slice_get c.args.streams.items c.loop-ends.place ≡ Some c.in-Some.ends)
ends_turn g c =
    let turn = YieldsList-turn (YieldsList-from_vec c.args.streams.items c.into_iter-ends-iterator.ensures.into_iter_gives.0 (c.into_iter-ends-iterator.ensures.into_iter_gives.1 ∙ c.args.streams.ok.0)) c.loop-ends.yielded c.loop-ends.ends-iterator c.loop-ends.yielded_by c.next.result c.next.new.self c.in-Some.ends c.in-Some.is c.next.ensures.steps in
    let place = c.loop-ends.invariant.0 in
    subst (λ n. (n < length c.args.streams.items) × (slice_get c.args.streams.items n ≡ Some c.in-Some.ends)) (sym place)
    (turn.0, stands_at c.args.streams.items (length c.loop-ends.yielded) c.in-Some.ends turn.0 turn.1)

line_within : (g : _) (c : In-Some g) → c.loop-ends.place < length c.loop-ends.lines.items
line_within g c = let t = (ends_turn g c).0 in let n = c.loop-ends.invariant.1.count in omega (arith, t, n, c.requires.count)

line_at : (g : _) (c : After-index_mut g) → c.loop-ends.place < length c.loop-ends.lines.items → slice_get c.loop-ends.lines.items c.loop-ends.place ≡ Some c.index_mut.result.now
line_at g c within = stands_at c.loop-ends.lines.items c.loop-ends.place c.index_mut.result.now within c.index_mut.ensures.value

pub index_mut-requires : goal.index_mut-requires
index_mut-requires g c = let within = line_within g (goal.at.index_mut-requires g c).In-Some in omega (arith, within, c.loop-ends.lines.ok.0)

pub give_streams-requires-clause-new : goal.give_streams-requires-clause-new
give_streams-requires-clause-new g c =
    let at = goal.at.give_streams-requires-clause-new g c in
    let before = subst (λ n. AreDoneBelow IsGiven n c.args.streams.items c.args.lines.now.items c.loop-ends.lines.items) (sym c.loop-ends.invariant.0) c.loop-ends.invariant.1 in
    all_at (λ (line : LineView g.row.E.Denot WriterView). IsNewChannel line.channel) c.args.lines.now.items c.loop-ends.place c.index_mut.result.now c.requires.new
    (sym (before.rest c.loop-ends.place (omega arith)) ∙ line_at g at.After-index_mut (line_within g at.In-Some))

pub give_streams-requires-clause-numbered : goal.give_streams-requires-clause-numbered
give_streams-requires-clause-numbered g c =
    all_at (λ (list : StreamsOf g.row.E.Denot). AreNumbered list.items) c.args.streams.items c.loop-ends.place c.in-Some.ends c.requires.numbered
    (ends_turn g (goal.at.give_streams-requires-clause-numbered g c).In-Some).1

pub give_streams-requires-clause-unused : goal.give_streams-requires-clause-unused
give_streams-requires-clause-unused g c =
    all_at (λ (list : StreamsOf g.row.E.Denot). All (λ stream. IsUnused g.E.End.means stream.1) list.items) c.args.streams.items c.loop-ends.place c.in-Some.ends
    c.requires.unused (ends_turn g (goal.at.give_streams-requires-clause-unused g c).In-Some).1

pub loop-ends-preserved : goal.loop-ends-preserved
loop-ends-preserved g c =
    let at = goal.at.loop-ends-preserved g c in
    let place = c.loop-ends.place in
    let streams = c.args.streams.items in
    let old = c.args.lines.now.items in
    let before = subst (λ n. AreDoneBelow IsGiven n streams old c.loop-ends.lines.items) (sym c.loop-ends.invariant.0) c.loop-ends.invariant.1 in
    let after = one_done IsGiven streams old place c.loop-ends.lines.items c.in-Some.ends c.index_mut.result.now c.give_streams.new.self before (ends_turn g at.In-Some).1
    (line_at g at.After-index_mut (line_within g at.In-Some)) c.give_streams.ensures in
    let more : place + 1 ≡ length (c.loop-ends.yielded ++ c.in-Some.ends ∷ []) =
    ap (λ n. n + 1) c.loop-ends.invariant.0 ∙ sym (length_push c.loop-ends.yielded c.in-Some.ends) in
    (more, subst (λ n. AreDoneBelow IsGiven n streams old (set c.loop-ends.lines.items place c.give_streams.new.self)) more after)

given_all : (g : _) (c : goal.After-drop-ends-iterator g) → AreGiven c.args.streams.items c.args.lines.now.items c.loop-ends.lines.items
given_all g c =
    let all = YieldsList-end (YieldsList-from_vec c.args.streams.items c.into_iter-ends-iterator.ensures.into_iter_gives.0 (c.into_iter-ends-iterator.ensures.into_iter_gives.1 ∙ c.args.streams.ok.0)) c.loop-ends.yielded c.loop-ends.ends-iterator c.loop-ends.yielded_by c.next.result c.next.new.self c.in-None.is c.next.ensures.steps in
    all_given c.args.streams.items c.args.lines.now.items c.loop-ends.lines.items
    (subst (λ n. AreDoneBelow IsGiven n c.args.streams.items c.args.lines.now.items c.loop-ends.lines.items) all.1 c.loop-ends.invariant.1)

pub returns-clause-given : goal.returns-clause-given
returns-clause-given g c = given_all g c

pub returns-clause-keeps : goal.returns-clause-keeps
returns-clause-keeps g c =
    given_keep c.args.streams.items c.args.lines.now.items c.loop-ends.lines.items c.requires.count c.lines_keep.ensures.same (given_all g c)
