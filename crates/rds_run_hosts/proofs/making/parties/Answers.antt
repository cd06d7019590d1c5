use Rattle.std.proofs.Common.{◌≡◌, ◌+◌, List, Vec, Result, IfOk, Some, length, [], ◌∷◌, ◌++◌, sym, ap, ◌∙◌, subst}
use Rattle.std.specs.Global.{Global}
use Rattle.std.proofs.lemmas.Iterator.Adapters.{YieldsList-from_vec}
use Rattle.std.proofs.lemmas.Iterator.Consumers.{YieldsList-end, YieldsList-turn}
use Rattle.std.proofs.lemmas.List.{length_push, map-append}
use Rattle.std.proofs.lemmas.Option.{slice_get-get_or}
use Rattle.rds_wire.specs.declared.memory.Memory.{Memory}
use Rattle.rds_fmap.specs.Readers.{WriterView}
use Rattle.rds_line.specs.Line.{LineView}
use Rattle.rds_run_callers.specs.Places.{CallerView}
use Rattle.rds_run_rounds.specs.Grid.{rows_of}
use Rattle.rds_run_hosts.specs.Making.{IsParty}
use Rattle.rds_run_hosts.proofs.Made.{AreMade, made_lines, made_more, made_none, made_parties}
use Rattle.rds_run_hosts.proofs.making.parties.Goals as goal

abbrev RowOf : Type 0 → Type 0
RowOf E = Vec (LineView E WriterView) Global

pub loop-party-init : goal.loop-party-init
loop-party-init g c =
    let limit = c.args.limit in
    let hosts = c.args.script.now.hosts in
    let commands = c.args.script.now.commands.items in
    subst (λ (l : List CallerView). AreMade limit hosts commands 0 l (rows_of c.new-lines.result.items)) (sym c.new-callers.ensures.items)
    (subst (λ (l : List (RowOf g.row.E.Denot)). AreMade limit hosts commands 0 [] (rows_of l)) (sym c.new-lines.ensures.items)
    (made_none limit hosts commands))

pub loop-party-preserved : goal.loop-party-preserved
loop-party-preserved g c =
    let limit = c.args.limit in
    let hosts = c.args.script.now.hosts in
    let commands = c.args.script.now.commands.items in
    let made = c.in_ok-party-items.party-items.items in
    let seen = c.loop-party.yielded in
    let party = c.in-Some.party in
    let turn = YieldsList-turn (YieldsList-from_vec made c.into_iter-party-iterator.ensures.into_iter_gives.0 (c.into_iter-party-iterator.ensures.into_iter_gives.1 ∙ c.in_ok-party-items.party-items.ok.0)) seen c.loop-party.party-iterator c.loop-party.yielded_by c.next.result c.next.new.self party c.in-Some.is c.next.ensures.steps in
    let party_is = subst (λ (r : Result (CallerView × RowOf g.row.E.Denot) Memory). IfOk r (IsParty limit hosts (length seen) commands)) c.in_ok-caller.was
    (c.in_ok-party-items.ensures.each (length seen) party (slice_get-get_or made (length seen) party turn.0 ∙ ap Some (sym turn.1))) in
    let rows = rows_of c.loop-party.lines.items in
    let more = made_more limit hosts commands (length seen) c.loop-party.callers.items rows c.in_ok-caller.caller c.in_ok-caller.row.items
    c.loop-party.invariant party_is.tied party_is.count party_is.slots party_is.lines in
    let lines : rows_of c.push-in-loop-party.new.self.items ≡ rows ++ c.in_ok-caller.row.items ∷ [] =
    ap (λ (l : List (RowOf g.row.E.Denot)). rows_of l) c.in_ok-push-2.ensures.items
    ∙ map-append (λ (v : RowOf g.row.E.Denot). v.items) c.loop-party.lines.items (c.in_ok-caller.row ∷ []) in
    subst (λ n. AreMade limit hosts commands n c.push.new.self.items (rows_of c.push-in-loop-party.new.self.items)) (sym (length_push seen party))
    (subst (λ (l : List (List (LineView g.row.E.Denot WriterView))). AreMade limit hosts commands (length seen + 1) c.push.new.self.items l) (sym lines)
    (subst (λ (l : List CallerView). AreMade limit hosts commands (length seen + 1) l (rows ++ c.in_ok-caller.row.items ∷ [])) (sym c.in_ok-push.ensures.items) more))

all_made : (g : _) (c : goal.After-drop-party-iterator-2 g) → AreMade c.args.limit c.args.script.now.hosts c.args.script.now.commands.items c.args.script.now.hosts c.loop-party.callers.items (rows_of c.loop-party.lines.items)
all_made g c =
    let all = YieldsList-end (YieldsList-from_vec c.in_ok-party-items.party-items.items c.into_iter-party-iterator.ensures.into_iter_gives.0 (c.into_iter-party-iterator.ensures.into_iter_gives.1 ∙ c.in_ok-party-items.party-items.ok.0)) c.loop-party.yielded c.loop-party.party-iterator c.loop-party.yielded_by c.next.result c.next.new.self c.in-None.is c.next.ensures.steps in
    subst (λ n. AreMade c.args.limit c.args.script.now.hosts c.args.script.now.commands.items n c.loop-party.callers.items (rows_of c.loop-party.lines.items))
    (all.1 ∙ c.in_ok-party-items.ensures.count) c.loop-party.invariant

pub returns-clause-parties : goal.returns-clause-parties
returns-clause-parties g c = made_parties c.args.limit _ _ _ _ (all_made g c)

pub returns-clause-new : goal.returns-clause-new
returns-clause-new g c = (all_made g c).new

pub returns-clause-lines : goal.returns-clause-lines
returns-clause-lines g c = made_lines c.args.limit _ _ _ _ (all_made g c)
