use Rattle.std.proofs.Common.{◌<◌, [], ◌∷◌, length, set, Some, ap, sym, ◌∙◌, arith}
use Rattle.rds_run_hosts.specs.Parties.{HaveObeyed}
use Rattle.rds_run_hosts.proofs.At.{stands_at}
use Rattle.rds_run_hosts.proofs.Keeping.{on_done}
use Rattle.rds_run_hosts.proofs.Obeying.{commander_known, kept_one, obeyed_one}
use Rattle.rds_run_hosts.proofs.leading.bind.Goals as goal
use Rattle.rds_run_hosts.proofs.leading.bind.Goals.{In-Some}

known_host : (g : _) (c : In-Some g) → c.in-Some.host < length c.args.callers.now.items
known_host g c = commander_known (length c.args.callers.now.items) c.args.placed.now.command c.in-Some.host c.requires (sym c.in-Some.ensures)

pub index_mut-requires : goal.index_mut-requires
index_mut-requires g c =
    let known = known_host g (goal.at.index_mut-requires g c).In-Some in
    omega (arith, known, c.from.ensures, c.args.callers.now.ok.0)

pub returns-clause-obeyed : goal.returns-clause-obeyed
returns-clause-obeyed g c =
    let known = known_host g (goal.at.returns-clause-obeyed g c).In-Some in
    let callers = c.args.callers.now.items in
    let at = stands_at callers c.from.result c.index_mut.result.now (omega (arith, known, c.from.ensures)) c.index_mut.ensures.value in
    on_done _ (HaveObeyed (c.args.placed.now ∷ []) callers (set callers c.from.result c.obey.new.self)) c.obey.result
    (obeyed_one callers c.from.result c.index_mut.result.now c.obey.new.self c.args.placed.now at (sym c.in-Some.ensures ∙ ap Some (sym c.from.ensures)))
    c.obey.ensures.done

pub returns-clause-keeps : goal.returns-clause-keeps
returns-clause-keeps g c =
    let known = known_host g (goal.at.returns-clause-keeps g c).In-Some in
    kept_one c.args.callers.now.items c.from.result c.index_mut.result.now c.obey.new.self
    (stands_at c.args.callers.now.items c.from.result c.index_mut.result.now (omega (arith, known, c.from.ensures)) c.index_mut.ensures.value) c.obey.ensures.keeps
