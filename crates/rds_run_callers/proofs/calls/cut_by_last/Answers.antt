use Rattle.std.proofs.Common.{set, ap, ◌∙◌, ◌-◌, arith}
use Rattle.rds_run_callers.proofs.Coming.{last_cut}
use Rattle.rds_run_callers.proofs.calls.cut_by_last.Goals as goal

pub returns : goal.returns
returns g c =
    let items = c.args.slots.now.states.items in
    let last = c.len-last.result - 1 in
    let some = c.if-len-eq0.false in
    let count = c.len.ensures in
    let size = c.len-last.ensures in
    let all = c.args.slots.now.states.ok.0 in
    last_cut c.cut-asked.result c.args.peer items last c.replace-state.result c.cut-asked.new.self c.replace.new.self.states.items (c.replace.ensures.states ∙ ap (λ l. set l last c.cut-asked.new.self) c.replace-state.ensures.states)
    c.requires c.replace-state.ensures.was (omega arith) c.cut-asked.ensures.same c.cut-asked.ensures.done c.cut-asked.ensures.keeps
