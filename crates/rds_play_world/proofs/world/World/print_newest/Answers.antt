use Rattle.std.proofs.Common.{◌≡◌, ℕ, [], List, length, sym, ap, subst, arith}
use Rattle.rds_model.specs.declared.entry.Entry.{Entry}
use Rattle.rds_model.specs.Past.{accepted}
use Rattle.rds_play_world.specs.Printing.{PrintsAlone}
use Rattle.rds_play_world.specs.Telling.{state}
use Rattle.rds_play_world.proofs.world.World.print_newest.Goals as goal

pub returns-clause-line : goal.returns-clause-line
returns-clause-line c = λ e before is alone.
    let s = state c.args.self.now in
    let count = ap (λ (j : List Entry). length j) is in
    let at : c.saturating_sub-newest.result ≡ length before =
    (let past = c.journal.ensures in let all = ap (λ (j : List Entry). length j) past in omega (arith, count, all, c.len.ensures.len, c.saturating_sub-newest.ensures)) in
    ap (λ (t : List ℕ). record s { text = t })
    (c.in_ok-print.ensures.line e before [] is at (subst (λ (j : List Entry). PrintsAlone (accepted j) before e) (sym is) alone))
