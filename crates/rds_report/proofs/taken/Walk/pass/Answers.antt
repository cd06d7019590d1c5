use Rattle.std.proofs.Common.{◌∙◌, ◌∷◌, ◌||◌, ◌&&◌, ◌==◌, nat_lt, ℕ, refl, ap, subst}
use Rattle.std.proofs.lemmas.Result.{on_ok_weaker}
use Rattle.rds_model.specs.declared.entry.Entry.{Entry}
use Rattle.rds_model.specs.Alive.{aims_at}
use Rattle.rds_report.specs.TakenBackWalk.{IsWalk, takes}
use Rattle.rds_report.proofs.Walked.{walk_cancel}
use Rattle.rds_report.proofs.taken.Walk.pass.Goals as goal

pub returns-in-Cancel : goal.returns-in-Cancel
returns-in-Cancel c =
    let w = c.args.self.now in
    on_ok_weaker c.add.result
    (λ added all past is acked.
    walk_cancel all w _ c.in-Cancel.slot c.in-Cancel.target past (subst (λ (e : Entry). IsWalk all w (e ∷ past)) c.in-Cancel.is is) refl refl
    (λ s d n. added s d n
    ∙ ap (λ (a : ℕ). takes w.cancellations s d n || ((c.in-Cancel.slot == s && aims_at c.in-Cancel.target d) && nat_lt a n)) acked))
    c.add.ensures
