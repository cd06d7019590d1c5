use Rattle.std.proofs.Common.{◌∙◌, ap, sym, subst, is_some}
use Rattle.rds_frame.specs.Holding.{SplitterView, HoldsAtMostOneFrame}
use Rattle.rds_frame.proofs.Keeping.{IsHeld-fields}
use Rattle.rds_frame.proofs.Taking.{Takes-nothing}
use Rattle.rds_frame.proofs.splitter.Splitter.take.Goals as goal

pub returns-then-is_some-2-clause-ok : goal.returns-then-is_some-2-clause-ok
returns-then-is_some-2-clause-ok c =
    let s = c.self.inside in
    let old : SplitterView = c.args.self.now in
    let held : HoldsAtMostOneFrame old =
    subst (λ (h : SplitterView). HoldsAtMostOneFrame h) c.self.view_is (IsHeld-fields s.head s.came s.body s.waiting s.refused c.self.invariant) in
    let waits = c.if-is_some-2.ensures {u = tt} in
    Takes-nothing c.args.highest c.args.known old c.args.piece.now held (sym (ap (λ (h : SplitterView). is_some h.waiting) c.self.view_is) ∙ sym waits)
