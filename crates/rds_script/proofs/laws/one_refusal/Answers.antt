use Rattle.std.proofs.Common.{ℕ, ap, sym, ◌∙◌}
use Rattle.rds_script.specs.declared.cause.Cause.{Cause}
use Rattle.rds_script.proofs.Binds.{err_is}
use Rattle.rds_script.proofs.WholeText.{text_refuses}
use Rattle.rds_script.proofs.laws.one_refusal.Goals as goal

pub returns : goal.returns
returns c = λ text m n e d h g.
    let same = err_is (sym (text_refuses text m e h) ∙ text_refuses text n d g) in
    (ap (λ (p : ℕ × Cause). p.0) same, ap (λ (p : ℕ × Cause). p.1) same)
