use Rattle.std.proofs.Common.{sym, subst}
use Rattle.rds_mail.specs.Merging.{AreAll}
use Rattle.rds_mail.specs.Passes.{Getter}
use Rattle.rds_mail.proofs.Keys.{keyed}
use Rattle.rds_mail.proofs.mail.Mail.gather_keyed.Goals as goal

pub returns-clause-keyed : goal.returns-clause-keyed
returns-clause-keyed g c key mark =
    keyed key mark c.close.new.get.got c.close.new.get.joined
    (c.close.ensures.merged (subst (λ (h : Getter g.row.T.Denot). AreAll h.joined) (sym c.close.ensures.joined) c.requires.all))
