use Rattle.std.proofs.Common.{Some, sym, ap, ◌∙◌}
use Rattle.rds_mail.specs.Numbers.{bare_items}
use Rattle.rds_fmap.specs.Readers.{ReaderView}
use Rattle.rds_socket.specs.Holding.{Holding}
use Rattle.rds_run_callers.proofs.Claiming.{claims_same}
use Rattle.rds_run_callers.proofs.former.FormerTenant.hear.Goals as goal

pub invariant_of-self-clause-kept : goal.invariant_of-self-clause-kept
invariant_of-self-clause-kept c = c.args.self.now.kept ∙ sym (ap (λ (h : Holding ReaderView). bare_items h.inbox.get.got) c.hear.ensures.told)

pub invariant_of-self-clause-claimed : goal.invariant_of-self-clause-claimed
invariant_of-self-clause-claimed c = claims_same (Some c.args.self.now.port) c.args.self.now.closed c.hear.new.self (ap (λ (h : Holding ReaderView). h.ports) c.hear.ensures.told) c.args.self.now.claimed
