use Rattle.std.proofs.Common.{None, ap}
use Rattle.rds_fmap.specs.Readers.{ReaderView}
use Rattle.rds_socket.specs.Holding.{Holding}
use Rattle.rds_run_callers.proofs.Claiming.{claims_same}
use Rattle.rds_run_callers.proofs.spare.SpareSlot.hear.Goals as goal

pub invariant_of-self : goal.invariant_of-self
invariant_of-self c = record { claimed = claims_same None c.args.self.now.closed c.hear.new.self (ap (λ (h : Holding ReaderView). h.ports) c.hear.ensures.told) c.args.self.now.claimed }
