use Rattle.std.proofs.Common.{None, ap}
use Rattle.rds_fmap.specs.Readers.{ReaderView}
use Rattle.rds_socket.specs.Holding.{Holding}
use Rattle.rds_run_callers.proofs.Claiming.{claims_same}
use Rattle.rds_run_callers.proofs.spare.SpareSlot.new.Goals as goal

pub invariant_of-result : goal.invariant_of-result
invariant_of-result c = record { claimed = claims_same None c.args.vacant c.finish.result (ap (λ (h : Holding ReaderView). h.ports) c.finish.ensures) c.known.ensures.held.claimed }
