use Rattle.std.proofs.Common.{List, subst, sym}
use Rattle.rds_script.specs.declared.script.Placed.{Placed}
use Rattle.rds_run_hosts.specs.Obeyed.{HasObeyed}
use Rattle.rds_run_hosts.proofs.Commands.{known_at, taken_next}
use Rattle.rds_run_hosts.proofs.Keeping.{keeps_through}
use Rattle.rds_run_hosts.proofs.Obeying.{obeyed_next}
use Rattle.rds_run_hosts.proofs.playing.call_all.Goals as goal

pub call-requires : goal.call-requires
call-requires g c = (
  c.requires.0,
  known_at c.requires.0 c.args.commands.now c.loop-placed.placed-index c.placed-item.result c.loop-placed-test.true c.placed-item.is c.requires.1,
)

pub loop-placed-preserved : goal.loop-placed-preserved
loop-placed-preserved g c =
    let more = taken_next c.args.commands.now c.loop-placed.placed-index c.placed-item.result c.loop-placed-test.true c.placed-item.is in (
      subst (λ (l : List Placed). HasObeyed c.args.host l c.args.caller.places c.call.new.caller.places) (sym more)
          (obeyed_next c.args.host _ c.placed-item.result c.args.caller.places c.loop-placed.caller.places c.call.new.caller.places
          c.loop-placed.invariant.0 c.in_ok-call.ensures.did),
      keeps_through c.args.caller.places c.loop-placed.caller.places c.call.new.caller.places c.loop-placed.invariant.1 c.call.ensures.keeps,
    )
