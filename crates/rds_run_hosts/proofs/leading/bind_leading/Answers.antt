use Rattle.std.proofs.Common.{◌+◌, [], ◌∷◌, List, ap, refl, subst, sym, take, ◌∙◌}
use Rattle.rds_script.specs.Script.{IsCommand}
use Rattle.rds_script.specs.declared.script.Placed.{Placed}
use Rattle.rds_run_hosts.specs.Parties.{HaveObeyed}
use Rattle.rds_run_hosts.proofs.Commands.{known_at, taken_next}
use Rattle.rds_run_hosts.proofs.Keeping.{callers_same, callers_through}
use Rattle.rds_run_hosts.proofs.Led.{none_bound, one_bound}
use Rattle.rds_run_hosts.proofs.Obeying.{all_obeyed_through, obeyed_nothing}
use Rattle.rds_run_hosts.proofs.leading.bind_leading.Goals as goal

pub loop-placed-init : goal.loop-placed-init
loop-placed-init g c = (refl, callers_same c.args.callers.now.items, obeyed_nothing c.args.callers.now.items, none_bound c.args.commands.now)

pub bind-requires : goal.bind-requires
bind-requires g c =
    subst (λ n. IsCommand n c.placed-item.result.command) (sym c.loop-placed.invariant.1.count)
    (known_at _ c.args.commands.now c.loop-placed.placed-index c.placed-item.result c.loop-placed-test.true c.placed-item.is c.requires)

pub returns-in_err-bind-clause-keeps : goal.returns-in_err-bind-clause-keeps
returns-in_err-bind-clause-keeps g c =
    callers_through c.args.callers.now.items c.loop-placed.callers.items c.bind.new.callers.items c.loop-placed.invariant.1 c.bind.ensures.keeps

pub loop-placed-preserved : goal.loop-placed-preserved
loop-placed-preserved g c =
    let more = taken_next c.args.commands.now c.loop-placed.placed-index c.placed-item.result c.loop-placed-test.true c.placed-item.is in (
      ap (λ n. n + 1) c.loop-placed.invariant.0,
      callers_through c.args.callers.now.items c.loop-placed.callers.items c.bind.new.callers.items c.loop-placed.invariant.1 c.bind.ensures.keeps,
      subst (λ (l : List Placed). HaveObeyed l c.args.callers.now.items c.bind.new.callers.items) (sym more)
          (all_obeyed_through (take c.loop-placed.placed-index c.args.commands.now) (c.placed-item.result ∷ []) c.args.callers.now.items
          c.loop-placed.callers.items c.bind.new.callers.items c.loop-placed.invariant.2 c.in_ok-bind.ensures.obeyed),
      one_bound c.args.commands.now c.loop-placed.placed-index c.placed-item.result c.loop-placed-test.true c.placed-item.is (sym c.is_bind.ensures ∙ c.if-not-is_bind.false)
          c.loop-placed.invariant.3,
    )
