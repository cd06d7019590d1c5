use Rattle.std.proofs.Common.{sym, ◌∙◌}
use Rattle.rds_history.specs.Bind.{is_free}
use Rattle.rds_play_hosts.proofs.Searching.{found, passed}
use Rattle.rds_play_hosts.proofs.host.ScriptHost.free_within.Goals as goal

pub returns-then-is_free : goal.returns-then-is_free
returns-then-is_free c = λ h past told.
    sym (found (is_free h past) c.loop-port.port c.args.end c.loop-port-test.true (sym (c.is_free.ensures h past told) ∙ c.if-is_free.true))
    ∙ c.loop-port.invariant h past told

pub loop-port-preserved : goal.loop-port-preserved
loop-port-preserved c = λ h past told.
    passed (is_free h past) c.loop-port.port c.args.end c.loop-port-test.true (sym (c.is_free.ensures h past told) ∙ c.if-is_free.false)
    ∙ c.loop-port.invariant h past told
