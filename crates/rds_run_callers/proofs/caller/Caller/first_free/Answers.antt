use Rattle.std.proofs.Common.{◌≡◌, sym, ap, subst, ◌∙◌, ⊎_elim, arith}
use Rattle.std.proofs.lemmas.Bool.{cases_eq}
use Rattle.rds_socket_parts.specs.Ports.{first_port, port_after}
use Rattle.rds_run_callers.specs.Doing.{IsHeld}
use Rattle.rds_run_callers.proofs.caller.Caller.first_free.Goals as goal

pub loop-n-preserved : goal.loop-n-preserved
loop-n-preserved c = λ m below.
    let port = c.port_after-port.ensures ∙ ap (λ f. port_after f c.loop-n.n) c.first_port-first.ensures in ⊎_elim
    (λ (e : m ≡ c.loop-n.n). subst (λ q. IsHeld c.args.self.now.places q) (port ∙ ap (λ n. port_after (first_port c.args.start) n) (sym e)) (c.is_free.ensures.held c.if-is_free.false))
    (λ (e : m ≡ c.loop-n.n → ⊥). c.loop-n.invariant m (omega arith))
    (cases_eq m c.loop-n.n)

pub returns-then-is_free : goal.returns-then-is_free
returns-then-is_free c = (
  c.loop-n.n,
  c.port_after-port.ensures ∙ ap (λ f. port_after f c.loop-n.n) c.first_port-first.ensures,
  c.is_free.ensures.free c.if-is_free.true,
  c.loop-n.invariant,
)
