use Rattle.std.proofs.Common.{◌≡◌, List, ℕ, subst}
use Rattle.std.specs.Prelude.{OnOk}
use Rattle.rds_conn.proofs.KeepsOrders.{numbers_taken}
use Rattle.rds_conn.proofs.conn.Conn.covered.Goals as goal

pub returns-clause-ok : goal.returns-clause-ok
returns-clause-ok c =
    rw (← c.self.view_is)
    (subst (λ (xs : List ℕ). OnOk c.covered.result (c.covered.new.out.items ≡ xs))
    (numbers_taken c.args.slot c.args.target.now c.self.inside.journal.past c.self.inside.store.messages c.self.invariant.stored.holds.alive)
    c.covered.ensures.ok)
