use Rattle.std.proofs.Common.{ℕ, ◌<◌, subst}
use Rattle.std.specs.List.{All}
use Rattle.rds_msgs_lists.specs.Lists.{Place, ListsView, IsOn, IsDistinct}
use Rattle.rds_msgs_lists.proofs.Calls.{distinct_is, within_is, owned_is}
use Rattle.rds_msgs_lists.proofs.lists.Lists.len.Goals as goal

pub returns-clause-distinct : goal.returns-clause-distinct
returns-clause-distinct c = subst (λ (v : ListsView). IsDistinct v.places) c.self.view_is (distinct_is _ _ _ _ c.self.invariant)

pub returns-clause-within : goal.returns-clause-within
returns-clause-within c = subst (λ (v : ListsView). (k : ℕ) → IsOn v.places k → k < v.made) c.self.view_is (within_is _ _ _ _ c.self.invariant)

pub returns-clause-owned : goal.returns-clause-owned
returns-clause-owned c = subst (λ (v : ListsView). All (λ (p : Place). p.socket < v.sockets) v.places) c.self.view_is (owned_is _ _ _ _ c.self.invariant)
