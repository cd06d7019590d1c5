use Rattle.std.proofs.Common.{◌≤◌, length, subst}
use Rattle.rds_msgs.specs.Messages.{StoreView}
use Rattle.rds_msgs.proofs.Calls.{pulled_most}
use Rattle.rds_msgs.proofs.store.Store.len.Goals as goal

pub returns-clause-pulled : goal.returns-clause-pulled
returns-clause-pulled c = subst (λ (h : StoreView). h.mark ≤ length h.messages) c.self.view_is (pulled_most c.self.inside.items.items c.self.inside.mark c.self.inside.lists.places)
