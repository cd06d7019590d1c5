use Rattle.std.proofs.Common.{rules, ◌≡◌, List, [], All, sym, subst}
use Rattle.rds_model.specs.declared.order.Datagram.{Datagram}
use Rattle.rds_mail.specs.Passes.{Putter}
use Rattle.rds_test_hosts.proofs.line_host.LineHost.new.Goals as goal

pub new-requires-clause-put : goal.new-requires-clause-put
new-requires-clause-put g c =
    subst (λ (l : List (Putter Datagram)). All (λ box. box.put ≡ []) l) (sym c.boxes-2.view_is) c.in_ok-mailbox.ensures.put

pub returns-clause-channel : goal.returns-clause-channel
returns-clause-channel g c = search rules
