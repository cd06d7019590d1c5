use Rattle.std.proofs.Common.{ℕ, ◌≤◌, [], ◌∷◌, ◌++◌, sym, ap, subst, ◌∙◌}
use Rattle.rds_run_callers.proofs.Keeping.{kept_more}
use Rattle.rds_run_callers.specs.StoringLaws.{stores_received}
use Rattle.rds_run_callers.proofs.tenant.Tenant.receive.Goals as goal

pub invariant_of-self-2 : goal.invariant_of-self-2
invariant_of-self-2 g c =
    let old = c.args.self.now in
    let item = c.in-Some.datagram in
    let got = c.in-Some.ensures.received in
    record {
      sends = c.recv.ensures.stays.told ∙ old.sends;
      low = subst (λ (port : ℕ). 2 ≤ port) (sym c.recv.ensures.stays.port) old.low;
      kept = kept_more old.got.items c.push_reserved.new.self.items old.socket.own.inbox.get c.recv.new.self.own.inbox.get got.0 item old.kept
          (c.push_reserved.ensures.items ∙ ap (λ l. l ++ item ∷ []) c.reserve.ensures.items) (ap (λ o. o.own.inbox.get) got.3);
    }

pub returns-clause-stored : goal.returns-clause-stored
returns-clause-stored g c = stores_received c.in-Some.datagram c.args.self.now.socket c.recv.new.self c.in-Some.ensures.received
