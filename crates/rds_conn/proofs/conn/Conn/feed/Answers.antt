use Rattle.std.proofs.Common.{◌≡◌, ap, subst, refl, arith, None, [], ◌∷◌}
use Rattle.rds_wire.specs.declared.kind.Malformed.{Malformed}
use Rattle.rds_model.specs.declared.entry.Entry.TheVariants.{Bad}
use Rattle.rds_conn.specs.Connection.{Connection, with_entries}
use Rattle.rds_conn.specs.Feeding.{RefusesHeader}
use Rattle.rds_conn.specs.Invariant.{connection_view}
use Rattle.rds_conn.proofs.KeepsReads.{keeps_fed, clear_fed, lawful_refusal, refused_bytes, recorded, is_refused}
use Rattle.rds_conn.proofs.KeepsStreams.{keeps_bad}
use Rattle.rds_conn.proofs.conn.Conn.feed.Goals as goal

pub invariant_of-self : goal.invariant_of-self
invariant_of-self c =
    keeps_fed c.self.inside c.in-Some.stream c.args.piece.now c.in-Ok.took c.take.new.self c.self.invariant c.in-Some.is
    c.in-Ok.ensures.ok c.take.ensures.held

pub refuse-requires-clause-refused : goal.refuse-requires-clause-refused
refuse-requires-clause-refused c =
    let refused = c.in-Err-Malformed.ensures.malformed c.in-Err-Malformed.fault (cc) in
    is_refused c.take.new.self refused.header refused.after

pub invariant_of-self-in-Err-Malformed : goal.invariant_of-self-in-Err-Malformed
invariant_of-self-in-Err-Malformed c =
    let fault : Malformed = c.in-Err-Malformed.fault in
    let refused = c.in-Err-Malformed.ensures.malformed fault (cc) in
    let entry = recorded c.take.new.self refused.header c.self.inside.journal c.refuse.new.journal c.in-Some.stream fault refused.after c.refuse.ensures.entry in
    let spare = ap (λ (v : Connection). v.log.spare) c.self.view_is in
    rw (entry, c.refuse.ensures.fresh, c.reset.ensures)
    (keeps_bad c.self.inside c.in-Some.stream refused.header fault c.self.invariant (omega (arith, spare, c.requires.entries))
    (lawful_refusal c.self.inside c.in-Some.stream c.args.piece.now fault c.take.new.self c.self.invariant c.in-Some.is refused))

pub returns-in-Err-Malformed-clause-malformed : goal.returns-in-Err-Malformed-clause-malformed
returns-in-Err-Malformed-clause-malformed c =
    let refused = c.in-Err-Malformed.ensures.malformed c.in-Err-Malformed.fault (cc) in
    let entry = recorded c.take.new.self refused.header c.self.inside.journal c.refuse.new.journal c.in-Some.stream c.in-Err-Malformed.fault refused.after c.refuse.ensures.entry in
    rw (← c.self.view_is, entry, c.refuse.ensures.fresh)
    (λ fault same.
    let fault_is : c.in-Err-Malformed.fault ≡ fault = cc in
    let new : Connection = record (with_entries (Bad c.in-Some.stream refused.header c.in-Err-Malformed.fault ∷ []) (connection_view c.self.inside)) { waiting = None; rest = [] } in
    subst (λ f. RefusesHeader c.args.piece.now f (connection_view c.self.inside) new) fault_is
    (refused_bytes c.self.inside c.in-Some.stream c.args.piece.now c.in-Err-Malformed.fault c.take.new.self c.self.invariant c.in-Some.is refused new refl))

pub returns-in-Ok-clause-clear : goal.returns-in-Ok-clause-clear
returns-in-Ok-clause-clear c =
    rw (← c.self.view_is)
    (clear_fed c.self.inside c.in-Some.stream c.args.piece.now c.in-Ok.took c.take.new.self c.self.invariant c.in-Some.is
    c.in-Ok.ensures.ok c.take.ensures.held)
