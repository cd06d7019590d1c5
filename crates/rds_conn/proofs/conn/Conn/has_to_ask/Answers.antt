use Rattle.std.proofs.Common.{◌≡◌, ◌||◌, subst, ap, ◌∙◌, sym, false, nat_le, nat_lt, ◌+◌}
use Rattle.rds_model.specs.Streams.{was_pulled}
use Rattle.rds_model.specs.declared.owed.TheConstants.{MAX_UNASKED, MAX_UNASKED_BYTES}
use Rattle.rds_model.specs.DueLaws.{least_due}
use Rattle.rds_conn.specs.Choosing.{IsFirstDue}
use Rattle.rds_conn.specs.Connection.{Connection, stream_of}
use Rattle.rds_conn.proofs.KeepsPulls.{asks_here, counts_fit}
use Rattle.rds_conn.proofs.conn.Conn.has_to_ask.Goals as goal

pub was_pulled-requires : goal.was_pulled-requires
was_pulled-requires c =
    (least_due c.args.stream c.args.self.now.log.past c.args.msg.num c.requires.due.rest c.requires.due.first).alive

pub is_due-requires : goal.is_due-requires
is_due-requires c =
    (counts_fit c.self.inside c.args.stream c.self.invariant (c.self.invariant.stream ∙ ap stream_of c.self.view_is ∙ c.requires.on)).bytes

pub returns-else-is_due : goal.returns-else-is_due
returns-else-is_due c =
    let on = c.self.invariant.stream ∙ ap stream_of c.self.view_is ∙ c.requires.on in
    let due = subst (λ (v : Connection). IsFirstDue c.args.stream v.log.past c.args.msg) (sym c.self.view_is) c.requires.due in
    let first_time : was_pulled c.self.inside.journal.past c.args.msg.num ≡ false =
    ap (λ (v : Connection). was_pulled v.log.past c.args.msg.num) c.self.view_is ∙ sym c.was_pulled.ensures ∙ c.if-was_pulled.false in
    let few : (nat_le MAX_UNASKED c.self.inside.asking.unasked || nat_lt MAX_UNASKED_BYTES (c.self.inside.asking.bytes + c.args.msg.len)) ≡ false =
    sym c.is_due.ensures ∙ c.if-is_due.false in
    rw (← c.self.view_is)
    (λ d known.
    sym (ap (λ b. b || ((nat_le MAX_UNASKED c.self.inside.asking.unasked || nat_lt MAX_UNASKED_BYTES (c.self.inside.asking.bytes + c.args.msg.len)) || c.is_last.result)) first_time
    ∙ ap (λ b. b || c.is_last.result) few)
    ∙ asks_here c.self.inside c.args.stream c.args.msg d c.is_last.result c.self.invariant on due known c.is_last.ensures)
