use Rattle.std.proofs.Common.{sym, ◌∙◌}
use Rattle.rds_run_settling.proofs.Ports.{heard_none, heard_note, note_steps, note_table}
use Rattle.rds_run_settling.proofs.settling.tell_port.Goals as goal

pub hear_port-requires-clause-steps : goal.hear_port-requires-clause-steps
hear_port-requires-clause-steps g c =
    let p = c.requires.table in
    note_steps p.0 c.in-Some.note (sym (c.port_note.ensures.note p.0 p.1) ∙ c.in-Some.is)

pub hear_port-requires-clause-table : goal.hear_port-requires-clause-table
hear_port-requires-clause-table g c =
    let p = c.requires.table in
    note_table p.0 c.in-Some.note (sym (c.port_note.ensures.note p.0 p.1) ∙ c.in-Some.is) ∙ p.2

pub returns-in-Some-clause-told : goal.returns-in-Some-clause-told
returns-in-Some-clause-told g c = λ p at.
    c.hear_port.ensures ∙ heard_note p c.in-Some.note c.args.line.now (sym (c.port_note.ensures.note p at) ∙ c.in-Some.is)

pub returns-in_default-clause-told : goal.returns-in_default-clause-told
returns-in_default-clause-told g c = λ p at. heard_none p c.args.line.now (sym (c.port_note.ensures.note p at) ∙ c.in_default.is)
