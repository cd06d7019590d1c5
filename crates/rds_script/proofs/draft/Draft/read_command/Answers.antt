use Rattle.std.proofs.Common.{sym, ◌∙◌, rules}
use Rattle.rds_script.specs.Grammar.{meaning}
use Rattle.rds_script.specs.Text.{words}
use Rattle.rds_script.specs.Reading.{Fails, counted}
use Rattle.rds_script.proofs.Exact.{is_due, counted_hosts, counted_read, counted_fails}
use Rattle.rds_script.proofs.draft.Draft.read_command.Goals as goal

pub returns-then-is_hosts : goal.returns-then-is_hosts
returns-then-is_hosts c =
    let due = is_due c.args.name _ _ c.is_hosts.ensures c.if-is_hosts-self.false in
    rw (counted_hosts (meaning c.args.self.now.script) c.args.number c.args.name (words c.args.rest.now) due (sym c.is_hosts-2.ensures ∙ c.if-is_hosts.true)) c.read_hosts.ensures

pub returns-in_err-command : goal.returns-in_err-command
returns-in_err-command c =
    let due = is_due c.args.name _ _ c.is_hosts.ensures c.if-is_hosts-self.false in
    let fails : Fails c.in_err-command.field-0.0 (counted (meaning c.args.self.now.script) c.args.number c.args.name (words c.args.rest.now)) = counted_fails (meaning c.args.self.now.script) c.args.number c.args.name (words c.args.rest.now) due (sym c.is_hosts-2.ensures ∙ c.if-is_hosts.false) c.in_err-command.field-0.0 (c.in_err-command.ensures {u = tt}) in
    search rules

pub returns : goal.returns
returns c =
    let due = is_due c.args.name _ _ c.is_hosts.ensures c.if-is_hosts-self.false in
    rw (counted_read (meaning c.args.self.now.script) c.args.number c.args.name (words c.args.rest.now) due (sym c.is_hosts-2.ensures ∙ c.if-is_hosts.false) c.in_ok-command.command (c.in_ok-command.ensures {u = tt})) c.add.ensures
