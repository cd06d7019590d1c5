use Rattle.std.proofs.Common.{◌≡◌, ap₂, ◌∙◌, rules}
use Rattle.clap.specs.Words.{app_of, rule_of, with_rule}
use Rattle.rds_run.specs.RunWords.{run_app, wire_rule}
use Rattle.rds_run.proofs.Parsed.{fault_found, run_a_fault, run_no_fault, takes, wire_found}
use Rattle.rds_run.proofs.run_words.wire_asked.Goals as goal

pub returns-in-Ok : goal.returns-in-Ok
returns-in-Ok c =
    let wire_is : rule_of c.action-wire.result ≡ wire_rule = search rules in
    let is : app_of c.in_ok-command.command ≡ run_app = c.in_ok-command.ensures.shape (search rules) ∙ ap₂ with_rule c.new-2.ensures.app wire_is in
    takes _ c.wire_named.result _ (run_no_fault _ _ is c.in-Ok.ensures.kinds)
    (c.get_str.ensures ∙ wire_found _ _ c.in-Ok.matches is c.in-Ok.ensures.matches) c.wire_named.ensures

pub returns : goal.returns
returns c =
    let wire_is : rule_of c.action-wire.result ≡ wire_rule = search rules in
    let is : app_of c.in_ok-command.command ≡ run_app = c.in_ok-command.ensures.shape (search rules) ∙ ap₂ with_rule c.new-2.ensures.app wire_is in
    let other = rw c.kind.ensures at c.in_default.not-OutOfMemory in
    let fault = run_a_fault _ _ _ is c.in-Err.ensures.kinds in
    λ asked taken. fault_found _ _ other fault taken.faults
