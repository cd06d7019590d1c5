use Rattle.std.proofs.Common.{◌≡◌, ap₂, ◌∙◌, codes, rules}
use Rattle.clap.specs.Words.{app_of, rule_of, with_rule}
use Rattle.rds_run.specs.GenWords.{gen_app, word_rule}
use Rattle.rds_run.proofs.Generated.{gen_a_fault, gen_no_fault, takes, word_found}
use Rattle.rds_run.proofs.Parsed.{fault_found}
use Rattle.rds_run.proofs.gen_words.two_numbers.Goals as goal

pub returns-in-Ok : goal.returns-in-Ok
returns-in-Ok c =
    let sends_is : rule_of c.action-sends.result ≡ word_rule (codes "sends") = search rules in
    let seed_is : rule_of c.action-seed.result ≡ word_rule (codes "seed") = search rules in
    let first = c.in_ok-arg.ensures.shape (search rules) ∙ ap₂ with_rule c.new-3.ensures.app sends_is in
    let is : app_of c.in_ok-command.command ≡ gen_app = c.in_ok-command.ensures.shape (search rules) ∙ ap₂ with_rule first seed_is in
    takes _ _ _ c.numbers.result (gen_no_fault _ _ is c.in-Ok.ensures.kinds)
    (word_found (codes "sends") _ _ c.in-Ok.matches is c.in-Ok.ensures.matches)
    (word_found (codes "seed") _ _ c.in-Ok.matches is c.in-Ok.ensures.matches) c.numbers.ensures

pub returns : goal.returns
returns c =
    let sends_is : rule_of c.action-sends.result ≡ word_rule (codes "sends") = search rules in
    let seed_is : rule_of c.action-seed.result ≡ word_rule (codes "seed") = search rules in
    let first = c.in_ok-arg.ensures.shape (search rules) ∙ ap₂ with_rule c.new-3.ensures.app sends_is in
    let is : app_of c.in_ok-command.command ≡ gen_app = c.in_ok-command.ensures.shape (search rules) ∙ ap₂ with_rule first seed_is in
    let other = rw c.kind.ensures at c.in_default.not-OutOfMemory in
    let fault = gen_a_fault _ _ _ is c.in-Err.ensures.kinds in
    λ sends seed taken. fault_found _ _ other fault taken.faults
