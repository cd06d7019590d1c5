use Rattle.std.proofs.Common.{◌≡◌, ap, ◌∙◌, sym}
use Rattle.rds_model.specs.declared.entry.Verdict.{Verdict}
use Rattle.rds_model.specs.Reading.{verdict_of}
use Rattle.rds_conn.specs.Passing.{outcome_of}
use Rattle.rds_conn.proofs.Outcomes.{verdict_there}
use Rattle.rds_conn.proofs.conn.Conn.pass_found.Goals as goal

pub returns-in_default-verdict-clause-entry : goal.returns-in_default-verdict-clause-entry
returns-in_default-verdict-clause-entry g c = λ s f on waiting.
    let verdict_is = verdict_there c.args.self.now.log.past c.args.self.now.waiting c.in-Some.verdict f c.in-Some.ensures waiting in
    let outcome_is : c.outcome_of.result ≡ outcome_of (verdict_of c.args.self.now.log.past f.header) c.args.found =
    c.outcome_of.ensures ∙ ap (λ (v : Verdict). outcome_of v c.args.found) verdict_is in
    rw (sym outcome_is) (c.pass_as.ensures.entry s f on waiting)
