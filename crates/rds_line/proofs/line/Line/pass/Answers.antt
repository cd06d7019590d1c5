use Rattle.std.proofs.Common.{◌≢◌, ℕ, refl, ◌∙◌}
use Rattle.rds_model.specs.declared.entry.Verdict.TheVariants as verdict
use Rattle.rds_model.specs.Reading.{verdict_of}
use Rattle.rds_conn.specs.declared.conn.Found.TheVariants as found
use Rattle.rds_conn.specs.Passing.{outcome_of}
use Rattle.rds_line.proofs.Passing.{keeps_passed}
use Rattle.rds_line.proofs.Delivering.{passes_quietly, unasked_kept, unasked_looks, unmapped}
use Rattle.rds_line.proofs.FrameActs.{passed_past, unasked_acts, unasked_port}
use Rattle.rds_line.proofs.Verdicts.{verdict_there}
use Rattle.rds_line.proofs.Fields.{view_in}
use Rattle.rds_line.proofs.Quiet.{quiet_inside}
use Rattle.rds_line.proofs.StaysPassed.{passed_one, passed_stays}
use Rattle.rds_line.proofs.line.Line.pass.Goals as goal

pub invariant_of-self : goal.invariant_of-self
invariant_of-self g c =
    let i = c.self.inside in
    let published = g.M.MapWriter.published in
    let past = i.channel.conn.log.past in
    let p = c.pass.ensures.passes in
    let v = verdict_of past p.frame.header in
    let there = verdict_there past i.channel.conn.waiting c.in-Some.verdict p.frame c.in-Some.ensures p.waits in
    let unread : v ≢ verdict.Map = λ is. c.in_default-verdict.not-Map (there ∙ is) in
    let undelivered : (port : ℕ) → v ≢ verdict.Deliver port = λ port is. c.in_default-verdict.not-Deliver port (there ∙ is) in
    keeps_passed published i.own_pulled
    (passes_quietly published found.Unasked _ _ p (outcome_of v found.Unasked) refl (unasked_kept v) (unmapped v unread)
    c.pass.ensures.rest refl (unasked_looks v undelivered p.stream p.frame past i.ports.view.steps)
    (unasked_acts (view_in i) (record (view_in i) { channel = c.pass.new.self }) v undelivered p.stream p.frame refl refl refl) refl)
    c.self.invariant

pub returns-in_default-verdict : goal.returns-in_default-verdict
returns-in_default-verdict g c =
    let i = c.self.inside in
    let past = i.channel.conn.log.past in
    let p = c.pass.ensures.passes in
    let v = verdict_of past p.frame.header in
    let there = verdict_there past i.channel.conn.waiting c.in-Some.verdict p.frame c.in-Some.ensures p.waits in
    let undelivered : (port : ℕ) → v ≢ verdict.Deliver port = λ port is. c.in_default-verdict.not-Deliver port (there ∙ is) in
    record {
      quiet =
          quiet_inside (view_in i) c.args.self.now c.self.view_is c.pass.new.self (passed_stays p c.pass.ensures.rest)
          (passed_past p (unasked_port v undelivered p.stream p.frame));
      passed = passed_one c.self.view_is c.pass.new.self p c.pass.ensures.rest;
      err = tt;
    }
