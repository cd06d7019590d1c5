use Rattle.std.proofs.Common.{Err, ap, rules}
use Rattle.rds_bench_program.proofs.Slots.{slots_unfed}
use Rattle.rds_bench_program.proofs.conn.end.feed.Goals as goal

pub returns-in_err-fed : goal.returns-in_err-fed
returns-in_err-fed c = record {
  slots = slots_unfed c.rest.result.now c.args.conn.now c.feed.new.self c.in_err-fed.field-0.0
      (λ fault is. c.in_err-fed.ensures.malformed fault (ap Err is))
      (λ is. c.in_err-fed.ensures.closed.0 (ap Err is))
      c.in_err-fed.ensures.closed_still
      (λ is. c.in_err-fed.ensures.memory (ap Err is))
      (λ entries is. c.in_err-fed.ensures.spent entries (ap Err is));
  behind = search rules;
}
