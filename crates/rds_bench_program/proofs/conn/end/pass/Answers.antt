use Rattle.rds_bench_program.proofs.Slots.{slots_read}
use Rattle.rds_bench_program.proofs.Mapped.{behind_read}
use Rattle.rds_bench_program.proofs.conn.end.pass.Goals as goal

pub returns : goal.returns
returns c =
    let p = c.pass_uncounted.ensures.passes in
    record {
      slots = slots_read c.args.conn.now c.pass_uncounted.new.self p.stream p.frame _ p.entry;
      behind = behind_read c.args.conn.now c.pass_uncounted.new.self p.stream p.frame _ p.entry;
    }
