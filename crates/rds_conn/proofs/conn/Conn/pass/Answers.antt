use Rattle.rds_conn.proofs.Passing.{passes_of}
use Rattle.rds_conn.proofs.conn.Conn.pass.Goals as goal

pub returns : goal.returns
returns g c = record {
  passes = passes_of c.args.found c.args.self.now c.pass_found.new.self c.pass_found.ensures.on c.requires.waiting c.known.ensures.sound
      c.known-2.ensures.whole c.pass_found.ensures.entry c.pass_found.ensures.freed;
  few = c.pass_found.ensures.few;
}
