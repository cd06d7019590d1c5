use Rattle.std.proofs.Common.{ap, ◌∙◌, arith}
use Rattle.rds_conn.specs.Connection.{Connection, stream_of}
use Rattle.rds_model.specs.Past.{newest_stream}
use Rattle.rds_conn.proofs.KeepsStreams.{keeps_open}
use Rattle.rds_conn.proofs.conn.Conn.open.Goals as goal

pub invariant_of-self : goal.invariant_of-self
invariant_of-self c =
    let view = c.self.view_is in
    rw (c.push.ensures, c.new-self-inside.ensures)
    (keeps_open c.self.inside c.args.stream c.self.invariant (let spare = ap (λ (v : Connection). v.log.spare) view in omega (arith, spare, c.requires.ready.entries)) (ap stream_of view ∙ c.requires.closed)
    (let newest = ap (λ (v : Connection). newest_stream v.log.past) view in omega (arith, newest, c.requires.newer)))
