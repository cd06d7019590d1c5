use Rattle.std.proofs.Common.{◌≡◌, Some, IfSome, sym, ◌∙◌, ap, subst}
use Rattle.std.specs.Prelude.{OnOk}
use Rattle.rds_model.specs.Owed.{last_map, map_frame}
use Rattle.rds_conn.specs.Connection.{stream_of}
use Rattle.rds_conn.proofs.Mapped.{stream_stays, map_pulled}
use Rattle.rds_conn.proofs.Written.{frame_written}
use Rattle.rds_conn.proofs.conn.Conn.pull.Goals as goal

pub returns-then-not-has_pulled-clause-some : goal.returns-then-not-has_pulled-clause-some
returns-then-not-has_pulled-clause-some c =
    frame_written c.in-Some.stream (map_frame c.args.self.now.log.past c.args.map.now) c.args.self.now c.pull_map.new.self c.args.out.now c.pull_map.new.out
    c.pull_map.result c.pull_map.ensures.owed

pub returns-then-not-has_pulled-clause-stream : goal.returns-then-not-has_pulled-clause-stream
returns-then-not-has_pulled-clause-stream c =
    stream_stays c.in-Some.stream (Some (map_frame c.args.self.now.log.past c.args.map.now)) c.args.self.now c.pull_map.new.self c.args.out.now
    c.pull_map.new.out c.pull_map.result c.pull_map.ensures.owed c.pull_map.ensures.err

pub returns-then-not-has_pulled-clause-behind : goal.returns-then-not-has_pulled-clause-behind
returns-then-not-has_pulled-clause-behind c =
    let on = sym (ap stream_of c.self.view_is) ∙ sym c.self.invariant.stream ∙ c.in-Some.is in
    subst (λ o. IfSome o (λ s. OnOk c.pull_map.result (last_map s c.pull_map.new.self.log.past ≡ Some c.args.map.now))) (sym on)
    (map_pulled c.in-Some.stream c.args.map.now c.args.self.now c.pull_map.new.self c.args.out.now c.pull_map.new.out c.pull_map.result c.pull_map.ensures.owed)
