use Rattle.std.proofs.Common.{◌≡◌, Some, [], ◌∙◌, ap, sym}
use Rattle.rds_model.specs.Owed.{data_frame, owed_after_map}
use Rattle.rds_conn.specs.Connection.{stream_of}
use Rattle.rds_conn.proofs.Mapped.{stream_stays, map_stays_behind, data_no_map, ack_no_map}
use Rattle.rds_conn.proofs.Written.{frame_written, pulls_written}
use Rattle.rds_conn.proofs.conn.Conn.pull_behind.Goals as goal

pub returns-in-Some-next_due-clause-some : goal.returns-in-Some-next_due-clause-some
returns-in-Some-next_due-clause-some c =
    let on = sym (ap stream_of c.self.view_is) ∙ sym c.self.invariant.stream ∙ c.in-Some.is in
    let due = c.in-Some-next_due.ensures c.in-Some.stream on in
    frame_written c.in-Some.stream (data_frame c.in-Some.stream c.args.self.now.log.past c.in-Some-next_due.msg.num due.tells.d) c.args.self.now
    c.pull_data.new.self c.args.out.now c.pull_data.new.out c.pull_data.result (c.pull_data.ensures.owed due.tells.d due.tells.known)

pub returns-in-None-clause-some : goal.returns-in-None-clause-some
returns-in-None-clause-some c =
    pulls_written c.in-Some.stream (owed_after_map c.in-Some.stream c.args.self.now.log.past []) c.args.self.now c.pull_ack.new.self c.args.out.now
    c.pull_ack.new.out c.pull_ack.result c.pull_ack.ensures.owed

pub returns-in-Some-next_due-clause-stream : goal.returns-in-Some-next_due-clause-stream
returns-in-Some-next_due-clause-stream c =
    let on = sym (ap stream_of c.self.view_is) ∙ sym c.self.invariant.stream ∙ c.in-Some.is in
    let due = c.in-Some-next_due.ensures c.in-Some.stream on in
    stream_stays c.in-Some.stream (Some (data_frame c.in-Some.stream c.args.self.now.log.past c.in-Some-next_due.msg.num due.tells.d)) c.args.self.now
    c.pull_data.new.self c.args.out.now c.pull_data.new.out c.pull_data.result (c.pull_data.ensures.owed due.tells.d due.tells.known) c.pull_data.ensures.err

pub returns-in-Some-next_due-clause-map : goal.returns-in-Some-next_due-clause-map
returns-in-Some-next_due-clause-map c = λ s at.
    let on = sym (ap stream_of c.self.view_is) ∙ sym c.self.invariant.stream ∙ c.in-Some.is in
    let both : Some c.in-Some.stream ≡ Some s = sym on ∙ at in
    let one : c.in-Some.stream ≡ s = cc in
    let due = c.in-Some-next_due.ensures c.in-Some.stream on in
    rw (sym one)
    (map_stays_behind c.in-Some.stream (Some (data_frame c.in-Some.stream c.args.self.now.log.past c.in-Some-next_due.msg.num due.tells.d)) c.args.self.now
    c.pull_data.new.self c.args.out.now c.pull_data.new.out c.pull_data.result
    (data_no_map c.in-Some.stream c.in-Some-next_due.msg.num c.args.self.now.log.past due.tells.d due.tells.known)
    (c.pull_data.ensures.owed due.tells.d due.tells.known) c.pull_data.ensures.err)

pub returns-in-None-clause-stream : goal.returns-in-None-clause-stream
returns-in-None-clause-stream c =
    stream_stays c.in-Some.stream (owed_after_map c.in-Some.stream c.args.self.now.log.past []) c.args.self.now c.pull_ack.new.self c.args.out.now
    c.pull_ack.new.out c.pull_ack.result c.pull_ack.ensures.owed c.pull_ack.ensures.err

pub returns-in-None-clause-map : goal.returns-in-None-clause-map
returns-in-None-clause-map c = λ s at.
    let on = sym (ap stream_of c.self.view_is) ∙ sym c.self.invariant.stream ∙ c.in-Some.is in
    let both : Some c.in-Some.stream ≡ Some s = sym on ∙ at in
    let one : c.in-Some.stream ≡ s = cc in
    rw (sym one)
    (map_stays_behind c.in-Some.stream (owed_after_map c.in-Some.stream c.args.self.now.log.past []) c.args.self.now c.pull_ack.new.self c.args.out.now
    c.pull_ack.new.out c.pull_ack.result (ack_no_map c.in-Some.stream c.args.self.now.log.past) c.pull_ack.ensures.owed c.pull_ack.ensures.err)
