use Rattle.std.proofs.Common.{◌≡◌, ◌++◌, ◌||◌, true, refl, sym, ◌∙◌, ap, subst, arith, IsSome}
use Rattle.rds_wire.specs.declared.frame.Frame.{Frame}
use Rattle.rds_wire.specs.Bytes.{frame_bytes}
use Rattle.rds_model.specs.Alive.{due_numbers}
use Rattle.rds_model.specs.Owed.{ack_frame, last_map, is_asked, must_ask}
use Rattle.rds_model.specs.FrameLaws.{kind_of_ack_frame}
use Rattle.rds_conn.specs.Connection.{Connection, stream_of}
use Rattle.rds_conn.specs.Pulling.{name_of_pull}
use Rattle.rds_conn.proofs.Owing.{owed_ack}
use Rattle.rds_conn.proofs.KeepsPulls.{keeps_ack, asking_of}
use Rattle.rds_conn.proofs.conn.Conn.pull_ack.Goals as goal

pub invariant_of-self : goal.invariant_of-self
invariant_of-self c =
    let spare = ap (λ (v : Connection). v.log.spare) c.self.view_is in
    let on = c.self.invariant.stream ∙ ap stream_of c.self.view_is ∙ c.requires.on in
    let behind = subst (λ (v : Connection). IsSome (last_map c.args.stream v.log.past)) (sym c.self.view_is) c.requires.behind in
    let none = ap (λ (v : Connection). due_numbers c.args.stream v.log.past) c.self.view_is ∙ c.requires.none in
    let frame_is = c.in_ok-frame.ensures c.self.inside.journal.past c.self.invariant.counted.last_is in
    rw (c.push.ensures, frame_is, c.after_acknowledgement-self-inside.ensures)
    (keeps_ack c.self.inside c.args.stream c.self.invariant (omega (arith, spare, c.requires.ready.entries)) on c.known.ensures.map.size c.known.ensures.map.bytes behind none
    (sym c.owes.ensures ∙ c.if-not-owes.false))

pub returns-clause-owed : goal.returns-clause-owed
returns-clause-owed c =
    let on = c.self.invariant.stream ∙ ap stream_of c.self.view_is ∙ c.requires.on in
    let is = asking_of c.self.inside c.args.stream c.self.invariant on in
    let frame_is = c.in_ok-frame.ensures c.self.inside.journal.past c.self.invariant.counted.last_is
    ∙ ap (ack_frame c.self.inside.journal.past) is.must in
    let asked : (is_asked c.args.stream c.self.inside.journal.past || must_ask c.args.stream c.self.inside.journal.past) ≡ true =
    sym (ap (λ b. b || c.self.inside.asking.must_ask) is.asked ∙ ap (λ b. is_asked c.args.stream c.self.inside.journal.past || b) is.must)
    ∙ sym c.owes.ensures ∙ c.if-not-owes.false in
    let bytes : c.append.new.self ≡ c.args.out.now ++ frame_bytes (ack_frame c.self.inside.journal.past (must_ask c.args.stream c.self.inside.journal.past)) =
    c.in_ok-append.ensures.ok ∙ ap (λ (f : Frame). c.args.out.now ++ frame_bytes f) frame_is in
    rw (← c.self.view_is, c.push.ensures, frame_is, owed_ack c.args.stream c.self.inside.journal.past asked)
    (record { entry = refl; bytes = bytes; named = sym (ap name_of_pull (kind_of_ack_frame c.self.inside.journal.past (must_ask c.args.stream c.self.inside.journal.past))) })
