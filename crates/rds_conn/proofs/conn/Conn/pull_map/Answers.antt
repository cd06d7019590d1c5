use Rattle.std.proofs.Common.{◌≡◌, ◌++◌, refl, sym, ◌∙◌, ap, arith}
use Rattle.rds_wire.specs.declared.frame.Frame.{Frame}
use Rattle.rds_wire.specs.Bytes.{frame_bytes}
use Rattle.rds_model.specs.Owed.{map_frame, last_map, is_last_map}
use Rattle.rds_model.specs.FrameLaws.{kind_of_map_frame}
use Rattle.rds_conn.specs.Connection.{Connection, stream_of}
use Rattle.rds_conn.specs.Pulling.{name_of_pull}
use Rattle.rds_conn.proofs.KeepsPulls.{keeps_map}
use Rattle.rds_conn.proofs.conn.Conn.pull_map.Goals as goal

pub invariant_of-self : goal.invariant_of-self
invariant_of-self c =
    let spare = ap (λ (v : Connection). v.log.spare) c.self.view_is in
    let frame_is = c.in_ok-frame.ensures c.self.inside.journal.past c.self.invariant.counted.last_is in
    rw (c.push.ensures, frame_is, c.copy_from.ensures, c.after_map-self-inside.ensures)
    (keeps_map c.self.inside c.args.stream c.args.map.now c.self.invariant (omega (arith, spare, c.requires.ready.entries))
    (c.self.invariant.stream ∙ ap stream_of c.self.view_is ∙ c.requires.on) c.known.ensures.map.size c.known.ensures.map.bytes
    (ap (λ (v : Connection). is_last_map (last_map c.args.stream v.log.past) c.args.map.now) c.self.view_is ∙ c.requires.new))

pub returns-clause-owed : goal.returns-clause-owed
returns-clause-owed c =
    let frame_is = c.in_ok-frame.ensures c.self.inside.journal.past c.self.invariant.counted.last_is in
    let bytes : c.append.new.self ≡ c.args.out.now ++ frame_bytes (map_frame c.self.inside.journal.past c.args.map.now) =
    c.in_ok-append.ensures.ok ∙ ap (λ (f : Frame). c.args.out.now ++ frame_bytes f) frame_is in
    rw (← c.self.view_is, c.push.ensures, frame_is)
    (record { entry = refl; bytes = bytes; named = sym (ap name_of_pull (kind_of_map_frame c.self.inside.journal.past c.args.map.now)) })
