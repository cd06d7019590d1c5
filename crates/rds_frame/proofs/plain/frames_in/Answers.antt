use Rattle.std.proofs.Common.{◌≡◌, ◌∙◌, ◌+◌, ap, drop, length}
use Rattle.std.proofs.lemmas.List.{take_rest}
use Rattle.rds_frame.proofs.Feeding.{frames_bytes-more, Splits-sound_only}
use Rattle.rds_frame.proofs.plain.frames_in.Goals as goal

pub loop-frames-preserved : goal.loop-frames-preserved
loop-frames-preserved c =
    let loop = c.loop-frames in
    let rest = loop.rest.now in
    let f = c.in-Some.frame in
    let found = c.in_ok-frame.ensures {u = tt} in
    let first = rw c.in-Some.is at found.found in
    let pushed = c.in_ok-push.ensures {u = tt} in
    let n : 48 + c.len.result ≡ 48 + length f.payload = ap (λ k. 48 + k) c.len.ensures.len in
    frames_bytes-more c.args.highest c.args.known c.args.bytes.now rest _ loop.frames.items c.push.new.self.items f (48 + length f.payload)
    loop.invariant.0 loop.invariant.1 first.0 first.2 pushed.items
    (take_rest rest (48 + c.len.result) ∙ ap (λ k. drop k rest) n)

pub returns-clause-only : goal.returns-clause-only
returns-clause-only c =
    let loop = c.loop-frames in
    let found = c.in_ok-frame.ensures {u = tt} in
    let partial = rw c.in_default.is at found.found in
    Splits-sound_only c.args.highest c.args.known c.args.bytes.now loop.rest.now loop.frames.items loop.invariant.0 loop.invariant.1 partial
