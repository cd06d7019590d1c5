-- A frame that is pulled has bytes.
use Rattle.std.proofs.Common.{◌≡◌, ◌≢◌, ℕ, ◌≤◌, true, false, Option, Some, None, List, [], length, sym, ◌∙◌, ap, arith, length-append}
use Rattle.std.specs.Prelude.{Result, Ok, Err, IfOk}
use Rattle.rds_wire.specs.declared.frame.Frame.{Frame}
use Rattle.rds_wire.specs.declared.header.Header.{Header}
use Rattle.rds_wire.specs.Bytes.{header_bytes, frame_bytes}
use Rattle.rds_conn.specs.declared.conn.ConnError.{ConnError}
use Rattle.rds_conn.specs.declared.conn.Pulled.{Pulled}
use Rattle.rds_conn.specs.Connection.{Connection}
use Rattle.rds_conn.specs.Pulling.{Pulls, PullsFrame, is_frame}

header_some : (h : Header) → 8 ≤ length (header_bytes h)
unfolding header_bytes
header_some h = simp length-append (omega arith)

written : (s : ℕ) (f : Frame) (old new : Connection) (out_old out_new : List ℕ) (came : Pulled) →
    PullsFrame s f old new out_old out_new came → out_new ≢ []
written s f old new out_old out_new came pulls none =
    let len = ap length (sym pulls.bytes ∙ none) in
    let back = length-append out_old (frame_bytes f) in
    let front = length-append (header_bytes f.header) f.payload in
    omega (arith, len, back, front, header_some f.header)

-- where a frame was pulled, its bytes are there
pub frame_written : (s : ℕ) (f : Frame) (old new : Connection) (out_old out_new : List ℕ) (result : Result Pulled ConnError) →
    IfOk result (PullsFrame s f old new out_old out_new) → IfOk result (λ came. is_frame came ≡ true → out_new ≢ [])
frame_written s f old new out_old out_new (Ok came) pulls = λ _. written s f old new out_old out_new came pulls
frame_written s f old new out_old out_new (Err e) pulls = tt

-- and where none is owed, none is named
pub pulls_written : (s : ℕ) (o : Option Frame) (old new : Connection) (out_old out_new : List ℕ) (result : Result Pulled ConnError) →
    IfOk result (Pulls s o old new out_old out_new) → IfOk result (λ came. is_frame came ≡ true → out_new ≢ [])
pulls_written s (Some f) old new out_old out_new result pulls = frame_written s f old new out_old out_new result pulls
pulls_written s None old new out_old out_new (Ok came) pulls = λ is. (let never : false ≡ true = sym (ap is_frame pulls.named) ∙ is in cc)
pulls_written s None old new out_old out_new (Err e) pulls = tt
