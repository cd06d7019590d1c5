-- What the fields of a connection tell of acknowledgements that are asked for.
use Rattle.std.specs.Prelude.{◌≡◌, ℕ, List, length, sum_by}
use Rattle.rds_wire.specs.declared.frame.Frame.{Frame}
use Rattle.rds_model.specs.declared.entry.Entry.{Entry}
use Rattle.rds_model.specs.Owed.{unasked, is_asked, must_ask}
use Rattle.rds_conn.specs.declared.asking.Asking.{Asking}

-- the fields tell what was asked on stream s
pub record IsAsking (s : ℕ) (past : List Entry) (a : Asking) : Type 0 where
  pub count : a.unasked ≡ length (unasked s past)
  pub bytes : a.bytes ≡ sum_by (λ (f : Frame). f.header.len) (unasked s past)
  pub asked : a.is_asked ≡ is_asked s past
  pub must : a.must_ask ≡ must_ask s past
