-- No call of a connection changes how many slots its host has.
use Rattle.std.proofs.Common.{◌≡◌, ℕ, Option, Some, None, List, [], ◌∷◌, refl, ap}
use Rattle.rds_wire.specs.declared.frame.Frame.{Frame}
use Rattle.rds_wire.specs.declared.kind.Malformed.{Malformed}
use Rattle.rds_model.specs.declared.entry.Entry.TheVariants.{Read}
use Rattle.rds_model.specs.declared.entry.Outcome.{Outcome}
use Rattle.rds_model.specs.Legal.{pong_for}
use Rattle.rds_conn.specs.declared.conn.ConnError.{ConnError}
use Rattle.rds_conn.specs.declared.conn.ConnError.TheVariants as errors
use Rattle.rds_conn.specs.Connection.{Connection, with_entries, stream_of}
use Rattle.rds_conn.specs.Feeding.{RefusesHeader}
use Rattle.rds_conn.specs.declared.conn.Pulled.{Pulled}
use Rattle.rds_conn.specs.Passing.{with_pong, after_pass}
use Rattle.rds_conn.specs.Pulling.{Pulls}

-- a connection that is the same has the same
pub slots_of : (old new : Connection) → new ≡ old → new.slots ≡ old.slots
slots_of old new same = ap (λ (c : Connection). c.slots) same

-- whatever a piece was refused for
pub slots_unfed : (piece : List ℕ) (old new : Connection) (e : ConnError) →
    ((fault : Malformed) → e ≡ errors.Malformed fault → RefusesHeader piece fault old new) →
    (e ≡ errors.Closed → stream_of old ≡ None) → (stream_of old ≡ None → new ≡ old) →
    (e ≡ errors.Memory → new ≡ old) → ((entries : ℕ) → e ≡ errors.Spent entries → ⊥) → new.slots ≡ old.slots
slots_unfed piece old new errors.Memory malformed closed still memory spent = slots_of old new (memory refl)
slots_unfed piece old new (errors.Malformed fault) malformed closed still memory spent =
    ap (λ (c : Connection). c.slots) (malformed fault refl).entry
slots_unfed piece old new (errors.Spent entries) malformed closed still memory spent = absurd (spent entries refl)
slots_unfed piece old new errors.Closed malformed closed still memory spent = slots_of old new (still (closed refl))

slots_answered : (c : Connection) (answer : Option ℕ) → (with_pong answer c).slots ≡ c.slots
slots_answered c None = refl
slots_answered c (Some port) = refl

-- a frame was read, and a pong may stand behind it
pub slots_read : (old new : Connection) (k : ℕ) (f : Frame) (came : Outcome) →
    new ≡ record (after_pass k f came old) { freed = new.freed } → new.slots ≡ old.slots
slots_read old new k f came entry =
    let after : new.slots ≡ (after_pass k f came old).slots = ap (λ (c : Connection). c.slots) entry in
    let before : (after_pass k f came old).slots ≡ old.slots =
    slots_answered (record (with_entries (Read k f came ∷ []) old) { waiting = None }) (pong_for came f.header.sport) in
    cc

-- a frame was pulled, or none was owed
pub slots_pulled : (s : ℕ) (owed : Option Frame) (old new : Connection) (out_old out_new : List ℕ) (came : Pulled) →
    Pulls s owed old new out_old out_new came → new.slots ≡ old.slots
slots_pulled s None old new out_old out_new came pulls = ap (λ (c : Connection). c.slots) pulls.same
slots_pulled s (Some f) old new out_old out_new came pulls = ap (λ (c : Connection). c.slots) pulls.entry
