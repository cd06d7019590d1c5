-- What the passing of a frame does, in one record.
use Rattle.std.proofs.Common.{◌≡◌, ℕ, ◌+◌, ◌<◌, Bool, true, false, cond, ◌==◌, Option, Some, None, IfSome, List, [], ◌∷◌, refl, sym, ap, subst, arith}
use Rattle.std.specs.Prelude.{IsSome}
use Rattle.rds_wire.specs.declared.frame.Frame.{Frame}
use Rattle.rds_frame.specs.Splitting.{IsSound}
use Rattle.rds_model.specs.declared.entry.Entry.{Entry}
use Rattle.rds_model.specs.declared.entry.Entry.TheVariants.{Read}
use Rattle.rds_model.specs.declared.entry.Outcome.{Outcome}
use Rattle.rds_model.specs.declared.entry.TheConstants.{NO_SLOT}
use Rattle.rds_model.specs.Past.{highest_pulled}
use Rattle.rds_model.specs.Reading.{verdict_of}
use Rattle.rds_model.specs.Legal.{IsLegal, IsWhole, pong_for}
use Rattle.rds_conn.specs.declared.conn.Found.{Found}
use Rattle.rds_conn.specs.Connection.{Connection, freed_bytes_of, with_entries, stream_of}
use Rattle.rds_conn.specs.Released.{released_bytes}
use Rattle.rds_model.specs.Alive.{alive_bytes}
use Rattle.rds_conn.specs.Passing.{Passes, with_pong, outcome_of, after_pass}
use Rattle.rds_conn.proofs.ReleasedBytes.{gone_after_read, gone_after_accept, alive_bytes_after_accept, conserved_by}
use Rattle.rds_conn.proofs.KeepsPassing.{of_some}

-- the item of an option that has one
pub some_of : {X : Type 0} (o : Option X) → IsSome o → (x : X) × (o ≡ Some x)
some_of None is = cc
some_of (Some x) is = (x, refl)

none_either : (b : Bool) → ◌≡◌ {A = ℕ} (cond b 0 0) 0
none_either true = refl
none_either false = refl

-- a reading, and the pong that may stand behind it, leave what is held, gone or alive in balance
balanced : (e s : ℕ) (f : Frame) (came : Outcome) (old : Connection) (held_later : ℕ) (o : Option ℕ) →
    IsLegal (with_pong o (record (with_entries (Read s f came ∷ []) old) { waiting = None })).log.past →
    held_later + released_bytes e old.log.past ≡ freed_bytes_of e old + released_bytes e (with_pong o (record (with_entries (Read s f came ∷ []) old) { waiting = None })).log.past →
    held_later + alive_bytes e (with_pong o (record (with_entries (Read s f came ∷ []) old) { waiting = None })).log.past ≡ freed_bytes_of e old + alive_bytes e old.log.past
balanced e s f came old held_later None legal freed =
    conserved_by e old.log.past (Read s f came ∷ old.log.past) (freed_bytes_of e old) held_later freed (gone_after_read s e f came old.log.past)
balanced e s f came old held_later (Some port) legal freed =
    let past : List Entry = Read s f came ∷ old.log.past in
    let same = gone_after_accept e NO_SLOT 0 port [] past legal.1 in
    let more = alive_bytes_after_accept e NO_SLOT 0 port [] past legal.1 in
    let none = none_either (NO_SLOT == e) in
    let before : held_later + released_bytes e old.log.past ≡ freed_bytes_of e old + released_bytes e past = omega (arith, freed, same) in
    let read = conserved_by e old.log.past past (freed_bytes_of e old) held_later before (gone_after_read s e f came old.log.past) in
    omega (arith, read, more, none)

pub passes_of : (came : Found) (old new : Connection) → IsSome (stream_of old) → IsSome old.waiting →
    IfSome old.waiting (IsSound (highest_pulled old.log.past) 0) → IsWhole new.log.past →
    ((s : ℕ) (f : Frame) → stream_of old ≡ Some s → old.waiting ≡ Some f →
    new ≡ record (after_pass s f (outcome_of (verdict_of old.log.past f.header) came) old) { freed = new.freed }) →
    ((slot : ℕ) → slot < old.slots → freed_bytes_of slot new + released_bytes slot old.log.past ≡ freed_bytes_of slot old + released_bytes slot new.log.past) →
    Passes came old new
passes_of came old new on waits sound whole entry freed =
    let stream = some_of (stream_of old) on in
    let frame = some_of old.waiting waits in
    let o : Outcome = outcome_of (verdict_of old.log.past frame.0.header) came in
    let is = entry stream.0 frame.0 stream.1 frame.1 in
    let past_is : new.log.past ≡ (after_pass stream.0 frame.0 o old).log.past = ap (λ (c : Connection). c.log.past) is in
    record {
      stream = stream.0;
      frame = frame.0;
      on = stream.1;
      waits = frame.1;
      sound = of_some (IsSound (highest_pulled old.log.past) 0) old.waiting frame.0 frame.1 sound;
      legal = whole;
      entry = is;
      accounts = freed;
      conserved = λ e within.
          subst (λ (past : List Entry). freed_bytes_of e new + alive_bytes e past ≡ freed_bytes_of e old + alive_bytes e old.log.past) (sym past_is)
          (balanced e stream.0 frame.0 o old (freed_bytes_of e new) (pong_for o frame.0.header.sport)
          (subst IsLegal past_is whole.legal)
          (subst (λ (past : List Entry). freed_bytes_of e new + released_bytes e old.log.past ≡ freed_bytes_of e old + released_bytes e past) past_is (freed e within)));
    }
