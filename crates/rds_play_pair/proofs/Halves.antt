-- What the calls of a connection do to one end.
use Rattle.std.proofs.Common.{◌≡◌, ℕ, Option, Some, None, IfSome, List, [], ◌∷◌, ◌++◌, refl, sym, ◌∙◌, ap, subst}
use Rattle.std.specs.Option.{option_map}
use Rattle.rds_wire.specs.declared.frame.Frame.{Frame}
use Rattle.rds_model.specs.declared.entry.Entry.TheVariants.{Read}
use Rattle.rds_model.specs.declared.entry.Outcome.{Outcome}
use Rattle.rds_model.specs.declared.entry.Verdict.{Verdict}
use Rattle.rds_model.specs.Owed.{owed_frame}
use Rattle.rds_model.specs.Reading.{verdict_of}
use Rattle.rds_model.specs.Legal.{pong_for}
use Rattle.rds_conn.specs.declared.conn.Found.{Found}
use Rattle.rds_conn.specs.declared.conn.Pulled.{Pulled}
use Rattle.rds_conn.specs.Connection.{Connection, with_entries, stream_of}
use Rattle.rds_conn.specs.Pulling.{Pulls}
use Rattle.rds_conn.specs.Passing.{Passes, with_pong, outcome_of}
use Rattle.rds_play_pair.specs.Half.{side}
use Rattle.rds_play_pair.specs.Changes.{found_for, passed, passed_on, pulled, with_pull, with_owed_on, pong_entries, read_as}

-- a pull
pub pulled_side : (old new : Connection) (out out_new map : List ℕ) (came : Pulled) →
    (stream_of old ≡ None → (new ≡ old) × (out_new ≡ out)) →
    IfSome (stream_of old) (λ s. Pulls s (owed_frame s old.log.past map) old new out out_new came) →
    side new out_new ≡ pulled map (side old out)
pulled_side old new out out_new map came still pulls = by_stream (stream_of old) refl pulls
  where
    by_owed : (s : ℕ) (o : Option Frame) → Pulls s o old new out out_new came → side new out_new ≡ with_pull s o (side old out)
    by_owed s None pulls = λ i. side (pulls.same i) (pulls.no_bytes i)
    by_owed s (Some f) pulls = λ i. side (pulls.entry i) (pulls.bytes i)

    by_stream : (o : Option ℕ) → stream_of old ≡ o →
        IfSome o (λ s. Pulls s (owed_frame s old.log.past map) old new out out_new came) →
        side new out_new ≡ with_owed_on o map (side old out)
    by_stream None closed pulls = let same = still closed in λ i. side (same.0 i) (same.1 i)
    by_stream (Some s) on pulls = by_owed s (owed_frame s old.log.past map) pulls

-- a frame was read on a stream, and a pong may stand behind it
read_side : (old : Connection) (out freed : List ℕ) (s : ℕ) (f : Frame) (came : Outcome) (o : Option ℕ) →
    side (record (with_pong o (record (with_entries (Read s f came ∷ []) old) { waiting = None })) { freed = freed }) out
    ≡ record (side old out) { past = pong_entries o ++ Read s f came ∷ old.log.past; waiting = None }
read_side old out freed s f came None = refl
read_side old out freed s f came (Some port) = refl

-- the frame that waits was passed, as the slot says
pub passed_side : (old new : Connection) (out : List ℕ) (slot : Option ℕ) (verdict : Verdict) (found : Found) →
    option_map (λ (f : Frame). verdict_of old.log.past f.header) old.waiting ≡ Some verdict → found ≡ found_for old.slots slot verdict →
    Passes found old new → side new out ≡ passed slot (side old out)
passed_side old new out slot verdict found verdict_is found_is p =
    let s : ℕ = p.stream in
    let f : Frame = p.frame in
    let shown : Some (verdict_of old.log.past f.header) ≡ Some verdict =
    sym (ap (option_map (λ (g : Frame). verdict_of old.log.past g.header)) p.waits) ∙ verdict_is in
    let verdict_there : verdict ≡ verdict_of old.log.past f.header = cc in
    let came : Found → Outcome = outcome_of (verdict_of old.log.past f.header) in
    let read : side new out ≡ read_as s f (came (found_for old.slots slot (verdict_of old.log.past f.header))) (side old out) =
    ap (λ (c : Connection). side c out) p.entry
    ∙ read_side old out new.freed s f (came found) (pong_for (came found) f.header.sport)
    ∙ ap (λ (n : Found). read_as s f (came n) (side old out)) (found_is ∙ ap (found_for old.slots slot) verdict_there) in
    subst (λ o. side new out ≡ passed_on o old.waiting slot (side old out)) (sym p.on)
    (subst (λ w. side new out ≡ passed_on (Some s) w slot (side old out)) (sym p.waits) read)
