-- What a call of a connection leaves of the map that was pulled on its open stream.
use Rattle.std.proofs.Common.{◌≡◌, ℕ, true, Option, Some, None, is_some, List, [], ◌∷◌, refl, ap, ◌∙◌}
use Rattle.std.proofs.lemmas.Bool.{false≢true}
use Rattle.rds_wire.specs.declared.frame.Frame.{Frame}
use Rattle.rds_model.specs.declared.entry.Entry.{Entry}
use Rattle.rds_model.specs.declared.entry.Entry.TheVariants.{Read}
use Rattle.rds_model.specs.declared.entry.Outcome.{Outcome}
use Rattle.rds_model.specs.Legal.{pong_for}
use Rattle.rds_model.specs.Past.{open_stream}
use Rattle.rds_model.specs.Owed.{last_map}
use Rattle.rds_conn.specs.Connection.{Connection, stream_of, with_entries}
use Rattle.rds_conn.specs.Passing.{after_pass, with_pong}
use Rattle.rds_bench_program.specs.Behind.{IsBehind, is_mapped}

-- the open stream and the map that was pulled last on it
pub record Named (c : Connection) : Type 0 where
  pub stream : ℕ
  pub map : List ℕ
  pub on : stream_of c ≡ Some stream
  pub behind : last_map stream c.log.past ≡ Some map

pub named : (c : Connection) → IsBehind c → Named c
named c is = by_stream (stream_of c) refl is
  where
    by_map : (s : ℕ) → stream_of c ≡ Some s → (m : Option (List ℕ)) → last_map s c.log.past ≡ m → is_some m ≡ true → Named c
    by_map s on None at none = absurd (false≢true none)
    by_map s on (Some map) at some = record { stream = s; map = map; on = on; behind = at }

    by_stream : (o : Option ℕ) → stream_of c ≡ o → is_mapped o c.log.past ≡ true → Named c
    by_stream None on none = absurd (false≢true none)
    by_stream (Some s) on some = by_map s on (last_map s c.log.past) refl some

pub unnamed : (c : Connection) (s : ℕ) (map : List ℕ) → stream_of c ≡ Some s → last_map s c.log.past ≡ Some map → IsBehind c
unnamed c s map on behind = ap (λ (o : Option ℕ). is_mapped o c.log.past) on ∙ ap (λ (m : Option (List ℕ)). is_some m) behind

-- the same journal
pub behind_same : (old new : Connection) → new.log.past ≡ old.log.past → IsBehind old → IsBehind new
behind_same old new same b =
    let n = named old b in
    unnamed new n.stream n.map (ap (λ (p : List Entry). open_stream p) same ∙ n.on) (ap (λ (p : List Entry). last_map n.stream p) same ∙ n.behind)

answered : (f : Frame) (came : Outcome) (s : ℕ) (answer : Option ℕ) (old : Connection) → IsBehind old → IsBehind (with_pong answer (record (with_entries (Read s f came ∷ []) old) { waiting = None }))
answered f came s None old b =
    let n = named old b in
    unnamed (record (with_entries (Read s f came ∷ []) old) { waiting = None }) n.stream n.map n.on n.behind
answered f came s (Some port) old b =
    let n = named old b in
    unnamed (with_pong (Some port) (record (with_entries (Read s f came ∷ []) old) { waiting = None })) n.stream n.map n.on n.behind

-- a frame was read, and a pong may stand behind it
pub behind_read : (old new : Connection) (s : ℕ) (f : Frame) (came : Outcome) → new ≡ record (after_pass s f came old) { freed = new.freed } → IsBehind old → IsBehind new
behind_read old new s f came entry b =
    behind_same (after_pass s f came old) new (ap (λ (c : Connection). c.log.past) entry) (answered f came s (pong_for came f.header.sport) old b)
