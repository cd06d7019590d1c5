-- How a journal goes on by an order, by a frame that is pulled, and by one that is read.
use Rattle.std.proofs.Common.{◌≡◌, ℕ, IsSome, IfSome, Option, Some, None, List, [], ◌∷◌, ◌++◌, refl, sym, ap, subst, ◌∙◌, append_assoc}
use Rattle.std.proofs.lemmas.Option.{same_Some}
use Rattle.rds_wire.specs.declared.frame.Frame.{Frame}
use Rattle.rds_wire.specs.Bytes.{frame_bytes}
use Rattle.rds_frame.specs.Holding.{waiting_bytes}
use Rattle.rds_link.specs.Ends.{Means}
use Rattle.rds_model.specs.declared.entry.Entry.{Entry}
use Rattle.rds_model.specs.declared.entry.Entry.TheVariants.{Accept, Cancel, Pull, Read}
use Rattle.rds_model.specs.declared.entry.Outcome.{Outcome}
use Rattle.rds_model.specs.declared.entry.Target.{Target}
use Rattle.rds_model.specs.declared.entry.Target.TheVariants as target
use Rattle.rds_model.specs.declared.entry.TheConstants.{NO_SLOT}
use Rattle.rds_model.specs.declared.order.Order.{Order}
use Rattle.rds_model.specs.declared.order.Order.TheVariants as order
use Rattle.rds_model.specs.Owed.{last_map, owed_frame}
use Rattle.rds_model.specs.Past.{open_stream}
use Rattle.rds_model.specs.Legal.{IsLegal, pong_for}
use Rattle.rds_model.specs.Reading.{verdict_of}
use Rattle.rds_model.specs.Streams.{read_bytes, written_bytes}
use Rattle.rds_model.specs.StreamLaws.{written_pull, written_pull_other, read_read, read_read_other}
use Rattle.rds_conn.specs.Connection.{Connection, stream_of, taken_bytes, with_entries}
use Rattle.rds_conn.specs.Orders.{after_order}
use Rattle.rds_conn.specs.declared.conn.Found.{Found}
use Rattle.rds_conn.specs.declared.conn.Pulled.{Pulled}
use Rattle.rds_conn.specs.Passing.{Passes, after_pass, outcome_of, with_pong}
use Rattle.rds_conn.specs.Pulling.{Pulls}
use Rattle.rds_line_channel.specs.Streams.{StreamsView, AreKept}
use Rattle.rds_line_channel.specs.Carried.{IsCarriedBy}
use Rattle.rds_line_channel.proofs.Carrying.{JournalGoesOn, carried_on}

-- nothing happened
goes_nowhere : (past : List Entry) (arrived out : List ℕ) → JournalGoesOn past past arrived arrived out out
goes_nowhere past arrived out = record {
  stream = refl;
  opened = refl;
  shut = refl;
  refused = λ n. refl;
  written_beside = λ n apart. refl;
  read_beside = λ n apart. refl;
  written = λ n on sent is. is;
  read = λ n on. refl;
  idle = λ none is. is;
}

-- an entry that is neither pulled nor read, and that opens and ends no stream, changes nothing
goes_accepted : {past next : List Entry} {arrived arrived_next out out_next : List ℕ} →
    (slot sport dport : ℕ) (payload : List ℕ) → JournalGoesOn past next arrived arrived_next out out_next →
    JournalGoesOn past (Accept slot sport dport payload ∷ next) arrived arrived_next out out_next
goes_accepted slot sport dport payload goes = record {
  stream = goes.stream;
  opened = goes.opened;
  shut = goes.shut;
  refused = goes.refused;
  written_beside = goes.written_beside;
  read_beside = goes.read_beside;
  written = goes.written;
  read = goes.read;
  idle = goes.idle;
}

goes_cancelled : (slot : ℕ) (target : Target) (past : List Entry) (arrived out : List ℕ) →
    JournalGoesOn past (Cancel slot target ∷ past) arrived arrived out out
goes_cancelled slot target past arrived out = record {
  stream = refl;
  opened = refl;
  shut = refl;
  refused = λ n. refl;
  written_beside = λ n apart. refl;
  read_beside = λ n apart. refl;
  written = λ n on sent is. is;
  read = λ n on. refl;
  idle = λ none is. is;
}

-- a connection's journal went on, where these bytes came and weren't taken
abbrev pub ConnGoesOn : (old new : Connection) (piece out out_next : List ℕ) → Type 0
ConnGoesOn old new piece out out_next =
    JournalGoesOn old.log.past new.log.past (taken_bytes old ++ piece) (taken_bytes new ++ piece) out out_next

-- an order of a socket
goes_order : (o : Order) (c : Connection) (piece out : List ℕ) → ConnGoesOn c (after_order o c) piece out out
goes_order (order.Send slot sport dport payload) c piece out =
    goes_accepted slot sport dport payload (goes_nowhere c.log.past (taken_bytes c ++ piece) out)
goes_order (order.Cancel slot dport) c piece out = goes_cancelled slot (target.Port dport) c.log.past (taken_bytes c ++ piece) out
goes_order (order.CloseSocket slot) c piece out = goes_cancelled slot target.All c.log.past (taken_bytes c ++ piece) out
goes_order order.Cut c piece out = goes_nowhere c.log.past (taken_bytes c ++ piece) out

pub goes_ordered : (o : Order) (old new : Connection) (piece out : List ℕ) →
    new ≡ record (after_order o old) { freed = new.freed } → ConnGoesOn old new piece out out
goes_ordered o old new piece out is =
    let next : Connection = record (after_order o old) { freed = new.freed } in
    subst (λ (c : Connection). ConnGoesOn old c piece out out) (sym {b = next} is) (goes_order o old piece out)

-- a frame that is pulled on the open stream
goes_pulled : (s : ℕ) (f : Frame) (past : List Entry) (arrived out : List ℕ) → open_stream past ≡ Some s →
    JournalGoesOn past (Pull s f ∷ past) arrived arrived out (out ++ frame_bytes f)
goes_pulled s f past arrived out current = record {
  stream = refl;
  opened = refl;
  shut = refl;
  refused = λ n. refl;
  written_beside = λ n apart. written_pull_other n s f past (λ same. apart (current ∙ ap Some same));
  read_beside = λ n apart. refl;
  written = λ n on sent is.
      let same : s ≡ n = same_Some s n (sym current ∙ on) in
      let more : sent ++ (out ++ frame_bytes f) ≡ written_bytes n past ++ frame_bytes f =
      sym (append_assoc sent out (frame_bytes f)) ∙ ap (λ l. l ++ frame_bytes f) is in
      more ∙ sym (ap (λ k. written_bytes n (Pull k f ∷ past)) same ∙ written_pull n f past);
  read = λ n on. refl;
  idle = λ none. absurd (cc);
}

-- a frame that is read of the open stream
goes_read : (s : ℕ) (f : Frame) (o : Outcome) (past : List Entry) (after out : List ℕ) →
    IsLegal past → open_stream past ≡ Some s →
    JournalGoesOn past (Read s f o ∷ past) (frame_bytes f ++ after) after out out
goes_read s f o past after out legal current = record {
  stream = refl;
  opened = refl;
  shut = refl;
  refused = λ n. refl;
  written_beside = λ n apart. refl;
  read_beside = λ n apart. read_read_other n s f o past (λ same. apart (current ∙ ap Some same));
  written = λ n on sent is. is;
  read = λ n on.
      let same : s ≡ n = same_Some s n (sym current ∙ on) in
      let more : read_bytes n (Read s f o ∷ past) ≡ read_bytes n past ++ frame_bytes f =
      ap (λ k. read_bytes n (Read k f o ∷ past)) same ∙ read_read n f o past legal on in
      sym (append_assoc (read_bytes n past) (frame_bytes f) after) ∙ ap (λ l. l ++ after) (sym more);
  idle = λ none. absurd (cc);
}

-- and the pong directly behind it, if one is owed
goes_pong : (port : Option ℕ) (old c : Connection) (piece arrived out : List ℕ) →
    JournalGoesOn old.log.past c.log.past arrived (taken_bytes c ++ piece) out out →
    JournalGoesOn old.log.past (with_pong port c).log.past arrived (taken_bytes (with_pong port c) ++ piece) out out
goes_pong None old c piece arrived out goes = goes
goes_pong (Some port) old c piece arrived out goes = goes_accepted NO_SLOT 0 port [] goes

-- a frame that waited is passed
goes_waiting : (s : ℕ) (f : Frame) (o : Outcome) (c : Connection) (piece out : List ℕ) →
    IsLegal c.log.past → stream_of c ≡ Some s → c.waiting ≡ Some f → ConnGoesOn c (after_pass s f o c) piece out out
goes_waiting s f o c piece out legal current waits =
    let next : Connection = record (with_entries (Read s f o ∷ []) c) { waiting = None } in
    let whole : frame_bytes f ++ (c.rest ++ piece) ≡ taken_bytes c ++ piece =
    sym (append_assoc (frame_bytes f) c.rest piece) ∙ ap (λ w. (waiting_bytes w ++ c.rest) ++ piece) (sym waits) in
    goes_pong (pong_for o f.header.sport) c next piece (taken_bytes c ++ piece) out
    (subst (λ arrived. JournalGoesOn c.log.past (Read s f o ∷ c.log.past) arrived (c.rest ++ piece) out out) whole
    (goes_read s f o c.log.past (c.rest ++ piece) out legal current))

pub goes_passed : (came : Found) (old new : Connection) (piece out : List ℕ) →
    IsLegal old.log.past → Passes came old new → ConnGoesOn old new piece out out
goes_passed came old new piece out legal did =
    let o = outcome_of (verdict_of old.log.past did.frame.header) came in
    let next : Connection = record (after_pass did.stream did.frame o old) { freed = new.freed } in
    subst (λ (c : Connection). ConnGoesOn old c piece out out) (sym {b = next} did.entry)
    (goes_waiting did.stream did.frame o old piece out legal did.on did.waits)

-- where the connection stays, and what is to be written
pub goes_same : (old new : Connection) (piece out out_new : List ℕ) → new ≡ old → out_new ≡ out →
    ConnGoesOn old new piece out out_new
goes_same old new piece out out_new same no_bytes =
    subst (λ (c : Connection). ConnGoesOn old c piece out out_new) (sym same)
    (subst (λ l. ConnGoesOn old old piece out l) (sym no_bytes) (goes_nowhere old.log.past (taken_bytes old ++ piece) out))

-- a pull where this is owed to the open stream
goes_owed : (s : ℕ) (owed : Option Frame) (old new : Connection) (piece out out_new : List ℕ) (came : Pulled) →
    stream_of old ≡ Some s → Pulls s owed old new out out_new came → ConnGoesOn old new piece out out_new
goes_owed s None old new piece out out_new came current did =
    goes_same old new piece out out_new did.same did.no_bytes
goes_owed s (Some f) old new piece out out_new came current did =
    subst (λ (c : Connection). ConnGoesOn old c piece out out_new) (sym did.entry)
    (subst (λ l. ConnGoesOn old (with_entries (Pull s f ∷ []) old) piece out l) (sym did.bytes)
    (goes_pulled s f old.log.past (taken_bytes old ++ piece) out current))

-- a pull with the host's own map
pub goes_pull : (current : Option ℕ) (map : List ℕ) (old new : Connection) (piece out out_new : List ℕ) (came : Pulled) →
    stream_of old ≡ current →
    IfSome current (λ s. Pulls s (owed_frame s old.log.past map) old new out out_new came) →
    (current ≡ None → (new ≡ old) × (out_new ≡ out)) → ConnGoesOn old new piece out out_new
goes_pull None map old new piece out out_new came same did still =
    goes_same old new piece out out_new (still refl).0 (still refl).1
goes_pull (Some s) map old new piece out out_new came same did still =
    goes_owed s (owed_frame s old.log.past map) old new piece out out_new came same did

-- a pull with the map that was pulled last
pub goes_behind : (current : Option ℕ) (old new : Connection) (piece out out_new : List ℕ) (came : Pulled) →
    stream_of old ≡ current → IsSome current → IfSome current (λ s. IsSome (last_map s old.log.past)) →
    ((s : ℕ) (map : List ℕ) → stream_of old ≡ Some s → last_map s old.log.past ≡ Some map →
    Pulls s (owed_frame s old.log.past map) old new out out_new came) →
    ConnGoesOn old new piece out out_new
goes_behind None old new piece out out_new came same some behind did = absurd (cc)
goes_behind (Some s) old new piece out out_new came same some behind did = go (last_map s old.log.past) refl behind
  where
    go : (o : Option (List ℕ)) → last_map s old.log.past ≡ o → IsSome o → ConnGoesOn old new piece out out_new
    go None is has = absurd (cc)
    go (Some map) is has =
        goes_owed s (owed_frame s old.log.past map) old new piece out out_new came same (did s map same is)

-- the connection's journal went on, and the streams stay
pub carried_conn : {E : Type 0} (m : Means E) (s : StreamsView E) (old new : Connection) (piece out out_new cuts : List ℕ) →
    AreKept m s → ConnGoesOn old new piece out out_new → IsCarriedBy m old.log.past (taken_bytes old ++ piece) out s cuts →
    IsCarriedBy m new.log.past (taken_bytes new ++ piece) out_new s cuts
carried_conn m s old new piece out out_new cuts kept goes was =
    let arrived = taken_bytes old ++ piece in
    let arrived_new = taken_bytes new ++ piece in
    carried_on m s old.log.past new.log.past arrived arrived_new out out_new cuts kept goes was
