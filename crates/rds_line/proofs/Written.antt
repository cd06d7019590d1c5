-- What a line keeps when it writes to its open stream or reads from it, and when that stream is over.
use Rattle.std.proofs.Common.{◌≡◌, ◌≢◌, ℕ, zero, suc, ◌<◌, ◌≤◌, Bool, Option, Some, None, IsSome, List, [], ◌∷◌, ◌++◌, append_assoc, take, length, true, refl, sym, subst, ap, ◌∙◌, arith}
use Rattle.rds_link.specs.declared.end.Got.{Got}
use Rattle.rds_link.specs.declared.end.Got.TheVariants as got
use Rattle.rds_link.specs.declared.end.Put.{Put}
use Rattle.rds_link.specs.declared.end.Put.TheVariants as put
use Rattle.rds_link.specs.Ends.{Means}
use Rattle.rds_model.specs.declared.entry.Entry.TheVariants as entry
use Rattle.rds_conn.specs.Connection.{Connection, stream_of, with_entries, with_room}
use Rattle.rds_line_channel.specs.StreamChanges.{ChangesAt, Receives, Sends}
use Rattle.rds_line_channel.specs.ChangeLaws.{changed_here}
use Rattle.rds_line_channel.specs.Meeting.{AtEach}
use Rattle.rds_line_channel.specs.NumberLaws.{same_number}
use Rattle.rds_line_channel.specs.Streams.{StreamsView, newest_place, numbers, with_list}
use Rattle.rds_line_channel.specs.Channel.{ChannelView, CutsView, with_conn}
use Rattle.rds_line_channel.specs.Changes.{ShutsStream}
use Rattle.rds_line.specs.Keeps.{IsPulled, KeepsLine}
use Rattle.rds_line.specs.Line.{LineView, line_past}
use Rattle.rds_line.specs.Stays.{ChannelStays, GoesFurther}
use Rattle.rds_line.specs.Steps.{StaysQuiet}
use Rattle.rds_line.specs.Turns.{FindsNoRoom, GetsBytes, HearsNothing, LeavesNothing, SendsBytes}
use Rattle.rds_line.proofs.Acting.{still_past}
use Rattle.rds_line.proofs.Keeping.{keeps_plain, pulled_off}
use Rattle.rds_line.proofs.Quiet.{quiet_inside, quiet_through}
use Rattle.rds_line.proofs.Staying.{channel_moved, channel_of, channel_through, read_stays, room_stays, shutting_stays, write_stays}
use Rattle.rds_line.proofs.Same.{begins_of}

-- what there is
pub the_one : {A : Type 0} (o : Option A) → IsSome o → (a : A) × (o ≡ Some a)
the_one None has = absurd (cc)
the_one (Some a) has = (a, refl)

taken_some : (n : ℕ) (l : List ℕ) → 1 ≤ n → n ≤ length l → take n l ≢ []
taken_some zero l some within e = absurd (omega arith)
taken_some (suc n) [] some within e = absurd (omega arith)
taken_some (suc n) (x ∷ l) some within e = absurd (cc)

nil_front : (front back : List ℕ) → front ++ back ≡ [] → front ≡ []
nil_front [] back e = refl
nil_front (x ∷ front) back e = absurd (cc)

-- no entry is appended by a write
pub written_past : {E : Type 0} (old ready new : ChannelView E) (out : List ℕ) → ready ≡ with_conn old (with_room old.conn) →
    new ≡ record ready { out = out; streams = with_list ready.streams new.streams.list } →
    new.conn.log.past ≡ old.conn.log.past
written_past {E} old ready new out room rest =
    ap (λ (c : ChannelView E). c.conn.log.past) rest ∙ ap (λ (c : ChannelView E). c.conn.log.past) room

-- nor is anything that came touched
pub leaves_written : {E M : Type 0} {inside shown : LineView E M} (ready new : ChannelView E) (out : List ℕ) → inside ≡ shown →
    ready ≡ with_conn inside.channel (with_room inside.channel.conn) →
    new ≡ record ready { out = out; streams = with_list ready.streams new.streams.list } → LeavesNothing shown.channel new
leaves_written {E} {M} {inside} {shown} ready new out is room rest none left = (
  ap (λ (c : ChannelView E). c.conn.waiting) rest ∙ ap (λ (c : ChannelView E). c.conn.waiting) room
      ∙ ap (λ (l : LineView E M). l.channel.conn.waiting) is ∙ none,
  ap (λ (c : ChannelView E). c.piece) rest ∙ ap (λ (c : ChannelView E). c.piece) room
      ∙ ap (λ (l : LineView E M). l.channel.piece) is ∙ left,
)

-- a stream that is open is one of a line whose fields are known by its view
pub streams_shown : {E M : Type 0} {inside shown : LineView E M} (ready : ChannelView E) → inside ≡ shown →
    ready ≡ with_conn inside.channel (with_room inside.channel.conn) → ready.streams ≡ shown.channel.streams
streams_shown {E} {M} {inside} {shown} ready is room =
    ap (λ (c : ChannelView E). c.streams) room ∙ ap (λ (l : LineView E M). l.channel.streams) is

module _ {E : Type 0} (m : Means E) where
  -- there was no room in the stream
  pub found_full : {M : Type 0} {inside shown : LineView E M} (ready new : ChannelView E) → inside ≡ shown →
      ready ≡ with_conn inside.channel (with_room inside.channel.conn) →
      ChangesAt (Sends m put.Full []) (newest_place ready.streams) ready.streams.list new.streams.list →
      new ≡ record ready { out = ready.out; streams = with_list ready.streams new.streams.list } →
      shown.channel.streams.is_open ≡ true → shown.channel.out ≢ [] → FindsNoRoom m shown.channel new
  found_full {M} {inside} {shown} ready new is room change rest on some =
      let streams = streams_shown ready is room in
      record {
        answer = subst (λ (s : StreamsView E). ChangesAt (Sends m put.Full []) (newest_place s) s.list new.streams.list) streams change;
        on = ap (λ (c : ChannelView E). c.streams.is_open) rest ∙ ap (λ (s : StreamsView E). s.is_open) streams ∙ on;
        left = λ none.
            some (sym (ap (λ (l : LineView E M). l.channel.out) is) ∙ sym (ap (λ (c : ChannelView E). c.out) room)
            ∙ sym (ap (λ (c : ChannelView E). c.out) rest) ∙ none);
      }

  -- nothing came
  pub heard_nothing : {M : Type 0} {inside shown : LineView E M} (start ready new : ChannelView E) → inside ≡ shown →
      ready ≡ with_conn inside.channel (with_room inside.channel.conn) → shown.channel.streams ≡ start.streams →
      shown.channel.conn.waiting ≡ None → new.piece ≡ [] →
      ChangesAt (Receives m got.Nothing new.piece) (newest_place ready.streams) ready.streams.list new.streams.list →
      new ≡ record ready { piece = new.piece; streams = with_list ready.streams new.streams.list } → HearsNothing m start new
  heard_nothing {M} {inside} {shown} start ready new is room same none empty change rest = record {
    answer =
        subst (λ (s : StreamsView E). ChangesAt (Receives m got.Nothing []) (newest_place s) s.list new.streams.list)
        (streams_shown ready is room ∙ same)
        (subst (λ (l : List ℕ). ChangesAt (Receives m got.Nothing l) (newest_place ready.streams) ready.streams.list new.streams.list) empty change);
    none_waits =
        ap (λ (c : ChannelView E). c.conn.waiting) rest ∙ ap (λ (c : ChannelView E). c.conn.waiting) room
        ∙ ap (λ (l : LineView E M). l.channel.conn.waiting) is ∙ none;
    none_left = empty;
  }

  -- room was made for entries
  pub made_room : (old new : ChannelView E) → new ≡ with_conn old (with_room old.conn) → ChannelStays m old new
  made_room old new is = channel_of m old new (with_conn old (with_room old.conn)) is (room_stays m old)

  -- the open end was written to
  pub wrote : (old new : ChannelView E) (answer : Put) (piece out : List ℕ) →
      ChangesAt (Sends m answer piece) (newest_place old.streams) old.streams.list new.streams.list →
      new ≡ record old { out = out; streams = with_list old.streams new.streams.list } → ChannelStays m old new
  wrote old new answer piece out change rest =
      channel_moved m old new (ap (λ (c : ChannelView E). c.conn) rest) (ap (λ (c : ChannelView E). c.cuts) rest)
      (write_stays m answer piece (newest_place old.streams) old.streams new.streams change
      (ap (λ (c : ChannelView E). c.streams.opened) rest))

  -- after room was made
  pub wrote_on : (old ready new : ChannelView E) (answer : Put) (piece out : List ℕ) → ready ≡ with_conn old (with_room old.conn) →
      ChangesAt (Sends m answer piece) (newest_place ready.streams) ready.streams.list new.streams.list →
      new ≡ record ready { out = out; streams = with_list ready.streams new.streams.list } → ChannelStays m old new
  wrote_on old ready new answer piece out room change rest =
      channel_through m old ready new (made_room old ready room) (wrote ready new answer piece out change rest)

  -- the open end was read
  pub got_on : (old new : ChannelView E) (answer : Got) (piece : List ℕ) →
      ChangesAt (Receives m answer piece) (newest_place old.streams) old.streams.list new.streams.list →
      new ≡ record old { piece = new.piece; streams = with_list old.streams new.streams.list } → ChannelStays m old new
  got_on old new answer piece change rest =
      channel_moved m old new (ap (λ (c : ChannelView E). c.conn) rest) (ap (λ (c : ChannelView E). c.cuts) rest)
      (read_stays m answer piece (newest_place old.streams) old.streams new.streams change
      (ap (λ (c : ChannelView E). c.streams.opened) rest))

  -- a read is quiet, where all was quiet so far
  pub reads_line : {M Name : Type 0} (pair : M → Name) (start shown v : LineView E M) (ready new : ChannelView E) (answer : Got) →
      v ≡ shown → StaysQuiet m pair start shown → ready ≡ with_conn v.channel (with_room v.channel.conn) →
      ChangesAt (Receives m answer new.piece) (newest_place ready.streams) ready.streams.list new.streams.list →
      new ≡ record ready { piece = new.piece; streams = with_list ready.streams new.streams.list } →
      StaysQuiet m pair start (record v { channel = new })
  reads_line pair start shown v ready new answer is stays room change rest =
      quiet_through stays
      (quiet_inside v shown is new
      (channel_through m v.channel ready new (made_room v.channel ready room) (got_on ready new answer new.piece change rest))
      (still_past (ap (λ (c : ChannelView E). c.conn.log.past) rest ∙ ap (λ (c : ChannelView E). c.conn.log.past) room)))

  -- the open stream is over
  pub over_stays : (number : ℕ) (old new : ChannelView E) → ShutsStream m number old new → new.cuts ≡ old.cuts →
      ChannelStays m old new
  over_stays number old new shuts cuts =
      shutting_stays m number old new shuts (begins_of old.cuts.numbers new.cuts.numbers (ap (λ (c : CutsView). c.numbers) cuts))

  -- bytes went
  pub sends_bytes : (place n : ℕ) (out : List ℕ) (old new : List (ℕ × E)) → 1 ≤ n → n ≤ length out →
      ChangesAt (Sends m (put.Took n) (take n out)) place old new → SendsBytes m place old new
  sends_bytes place n out old new some within change = record {
    before_it = (change.number, change.end_before);
    after_it = (change.number, change.end_after);
    stood = change.stood;
    stands = changed_here change;
    more = λ tells. (take n out, taken_some n out some within, change.way.sent tells);
  }

  -- bytes came
  pub gets_bytes : (place : ℕ) (answer : Got) (piece : List ℕ) (old new : List (ℕ × E)) → 1 ≤ length piece →
      ChangesAt (Receives m answer piece) place old new → GetsBytes m place old new
  gets_bytes place answer piece old new some change = record {
    before_it = (change.number, change.end_before);
    after_it = (change.number, change.end_after);
    stood = change.stood;
    stands = changed_here change;
    more = λ tells. (piece, (λ none. let e = ap length none in absurd (omega arith)), change.way.got tells);
  }

  -- and it got as much where the ends went further since
  pub gets_still : (place : ℕ) (old middle new : List (ℕ × E)) → GetsBytes m place old middle → numbers new ≡ numbers middle →
      AtEach (GoesFurther m) middle new → GetsBytes m place old new
  gets_still place old middle new came same each =
      let there = same_number middle new same place came.after_it.0 came.after_it.1 came.stands in
      record {
        before_it = came.before_it;
        after_it = (came.after_it.0, there.0);
        stood = came.stood;
        stands = there.1;
        more = λ tells.
            let was = came.more tells in
            let far = (each.at place came.after_it (came.after_it.0, there.0) came.stands there.1 tells).1 in (
              was.0 ++ far.0,
              (λ none. was.1 (nil_front was.0 far.0 none)),
              far.1 ∙ ap (λ (l : List ℕ). l ++ far.0) was.2 ∙ append_assoc (m.got came.before_it.1) was.0 far.0,
            );
      }

  module _ {M : Type 0} (v : LineView E M) (middle new : ChannelView E) (number : ℕ) (shuts : ShutsStream m number middle new)
      (conn : middle.conn ≡ with_room v.channel.conn) where
    -- the connection once its stream was shut
    pub shut_conn :
        new.conn ≡ record (with_entries (entry.Shut number ∷ []) (with_room v.channel.conn)) { waiting = None; rest = [] }
    shut_conn =
        shuts.conn
        ∙ ap (λ (c : Connection). record (with_entries (entry.Shut number ∷ []) c) { waiting = None; rest = [] }) conn

    -- the line has one entry more
    pub more_entries : length (line_past v) < length new.conn.log.past
    more_entries =
        let e : length new.conn.log.past ≡ suc (length (line_past v)) = ap (λ (c : Connection). length c.log.past) shut_conn in
        omega arith

    pub keeps_over : (published : M → List (List ℕ)) (noted : Bool) → new.cuts ≡ v.channel.cuts → KeepsLine published v →
        KeepsLine published (record v { channel = new }) × IsPulled noted (record v { channel = new })
    keeps_over published noted cuts k = (
      keeps_plain published (entry.Shut number) tt v new (ap (λ (c : Connection). c.log.past) shut_conn)
          (ap (λ (c : Connection). c.peer) shut_conn)
          (ap (λ (c : Connection). c.slots) shut_conn) (ap (λ (c : Connection). c.freed) shut_conn)
          (ap (λ (c : CutsView). c.numbers) cuts) k,
      pulled_off noted (record v { channel = new }) (ap stream_of shut_conn),
    )
