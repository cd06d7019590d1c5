-- Which frame a line pulled, and what it had read of its host's own map.
use Rattle.std.proofs.Common.{◌≡◌, ◌≢◌, inl, inr, ℕ, suc, ◌<◌, Bool, true, false, Option, Some, None, IfSome, IsSome, IfOk, OnOk, Result, Ok, List, [], ◌∷◌, ◌++◌, length, refl, sym, ap, subst, ◌∙◌, arith}
use Rattle.std.proofs.lemmas.Option.{same_Some}
use Rattle.std.proofs.lemmas.Result.{IfOk-at_ok}
use Rattle.rds_wire.specs.declared.frame.Frame.{Frame}
use Rattle.rds_wire.specs.declared.memory.Memory.{Memory}
use Rattle.rds_wire.specs.declared.kind.Kind.{Kind}
use Rattle.rds_wire.specs.declared.kind.Kind.TheVariants as kind
use Rattle.rds_wire.specs.Kinds.{kind_of}
use Rattle.rds_link.specs.Ends.{Means}
use Rattle.rds_model.specs.declared.entry.Entry.{Entry}
use Rattle.rds_model.specs.declared.entry.Entry.TheVariants.{Pull}
use Rattle.rds_cong.specs.Map.{has_port}
use Rattle.rds_model.specs.Owed.{last_map, owed_frame}
use Rattle.rds_model.specs.SumLaws.{same_list}
use Rattle.rds_meter.specs.Seats.{MeterSeat}
use Rattle.rds_conn.specs.declared.conn.Pulled.{Pulled}
use Rattle.rds_conn.specs.Connection.{Connection, stream_of, taken_bytes, with_entries}
use Rattle.rds_conn.specs.declared.conn.Pulled.TheVariants as pulled
use Rattle.rds_conn.specs.Pulling.{Pulls, is_frame, name_of_pull}
use Rattle.rds_line_parts.specs.Own.{Own, IsRefresh}
use Rattle.rds_line_channel.specs.Channel.{ChannelView, arrived_bytes}
use Rattle.rds_line.specs.Keeps.{IsPulled, KeepsLine}
use Rattle.rds_line.specs.Line.{LineView, line_past, pulls_in}
use Rattle.rds_line.specs.Stays.{LineStays}
use Rattle.rds_line.specs.Steps.{KeepsArrived}
use Rattle.rds_line.specs.Turns.{LeavesNothing, LoadsOwn, FindsNothingOwed}
use Rattle.rds_line.proofs.Grounding.{own_found, pulled_payload}
use Rattle.rds_line.proofs.Looking.{PullsOrNone}
use Rattle.rds_line.proofs.Same.{begins_of, moment_of}
use Rattle.rds_line.proofs.Pulled.{LeavesConn, leaves_same, pull_leaves, with_pull, IsGrounded, keeps_pull, pull_stays, ReadsOwn}

module _ {E : Type 0} where
  -- the frame was pulled that is owed to the open stream where the own map is this, and it is then the one that was pulled last
  pub record PullsOwed (map : List ℕ) (came : Pulled) (old new : ChannelView E) : Type 0 where
    pub stream : ℕ
    pub on : stream_of old.conn ≡ Some stream
    pub pulls : Pulls stream (owed_frame stream old.conn.log.past map) old.conn new.conn old.out new.out came
    pub behind : last_map stream new.conn.log.past ≡ Some map
    pub some : is_frame came ≡ true → new.out ≢ []
    pub rest : new ≡ record old { conn = new.conn; out = new.out }

  -- what was pulled where the own map was looked at
  pub owed_of_map : (old new : ChannelView E) (map : List ℕ) (result : Result Pulled Memory) (came : Pulled) → result ≡ Ok came →
      IsSome (stream_of old.conn) →
      IfSome (stream_of old.conn) (λ s.
      IfOk result (Pulls s (owed_frame s old.conn.log.past map) old.conn new.conn old.out new.out)) →
      IfOk result (λ came. is_frame came ≡ true → new.out ≢ []) →
      IfSome (stream_of old.conn) (λ s. OnOk result (last_map s new.conn.log.past ≡ Some map)) →
      new ≡ record old { conn = new.conn; out = new.out } → PullsOwed map came old new
  owed_of_map old new map result came ok has owed some behind rest = go (stream_of old.conn) refl has owed behind
    where
      go : (o : Option ℕ) → stream_of old.conn ≡ o → IsSome o →
          IfSome o (λ s. IfOk result (Pulls s (owed_frame s old.conn.log.past map) old.conn new.conn old.out new.out)) →
          IfSome o (λ s. OnOk result (last_map s new.conn.log.past ≡ Some map)) → PullsOwed map came old new
      go None is has owed behind = absurd (cc)
      go (Some s) is has owed behind = record {
        stream = s;
        on = is;
        pulls = IfOk-at_ok (Pulls s (owed_frame s old.conn.log.past map) old.conn new.conn old.out new.out) ok owed;
        behind = IfOk-at_ok (λ (c : Pulled). last_map s new.conn.log.past ≡ Some map) ok behind;
        some = IfOk-at_ok (λ (c : Pulled). is_frame c ≡ true → new.out ≢ []) ok some;
        rest = rest;
      }

  -- what was pulled where it was pulled before
  pub owed_of_last : (old new : ChannelView E) (map : List ℕ) (result : Result Pulled Memory) (came : Pulled) → result ≡ Ok came →
      IsSome (stream_of old.conn) → ((s : ℕ) → stream_of old.conn ≡ Some s → last_map s old.conn.log.past ≡ Some map) →
      ((s : ℕ) (map : List ℕ) → stream_of old.conn ≡ Some s → last_map s old.conn.log.past ≡ Some map →
      IfOk result (Pulls s (owed_frame s old.conn.log.past map) old.conn new.conn old.out new.out)) →
      IfOk result (λ came. is_frame came ≡ true → new.out ≢ []) →
      ((s : ℕ) → stream_of old.conn ≡ Some s → last_map s new.conn.log.past ≡ last_map s old.conn.log.past) →
      new ≡ record old { conn = new.conn; out = new.out } → PullsOwed map came old new
  owed_of_last old new map result came ok has was owed some same rest = go (stream_of old.conn) refl has
    where
      go : (o : Option ℕ) → stream_of old.conn ≡ o → IsSome o → PullsOwed map came old new
      go None is has = absurd (cc)
      go (Some s) is has = record {
        stream = s;
        on = is;
        pulls = IfOk-at_ok (Pulls s (owed_frame s old.conn.log.past map) old.conn new.conn old.out new.out) ok
            (owed s map is (was s is));
        behind = same s is ∙ was s is;
        some = IfOk-at_ok (λ (c : Pulled). is_frame c ≡ true → new.out ≢ []) ok some;
        rest = rest;
      }

  pub owed_leaves : (map : List ℕ) (came : Pulled) (old new : ChannelView E) → PullsOwed map came old new →
      LeavesConn old.conn new.conn
  owed_leaves map came old new p =
      pull_leaves p.stream (owed_frame p.stream old.conn.log.past map) old.conn new.conn old.out new.out came p.pulls

-- which frame was pulled
named_frame : (k : Kind) → is_frame (name_of_pull k) ≡ true
named_frame kind.Data = refl
named_frame kind.Ack = refl
named_frame kind.Map = refl
named_frame kind.OddMap = refl

frame_or_nothing : (s : ℕ) (owed : Option Frame) (old new : Connection) (out out_new : List ℕ) (came : Pulled) →
    Pulls s owed old new out out_new came → came ≢ pulled.Nothing → is_frame came ≡ true
frame_or_nothing s None old new out out_new came did some = absurd (some did.named)
frame_or_nothing s (Some f) old new out out_new came did some = ap is_frame did.named ∙ named_frame (kind_of f.header)

frame_longer : (s : ℕ) (owed : Option Frame) (old new : Connection) (out out_new : List ℕ) (came : Pulled) →
    Pulls s owed old new out out_new came → came ≢ pulled.Nothing → length old.log.past < length new.log.past
frame_longer s None old new out out_new came did some = absurd (some did.named)
frame_longer s (Some f) old new out out_new came did some =
    let e = ap (λ (c : Connection). length c.log.past) did.entry in
    omega (arith, e)

nothing_owed : (s : ℕ) (owed : Option Frame) (old new : Connection) (out out_new : List ℕ) (came : Pulled) →
    Pulls s owed old new out out_new came → came ≡ pulled.Nothing → (owed ≡ None) × (new ≡ old) × (out_new ≡ out)
nothing_owed s None old new out out_new came did none = (refl, did.same, did.no_bytes)
nothing_owed s (Some f) old new out out_new came did none =
    let frame = named_frame (kind_of f.header) in
    let same : is_frame (name_of_pull (kind_of f.header)) ≡ false = ap is_frame (sym did.named ∙ none) in
    absurd (cc)

module _ {E M : Type 0} (noted : Bool) (v w : LineView E M) (reads : ReadsOwn noted v w) where
  pub same_channel : w.channel ≡ v.channel
  same_channel = ap (λ (l : LineView E M). l.channel) reads.is

  -- the own map was looked at
  looked : (u : LineView E M) → u.own ≡ w.own → u.words ≡ w.words → LoadsOwn v u
  looked u own words = record {
    seat_before = v.words;
    seat_after = w.words;
    read = reads.read;
    refresh = subst (λ (o : Own). IsRefresh v.own o v.words w.words reads.read) (sym own) reads.refresh;
    grown = same_list v.words.view.steps;
    goes_on = begins_of w.words.view.steps u.words.view.steps (ap (λ (h : MeterSeat). h.view.steps) words);
  }

  -- where memory ran out
  module _ (u : LineView E M) (same_line : u ≡ w) where
    pub failed_looked : LoadsOwn v u
    failed_looked = looked u (ap (λ (l : LineView E M). l.own) same_line) (ap (λ (l : LineView E M). l.words) same_line)

    pub failed_pulls : PullsOrNone v u
    failed_pulls =
        inl (ap (λ (l : LineView E M). pulls_in (line_past l)) same_line
        ∙ ap (λ (c : ChannelView E). pulls_in c.conn.log.past) same_channel)

    pub failed_arrived : KeepsArrived v.channel u.channel
    failed_arrived _ =
        ap (λ (l : LineView E M). arrived_bytes l.channel) same_line ∙ ap (λ (c : ChannelView E). arrived_bytes c) same_channel

    pub keeps_failed : (published : M → List (List ℕ)) → KeepsLine published w → KeepsLine published u × IsPulled noted u
    keeps_failed published k = (
      subst (KeepsLine published) (sym same_line) k,
      subst (IsPulled noted) (sym same_line) reads.behind,
    )

    pub failed_stays : {Name : Type 0} (m : Means E) (pair : M → Name) → LineStays m pair v u
    failed_stays m pair =
        subst (LineStays m pair v) (sym (same_line ∙ reads.is))
        (pull_stays m pair v w.own w.words reads.read v.channel.conn v.channel.out reads.refresh (leaves_same v.channel.conn))

  -- where a frame was pulled, or none is owed
  module _ (u : LineView E M) (came : Pulled) (is : u ≡ record w { channel = u.channel })
      (p : PullsOwed w.own.map came w.channel u.channel) where
    is_pulled : u ≡ with_pull w u.channel.conn u.channel.out
    is_pulled = is ∙ ap (λ (c : ChannelView E). record w { channel = c }) p.rest

    leaves : LeavesConn v.channel.conn u.channel.conn
    leaves =
        subst (λ (c : ChannelView E). LeavesConn c.conn u.channel.conn) same_channel
        (owed_leaves w.own.map came w.channel u.channel p)

    same_own : u.own ≡ w.own
    same_own = ap (λ (l : LineView E M). l.own) is

    -- the map is the own one, each port of which was found set
    grounded : (published : M → List (List ℕ)) → KeepsLine published w → (f : Frame) →
        u.channel.conn ≡ with_entries (Pull p.stream f ∷ []) w.channel.conn → IsGrounded w f
    grounded published k f entry is_it port small has =
        let last : last_map p.stream (Pull p.stream f ∷ line_past w) ≡ Some w.own.map =
        sym (ap (λ (c : Connection). last_map p.stream c.log.past) entry) ∙ p.behind in
        let same = pulled_payload p.stream f (line_past w) w.own.map is_it last in
        own_found w.own w.words.view.steps reads.refresh.number k.read reads.refresh.change reads.bits port small
        (sym (ap (λ (m : List ℕ). has_port m port) same) ∙ has)

    pub keeps_pulled : (published : M → List (List ℕ)) → KeepsLine published w → KeepsLine published u × IsPulled true u
    keeps_pulled published k = (
      subst (KeepsLine published) (sym is_pulled)
          (keeps_pull published w p.stream (owed_frame p.stream w.channel.conn.log.past w.own.map) u.channel.conn u.channel.out came
          p.pulls (grounded published k) k),
      λ noted_it s on.
          let there = (owed_leaves w.own.map came w.channel u.channel p).stream in
          let same : p.stream ≡ s = same_Some p.stream s (sym p.on ∙ sym there ∙ on) in
          ap (λ n. last_map n (line_past u)) (sym same) ∙ p.behind ∙ ap (λ (o : Own). Some o.map) (sym same_own),
    )

    pub pulled_stays : {Name : Type 0} (m : Means E) (pair : M → Name) → LineStays m pair v u
    pulled_stays m pair =
        subst (LineStays m pair v)
        (sym (is_pulled ∙ ap (λ (l : LineView E M). with_pull l u.channel.conn u.channel.out) reads.is))
        (pull_stays m pair v w.own w.words reads.read u.channel.conn u.channel.out reads.refresh leaves)

    pub pulled_looked : LoadsOwn v u
    pulled_looked = looked u same_own (ap (λ (l : LineView E M). l.words) is)

    pub pulled_owed : v.channel.out ≡ [] → PullsOrNone v u
    pulled_owed empty = go (owed_frame p.stream (line_past w) w.own.map) refl p.pulls
      where
        past : line_past w ≡ line_past v
        past = ap (λ (c : ChannelView E). c.conn.log.past) same_channel

        go : (o : Option Frame) → owed_frame p.stream (line_past w) w.own.map ≡ o →
            Pulls p.stream o w.channel.conn u.channel.conn w.channel.out u.channel.out came → PullsOrNone v u
        go None owes did = inl (ap (λ (c : Connection). pulls_in c.log.past) did.same ∙ ap pulls_in past)
        go (Some f) owes did =
            inr (record {
              loads = pulled_looked;
              none_waited = empty;
              one = ap (λ (c : Connection). pulls_in c.log.past) did.entry ∙ ap (λ (l : List Entry). suc (pulls_in l)) past;
              stream = p.stream;
              frame = f;
              past = line_past w;
              newer = [];
              is = ap (λ (c : Connection). c.log.past) did.entry;
              later = moment_of (line_past v) (line_past w) past;
              owed = ap (λ (o : Own). owed_frame p.stream (line_past w) o.map) same_own ∙ owes;
            })

    pub pulled_leaves : LeavesNothing v.channel u.channel
    pulled_leaves none left = (
      leaves.waiting ∙ none,
      ap (λ (c : ChannelView E). c.piece) p.rest ∙ ap (λ (c : ChannelView E). c.piece) same_channel ∙ left,
    )

    pub pulled_arrived : KeepsArrived v.channel u.channel
    pulled_arrived _ =
        ap (λ (l : List ℕ). l ++ u.channel.piece) leaves.taken
        ∙ ap (λ (l : List ℕ). taken_bytes v.channel.conn ++ l)
        (ap (λ (c : ChannelView E). c.piece) p.rest ∙ ap (λ (c : ChannelView E). c.piece) same_channel)

    pub pulled_longer : came ≢ pulled.Nothing → length (line_past v) < length (line_past u)
    pulled_longer some =
        let shown : length (line_past w) ≡ length (line_past v) = ap (λ (c : ChannelView E). length c.conn.log.past) same_channel in
        let more = frame_longer p.stream (owed_frame p.stream w.channel.conn.log.past w.own.map) w.channel.conn u.channel.conn
        w.channel.out u.channel.out came p.pulls some in
        omega (arith, shown, more)

    pub pulled_some : came ≢ pulled.Nothing → u.channel.out ≢ []
    pulled_some some =
        p.some (frame_or_nothing p.stream (owed_frame p.stream w.channel.conn.log.past w.own.map) w.channel.conn u.channel.conn
        w.channel.out u.channel.out came p.pulls some)

    pub pulled_nothing : came ≡ pulled.Nothing → v.channel.out ≡ [] → FindsNothingOwed v u × (line_past u ≡ line_past v)
    pulled_nothing none empty =
        let owes = nothing_owed p.stream (owed_frame p.stream w.channel.conn.log.past w.own.map) w.channel.conn u.channel.conn
        w.channel.out u.channel.out came p.pulls none in
        let past : line_past u ≡ line_past w = ap (λ (c : Connection). c.log.past) owes.1 in
        let out : w.channel.out ≡ v.channel.out = ap (λ (c : ChannelView E). c.out) same_channel in (
          record {
            streams = ap (λ (c : ChannelView E). c.streams) p.rest ∙ ap (λ (c : ChannelView E). c.streams) same_channel;
            none_left = owes.2 ∙ out ∙ empty;
            none_owed = λ s on.
                let same : s ≡ p.stream = same_Some s p.stream (sym on ∙ ap stream_of owes.1 ∙ p.on) in
                ap (λ n. owed_frame n (line_past u) u.own.map) same ∙ ap (λ l. owed_frame p.stream l u.own.map) past
                ∙ ap (λ (o : Own). owed_frame p.stream (line_past w) o.map) same_own ∙ owes.0;
          },
          past ∙ ap (λ (c : ChannelView E). c.conn.log.past) same_channel,
        )
