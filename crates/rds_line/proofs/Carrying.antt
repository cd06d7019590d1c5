-- What came and what is to be written, over steps that appended no entry.
use Rattle.std.proofs.Common.{◌≡◌, ℕ, ◌-◌, ◌<◌, ◌≤◌, Bool, true, false, Option, Some, None, Result, Ok, Err, OnErr, List, [], ◌++◌, append_assoc, drop, length, length-append, take, refl, sym, ap, subst, ◌∙◌, arith}
use Rattle.std.proofs.lemmas.Bool.{false≢true}
use Rattle.std.proofs.lemmas.List.{length-drop, take-append-drop}
use Rattle.rds_link.specs.Ends.{Means}
use Rattle.rds_wire.specs.declared.frame.Frame.{Frame}
use Rattle.rds_wire.specs.declared.memory.Memory.{Memory}
use Rattle.rds_model.specs.declared.entry.Entry.{Entry}
use Rattle.rds_model.specs.declared.entry.Outcome.{Outcome}
use Rattle.rds_model.specs.Past.{Moment}
use Rattle.rds_model.specs.Legal.{pong_for}
use Rattle.rds_model.specs.Reading.{verdict_of}
use Rattle.rds_conn.specs.declared.conn.Found.{Found}
use Rattle.rds_conn.specs.Connection.{Connection, taken_bytes, with_room}
use Rattle.rds_conn.specs.Passing.{Passes, outcome_of}
use Rattle.rds_line_channel.specs.Streams.{StreamsView, with_list}
use Rattle.rds_line_channel.specs.Channel.{ChannelView, arrived_bytes, with_conn}
use Rattle.rds_line_channel.specs.Changes.{EndsRefused, EndsStream, OpensNext, ShutsStream, TakesBytes}
use Rattle.rds_line_channel.specs.declared.channel.Taken.{Taken}
use Rattle.rds_line_channel.specs.declared.channel.Taken.TheVariants as taken
use Rattle.rds_line.specs.Line.{LineView, line_past}
use Rattle.rds_line.specs.Steps.{KeepsArrived, KeepsOut, KeepsUnwritten}
use Rattle.rds_line.specs.Turns.{HasLessToWrite, HoldsMore}
use Rattle.rds_line.proofs.Longer.{longer}
use Rattle.rds_line.proofs.Passing.{passes_reads, read_past}
use Rattle.rds_line.proofs.Stepping.{moment_back}

-- a journal that is the same in the end was the same in between
pub still_between : {p q r : List Entry} → Moment p q → Moment q r → r ≡ p → (q ≡ p) × (r ≡ q)
still_between {p} {q} {r} first second same =
    let long = longer q r second in
    let as_long : length r ≡ length p = ap (λ (l : List Entry). length l) same in
    let is : q ≡ p = moment_back first (omega (arith, long, as_long)) in
    (is, same ∙ sym is)

read_longer : (port : Option ℕ) (s : ℕ) (f : Frame) (o : Outcome) (past : List Entry) → length past < length (read_past port s f o past)
read_longer None s f o past = omega arith
read_longer (Some port) s f o past = omega arith

-- where a frame was passed, an entry was appended
pub passed_longer : {came : Found} (old new : Connection) → Passes came old new → length old.log.past < length new.log.past
passed_longer {came} old new p =
    let o = outcome_of (verdict_of old.log.past p.frame.header) came in
    let port = pong_for o p.frame.header.sport in
    subst (λ (l : List Entry). length old.log.past < length l) (sym (passes_reads came old new p o refl).past)
    (read_longer port p.stream p.frame o old.log.past)

module _ {E : Type 0} where
  -- where an entry was appended, there is nothing to show
  pub appended_arrived : (old new : ChannelView E) → length old.conn.log.past < length new.conn.log.past → KeepsArrived old new
  appended_arrived old new more same =
      let as_long : length new.conn.log.past ≡ length old.conn.log.past = ap (λ (l : List Entry). length l) same in
      absurd (omega (arith, more, as_long))

  pub appended_unwritten : (old new : ChannelView E) → length old.conn.log.past < length new.conn.log.past → KeepsUnwritten old new
  appended_unwritten old new more same =
      let as_long : length new.conn.log.past ≡ length old.conn.log.past = ap (λ (l : List Entry). length l) same in
      absurd (omega (arith, more, as_long))

  pub appended_less : (old new : ChannelView E) → length old.conn.log.past < length new.conn.log.past → HasLessToWrite old new
  appended_less old new more same =
      let as_long : length new.conn.log.past ≡ length old.conn.log.past = ap (λ (l : List Entry). length l) same in
      absurd (omega (arith, more, as_long))

  -- where the stream ended, none is open
  pub ended_out : (m : Means E) (old new : ChannelView E) → EndsStream m old.streams new.streams → KeepsOut old new
  ended_out m old new ends on = absurd (false≢true (sym (ap (λ (s : StreamsView E). s.is_open) ends.is) ∙ on))

  -- where streams are open or not as they were, and nothing was written
  pub still_out : (old new : ChannelView E) → new.streams.is_open ≡ old.streams.is_open → new.out ≡ old.out → KeepsOut old new
  still_out old new still out on = (sym still ∙ on, out)

  pub out_through : (a b c : ChannelView E) → KeepsOut a b → KeepsOut b c → KeepsOut a c
  out_through a b c one two on = let later = two on in let sooner = one later.0 in (sooner.0, later.1 ∙ sooner.1)

  -- one step after the other
  module _ (a b c : ChannelView E) (first : Moment a.conn.log.past b.conn.log.past) (second : Moment b.conn.log.past c.conn.log.past) where
    pub arrived_through : KeepsArrived a b → KeepsArrived b c → KeepsArrived a c
    arrived_through one two same = let still = still_between first second same in two still.1 ∙ one still.0

    pub unwritten_through : KeepsUnwritten a b → KeepsUnwritten b c → KeepsUnwritten a c
    unwritten_through one two same = let still = still_between first second same in two still.1 ∙ one still.0

    pub more_after : KeepsArrived a b → HoldsMore b c → HoldsMore a c
    more_after one more same =
        let still = still_between first second same in
        subst (λ (l : List ℕ). length l < length (arrived_bytes c)) (one still.0) (more still.1)

    pub more_before : HoldsMore a b → KeepsArrived b c → HoldsMore a c
    more_before more two same =
        let still = still_between first second same in
        subst (λ (l : List ℕ). length (arrived_bytes a) < length l) (sym (two still.1)) (more still.0)

    pub less_after : KeepsUnwritten a b → HasLessToWrite b c → HasLessToWrite a c
    less_after one less same =
        let still = still_between first second same in
        subst (λ (l : List ℕ). length c.out < length l) (one still.0) (less still.1)

    pub less_before : HasLessToWrite a b → KeepsUnwritten b c → HasLessToWrite a c
    less_before less two same =
        let still = still_between first second same in
        subst (λ (l : List ℕ). length l < length a.out) (sym (two still.1)) (less still.0)

  -- the connection took bytes from the front of what came
  took_arrived : {waits : Bool} (old new : ChannelView E) → TakesBytes waits old new → arrived_bytes new ≡ arrived_bytes old
  took_arrived {waits} old new took =
      let n = took.fed.used in
      let front = taken_bytes old.conn in
      ap (λ (l : List ℕ). l ++ new.piece) took.feeds.bytes
      ∙ (ap (λ (c : ChannelView E). (front ++ take n old.piece) ++ c.piece) took.is
      ∙ (append_assoc front (take n old.piece) (drop n old.piece)
      ∙ ap (λ (l : List ℕ). front ++ l) (take-append-drop n old.piece)))

  refused_longer : (m : Means E) (old new : ChannelView E) → EndsRefused m old new → length old.conn.log.past < length new.conn.log.past
  refused_longer m old new ends =
      let e = ap (λ (c : Connection). length c.log.past) ends.refuses.entry in
      omega (arith, e)

  -- whatever became of the bytes
  pub taken_arrived : (m : Means E) (came : Result Taken Memory) (old new : ChannelView E) → (came ≡ Ok taken.Frame → TakesBytes true old new) →
      (came ≡ Ok taken.Part → TakesBytes false old new × (new.piece ≡ [])) → (came ≡ Ok taken.Refused → EndsRefused m old new) →
      OnErr came (new ≡ old) → KeepsArrived old new
  taken_arrived m (Ok taken.Frame) old new frame part refused err = λ _. took_arrived old new (frame refl)
  taken_arrived m (Ok taken.Part) old new frame part refused err = λ _. took_arrived old new (part refl).0
  taken_arrived m (Ok taken.Refused) old new frame part refused err = appended_arrived old new (refused_longer m old new (refused refl))
  taken_arrived m (Err why) old new frame part refused err = λ _. ap (λ (c : ChannelView E). arrived_bytes c) err

  pub taken_unwritten : (m : Means E) (came : Result Taken Memory) (old new : ChannelView E) → (came ≡ Ok taken.Frame → TakesBytes true old new) →
      (came ≡ Ok taken.Part → TakesBytes false old new × (new.piece ≡ [])) → (came ≡ Ok taken.Refused → EndsRefused m old new) →
      OnErr came (new ≡ old) → KeepsUnwritten old new
  taken_unwritten m (Ok taken.Frame) old new frame part refused err = λ _. ap (λ (c : ChannelView E). c.out) (frame refl).is
  taken_unwritten m (Ok taken.Part) old new frame part refused err = λ _. ap (λ (c : ChannelView E). c.out) (part refl).0.is
  taken_unwritten m (Ok taken.Refused) old new frame part refused err = appended_unwritten old new (refused_longer m old new (refused refl))
  taken_unwritten m (Err why) old new frame part refused err = λ _. ap (λ (c : ChannelView E). c.out) err

  pub taken_out : (m : Means E) (came : Result Taken Memory) (old new : ChannelView E) → (came ≡ Ok taken.Frame → TakesBytes true old new) →
      (came ≡ Ok taken.Part → TakesBytes false old new × (new.piece ≡ [])) → (came ≡ Ok taken.Refused → EndsRefused m old new) →
      OnErr came (new ≡ old) → KeepsOut old new
  taken_out m (Ok taken.Frame) old new frame part refused err =
      still_out old new (ap (λ (c : ChannelView E). c.streams.is_open) (frame refl).is) (ap (λ (c : ChannelView E). c.out) (frame refl).is)
  taken_out m (Ok taken.Part) old new frame part refused err =
      still_out old new (ap (λ (c : ChannelView E). c.streams.is_open) (part refl).0.is) (ap (λ (c : ChannelView E). c.out) (part refl).0.is)
  taken_out m (Ok taken.Refused) old new frame part refused err = ended_out m old new (refused refl).streams
  taken_out m (Err why) old new frame part refused err =
      still_out old new (ap (λ (c : ChannelView E). c.streams.is_open) err) (ap (λ (c : ChannelView E). c.out) err)

  -- the next stream was opened
  pub opened_longer : (old new : ChannelView E) → OpensNext old new → length old.conn.log.past < length new.conn.log.past
  opened_longer old new opens =
      let e = ap (λ (c : ChannelView E). length c.conn.log.past) opens.is in
      omega (arith, e)

  -- the open stream was shut
  pub shut_longer : (m : Means E) (number : ℕ) (old new : ChannelView E) → ShutsStream m number old new →
      length old.conn.log.past < length new.conn.log.past
  shut_longer m number old new shuts =
      let e = ap (λ (c : Connection). length c.log.past) shuts.conn in
      omega (arith, e)

-- a line whose fields are known by its view
module _ {E M : Type 0} {inside shown : LineView E M} (is : inside ≡ shown) where
  -- where its channel stayed the same
  pub same_arrived : (new : ChannelView E) → new ≡ inside.channel → KeepsArrived shown.channel new
  same_arrived new same _ = ap (λ (c : ChannelView E). arrived_bytes c) same ∙ ap (λ (l : LineView E M). arrived_bytes l.channel) is

  pub same_unwritten : (new : ChannelView E) → new ≡ inside.channel → KeepsUnwritten shown.channel new
  same_unwritten new same _ = ap (λ (c : ChannelView E). c.out) same ∙ ap (λ (l : LineView E M). l.channel.out) is

  pub same_out : (new : ChannelView E) → new ≡ inside.channel → KeepsOut shown.channel new
  same_out new same =
      still_out shown.channel new (ap (λ (c : ChannelView E). c.streams.is_open) same ∙ ap (λ (l : LineView E M). l.channel.streams.is_open) is)
      (ap (λ (c : ChannelView E). c.out) same ∙ ap (λ (l : LineView E M). l.channel.out) is)

  -- where it got room for entries first
  module _ (ready new : ChannelView E) (room : ready ≡ with_conn inside.channel (with_room inside.channel.conn)) where
    pub roomy_arrived : KeepsArrived ready new → KeepsArrived shown.channel new
    roomy_arrived keeps =
        subst (λ (v : LineView E M). KeepsArrived v.channel new) is
        (λ same.
        keeps (same ∙ sym (ap (λ (c : ChannelView E). c.conn.log.past) room))
        ∙ ap (λ (c : ChannelView E). arrived_bytes c) room)

    pub roomy_unwritten : KeepsUnwritten ready new → KeepsUnwritten shown.channel new
    roomy_unwritten keeps =
        subst (λ (v : LineView E M). KeepsUnwritten v.channel new) is
        (λ same.
        keeps (same ∙ sym (ap (λ (c : ChannelView E). c.conn.log.past) room)) ∙ ap (λ (c : ChannelView E). c.out) room)

    pub roomy_out : KeepsOut ready new → KeepsOut shown.channel new
    roomy_out keeps =
        out_through shown.channel ready new
        (still_out shown.channel ready
        (ap (λ (c : ChannelView E). c.streams.is_open) room ∙ ap (λ (l : LineView E M). l.channel.streams.is_open) is)
        (ap (λ (c : ChannelView E). c.out) room ∙ ap (λ (l : LineView E M). l.channel.out) is)) keeps

    -- and then was written to
    module _ (out : List ℕ) (rest : new ≡ record ready { out = out; streams = with_list ready.streams new.streams.list }) where
      pub written_arrived : KeepsArrived shown.channel new
      written_arrived = roomy_arrived (λ _. ap (λ (c : ChannelView E). arrived_bytes c) rest)

      pub written_less : (n : ℕ) → out ≡ drop n ready.out → 1 ≤ n → n ≤ length ready.out → length new.out < length shown.channel.out
      written_less n left some within =
          let fewer : length new.out ≡ length ready.out - n =
          ap (λ (c : ChannelView E). length c.out) rest ∙ (ap (λ (l : List ℕ). length l) left ∙ length-drop n ready.out) in
          let whole : length ready.out ≡ length shown.channel.out =
          ap (λ (c : ChannelView E). length c.out) room ∙ ap (λ (l : LineView E M). length l.channel.out) is in
          omega (arith, fewer, whole, some, within)

    -- or read from
    module _ (rest : new ≡ record ready { piece = new.piece; streams = with_list ready.streams new.streams.list }) (start : ChannelView E) where
      past_now : new.conn.log.past ≡ line_past shown
      past_now =
          ap (λ (c : ChannelView E). c.conn.log.past) rest
          ∙ (ap (λ (c : ChannelView E). c.conn.log.past) room ∙ ap (λ (l : LineView E M). line_past l) is)

      pub read_unwritten : KeepsUnwritten start shown.channel → KeepsUnwritten start new
      read_unwritten keeps same =
          ap (λ (c : ChannelView E). c.out) rest
          ∙ (ap (λ (c : ChannelView E). c.out) room
          ∙ (ap (λ (l : LineView E M). l.channel.out) is ∙ keeps (sym past_now ∙ same)))

      pub read_out : KeepsOut start shown.channel → KeepsOut start new
      read_out keeps =
          out_through start shown.channel new keeps
          (roomy_out
          (still_out ready new (ap (λ (c : ChannelView E). c.streams.is_open) rest) (ap (λ (c : ChannelView E). c.out) rest)))

      pub read_more : KeepsArrived start shown.channel → shown.channel.piece ≡ [] → 1 ≤ length new.piece → HoldsMore start new
      read_more keeps empty some same =
          let same_taken : taken_bytes new.conn ≡ taken_bytes shown.channel.conn =
          ap (λ (c : ChannelView E). taken_bytes c.conn) rest
          ∙ (ap (λ (c : ChannelView E). taken_bytes c.conn) room ∙ ap (λ (l : LineView E M). taken_bytes l.channel.conn) is) in
          let as_long : length (taken_bytes new.conn) ≡ length (taken_bytes shown.channel.conn) =
          ap (λ (l : List ℕ). length l) same_taken in
          let none : length shown.channel.piece ≡ 0 = ap (λ (l : List ℕ). length l) empty in
          let after_it = length-append (taken_bytes new.conn) new.piece in
          let before_it = length-append (taken_bytes shown.channel.conn) shown.channel.piece in
          let held : length (arrived_bytes shown.channel) < length (arrived_bytes new) =
          omega (arith, as_long, none, after_it, before_it, some) in
          subst (λ (l : List ℕ). length l < length (arrived_bytes new)) (keeps (sym past_now ∙ same)) held
