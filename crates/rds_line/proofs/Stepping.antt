-- What the steps of a turn did together.
use Rattle.std.proofs.Common.{◌≡◌, ◌≢◌, ◌⊎◌, inl, inr, ℕ, ◌<◌, ◌≤◌, true, false, Result, Ok, Err, Some, None, slice_get, get_or, List, [], ◌∷◌, ◌++◌, length, append_assoc, refl, sym, ap, subst, ◌∙◌, arith}
use Rattle.std.proofs.lemmas.Bool.{false≢true}
use Rattle.std.proofs.lemmas.Option.{slice_get_within, slice_get-get_or}
use Rattle.rds_link.specs.declared.end.Got.TheVariants as got
use Rattle.rds_link.specs.declared.end.Put.TheVariants as put
use Rattle.rds_link.specs.Ends.{Means}
use Rattle.rds_model.specs.declared.entry.Entry.{Entry}
use Rattle.rds_model.specs.Honest.{Begins}
use Rattle.rds_model.specs.Owed.{owed_frame}
use Rattle.rds_model.specs.Past.{Moment, now, before}
use Rattle.rds_conn.specs.Connection.{Connection, stream_of, taken_bytes}
use Rattle.rds_line_channel.specs.StreamChanges.{ChangesAt, Receives, Sends}
use Rattle.rds_line_channel.specs.ChangeLaws.{same_length}
use Rattle.rds_line_channel.specs.Streams.{StreamsView, newest_place}
use Rattle.rds_line_channel.specs.Channel.{ChannelView}
use Rattle.rds_line.specs.declared.outcome.Done.{Done}
use Rattle.rds_line.specs.declared.outcome.Heard.{Heard}
use Rattle.rds_line.specs.declared.outcome.Heard.TheVariants as heard
use Rattle.rds_line.specs.declared.outcome.Sent.{Sent}
use Rattle.rds_line.specs.declared.outcome.Sent.TheVariants as sent
use Rattle.rds_line.specs.Doing.{IsRelieved}
use Rattle.rds_line.specs.Line.{LineView, IsOpenOrLast, line_past}
use Rattle.rds_line.specs.Stays.{StreamsStay}
use Rattle.rds_line.specs.Steps.{KeepsArrived, KeepsUnwritten}
use Rattle.rds_line.specs.Turns.{FindsNoOrder, FindsNoRoom, GetsBytes, HearsNothing, IsIdleTurn, LeavesNothing, LoadsOwn, FindsNothingOwed, SendsBytes, TakesOrder, is_bytes_heard, is_bytes_sent}
use Rattle.rds_line.proofs.Ordering.{finds_wider, takes_wider}

-- a journal is at least as long as it was
pub moment_longer : {p q : List Entry} → Moment p q → length p ≤ length q
moment_longer now = omega arith
moment_longer (before {e} {j} m) = let shorter = moment_longer m in omega arith

-- and where it isn't longer, it is the same
pub moment_back : {p q : List Entry} → Moment p q → length q ≤ length p → q ≡ p
moment_back now small = refl
moment_back (before {e} {j} m) small = let shorter = moment_longer m in absurd (omega arith)

some_between : (x y piece z w : List ℕ) → Begins x y → z ≡ y ++ piece → piece ≢ [] → Begins z w → (more : List ℕ) × (more ≢ []) × (w ≡ x ++ more)
some_between x y piece z w first is some last =
    let more = first.0 ++ (piece ++ last.0) in (
      more,
      λ none. some (empty_piece first.0 piece last.0 none),
      last.1 ∙ (ap (λ (l : List ℕ). l ++ last.0) is ∙ (ap (λ (l : List ℕ). (l ++ piece) ++ last.0) first.1 ∙ (append_assoc (x ++ first.0) piece last.0 ∙ append_assoc x first.0 (piece ++ last.0)))),
    )
  where
    empty_front : (l r : List ℕ) → l ++ r ≡ [] → l ≡ []
    empty_front [] r e = refl
    empty_front (a ∷ l) r e = absurd (cc)

    empty_piece : (l p r : List ℕ) → l ++ (p ++ r) ≡ [] → p ≡ []
    empty_piece [] p r e = empty_front p r e
    empty_piece (a ∷ l) p r e = absurd (cc)

module _ {E : Type 0} (m : Means E) where
  there : (xs ys : List (ℕ × E)) (place : ℕ) (x : ℕ × E) → length ys ≡ length xs → slice_get xs place ≡ Some x → slice_get ys place ≡ Some (get_or ys place x)
  there xs ys place x count stands = let small = slice_get_within xs place x stands in slice_get-get_or ys place x (omega arith)

  -- an end got more bytes, whatever came before and after that
  pub gets_wider : (place : ℕ) (a b c d : StreamsView E) → StreamsStay m a b → GetsBytes m place b.list c.list → StreamsStay m c d → GetsBytes m place a.list d.list
  gets_wider place a b c d first gets last =
      let x = get_or a.list place gets.before_it in
      let y = get_or d.list place gets.after_it in
      let stood = there b.list a.list place gets.before_it (sym (same_length b.list a.list first.numbers)) gets.stood in
      let stands = there c.list d.list place gets.after_it (same_length d.list c.list last.numbers) gets.stands in record {
        before_it = x;
        after_it = y;
        stood = stood;
        stands = stands;
        more = λ tells.
            let came = gets.more tells in
            some_between (m.got x.1) (m.got gets.before_it.1) came.0 (m.got gets.after_it.1) (m.got y.1)
            (first.further.at place x gets.before_it stood gets.stood tells).1 came.2 came.1 (last.further.at place gets.after_it y gets.stands stands tells).1;
      }

  -- and sent more
  pub sends_wider : (place : ℕ) (a b c d : StreamsView E) → StreamsStay m a b → SendsBytes m place b.list c.list → StreamsStay m c d → SendsBytes m place a.list d.list
  sends_wider place a b c d first sends last =
      let x = get_or a.list place sends.before_it in
      let y = get_or d.list place sends.after_it in
      let stood = there b.list a.list place sends.before_it (sym (same_length b.list a.list first.numbers)) sends.stood in
      let stands = there c.list d.list place sends.after_it (same_length d.list c.list last.numbers) sends.stands in record {
        before_it = x;
        after_it = y;
        stood = stood;
        stands = stands;
        more = λ tells.
            let went = sends.more tells in
            some_between (m.sent x.1) (m.sent sends.before_it.1) went.0 (m.sent sends.after_it.1) (m.sent y.1)
            (first.further.at place x sends.before_it stood sends.stood tells).0 went.2 went.1 (last.further.at place sends.after_it y sends.stands stands tells).0;
      }

module _ {E M : Type 0} {old new : LineView E M} (relieved : IsRelieved old new) where
  pub relieved_streams : new.channel.streams ≡ old.channel.streams
  relieved_streams = ap (λ (c : ChannelView E). c.streams) relieved.channel

  pub relieved_orders : new.orders ≡ old.orders
  relieved_orders = ap (λ (v : LineView E M). v.orders) relieved.rest

  pub relieved_past : line_past new ≡ line_past old
  relieved_past = ap (λ (c : Connection). c.log.past) relieved.conn

  pub relieved_arrived : KeepsArrived old.channel new.channel
  relieved_arrived _ =
      ap (λ (l : List ℕ). l ++ new.channel.piece) (ap (λ (c : Connection). taken_bytes c) relieved.conn)
      ∙ ap (λ (l : List ℕ). taken_bytes old.channel.conn ++ l) (ap (λ (c : ChannelView E). c.piece) relieved.channel)

  pub relieved_unwritten : KeepsUnwritten old.channel new.channel
  relieved_unwritten _ = ap (λ (c : ChannelView E). c.out) relieved.channel

  pub relieved_nothing : (old.channel.conn.waiting ≡ None) × (old.channel.piece ≡ []) → (new.channel.conn.waiting ≡ None) × (new.channel.piece ≡ [])
  relieved_nothing none = (ap (λ (c : Connection). c.waiting) relieved.conn ∙ none.0, ap (λ (c : ChannelView E). c.piece) relieved.channel ∙ none.1)

  pub relieved_owes : (first : LineView E M) → FindsNothingOwed first old → FindsNothingOwed first new
  relieved_owes first owes = record {
    streams = relieved_streams ∙ owes.streams;
    none_left = ap (λ (c : ChannelView E). c.out) relieved.channel ∙ owes.none_left;
    none_owed = λ s on.
        ap (λ (past : List Entry). owed_frame s past new.own.map) relieved_past
        ∙ (ap (λ (v : LineView E M). owed_frame s (line_past old) v.own.map) relieved.rest
        ∙ owes.none_owed s (sym (ap (λ (c : Connection). stream_of c) relieved.conn) ∙ on));
  }

  pub relieved_full : (m : Means E) (first : LineView E M) → FindsNoRoom m first.channel old.channel → FindsNoRoom m first.channel new.channel
  relieved_full m first full = record {
    answer = subst (λ (s : StreamsView E). ChangesAt (Sends m put.Full []) (newest_place first.channel.streams) first.channel.streams.list s.list) (sym relieved_streams) full.answer;
    on = ap (λ (s : StreamsView E). s.is_open) relieved_streams ∙ full.on;
    left = λ none. full.left (sym (ap (λ (c : ChannelView E). c.out) relieved.channel) ∙ none);
  }

-- what each step of a turn did, in their order
pub record StepsDid {E M : Type 0} (m : Means E) (a b c d e f : LineView E M) (done : Done) : Type 0 where
  pub lengths : (length (line_past a) ≤ length (line_past b)) × (length (line_past b) ≤ length (line_past c)) × (length (line_past c) ≤ length (line_past d)) × (length (line_past d) ≤ length (line_past e)) × (length (line_past e) ≤ length (line_past f))
  pub opened : line_past b ≡ line_past a → b.channel.streams ≡ a.channel.streams
  pub open_orders : b.orders ≡ a.orders
  pub open_last : IsOpenOrLast b
  pub back : length (line_past b) ≤ length (line_past a) → line_past b ≡ line_past a
  pub none : done.took ≡ false → FindsNoOrder b.orders c.orders
  pub still : done.took ≡ false → c.channel.streams ≡ b.channel.streams
  pub hear_orders : d.orders ≡ c.orders
  pub hear_closed : done.heard ≡ heard.Closed → (c.channel.streams.is_open ≡ false) × (d ≡ c)
  pub hear_nothing : done.heard ≡ heard.Nothing → HearsNothing m c.channel d.channel
  pub hear_open : done.heard ≡ heard.Nothing → d.channel.streams.is_open ≡ true
  pub hear_ended : done.heard ≡ heard.Ended → length (line_past c) < length (line_past d)
  pub send_orders : e.orders ≡ d.orders
  pub send_came : LeavesNothing d.channel e.channel
  pub send_closed : done.sent ≡ sent.Closed → (d.channel.streams.is_open ≡ false) × (e ≡ d)
  pub send_open : d.channel.streams.is_open ≡ false → done.sent ≡ sent.Closed
  pub send_nothing : done.sent ≡ sent.Nothing → FindsNothingOwed d e
  pub send_full : done.sent ≡ sent.Full → FindsNoRoom m d.channel e.channel
  pub send_ended : done.sent ≡ sent.Ended → length (line_past d) < length (line_past e)
  pub relieved : IsRelieved e f
  pub send_looked : done.sent ≡ sent.Nothing → LoadsOwn a f

module _ {E M : Type 0} {m : Means E} {a b c d e f : LineView E M} {done : Done} (s : StepsDid m a b c d e f done) where
  orders_after : f.orders ≡ c.orders
  orders_after = relieved_orders s.relieved ∙ (s.send_orders ∙ s.hear_orders)

  pub did_took : (TakesOrder b.orders c.orders) → TakesOrder a.orders f.orders
  did_took took = takes_wider s.open_orders orders_after took

  pub did_none : done.took ≡ false → FindsNoOrder a.orders f.orders
  did_none not_taken = finds_wider s.open_orders orders_after (s.none not_taken)

  module _ (not_taken : done.took ≡ false) (past : line_past f ≡ line_past a) where
    as_long : length (line_past f) ≡ length (line_past a)
    as_long = ap (λ (l : List Entry). length l) past

    streams_before : c.channel.streams ≡ a.channel.streams
    streams_before = s.still not_taken ∙ s.opened (s.back (let n = as_long in omega (arith, n, s.lengths.0, s.lengths.1, s.lengths.2, s.lengths.3, s.lengths.4)))

    -- no stream was open
    closed_contra : c.channel.streams.is_open ≡ false → d ≡ c → (f.channel.streams.is_open ≡ true) ⊎ (f.channel.streams.opened < length f.channel.streams.list) → ⊥
    closed_contra off same left = go s.open_last left
      where
        to_b : f.channel.streams ≡ b.channel.streams
        to_b =
            relieved_streams s.relieved
            ∙ (ap (λ (v : LineView E M). v.channel.streams) (s.send_closed (s.send_open (ap (λ (v : LineView E M). v.channel.streams.is_open) same ∙ off))).1
            ∙ (ap (λ (v : LineView E M). v.channel.streams) same ∙ s.still not_taken))

        off_b : b.channel.streams.is_open ≡ false
        off_b = ap (λ (s : StreamsView E). s.is_open) (sym (s.still not_taken)) ∙ off

        go : IsOpenOrLast b → (f.channel.streams.is_open ≡ true) ⊎ (f.channel.streams.opened < length f.channel.streams.list) → ⊥
        go (inl on) rest = false≢true (sym off_b ∙ on)
        go (inr last) (inl on) = false≢true (sym off_b ∙ (ap (λ (s : StreamsView E). s.is_open) (sym to_b) ∙ on))
        go (inr last) (inr more) =
            let less = subst (λ (s : StreamsView E). s.opened < length s.list) to_b more in omega (arith, less, last)

    -- nothing came
    idle_quiet : HearsNothing m c.channel d.channel → d.channel.streams.is_open ≡ true → f.channel.streams.is_open ≡ true → (FindsNothingOwed d f × LoadsOwn a f) ⊎ FindsNoRoom m d.channel f.channel → IsIdleTurn m a f
    idle_quiet hears on_d on sends =
        let quiet = relieved_nothing s.relieved (s.send_came hears.none_waits hears.none_left) in record {
          orders = did_none not_taken;
          past = past;
          on = on;
          middle = d;
          hears = record {
            answer = subst (λ (s : StreamsView E). ChangesAt (Receives m got.Nothing []) (newest_place s) s.list d.channel.streams.list) streams_before hears.answer;
            none_waits = hears.none_waits;
            none_left = hears.none_left;
          };
          none_waits = quiet.0;
          none_left = quiet.1;
          sends = sends;
        }

    by_sent : HearsNothing m c.channel d.channel → d.channel.streams.is_open ≡ true → (answer : Sent) → done.sent ≡ answer → is_bytes_sent done.sent ≡ false → IsIdleTurn m a f
    by_sent hears on sent.Bytes is no_bytes = absurd (false≢true (sym no_bytes ∙ ap is_bytes_sent is))
    by_sent hears on sent.Nothing is no_bytes =
        let owes = s.send_nothing is in
        idle_quiet hears on (ap (λ (s : StreamsView E). s.is_open) (relieved_streams s.relieved ∙ owes.streams) ∙ on) (inl (relieved_owes s.relieved d owes, s.send_looked is))
    by_sent hears on sent.Full is no_bytes =
        let full = s.send_full is in
        idle_quiet hears on (ap (λ (s : StreamsView E). s.is_open) (relieved_streams s.relieved) ∙ full.on) (inr (relieved_full s.relieved m d full))
    by_sent hears on sent.Ended is no_bytes = absurd (let more = s.send_ended is in let n = as_long in omega (arith, more, n, s.lengths.0, s.lengths.1, s.lengths.2, s.lengths.3, s.lengths.4))
    by_sent hears on sent.Closed is no_bytes = absurd (false≢true (sym (s.send_closed is).0 ∙ on))

    by_heard : (h : Heard) → done.heard ≡ h → is_bytes_heard done.heard ≡ false → is_bytes_sent done.sent ≡ false → (f.channel.streams.is_open ≡ true) ⊎ (f.channel.streams.opened < length f.channel.streams.list) → IsIdleTurn m a f
    by_heard heard.Bytes is no_bytes none_sent left = absurd (false≢true (sym no_bytes ∙ ap is_bytes_heard is))
    by_heard heard.Nothing is no_bytes none_sent left = by_sent (s.hear_nothing is) (s.hear_open is) done.sent refl none_sent
    by_heard heard.Ended is no_bytes none_sent left = absurd (let more = s.hear_ended is in let n = as_long in omega (arith, more, n, s.lengths.0, s.lengths.1, s.lengths.2, s.lengths.3, s.lengths.4))
    by_heard heard.Closed is no_bytes none_sent left = absurd (closed_contra (s.hear_closed is).0 (s.hear_closed is).1 left)

    pub did_idle : is_bytes_heard done.heard ≡ false → is_bytes_sent done.sent ≡ false → (f.channel.streams.is_open ≡ true) ⊎ (f.channel.streams.opened < length f.channel.streams.list) → IsIdleTurn m a f
    did_idle no_bytes none_sent left = by_heard done.heard refl no_bytes none_sent left

abbrev the_sent : {X : Type 0} → Result Sent X → Sent
the_sent (Ok answer) = answer
the_sent (Err error) = sent.Closed

pub same_sent : {X : Type 0} (answer other : Sent) → ◌≡◌ {A = Result Sent X} (Ok answer) (Ok other) → answer ≡ other
same_sent {X} answer other is = ap (λ (r : Result Sent X). the_sent r) is
