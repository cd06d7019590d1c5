-- What every turn of a line leaves as it was stays so over each call of its channel, and over several calls.
use Rattle.std.proofs.Common.{◌≡◌, ℕ, ◌+◌, true, List, [], ◌∷◌, refl, sym, ap, subst, ◌∙◌, arith}
use Rattle.std.proofs.lemmas.Option.{same_Some}
use Rattle.rds_link.specs.declared.end.Got.{Got}
use Rattle.rds_link.specs.declared.end.Put.{Put}
use Rattle.rds_link.specs.Ends.{Means}
use Rattle.rds_bindtab.specs.declared.view.View.{View as PortView}
use Rattle.rds_meter.specs.declared.view.View.{View as MeterView}
use Rattle.rds_model.specs.declared.entry.Entry.TheVariants as entry
use Rattle.rds_model.specs.declared.order.Order.{Order}
use Rattle.rds_model.specs.declared.order.Order.TheVariants as order
use Rattle.rds_model.specs.Honest.{Begins}
use Rattle.rds_model.specs.Past.{Moment, now, before}
use Rattle.rds_model.specs.SumLaws.{same_list}
use Rattle.rds_conn.specs.Connection.{Connection, with_entries, with_room}
use Rattle.rds_conn.specs.Orders.{after_order}
use Rattle.rds_line_channel.specs.StreamChanges.{ChangesAt, Receives, Sends, IsShutDown}
use Rattle.rds_line_channel.specs.ChangeLaws.{same_length, each_through, changed_each, changed_numbers, changed_paired}
use Rattle.rds_line_channel.specs.Meeting.{StayPaired}
use Rattle.rds_line_channel.specs.Streams.{StreamsView}
use Rattle.rds_line_channel.specs.Channel.{ChannelView, with_conn}
use Rattle.rds_line_channel.specs.Changes.{OpensNext, EndsStream, ShutsStream}
use Rattle.rds_line.specs.Acts.{acted, nothing}
use Rattle.rds_line.specs.ActLaws.{acts_through}
use Rattle.rds_line.specs.Line.{LineView}
use Rattle.rds_line.specs.Stays.{GoesFurther, StreamsStay, ChannelStays, LineStays}
use Rattle.rds_line.proofs.Acting.{ActsOn, still_acts}
use Rattle.rds_line.proofs.Same.{begins_through, begins_of, moment_through, moment_of, boxes_same, boxes_through}

module _ {E : Type 0} (m : Means E) where
  further_same : (e : E) → GoesFurther m e e
  further_same e tells = (same_list (m.sent e), same_list (m.got e))

  further_through : (x y z : E) → GoesFurther m x y → GoesFurther m y z → GoesFurther m x z
  further_through x y z first second tells = (
    begins_through (m.sent x) (m.sent y) (m.sent z) (first tells).0 (second tells).0,
    begins_through (m.got x) (m.got y) (m.got z) (first tells).1 (second tells).1,
  )

  pub streams_same : (old : StreamsView E) → StreamsStay m old old
  streams_same old = record {
    numbers = refl;
    opened = omega arith;
    further = record {
      at = λ place x y stood stands.
          subst (λ (s : ℕ × E). GoesFurther m x.1 s.1) (same_Some x y (sym stood ∙ stands)) (further_same x.1);
    };
    paired = record { forth = λ others pairs. pairs; back = λ others pairs. pairs };
  }

  pub streams_through : (old middle new : StreamsView E) → StreamsStay m old middle → StreamsStay m middle new → StreamsStay m old new
  streams_through old middle new first second = record {
    numbers = second.numbers ∙ first.numbers;
    opened = let one = first.opened in let two = second.opened in omega arith;
    further = each_through old.list middle.list new.list further_through (same_length middle.list old.list first.numbers) first.further second.further;
    paired = record {
      forth = λ others pairs. second.paired.forth others (first.paired.forth others pairs);
      back = λ others pairs. second.paired.back others (first.paired.back others pairs);
    };
  }

  pub channel_same : (old : ChannelView E) → ChannelStays m old old
  channel_same old = record {
    me = refl;
    peer = refl;
    slots = refl;
    limit = refl;
    past = now;
    streams = streams_same old.streams;
    cuts = same_list old.cuts.numbers;
  }

  pub channel_through : (old middle new : ChannelView E) → ChannelStays m old middle → ChannelStays m middle new → ChannelStays m old new
  channel_through old middle new first second = record {
    me = second.me ∙ first.me;
    peer = second.peer ∙ first.peer;
    slots = second.slots ∙ first.slots;
    limit = second.limit ∙ first.limit;
    past = moment_through first.past second.past;
    streams = streams_through old.streams middle.streams new.streams first.streams second.streams;
    cuts = begins_through old.cuts.numbers middle.cuts.numbers new.cuts.numbers first.cuts second.cuts;
  }

  -- a channel of which this much is as it was
  pub channel_of : (old new middle : ChannelView E) → new ≡ middle → ChannelStays m old middle → ChannelStays m old new
  channel_of old new middle is stays = subst (λ (c : ChannelView E). ChannelStays m old c) (sym is) stays

  -- only the connection changed, and it is the same but for more entries
  pub conn_stays : (old : ChannelView E) (conn : Connection) → conn.me ≡ old.conn.me → conn.peer ≡ old.conn.peer → conn.slots ≡ old.conn.slots
      → conn.log.limit ≡ old.conn.log.limit → Moment old.conn.log.past conn.log.past → ChannelStays m old (with_conn old conn)
  conn_stays old conn me peer slots limit past = record {
    me = me;
    peer = peer;
    slots = slots;
    limit = limit;
    past = past;
    streams = streams_same old.streams;
    cuts = same_list old.cuts.numbers;
  }

  -- room was made
  pub room_stays : (old : ChannelView E) → ChannelStays m old (with_conn old (with_room old.conn))
  room_stays old = conn_stays old (with_room old.conn) refl refl refl refl now

  -- freed bytes were handed out
  pub relief_stays : (old new : ChannelView E) → new ≡ with_conn old (record old.conn { freed = new.conn.freed }) → ChannelStays m old new
  relief_stays old new is = channel_of old new (with_conn old (record old.conn { freed = new.conn.freed })) is
      (conn_stays old (record old.conn { freed = new.conn.freed }) refl refl refl refl now)

  -- an order was taken
  order_conn : (old : ChannelView E) (o : Order) (freed : List ℕ) → ChannelStays m old (with_conn old (record (after_order o old.conn) { freed = freed }))
  order_conn old (order.Send slot sport dport payload) freed =
      conn_stays old (record (after_order (order.Send slot sport dport payload) old.conn) { freed = freed }) refl refl refl refl (before now)
  order_conn old (order.Cancel slot dport) freed =
      conn_stays old (record (after_order (order.Cancel slot dport) old.conn) { freed = freed }) refl refl refl refl (before now)
  order_conn old (order.CloseSocket slot) freed =
      conn_stays old (record (after_order (order.CloseSocket slot) old.conn) { freed = freed }) refl refl refl refl (before now)
  order_conn old order.Cut freed = conn_stays old (record old.conn { freed = freed }) refl refl refl refl now

  pub order_stays : (o : Order) (old new : ChannelView E) → new ≡ with_conn old (record (after_order o old.conn) { freed = new.conn.freed }) → ChannelStays m old new
  order_stays o old new is = channel_of old new (with_conn old (record (after_order o old.conn) { freed = new.conn.freed })) is (order_conn old o new.conn.freed)

  -- the next stream was opened
  pub opening_stays : (old new : ChannelView E) → OpensNext old new → ChannelStays m old new
  opening_stays old new opens = channel_of old new
      (record old {
        conn = with_entries (entry.Open opens.number ∷ []) old.conn;
        streams = record old.streams { opened = old.streams.opened + 1; is_open = true };
      }) opens.is (record {
        me = refl;
        peer = refl;
        slots = refl;
        limit = refl;
        past = before now;
        streams = record {
          numbers = refl;
          opened = omega arith;
          further = (streams_same old.streams).further;
          paired = (streams_same old.streams).paired;
        };
        cuts = same_list old.cuts.numbers;
      })

  -- the end at one place went further, and meets whom it met before
  pub list_stays : {Way : E → E → Type 0} {place : ℕ} (old new : StreamsView E) → (change : ChangesAt Way place old.list new.list)
      → GoesFurther m change.end_before change.end_after → StayPaired m old.list new.list → new.opened ≡ old.opened → StreamsStay m old new
  list_stays old new change further paired opened = record {
    numbers = changed_numbers change;
    opened = omega arith;
    further = changed_each change (GoesFurther m) further_same further;
    paired = paired;
  }

  receives_further : (answer : Got) (piece : List ℕ) (old new : E) → Receives m answer piece old new → GoesFurther m old new
  receives_further answer piece old new did tells = (begins_of (m.sent old) (m.sent new) did.sent.0, (piece, did.got tells))

  sends_further : (answer : Put) (piece : List ℕ) (old new : E) → Sends m answer piece old new → GoesFurther m old new
  sends_further answer piece old new did tells = ((piece, did.sent tells), begins_of (m.got old) (m.got new) did.got.0)

  shut_further : (old new : E) → IsShutDown m old new → GoesFurther m old new
  shut_further old new did tells = (begins_of (m.sent old) (m.sent new) did.sent.0, begins_of (m.got old) (m.got new) did.got.0)

  -- the open end was read
  pub read_stays : (answer : Got) (piece : List ℕ) (place : ℕ) (old new : StreamsView E) → ChangesAt (Receives m answer piece) place old.list new.list
      → new.opened ≡ old.opened → StreamsStay m old new
  read_stays answer piece place old new change opened =
      list_stays old new change (receives_further answer piece change.end_before change.end_after change.way) (changed_paired change m change.way.meets) opened

  -- the open end was written to
  pub write_stays : (answer : Put) (piece : List ℕ) (place : ℕ) (old new : StreamsView E) → ChangesAt (Sends m answer piece) place old.list new.list
      → new.opened ≡ old.opened → StreamsStay m old new
  write_stays answer piece place old new change opened =
      list_stays old new change (sends_further answer piece change.end_before change.end_after change.way) (changed_paired change m change.way.meets) opened

  -- the open end was shut
  pub ending_stays : (old new : StreamsView E) → EndsStream m old new → StreamsStay m old new
  ending_stays old new ends =
      list_stays old new ends.change (shut_further ends.change.end_before ends.change.end_after ends.change.way) (changed_paired ends.change m ends.change.way.meets)
      (ap (λ (s : StreamsView E). s.opened) ends.is)

  -- only the streams and what is on its way changed
  pub channel_moved : (old new : ChannelView E) → new.conn ≡ old.conn → new.cuts ≡ old.cuts → StreamsStay m old.streams new.streams → ChannelStays m old new
  channel_moved old new conn cuts streams = record {
    me = ap (λ (c : Connection). c.me) conn;
    peer = ap (λ (c : Connection). c.peer) conn;
    slots = ap (λ (c : Connection). c.slots) conn;
    limit = ap (λ (c : Connection). c.log.limit) conn;
    past = moment_of old.conn.log.past new.conn.log.past (ap (λ (c : Connection). c.log.past) conn);
    streams = streams;
    cuts = begins_of old.cuts.numbers new.cuts.numbers (ap (λ (c : _). c.numbers) cuts);
  }

  -- the open stream was shut
  pub shutting_stays : (number : ℕ) (old new : ChannelView E) → ShutsStream m number old new → Begins old.cuts.numbers new.cuts.numbers → ChannelStays m old new
  shutting_stays number old new shuts cuts = record {
    me = ap (λ (c : Connection). c.me) shuts.conn;
    peer = ap (λ (c : Connection). c.peer) shuts.conn;
    slots = ap (λ (c : Connection). c.slots) shuts.conn;
    limit = ap (λ (c : Connection). c.log.limit) shuts.conn;
    past = subst (λ (c : Connection). Moment old.conn.log.past c.log.past) (sym shuts.conn) (before now);
    streams = ending_stays old.streams new.streams shuts.streams;
    cuts = cuts;
  }

  module _ {M Name : Type 0} (pair : M → Name) where
    -- a line whose channel is the same, and all else as it was
    pub line_stays : (old : LineView E M) (channel : ChannelView E) → ChannelStays m old.channel channel →
        ActsOn old.channel.conn.log.past channel.conn.log.past → LineStays m pair old (record old { channel = channel })
    line_stays old channel stays acts = record {
      channel = stays;
      mail = refl;
      told = refl;
      joined = refl;
      got = same_list old.orders.got;
      boxes = boxes_same old.boxes;
      ports = refl;
      port_view = refl;
      looks = same_list old.ports.view.steps;
      always = λ telling was. was;
      words = refl;
      slot = refl;
      meter_view = refl;
      steps = same_list old.words.view.steps;
      acts = acts (acted old) (acted old) refl nothing;
      map = refl;
    }

    pub line_same : (old : LineView E M) → LineStays m pair old old
    line_same old = line_stays old old.channel (channel_same old.channel) (still_acts _ _ refl)

    pub line_of : (old new middle : LineView E M) → new ≡ middle → LineStays m pair old middle → LineStays m pair old new
    line_of old new middle is stays = subst (λ (v : LineView E M). LineStays m pair old v) (sym is) stays

    -- the same where the fields of a line are known by its view
    pub line_shown : (inside shown new : LineView E M) → inside ≡ shown → LineStays m pair inside new → LineStays m pair shown new
    line_shown inside shown new is stays = subst (λ (v : LineView E M). LineStays m pair v new) is stays

    pub line_inside : (inside shown : LineView E M) → inside ≡ shown → (channel : ChannelView E) → ChannelStays m inside.channel channel →
        channel.conn.log.past ≡ inside.channel.conn.log.past → LineStays m pair shown (record inside { channel = channel })
    line_inside inside shown is channel stays past =
        line_shown inside shown (record inside { channel = channel }) is
        (line_stays inside channel stays (still_acts inside.channel.conn.log.past channel.conn.log.past past))

    pub line_through : (old middle new : LineView E M) → LineStays m pair old middle → LineStays m pair middle new → LineStays m pair old new
    line_through old middle new first second = record {
      channel = channel_through old.channel middle.channel new.channel first.channel second.channel;
      mail = second.mail ∙ first.mail;
      told = second.told ∙ first.told;
      joined = second.joined ∙ first.joined;
      got = begins_through old.orders.got middle.orders.got new.orders.got first.got second.got;
      boxes = boxes_through old.boxes middle.boxes new.boxes first.boxes second.boxes;
      ports = second.ports ∙ first.ports;
      port_view = second.port_view ∙ ap (λ (v : PortView). record v { steps = new.ports.view.steps }) first.port_view;
      looks = begins_through old.ports.view.steps middle.ports.view.steps new.ports.view.steps first.looks second.looks;
      always = λ telling was. second.always telling (first.always telling was);
      words = second.words ∙ first.words;
      slot = second.slot ∙ first.slot;
      meter_view =
          second.meter_view
          ∙ ap (λ (v : MeterView). record v { checks = new.words.view.checks; steps = new.words.view.steps }) first.meter_view;
      steps = begins_through old.words.view.steps middle.words.view.steps new.words.view.steps first.steps second.steps;
      acts = acts_through first.acts second.acts;
      map = second.map ∙ first.map;
    }
