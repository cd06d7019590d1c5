-- What a line keeps when it takes an order and obeys it.
use Rattle.std.proofs.Common.{◌≡◌, ◌≢◌, ◌⊎◌, ◌↔◌, inl, inr, ℕ, ◌+◌, ◌<◌, Bool, true, false, List, [], ◌∷◌, ◌++◌, Option, Some, None, is_some, IsSome, Result, Ok, Err, OnOk, OnErr, refl, sym, ap, subst, ◌∙◌}
use Rattle.std.proofs.lemmas.Bool.{false≢true}
use Rattle.rds_link.specs.Ends.{Means}
use Rattle.rds_wire.specs.declared.memory.Memory.{Memory}
use Rattle.rds_model.specs.declared.entry.TheConstants.{MAX_SLOTS}
use Rattle.rds_model.specs.declared.order.Order.{Order}
use Rattle.rds_model.specs.declared.order.Order.TheVariants as order
use Rattle.rds_model.specs.Owed.{last_map}
use Rattle.rds_model.specs.Past.{now, open_stream}
use Rattle.rds_model.specs.SumLaws.{same_list}
use Rattle.rds_mail.specs.Numbers.{Number}
use Rattle.rds_mail.specs.Orders.{IsAsked}
use Rattle.rds_mail.specs.Passes.{Getter, after_get}
use Rattle.rds_conn.specs.Connection.{Connection, freed_bytes_of, stream_of, taken_bytes, with_room}
use Rattle.rds_conn.specs.Orders.{IsOrderFor, after_order}
use Rattle.rds_conn.specs.Released.{released_bytes}
use Rattle.rds_line_channel.specs.Channel.{ChannelView, arrived_bytes, with_conn}
use Rattle.rds_line_channel.specs.Changes.{ShutsStream}
use Rattle.rds_line.specs.Keeps.{KeepsLine, IsPulled}
use Rattle.rds_line.specs.Line.{LineView, line_past}
use Rattle.rds_line.specs.Stays.{ChannelStays}
use Rattle.rds_line.specs.Steps.{KeepsArrived, KeepsOut, KeepsUnwritten}
use Rattle.rds_line.proofs.Acting.{IsQuietPast}
use Rattle.rds_line.proofs.Carrying.{appended_arrived, appended_unwritten, ended_out, out_through, roomy_arrived, roomy_out, roomy_unwritten, shut_longer, still_out}
use Rattle.rds_line.proofs.Keeping.{keeps_still, pulled_off, pulled_still}
use Rattle.rds_line.proofs.Staying.{channel_of, channel_through, order_stays, room_stays, streams_same}
use Rattle.rds_line.proofs.Taking.{uncut_of, TakesCut, cut_past, takes_cut, orders_past, cut_off, cut_stays, keeps_cut, keeps_ordered, pulled_ordered}

-- room was made for the note of a cut, or there was no memory for it
pub cut_room : {E : Type 0} (old new : ChannelView E) (r : Result (Unit {0}) Memory) → OnOk r (new ≡ record old { cuts = record old.cuts { has_room = true } }) → OnErr r (new ≡ old)
    → new ≡ record old { cuts = record old.cuts { has_room = new.cuts.has_room } }
cut_room {E} old new (Ok x) ok err = ok ∙ ap (λ (b : Bool). record old { cuts = record old.cuts { has_room = b } }) (sym (ap (λ (c : ChannelView E). c.cuts.has_room) ok))
cut_room {E} old new (Err e) ok err = err ∙ ap (λ (b : Bool). record old { cuts = record old.cuts { has_room = b } }) (sym (ap (λ (c : ChannelView E). c.cuts.has_room) err))

-- room was made for entries, and maybe for the note of a cut
module _ {E M : Type 0} (v : LineView E M) (roomy new : ChannelView E) (first : roomy ≡ with_conn v.channel (with_room v.channel.conn)) (second : new ≡ record roomy { cuts = record roomy.cuts { has_room = new.cuts.has_room } }) where
  pub roomy_stays : (m : Means E) → ChannelStays m v.channel new
  roomy_stays m = channel_through m v.channel roomy new
      (channel_of m v.channel roomy (with_conn v.channel (with_room v.channel.conn)) first (room_stays m v.channel))
      (channel_of m roomy new (record roomy { cuts = record roomy.cuts { has_room = new.cuts.has_room } }) second
      (record {
        me = refl;
        peer = refl;
        slots = refl;
        limit = refl;
        past = now;
        streams = streams_same m roomy.streams;
        cuts = same_list roomy.cuts.numbers;
      }))

  pub roomy_past : new.conn.log.past ≡ line_past v
  roomy_past = ap (λ (c : ChannelView E). c.conn.log.past) second ∙ ap (λ (c : ChannelView E). c.conn.log.past) first

  pub roomy_streams : new.streams ≡ v.channel.streams
  roomy_streams = ap (λ (c : ChannelView E). c.streams) second ∙ ap (λ (c : ChannelView E). c.streams) first

  -- nor was anything that came touched, or anything that is to be written
  module _ {shown : LineView E M} (is : v ≡ shown) where
    pub room_arrived : (later : ChannelView E) → KeepsArrived new later → KeepsArrived shown.channel later
    room_arrived later keeps = roomy_arrived is roomy later first (λ same.
        keeps (same ∙ sym (ap (λ (c : ChannelView E). c.conn.log.past) second))
        ∙ ap (λ (c : ChannelView E). arrived_bytes c) second)

    pub room_unwritten : (later : ChannelView E) → KeepsUnwritten new later → KeepsUnwritten shown.channel later
    room_unwritten later keeps = roomy_unwritten is roomy later first (λ same.
        keeps (same ∙ sym (ap (λ (c : ChannelView E). c.conn.log.past) second)) ∙ ap (λ (c : ChannelView E). c.out) second)

    pub room_out : (later : ChannelView E) → KeepsOut new later → KeepsOut shown.channel later
    room_out later keeps = roomy_out is roomy later first
        (out_through roomy new later
        (still_out roomy new (ap (λ (c : ChannelView E). c.streams.is_open) second) (ap (λ (c : ChannelView E). c.out) second)) keeps)

  pub keeps_roomy : (published : M → List (List ℕ)) → KeepsLine published v → KeepsLine published (record v { channel = new })
  keeps_roomy published k = keeps_still published v new roomy_past
      (ap (λ (c : ChannelView E). c.conn.peer) second ∙ ap (λ (c : ChannelView E). c.conn.peer) first)
      (ap (λ (c : ChannelView E). c.conn.slots) second ∙ ap (λ (c : ChannelView E). c.conn.slots) first)
      (ap (λ (c : ChannelView E). c.conn.freed) second ∙ ap (λ (c : ChannelView E). c.conn.freed) first)
      (ap (λ (c : ChannelView E). c.cuts.numbers) second ∙ ap (λ (c : ChannelView E). c.cuts.numbers) first) k

  pub pulled_roomy : (pulled : Bool) → IsPulled pulled v → IsPulled pulled (record v { channel = new })
  pulled_roomy pulled was = pulled_still pulled v (record v { channel = new }) (ap open_stream roomy_past) (λ s. ap (last_map s) roomy_past) refl was

-- what an order may ask of a connection
pub asked_allowed : {slots : ℕ} (o : Order) → slots ≡ MAX_SLOTS → IsAsked o → o ≢ order.Cut → IsOrderFor slots o
asked_allowed {slots} (order.Send slot sport dport payload) all asked other = (subst (λ (n : ℕ). slot < n) (sym all) asked.0, asked.1)
asked_allowed {slots} (order.Cancel slot dport) all asked other = subst (λ (n : ℕ). slot < n) (sym all) asked
asked_allowed {slots} (order.CloseSocket slot) all asked other = subst (λ (n : ℕ). slot < n) (sym all) asked
asked_allowed {slots} order.Cut all asked other = absurd (other refl)

cut_or_not : (o : Order) → (o ≡ order.Cut) ⊎ (o ≢ order.Cut)
cut_or_not (order.Send slot sport dport payload) = inr (λ e. absurd (cc))
cut_or_not (order.Cancel slot dport) = inr (λ e. absurd (cc))
cut_or_not (order.CloseSocket slot) = inr (λ e. absurd (cc))
cut_or_not order.Cut = inl refl

-- an order of a socket touches nothing that came
ordered_taken : (o : Order) (c : Connection) → taken_bytes (after_order o c) ≡ taken_bytes c
ordered_taken (order.Send slot sport dport payload) c = refl
ordered_taken (order.Cancel slot dport) c = refl
ordered_taken (order.CloseSocket slot) c = refl
ordered_taken order.Cut c = refl

-- an order was taken and obeyed
module _ {E M : Type 0} (m : Means E) (v : LineView E M) (channel : ChannelView E) (getter : Getter Order) (number : Number) (o : Order)
    (is : getter ≡ after_get v.orders number o) where
  -- what was done for it
  pub record Obeys : Type 0 where
    pub shut : o ≡ order.Cut → (n : ℕ) → stream_of v.channel.conn ≡ Some n → ShutsStream m n v.channel channel × (channel.cuts ≡ record { numbers = v.channel.cuts.numbers ++ n ∷ []; has_room = false })
    pub late : o ≡ order.Cut → v.channel.streams.is_open ≡ false → channel ≡ record v.channel { cuts = record { numbers = v.channel.cuts.numbers ++ 0 ∷ []; has_room = false } }
    pub entry : o ≢ order.Cut → channel ≡ with_conn v.channel (record (after_order o v.channel.conn) { freed = channel.conn.freed })
    pub freed : o ≢ order.Cut → (slot : ℕ) → slot < v.channel.conn.slots → freed_bytes_of slot channel.conn + released_bytes slot v.channel.conn.log.past ≡ freed_bytes_of slot v.channel.conn + released_bytes slot channel.conn.log.past
    pub tie : (v.channel.streams.is_open ≡ true) ↔ IsSome (stream_of v.channel.conn)

  module _ (did : Obeys) where
    cut_of : o ≡ order.Cut → TakesCut v channel getter number m
    cut_of cut = takes_cut v channel getter number m (did.shut cut) (did.late cut) did.tie

    -- what came and what is to be written is the same, or an entry was appended; where no stream is open any more, it was shut
    obeyed_bytes : KeepsArrived v.channel channel × KeepsUnwritten v.channel channel × KeepsOut v.channel channel
    obeyed_bytes = go (cut_or_not o)
      where
        late : o ≡ order.Cut → stream_of v.channel.conn ≡ None → (b : Bool) → v.channel.streams.is_open ≡ b →
            KeepsArrived v.channel channel × KeepsUnwritten v.channel channel × KeepsOut v.channel channel
        late cut none true on = absurd (false≢true (sym (ap is_some none) ∙ did.tie.0 on))
        late cut none false off = (
          λ _. ap (λ (c : ChannelView E). arrived_bytes c) (did.late cut off),
          λ _. ap (λ (c : ChannelView E). c.out) (did.late cut off),
          still_out v.channel channel (ap (λ (c : ChannelView E). c.streams.is_open) (did.late cut off))
              (ap (λ (c : ChannelView E). c.out) (did.late cut off)),
        )

        shut : o ≡ order.Cut → (n : Option ℕ) → stream_of v.channel.conn ≡ n →
            KeepsArrived v.channel channel × KeepsUnwritten v.channel channel × KeepsOut v.channel channel
        shut cut (Some n) on =
            let shuts = (did.shut cut n on).0 in
            let more = shut_longer m n v.channel channel shuts in
            (appended_arrived v.channel channel more, appended_unwritten v.channel channel more, ended_out m v.channel channel shuts.streams)
        shut cut None none = late cut none v.channel.streams.is_open refl

        go : (o ≡ order.Cut) ⊎ (o ≢ order.Cut) → KeepsArrived v.channel channel × KeepsUnwritten v.channel channel × KeepsOut v.channel channel
        go (inl cut) = shut cut (stream_of v.channel.conn) refl
        go (inr other) = (
          λ _.
              ap (λ (c : ChannelView E). arrived_bytes c) (did.entry other)
              ∙ ap (λ (l : List ℕ). l ++ v.channel.piece) (ordered_taken o v.channel.conn),
          λ _. ap (λ (c : ChannelView E). c.out) (did.entry other),
          still_out v.channel channel (ap (λ (c : ChannelView E). c.streams.is_open) (did.entry other))
              (ap (λ (c : ChannelView E). c.out) (did.entry other)),
        )

    pub obeyed_arrived : KeepsArrived v.channel channel
    obeyed_arrived = obeyed_bytes.0

    pub obeyed_unwritten : KeepsUnwritten v.channel channel
    obeyed_unwritten = obeyed_bytes.1

    pub obeyed_out : KeepsOut v.channel channel
    obeyed_out = obeyed_bytes.2

    pub keeps_obeyed : (published : M → List (List ℕ)) (pulled : Bool) → IsAsked o → KeepsLine published v × IsPulled pulled v →
        KeepsLine published (record v { channel = channel; orders = getter }) × IsPulled pulled (record v { channel = channel; orders = getter })
    keeps_obeyed published pulled asked was = go (cut_or_not o)
      where
        go : (o ≡ order.Cut) ⊎ (o ≢ order.Cut) →
            KeepsLine published (record v { channel = channel; orders = getter }) × IsPulled pulled (record v { channel = channel; orders = getter })
        go (inl cut) =
            let cuts = is ∙ ap (after_get v.orders number) cut in (
              keeps_cut v channel getter number m cuts published (cut_of cut) was.0,
              pulled_off pulled (record v { channel = channel; orders = getter }) (cut_off v channel getter number m cuts (cut_of cut)),
            )
        go (inr other) = (
          keeps_ordered v channel getter number o is (did.entry other) published (uncut_of o other) asked (did.freed other) was.0,
          pulled_ordered v channel getter number o is (did.entry other) pulled was.1,
        )

    pub obeyed_stays : ChannelStays m v.channel channel
    obeyed_stays = go (cut_or_not o)
      where
        go : (o ≡ order.Cut) ⊎ (o ≢ order.Cut) → ChannelStays m v.channel channel
        go (inl cut) = cut_stays v channel getter number m (is ∙ ap (after_get v.orders number) cut) (cut_of cut)
        go (inr other) = order_stays m o v.channel channel (did.entry other)

    pub obeyed_past : IsQuietPast (line_past v) channel.conn.log.past
    obeyed_past = go (cut_or_not o)
      where
        go : (o ≡ order.Cut) ⊎ (o ≢ order.Cut) → IsQuietPast (line_past v) channel.conn.log.past
        go (inl cut) = cut_past v channel getter number m (cut_of cut)
        go (inr other) = orders_past o v.channel channel (did.entry other)
