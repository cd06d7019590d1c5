-- What a line keeps stays so where an order is taken.
use Rattle.std.proofs.Common.{◌≡◌, ◌≢◌, ◌⊎◌, ◌↔◌, inl, inr, ℕ, suc, ◌+◌, ◌<◌, Bool, true, false, List, [], ◌∷◌, ◌++◌, Option, Some, None, is_some, IsSome, if◌then◌else◌, length, length-append, ne_eqb, refl, sym, ap, subst, ◌∙◌, arith}
use Rattle.std.proofs.lemmas.Bool.{false≢true}
use Rattle.rds_link.specs.Ends.{Means}
use Rattle.rds_model.specs.declared.entry.Entry.TheVariants as entry
use Rattle.rds_model.specs.declared.entry.Target.TheVariants as target
use Rattle.rds_model.specs.declared.entry.TheConstants.{MAX_SLOTS, NO_SLOT}
use Rattle.rds_model.specs.declared.order.Order.{Order}
use Rattle.rds_model.specs.declared.order.Order.TheVariants as order
use Rattle.rds_model.specs.Owed.{last_map}
use Rattle.rds_model.specs.Honest.{Begins}
use Rattle.rds_model.specs.Past.{Moment, now, open_stream}
use Rattle.rds_model.specs.Sums.{orders}
use Rattle.rds_model.specs.SumLaws.{same_list}
use Rattle.rds_mail.specs.Numbers.{Number, Numbered, bare_items}
use Rattle.rds_mail.specs.Orders.{IsAsked}
use Rattle.rds_mail.specs.Passes.{Getter, after_get, after_none}
use Rattle.rds_conn.specs.Connection.{Connection, freed_bytes_of, stream_of}
use Rattle.rds_conn.specs.Orders.{after_order}
use Rattle.rds_conn.specs.Released.{released_bytes}
use Rattle.rds_line_channel.specs.Channel.{ChannelView, CutsView, with_conn}
use Rattle.rds_line_channel.specs.Streams.{StreamsView}
use Rattle.rds_line_channel.specs.Changes.{ShutsStream}
use Rattle.rds_line.specs.Keeps.{KeepsLine, IsPulled, uncut, cuts_among}
use Rattle.rds_line.specs.Acts.{acted, nothing}
use Rattle.rds_line.specs.Line.{LineView, line_past}
use Rattle.rds_line.specs.Stays.{StreamsStay, ChannelStays, LineStays}
use Rattle.rds_line.proofs.Acting.{ActsOn, IsQuietPast, more_past, past_through, still_past}
use Rattle.rds_line.proofs.Keeping.{HasSameSums, sums_same, sums_of, sums_more, held_same, keeps_taken, pulled_still, plain_released}
use Rattle.rds_line.proofs.Staying.{shutting_stays, streams_same}
use Rattle.rds_line.proofs.Same.{begins_of, boxes_same}

-- one order more
more_bare : (got : List (Numbered Order)) (number : Number) (o : Order) → bare_items (got ++ (number, o) ∷ []) ≡ bare_items got ++ o ∷ []
more_bare [] number o = refl
more_bare (e ∷ got) number o = ap (λ (l : List Order). e.1 ∷ l) (more_bare got number o)

-- the order is no cut
abbrev pub IsUncut : Order → Type 0
IsUncut (order.Send slot sport dport payload) = Unit {0}
IsUncut (order.Cancel slot dport) = Unit {0}
IsUncut (order.CloseSocket slot) = Unit {0}
IsUncut order.Cut = ⊥

pub uncut_of : (o : Order) → o ≢ order.Cut → IsUncut o
uncut_of (order.Send slot sport dport payload) other = tt
uncut_of (order.Cancel slot dport) other = tt
uncut_of (order.CloseSocket slot) other = tt
uncut_of order.Cut other = absurd (other refl)

more_uncut : (list : List Order) (o : Order) → IsUncut o → uncut (list ++ o ∷ []) ≡ uncut list ++ o ∷ []
more_uncut [] (order.Send slot sport dport payload) is = refl
more_uncut [] (order.Cancel slot dport) is = refl
more_uncut [] (order.CloseSocket slot) is = refl
more_uncut [] order.Cut is = absurd is
more_uncut (order.Send slot sport dport payload ∷ list) o is = ap (λ (l : List Order). order.Send slot sport dport payload ∷ l) (more_uncut list o is)
more_uncut (order.Cancel slot dport ∷ list) o is = ap (λ (l : List Order). order.Cancel slot dport ∷ l) (more_uncut list o is)
more_uncut (order.CloseSocket slot ∷ list) o is = ap (λ (l : List Order). order.CloseSocket slot ∷ l) (more_uncut list o is)
more_uncut (order.Cut ∷ list) o is = more_uncut list o is

cut_left_out : (list : List Order) → uncut (list ++ order.Cut ∷ []) ≡ uncut list
cut_left_out [] = refl
cut_left_out (order.Send slot sport dport payload ∷ list) = ap (λ (l : List Order). order.Send slot sport dport payload ∷ l) (cut_left_out list)
cut_left_out (order.Cancel slot dport ∷ list) = ap (λ (l : List Order). order.Cancel slot dport ∷ l) (cut_left_out list)
cut_left_out (order.CloseSocket slot ∷ list) = ap (λ (l : List Order). order.CloseSocket slot ∷ l) (cut_left_out list)
cut_left_out (order.Cut ∷ list) = cut_left_out list

same_cuts : (list : List Order) (o : Order) → IsUncut o → cuts_among (list ++ o ∷ []) ≡ cuts_among list
same_cuts [] (order.Send slot sport dport payload) is = refl
same_cuts [] (order.Cancel slot dport) is = refl
same_cuts [] (order.CloseSocket slot) is = refl
same_cuts [] order.Cut is = absurd is
same_cuts (order.Send slot sport dport payload ∷ list) o is = same_cuts list o is
same_cuts (order.Cancel slot dport ∷ list) o is = same_cuts list o is
same_cuts (order.CloseSocket slot ∷ list) o is = same_cuts list o is
same_cuts (order.Cut ∷ list) o is = ap suc (same_cuts list o is)

one_cut : (list : List Order) → cuts_among (list ++ order.Cut ∷ []) ≡ suc (cuts_among list)
one_cut [] = refl
one_cut (order.Send slot sport dport payload ∷ list) = one_cut list
one_cut (order.Cancel slot dport ∷ list) = one_cut list
one_cut (order.CloseSocket slot ∷ list) = one_cut list
one_cut (order.Cut ∷ list) = ap suc (one_cut list)

-- what the journal gets of an order of a socket
module _ (c : Connection) where
  ordered_past : (o : Order) → IsUncut o → IsAsked o → orders (after_order o c).log.past ≡ orders c.log.past ++ o ∷ []
  ordered_past (order.Send slot sport dport payload) is asked =
      let small : slot < MAX_SLOTS = asked.0 in
      let other : slot ≢ NO_SLOT = λ e. absurd (omega arith) in
      ap (λ (b : Bool). if b then orders c.log.past else orders c.log.past ++ order.Send slot sport dport payload ∷ []) (ne_eqb slot NO_SLOT other)
  ordered_past (order.Cancel slot dport) is asked = refl
  ordered_past (order.CloseSocket slot) is asked = refl
  ordered_past order.Cut is asked = absurd is

  ordered_sums : (o : Order) → HasSameSums c.log.past (after_order o c).log.past
  ordered_sums (order.Send slot sport dport payload) = sums_more (entry.Accept slot sport dport payload) c.log.past tt
  ordered_sums (order.Cancel slot dport) = sums_more (entry.Cancel slot (target.Port dport)) c.log.past tt
  ordered_sums (order.CloseSocket slot) = sums_more (entry.Cancel slot target.All) c.log.past tt
  ordered_sums order.Cut = sums_same c.log.past

  ordered_parts : (o : Order) → ((after_order o c).peer ≡ c.peer) × ((after_order o c).slots ≡ c.slots)
  ordered_parts (order.Send slot sport dport payload) = (refl, refl)
  ordered_parts (order.Cancel slot dport) = (refl, refl)
  ordered_parts (order.CloseSocket slot) = (refl, refl)
  ordered_parts order.Cut = (refl, refl)

  ordered_streams : (o : Order) → (open_stream (after_order o c).log.past ≡ open_stream c.log.past) × ((s : ℕ) → last_map s (after_order o c).log.past ≡ last_map s c.log.past)
  ordered_streams (order.Send slot sport dport payload) = (refl, λ s. refl)
  ordered_streams (order.Cancel slot dport) = (refl, λ s. refl)
  ordered_streams (order.CloseSocket slot) = (refl, λ s. refl)
  ordered_streams order.Cut = (refl, λ s. refl)

module _ {E M : Type 0} (v : LineView E M) (channel : ChannelView E) (getter : Getter Order) (number : Number) where
  -- an order of a socket was taken
  module _ (o : Order) (is : getter ≡ after_get v.orders number o) (entry_is : channel ≡ with_conn v.channel (record (after_order o v.channel.conn) { freed = channel.conn.freed })) where
    pub keeps_ordered : (published : M → List (List ℕ)) → IsUncut o → IsAsked o
        → ((slot : ℕ) → slot < v.channel.conn.slots → freed_bytes_of slot channel.conn + released_bytes slot v.channel.conn.log.past ≡ freed_bytes_of slot v.channel.conn + released_bytes slot channel.conn.log.past)
        → KeepsLine published v → KeepsLine published (record v { channel = channel; orders = getter })
    keeps_ordered published other asked freed k =
        let old = v.channel.conn in
        let past : channel.conn.log.past ≡ (after_order o old).log.past = ap (λ (c : ChannelView E). c.conn.log.past) entry_is in
        let got = v.orders.got in
        keeps_taken published v channel getter (sums_of old.log.past channel.conn.log.past (after_order o old).log.past past (ordered_sums old o))
        (ap (λ (c : ChannelView E). c.conn.peer) entry_is ∙ (ordered_parts old o).0) (ap (λ (c : ChannelView E). c.conn.slots) entry_is ∙ (ordered_parts old o).1) freed
        (ap (λ (h : Getter Order). uncut (bare_items h.got)) is ∙ (ap uncut (more_bare got number o) ∙ (more_uncut (bare_items got) o other ∙ (ap (λ (l : List Order). l ++ o ∷ []) k.taken ∙ (sym (ordered_past old o other asked) ∙ sym (ap orders past))))))
        (ap (λ (h : Getter Order). cuts_among (bare_items h.got)) is ∙ (ap cuts_among (more_bare got number o) ∙ (same_cuts (bare_items got) o other ∙ (k.cuts ∙ sym (ap (λ (c : ChannelView E). length c.cuts.numbers) entry_is)))))
        k

    pub pulled_ordered : (pulled : Bool) → IsPulled pulled v → IsPulled pulled (record v { channel = channel; orders = getter })
    pulled_ordered pulled was =
        let past : channel.conn.log.past ≡ (after_order o v.channel.conn).log.past = ap (λ (c : ChannelView E). c.conn.log.past) entry_is in
        pulled_still pulled v (record v { channel = channel; orders = getter }) (ap open_stream past ∙ (ordered_streams v.channel.conn o).0)
        (λ s. ap (last_map s) past ∙ (ordered_streams v.channel.conn o).1 s) refl was

  -- a cut was taken, which shut the open stream, or found none open
  abbrev pub TakesCut : Means E → Type 0
  TakesCut m = ((n : ℕ) × ShutsStream m n v.channel channel × (channel.cuts.numbers ≡ v.channel.cuts.numbers ++ n ∷ []))
      ⊎ ((channel.conn ≡ v.channel.conn) × (channel.streams ≡ v.channel.streams) × (channel.cuts.numbers ≡ v.channel.cuts.numbers ++ 0 ∷ []) × (stream_of channel.conn ≡ None))

  module _ (m : Means E) (is : getter ≡ after_get v.orders number order.Cut) where
    noted : (published : M → List (List ℕ)) → (n : ℕ) → channel.cuts.numbers ≡ v.channel.cuts.numbers ++ n ∷ [] → KeepsLine published v → cuts_among (bare_items getter.got) ≡ length channel.cuts.numbers
    noted published n cuts k =
        let one = ap (λ (h : Getter Order). cuts_among (bare_items h.got)) is ∙ (ap cuts_among (more_bare v.orders.got number order.Cut) ∙ one_cut (bare_items v.orders.got)) in
        let longer = ap (λ (l : List ℕ). length l) cuts ∙ length-append v.channel.cuts.numbers (n ∷ []) in
        let before_it = k.cuts in
        omega arith

    none_taken : (published : M → List (List ℕ)) → orders channel.conn.log.past ≡ orders (line_past v) → KeepsLine published v → uncut (bare_items getter.got) ≡ orders channel.conn.log.past
    none_taken published same k =
        ap (λ (h : Getter Order). uncut (bare_items h.got)) is ∙ (ap uncut (more_bare v.orders.got number order.Cut) ∙ (cut_left_out (bare_items v.orders.got) ∙ (k.taken ∙ sym same)))

    pub keeps_cut : (published : M → List (List ℕ)) → TakesCut m → KeepsLine published v → KeepsLine published (record v { channel = channel; orders = getter })
    keeps_cut published (inl did) k =
        let conn = did.1.conn in
        let past : channel.conn.log.past ≡ entry.Shut did.0 ∷ line_past v = ap (λ (c : Connection). c.log.past) conn in
        keeps_taken published v channel getter (sums_of (line_past v) channel.conn.log.past (entry.Shut did.0 ∷ line_past v) past (sums_more (entry.Shut did.0) (line_past v) tt))
        (ap (λ (c : Connection). c.peer) conn) (ap (λ (c : Connection). c.slots) conn)
        (held_same v.channel.conn channel.conn (ap (λ (c : Connection). c.freed) conn) (λ slot. ap (released_bytes slot) past ∙ plain_released (entry.Shut did.0) (line_past v) tt slot))
        (none_taken published (ap orders past) k) (noted published did.0 did.2 k) k
    keeps_cut published (inr did) k =
        let conn = did.0 in
        let past : channel.conn.log.past ≡ line_past v = ap (λ (c : Connection). c.log.past) conn in
        keeps_taken published v channel getter (sums_of (line_past v) channel.conn.log.past (line_past v) past (sums_same (line_past v)))
        (ap (λ (c : Connection). c.peer) conn) (ap (λ (c : Connection). c.slots) conn)
        (held_same v.channel.conn channel.conn (ap (λ (c : Connection). c.freed) conn) (λ slot. ap (released_bytes slot) past))
        (none_taken published (ap orders past) k) (noted published 0 did.2 k) k

    pub cut_off : TakesCut m → stream_of channel.conn ≡ None
    cut_off (inl did) = ap (λ (c : Connection). open_stream c.log.past) did.1.conn
    cut_off (inr did) = did.3

    pub cut_stays : TakesCut m → ChannelStays m v.channel channel
    cut_stays (inl did) = shutting_stays m did.0 v.channel channel did.1 (did.0 ∷ [], did.2)
    cut_stays (inr did) = record {
      me = ap (λ (c : Connection). c.me) did.0;
      peer = ap (λ (c : Connection). c.peer) did.0;
      slots = ap (λ (c : Connection). c.slots) did.0;
      limit = ap (λ (c : Connection). c.log.limit) did.0;
      past = subst (λ (c : Connection). Moment (line_past v) c.log.past) (sym did.0) now;
      streams = subst (λ (s : StreamsView E). StreamsStay m v.channel.streams s) (sym did.1) (streams_same m v.channel.streams);
      cuts = (0 ∷ [], did.2);
    }

  -- a cut pulls no frame
  pub cut_past : (m : Means E) → TakesCut m → IsQuietPast (line_past v) channel.conn.log.past
  cut_past m (inl did) = more_past (entry.Shut did.0) tt (ap (λ (c : Connection). c.log.past) did.1.conn)
  cut_past m (inr did) = still_past (ap (λ (c : Connection). c.log.past) did.0)

  -- what the cut of a channel did
  pub takes_cut : (m : Means E) → ((n : ℕ) → stream_of v.channel.conn ≡ Some n → ShutsStream m n v.channel channel × (channel.cuts ≡ record { numbers = v.channel.cuts.numbers ++ n ∷ []; has_room = false }))
      → (v.channel.streams.is_open ≡ false → channel ≡ record v.channel { cuts = record { numbers = v.channel.cuts.numbers ++ 0 ∷ []; has_room = false } })
      → ((v.channel.streams.is_open ≡ true) ↔ IsSome (stream_of v.channel.conn)) → TakesCut m
  takes_cut m on off tie = go (stream_of v.channel.conn) refl
    where
      shut : (b : Bool) → v.channel.streams.is_open ≡ b → stream_of v.channel.conn ≡ None → TakesCut m
      shut true open_now none = absurd (false≢true (sym (ap is_some none) ∙ tie.0 open_now))
      shut false closed none =
          let is = off closed in
          inr (ap (λ (c : ChannelView E). c.conn) is, ap (λ (c : ChannelView E). c.streams) is, ap (λ (c : ChannelView E). c.cuts.numbers) is, ap (λ (c : ChannelView E). stream_of c.conn) is ∙ none)

      go : (o : Option ℕ) → stream_of v.channel.conn ≡ o → TakesCut m
      go (Some n) there = let did = on n there in inl (n, did.0, ap (λ (k : CutsView). k.numbers) did.1)
      go None none = shut v.channel.streams.is_open refl none

-- an order pulls no frame
order_past : (o : Order) (c : Connection) → IsQuietPast c.log.past (after_order o c).log.past
order_past (order.Send slot sport dport payload) c = more_past (entry.Accept slot sport dport payload) tt refl
order_past (order.Cancel slot dport) c = more_past (entry.Cancel slot (target.Port dport)) tt refl
order_past (order.CloseSocket slot) c = more_past (entry.Cancel slot target.All) tt refl
order_past order.Cut c = still_past refl

pub orders_past : {E : Type 0} (o : Order) (old new : ChannelView E) →
    new ≡ with_conn old (record (after_order o old.conn) { freed = new.conn.freed }) →
    IsQuietPast old.conn.log.past new.conn.log.past
orders_past {E} o old new is =
    past_through (order_past o old.conn) (still_past (ap (λ (c : ChannelView E). c.conn.log.past) is))

-- a line whose channel stayed, and whose getter may have got more
module _ {E M Name : Type 0} (m : Means E) (pair : M → Name) (v : LineView E M) (channel : ChannelView E) (getter : Getter Order)
    (stays : ChannelStays m v.channel channel) (acts : ActsOn (line_past v) channel.conn.log.past) where
  stays_got : getter.mail ≡ v.orders.mail → getter.told ≡ v.orders.told → getter.joined ≡ v.orders.joined → Begins v.orders.got getter.got →
      LineStays m pair v (record v { channel = channel; orders = getter })
  stays_got mail told joined got = record {
    channel = stays;
    mail = mail;
    told = told;
    joined = joined;
    got = got;
    boxes = boxes_same v.boxes;
    ports = refl;
    port_view = refl;
    looks = same_list v.ports.view.steps;
    always = λ telling was. was;
    words = refl;
    slot = refl;
    meter_view = refl;
    steps = same_list v.words.view.steps;
    acts = acts (acted v) (acted v) refl nothing;
    map = refl;
  }

  -- it got one order more
  pub stays_taken : (number : Number) (o : Order) → getter ≡ after_get v.orders number o → LineStays m pair v (record v { channel = channel; orders = getter })
  stays_taken number o is =
      stays_got (ap (λ (h : Getter Order). h.mail) is) (ap (λ (h : Getter Order). h.told) is) (ap (λ (h : Getter Order). h.joined) is)
      ((number, o) ∷ [], ap (λ (h : Getter Order). h.got) is)

  -- it found no order
  pub stays_none : getter ≡ after_none v.orders → LineStays m pair v (record v { channel = channel; orders = getter })
  stays_none is =
      stays_got (ap (λ (h : Getter Order). h.mail) is) (ap (λ (h : Getter Order). h.told) is) (ap (λ (h : Getter Order). h.joined) is)
      (begins_of v.orders.got getter.got (ap (λ (h : Getter Order). h.got) is))
