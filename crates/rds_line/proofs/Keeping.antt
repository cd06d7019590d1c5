-- What a line keeps, where its journal gets an entry that delivers nothing and is no map, or where all of it stays.
use Rattle.std.proofs.Common.{◌≡◌, ℕ, ◌+◌, ◌<◌, ◌≤◌, Bool, Option, List, [], ◌∷◌, ◌++◌, Some, None, slice_index, length, refl, sym, ap, subst, ◌∙◌}
use Rattle.std.proofs.lemmas.List.{append-nil}
use Rattle.rds_model.specs.declared.entry.Entry.{Entry}
use Rattle.rds_model.specs.declared.entry.Entry.TheVariants as entry
use Rattle.rds_model.specs.declared.entry.TheConstants.{MAX_SLOTS}
use Rattle.rds_model.specs.declared.order.Order.{Order}
use Rattle.rds_model.specs.Deliveries.{delivered_datagrams, put_bytes}
use Rattle.rds_model.specs.Owed.{last_map}
use Rattle.rds_model.specs.Past.{open_stream}
use Rattle.rds_model.specs.Sums.{maps, orders}
use Rattle.rds_mail.specs.Numbers.{Numbered, bare_items}
use Rattle.rds_mail.specs.Passes.{Getter}
use Rattle.rds_seats.specs.Views.{Table}
use Rattle.rds_bindtab.specs.declared.view.Step.{Step}
use Rattle.rds_bindtab.specs.declared.view.View.{View as PortView}
use Rattle.rds_bindtab.specs.Seats.{PortSeat, after_look, joined, knowing}
use Rattle.rds_meter.specs.declared.view.Check.{Check}
use Rattle.rds_meter.specs.declared.view.Step.{Step as MeterStep}
use Rattle.rds_conn.specs.Connection.{Connection, freed_bytes_of, stream_of}
use Rattle.rds_conn.specs.Released.{released_bytes}
use Rattle.rds_line_parts.specs.Counted.{AreChecksOf}
use Rattle.rds_line_parts.specs.CountedLaws.{freed_for_account}
use Rattle.rds_line_channel.specs.Channel.{ChannelView}
use Rattle.rds_line.specs.Keeps.{KeepsLine, IsPulled, uncut, cuts_among}
use Rattle.rds_line.specs.Line.{LineView, line_past}
use Rattle.rds_line.specs.Seats.{AreFoundSet, AreLooksFor}
use Rattle.rds_line.specs.Acts as act
use Rattle.rds_line.specs.Acts.{Acted, Acts, acted}
use Rattle.rds_line.proofs.Acting.{ActsOn, IsNoFrame, more_past, still_acts}
use Rattle.rds_line.proofs.Grounding.{found_beside}
use Rattle.rds_line.proofs.PortLooks.{looks_again, looks_beside}

-- nothing more was delivered, and no map was read or pulled
pub record HasSameSums (past later : List Entry) : Type 0 where
  pub maps : maps later ≡ maps past
  pub delivered : (from slot : ℕ) → delivered_datagrams from slot later ≡ delivered_datagrams from slot past
  pub bytes : (slot : ℕ) → put_bytes slot later ≡ put_bytes slot past
  pub checks : (list : List Check) → AreChecksOf past list → AreChecksOf later list
  pub looks : (size : ℕ) (steps : List Step) → AreLooksFor size past steps → AreLooksFor size later steps
  pub pulled : (steps : List MeterStep) → AreFoundSet past steps → AreFoundSet later steps
  pub acts : ActsOn past later

pub sums_same : (past : List Entry) → HasSameSums past past
sums_same past = record {
  maps = refl;
  delivered = λ from slot. refl;
  bytes = λ slot. refl;
  checks = λ list are. are;
  looks = λ size steps are. are;
  pulled = λ steps are. are;
  acts = still_acts past past refl;
}

pub sums_of : (past later middle : List Entry) → later ≡ middle → HasSameSums past middle → HasSameSums past later
sums_of past later middle is same = subst (λ (l : List Entry). HasSameSums past l) (sym is) same

looks_unread : {size : ℕ} (e : Entry) (past : List Entry) (steps : List Step) → IsNoFrame e → AreLooksFor size past steps → AreLooksFor size (e ∷ past) steps
looks_unread {size} e past steps no_frame =
    looks_beside past steps e (λ stream slot frame is. subst IsNoFrame is no_frame) (λ stream frame is. subst IsNoFrame is no_frame)

unpulled : (e : Entry) (past : List Entry) (steps : List MeterStep) → IsNoFrame e → AreFoundSet past steps → AreFoundSet (e ∷ past) steps
unpulled e past steps no_frame = found_beside past steps e (λ stream frame is. subst IsNoFrame is no_frame)

pub sums_more : (e : Entry) (past : List Entry) → IsNoFrame e → HasSameSums past (e ∷ past)
sums_more (entry.Accept slot sport dport payload) past no_frame = record {
  maps = refl;
  delivered = λ from slot. refl;
  bytes = λ slot. refl;
  checks = λ list are. are;
  looks = λ size steps. looks_unread (entry.Accept slot sport dport payload) past steps no_frame;
  pulled = λ steps. unpulled (entry.Accept slot sport dport payload) past steps no_frame;
  acts = (more_past (entry.Accept slot sport dport payload) no_frame refl).acts;
}
sums_more (entry.Cancel slot target) past no_frame = record {
  maps = refl;
  delivered = λ from slot. refl;
  bytes = λ slot. refl;
  checks = λ list are. are;
  looks = λ size steps. looks_unread (entry.Cancel slot target) past steps no_frame;
  pulled = λ steps. unpulled (entry.Cancel slot target) past steps no_frame;
  acts = (more_past (entry.Cancel slot target) no_frame refl).acts;
}
sums_more (entry.Open stream) past no_frame = record {
  maps = refl;
  delivered = λ from slot. refl;
  bytes = λ slot. refl;
  checks = λ list are. are;
  looks = λ size steps. looks_unread (entry.Open stream) past steps no_frame;
  pulled = λ steps. unpulled (entry.Open stream) past steps no_frame;
  acts = (more_past (entry.Open stream) no_frame refl).acts;
}
sums_more (entry.Pull stream frame) past no_frame = absurd no_frame
sums_more (entry.Read stream frame outcome) past no_frame = absurd no_frame
sums_more (entry.Shut stream) past no_frame = record {
  maps = refl;
  delivered = λ from slot. refl;
  bytes = λ slot. refl;
  checks = λ list are. are;
  looks = λ size steps. looks_unread (entry.Shut stream) past steps no_frame;
  pulled = λ steps. unpulled (entry.Shut stream) past steps no_frame;
  acts = (more_past (entry.Shut stream) no_frame refl).acts;
}
sums_more (entry.Bad stream header cause) past no_frame = record {
  maps = refl;
  delivered = λ from slot. refl;
  bytes = λ slot. refl;
  checks = λ list are. are;
  looks = λ size steps. looks_unread (entry.Bad stream header cause) past steps no_frame;
  pulled = λ steps. unpulled (entry.Bad stream header cause) past steps no_frame;
  acts = (more_past (entry.Bad stream header cause) no_frame refl).acts;
}

-- for each slot the freed bytes that are held grew as the bytes did that aren't alive any more
abbrev pub IsHeldFor : Connection → Connection → Type 0
IsHeldFor old new = (slot : ℕ) → slot < old.slots →
    freed_bytes_of slot new + released_bytes slot old.log.past ≡ freed_bytes_of slot old + released_bytes slot new.log.past

-- none were freed
pub held_same : (old new : Connection) → new.freed ≡ old.freed → ((slot : ℕ) → released_bytes slot new.log.past ≡ released_bytes slot old.log.past) → IsHeldFor old new
held_same old new freed released slot small =
    ap (λ (f : List ℕ). slice_index f slot + released_bytes slot old.log.past) freed ∙ ap (λ (n : ℕ). freed_bytes_of slot old + n) (sym (released slot))

-- the entry neither frees nor takes an order, and is of no frame
abbrev pub IsPlain : Entry → Type 0
IsPlain (entry.Accept slot sport dport payload) = ⊥
IsPlain (entry.Cancel slot target) = ⊥
IsPlain (entry.Open stream) = Unit {0}
IsPlain (entry.Pull stream frame) = ⊥
IsPlain (entry.Read stream frame outcome) = ⊥
IsPlain (entry.Shut stream) = Unit {0}
IsPlain (entry.Bad stream header cause) = Unit {0}

plain_reads : (e : Entry) → IsPlain e → IsNoFrame e
plain_reads (entry.Accept slot sport dport payload) plain = absurd plain
plain_reads (entry.Cancel slot target) plain = absurd plain
plain_reads (entry.Open stream) plain = tt
plain_reads (entry.Pull stream frame) plain = absurd plain
plain_reads (entry.Read stream frame outcome) plain = absurd plain
plain_reads (entry.Shut stream) plain = tt
plain_reads (entry.Bad stream header cause) plain = tt

pub plain_orders : (e : Entry) (past : List Entry) → IsPlain e → orders (e ∷ past) ≡ orders past
plain_orders (entry.Accept slot sport dport payload) past plain = absurd plain
plain_orders (entry.Cancel slot target) past plain = absurd plain
plain_orders (entry.Open stream) past plain = refl
plain_orders (entry.Pull stream frame) past plain = absurd plain
plain_orders (entry.Read stream frame outcome) past plain = absurd plain
plain_orders (entry.Shut stream) past plain = refl
plain_orders (entry.Bad stream header cause) past plain = refl

pub plain_released : (e : Entry) (past : List Entry) → IsPlain e → (slot : ℕ) → released_bytes slot (e ∷ past) ≡ released_bytes slot past
plain_released (entry.Accept slot sport dport payload) past plain owner = absurd plain
plain_released (entry.Cancel slot target) past plain owner = absurd plain
plain_released (entry.Open stream) past plain owner = refl
plain_released (entry.Pull stream frame) past plain owner = absurd plain
plain_released (entry.Read stream frame outcome) past plain owner = absurd plain
plain_released (entry.Shut stream) past plain owner = refl
plain_released (entry.Bad stream header cause) past plain owner = refl

module _ {E M : Type 0} (published : M → List (List ℕ)) where
  -- the channel and the getter of the orders changed
  pub keeps_taken : (v : LineView E M) (channel : ChannelView E) (getter : Getter Order) → HasSameSums (line_past v) channel.conn.log.past
      → channel.conn.peer ≡ v.channel.conn.peer → channel.conn.slots ≡ v.channel.conn.slots → IsHeldFor v.channel.conn channel.conn
      → uncut (bare_items getter.got) ≡ orders channel.conn.log.past → cuts_among (bare_items getter.got) ≡ length channel.cuts.numbers
      → KeepsLine published v → KeepsLine published (record v { channel = channel; orders = getter })
  keeps_taken v channel getter sums peer slots held taken cuts k = record {
    taken = taken;
    cuts = cuts;
    put = λ slot box at.
        k.put slot box at ∙ (sym (sums.delivered v.channel.conn.peer slot) ∙ ap (λ (from : ℕ). delivered_datagrams from slot channel.conn.log.past) (sym peer));
    counted = record {
      put = λ slot small. k.counted.put slot small ∙ sym (sums.bytes slot);
      checks = sums.checks v.words.view.checks k.counted.checks;
    };
    freed = freed_for_account v.channel.conn channel.conn v.words.view slots held k.freed;
    maps = k.maps ∙ sym sums.maps;
    read = k.read;
    boxes = k.boxes;
    few = k.few;
    slots = slots ∙ k.slots;
    pulled = sums.pulled v.words.view.steps k.pulled;
    ported = sums.looks v.ports.table.slots v.ports.view.steps k.ported;
    stored = k.stored;
    acts = (k.acts.0, k.acts.1, sums.acts k.acts.0 (acted v) refl k.acts.2);
  }

  -- the getter was told of orders, and got none
  pub keeps_told : (v : LineView E M) (getter : Getter Order) → getter.got ≡ v.orders.got → KeepsLine published v →
      KeepsLine published (record v { orders = getter })
  keeps_told v getter got k = record {
    taken = ap (λ (l : List (Numbered Order)). uncut (bare_items l)) got ∙ k.taken;
    cuts = ap (λ (l : List (Numbered Order)). cuts_among (bare_items l)) got ∙ k.cuts;
    put = k.put;
    counted = k.counted;
    freed = k.freed;
    maps = k.maps;
    read = k.read;
    boxes = k.boxes;
    few = k.few;
    slots = k.slots;
    pulled = k.pulled;
    ported = k.ported;
    stored = k.stored;
    acts = k.acts;
  }

  -- the seat at the port table did what leaves its looks as the journal tells
  keeps_ports : (v : LineView E M) (ports : PortSeat) → ports.table ≡ v.ports.table →
      (AreLooksFor v.ports.table.slots (line_past v) v.ports.view.steps → AreLooksFor v.ports.table.slots (line_past v) ports.view.steps) →
      ((a : Acted) → Acts a (acted v) → Acts a (record (acted v) { ports = ports })) →
      KeepsLine published v → KeepsLine published (record v { ports = ports })
  keeps_ports v ports table are acts k = record {
    taken = k.taken;
    cuts = k.cuts;
    put = k.put;
    counted = k.counted;
    freed = k.freed;
    maps = k.maps;
    read = k.read;
    boxes = k.boxes ∙ sym (ap (λ (t : Table). t.slots) table);
    few = subst (λ (t : Table). t.slots ≤ MAX_SLOTS) (sym table) k.few;
    slots = k.slots;
    pulled = k.pulled;
    ported = subst (λ (t : Table). AreLooksFor t.slots (line_past v) ports.view.steps) (sym table) (are k.ported);
    stored = k.stored;
    acts = (k.acts.0, k.acts.1, acts k.acts.0 k.acts.2);
  }

  -- it was told of no step
  pub keeps_heard : (v : LineView E M) (ports : PortSeat) (note : PortView) → note.steps ≡ [] →
      ports ≡ knowing v.ports (joined v.ports.view note) → KeepsLine published v → KeepsLine published (record v { ports = ports })
  keeps_heard v ports note none is k =
      let steps : ports.view.steps ≡ v.ports.view.steps =
      ap (λ (h : PortSeat). h.view.steps) is ∙ (ap (λ (l : List Step). v.ports.view.steps ++ l) none ∙ append-nil _) in
      keeps_ports v ports (ap (λ (h : PortSeat). h.table) is)
      (λ was. subst (AreLooksFor v.ports.table.slots (line_past v)) (sym steps) was)
      (λ a acts. subst (λ (h : PortSeat). Acts a (record (acted v) { ports = h })) (sym is) (act.hears note none acts)) k

  -- it looked at a port
  pub keeps_looked : (v : LineView E M) (ports : PortSeat) (port : ℕ) (found : Option ℕ) →
      ports ≡ knowing v.ports (after_look v.ports.view port found) → KeepsLine published v →
      KeepsLine published (record v { ports = ports })
  keeps_looked v ports port found is k =
      keeps_ports v ports (ap (λ (h : PortSeat). h.table) is)
      (λ was.
      subst (λ (h : PortSeat). AreLooksFor v.ports.table.slots (line_past v) h.view.steps) (sym is)
      (looks_again (line_past v) v.ports.view.steps port found v.ports.view.told was))
      (λ a acts. subst (λ (h : PortSeat). Acts a (record (acted v) { ports = h })) (sym is) (act.looks port found acts)) k

  -- nothing that it keeps of its channel changed
  pub keeps_still : (v : LineView E M) (channel : ChannelView E) → channel.conn.log.past ≡ line_past v → channel.conn.peer ≡ v.channel.conn.peer
      → channel.conn.slots ≡ v.channel.conn.slots → channel.conn.freed ≡ v.channel.conn.freed → channel.cuts.numbers ≡ v.channel.cuts.numbers
      → KeepsLine published v → KeepsLine published (record v { channel = channel })
  keeps_still v channel past peer slots freed cuts k =
      keeps_taken v channel v.orders (sums_of (line_past v) channel.conn.log.past (line_past v) past (sums_same (line_past v))) peer slots
      (held_same v.channel.conn channel.conn freed (λ slot. ap (released_bytes slot) past))
      (k.taken ∙ sym (ap orders past)) (k.cuts ∙ sym (ap (λ (l : List ℕ). length l) cuts)) k

  -- the journal has one entry more that neither frees nor takes an order
  pub keeps_plain : (e : Entry) → IsPlain e → (v : LineView E M) (channel : ChannelView E) → channel.conn.log.past ≡ e ∷ line_past v → channel.conn.peer ≡ v.channel.conn.peer
      → channel.conn.slots ≡ v.channel.conn.slots → channel.conn.freed ≡ v.channel.conn.freed → channel.cuts.numbers ≡ v.channel.cuts.numbers
      → KeepsLine published v → KeepsLine published (record v { channel = channel })
  keeps_plain e plain v channel past peer slots freed cuts k =
      keeps_taken v channel v.orders (sums_of (line_past v) channel.conn.log.past (e ∷ line_past v) past (sums_more e (line_past v) (plain_reads e plain))) peer slots
      (held_same v.channel.conn channel.conn freed (λ slot. ap (released_bytes slot) past ∙ plain_released e (line_past v) plain slot))
      (k.taken ∙ (sym (plain_orders e (line_past v) plain) ∙ sym (ap orders past))) (k.cuts ∙ sym (ap (λ (l : List ℕ). length l) cuts)) k

-- the map that was pulled last, where the open stream and the host's own map are as they were
pub pulled_still : {E M : Type 0} (pulled : Bool) (v w : LineView E M) → open_stream (line_past w) ≡ open_stream (line_past v)
    → ((s : ℕ) → last_map s (line_past w) ≡ last_map s (line_past v)) → w.own.map ≡ v.own.map → IsPulled pulled v → IsPulled pulled w
pulled_still pulled v w stream last own was yes_pulled s on = last s ∙ (was yes_pulled s (sym stream ∙ on) ∙ ap Some (sym own))

-- where no stream is open there is none
pub pulled_off : {E M : Type 0} (pulled : Bool) (w : LineView E M) → stream_of w.channel.conn ≡ None → IsPulled pulled w
pulled_off pulled w off is_pulled s on = absurd (none_some (sym off ∙ on))
  where
    none_some : {s : ℕ} → None ≡ Some s → ⊥
    none_some e = absurd (cc)
