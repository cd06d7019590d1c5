-- What a line does with a frame that it passes: it delivers it, publishes its map, or does nothing with it.
use Rattle.std.proofs.Common.{◌≡◌, ◌≢◌, ℕ, ◌+◌, ◌<◌, ◌≤◌, ◌^◌, if◌then◌else◌, Bool, true, false, Option, Some, None, List, [], ◌∷◌, ◌++◌, length, refl, sym, ap, subst, ◌∙◌, ne_eqb, arith}
use Rattle.std.proofs.lemmas.List.{length-set}
use Rattle.rds_wire.specs.declared.frame.Frame.{Frame}
use Rattle.rds_bindtab.specs.declared.view.Step.{Step}
use Rattle.rds_bindtab.specs.Seats.{PortSeat, after_look, knowing}
use Rattle.rds_meter.specs.Seats.{MeterSeat}
use Rattle.rds_model.specs.declared.entry.Entry.{Entry}
use Rattle.rds_model.specs.declared.entry.Entry.TheVariants.{Read}
use Rattle.rds_model.specs.declared.entry.Outcome.{Outcome}
use Rattle.rds_model.specs.declared.entry.Outcome.TheVariants as outcome
use Rattle.rds_model.specs.declared.entry.TheConstants.{MAX_SLOTS}
use Rattle.rds_model.specs.declared.entry.Verdict.{Verdict}
use Rattle.rds_model.specs.declared.entry.Verdict.TheVariants as verdict
use Rattle.rds_model.specs.declared.journal.TheConstants.{MAX_ENTRIES}
use Rattle.rds_model.specs.Deliveries.{datagram_from}
use Rattle.rds_model.specs.DeliveryLaws.{put_bound, put_here}
use Rattle.rds_model.specs.Pairs.{is_delivery}
use Rattle.rds_model.specs.Legal.{IsLegal, pong_for}
use Rattle.rds_model.specs.Reading.{verdict_of}
use Rattle.rds_model.specs.Sums.{maps, with_map}
use Rattle.rds_mail.specs.Passes.{after_put}
use Rattle.rds_meter.specs.declared.view.View.{View}
use Rattle.rds_meter.specs.Places.{part, freed_word, put_word}
use Rattle.rds_conn.specs.declared.conn.Found.{Found}
use Rattle.rds_conn.specs.declared.conn.Found.TheVariants as found
use Rattle.rds_conn.specs.Connection.{Connection, IsReady}
use Rattle.rds_conn.specs.Passing.{Passes, outcome_of}
use Rattle.rds_line_parts.specs.Boxes.{IsPutInto}
use Rattle.rds_line_parts.specs.Counted.{IsCountedFor, IsPutFor}
use Rattle.rds_line_parts.specs.CountedLaws.{counted_for_more, counted_for_read, put_for_more, put_for_read}
use Rattle.rds_line_parts.specs.Delivery.{IsDelivery}
use Rattle.rds_line_parts.specs.DeliveryLaws.{delivery_part, read_after_delivery}
use Rattle.rds_line_parts.specs.Own.{IsAsRead}
use Rattle.rds_line_channel.specs.Channel.{with_conn}
use Rattle.rds_line.specs.Line.{LineView, line_past}
use Rattle.rds_line.specs.Seats.{AreLooksFor, HasLooked, StoresNothing}
use Rattle.rds_line.proofs.FrameActs.{delivered_acts, map_acts}
use Rattle.rds_line.proofs.Passing.{ActsOnRead, PassesWith, passes_reads}
use Rattle.rds_line.proofs.PortLooks.{looked_last, looks_again, looks_beside, looks_nobody, looks_slot}
use Rattle.rds_line.proofs.Storing.{delivery_stores}
use Rattle.rds_line.proofs.Same.{begins_of}
use Rattle.rds_line.proofs.StaysPassed.{same_seats}
use Rattle.rds_line.proofs.Verdicts.{port_is}

-- nothing is delivered where no port was looked up, or no socket holds it
pub unasked_kept : (v : Verdict) → is_delivery (outcome_of v found.Unasked) ≡ false
unasked_kept (verdict.Deliver port) = refl
unasked_kept verdict.Old = refl
unasked_kept verdict.Ping = refl
unasked_kept verdict.Void = refl
unasked_kept verdict.AckOnly = refl
unasked_kept verdict.Map = refl
unasked_kept verdict.OddMap = refl

-- and only a map is published
pub unmapped : (v : Verdict) → v ≢ verdict.Map → (payload : List ℕ) (earlier : List (List ℕ)) →
    with_map (outcome_of v found.Unasked) payload earlier ≡ earlier
unmapped (verdict.Deliver port) other payload earlier = refl
unmapped verdict.Old other payload earlier = refl
unmapped verdict.Ping other payload earlier = refl
unmapped verdict.Void other payload earlier = refl
unmapped verdict.AckOnly other payload earlier = refl
unmapped verdict.Map other payload earlier = absurd (other refl)
unmapped verdict.OddMap other payload earlier = refl

-- no look is made for a frame that goes to no port
pub unasked_looks : {size : ℕ} (v : Verdict) → ((port : ℕ) → v ≢ verdict.Deliver port) → (s : ℕ) (f : Frame) (past : List Entry) (steps : List Step) →
    AreLooksFor size past steps → AreLooksFor size (Read s f (outcome_of v found.Unasked) ∷ past) steps
unasked_looks {size} (verdict.Deliver port) other s f past steps was = absurd (other port refl)
unasked_looks {size} verdict.Old other s f past steps was =
    looks_beside past steps (Read s f outcome.Old) (λ stream slot frame is. absurd (cc)) (λ stream frame is. absurd (cc)) was
unasked_looks {size} verdict.Ping other s f past steps was =
    looks_beside past steps (Read s f outcome.Ping) (λ stream slot frame is. absurd (cc)) (λ stream frame is. absurd (cc)) was
unasked_looks {size} verdict.Void other s f past steps was =
    looks_beside past steps (Read s f outcome.Void) (λ stream slot frame is. absurd (cc)) (λ stream frame is. absurd (cc)) was
unasked_looks {size} verdict.AckOnly other s f past steps was =
    looks_beside past steps (Read s f outcome.AckOnly) (λ stream slot frame is. absurd (cc)) (λ stream frame is. absurd (cc)) was
unasked_looks {size} verdict.Map other s f past steps was =
    looks_beside past steps (Read s f outcome.Map) (λ stream slot frame is. absurd (cc)) (λ stream frame is. absurd (cc)) was
unasked_looks {size} verdict.OddMap other s f past steps was =
    looks_beside past steps (Read s f outcome.OddMap) (λ stream slot frame is. absurd (cc)) (λ stream frame is. absurd (cc)) was

-- a look was made at the port that the header names, and it found this
looked_there : (seat : PortSeat) (port dport : ℕ) (found : Option ℕ) → dport ≡ port →
    HasLooked dport found (after_look seat.view port found).steps
looked_there seat port dport found is =
    subst (λ (q : ℕ). HasLooked q found (after_look seat.view port found).steps) (sym is)
    (looked_last seat.view.steps port found seat.view.told)

-- it found nobody
pub nobody_looks : {size : ℕ} (seat after : PortSeat) (port s : ℕ) (f : Frame) (past : List Entry) → after ≡ knowing seat (after_look seat.view port None) →
    f.header.dport ≡ port → AreLooksFor size past seat.view.steps → AreLooksFor size (Read s f outcome.NoSocket ∷ past) after.view.steps
nobody_looks {size} seat after port s f past is there was =
    subst (λ (h : PortSeat). AreLooksFor size (Read s f outcome.NoSocket ∷ past) h.view.steps) (sym is)
    (looks_nobody past (after_look seat.view port None).steps s f (looked_there seat port f.header.dport None there)
    (looks_again past seat.view.steps port None seat.view.told was))

-- it found a slot, and the delivery to that slot makes at most one look more
slot_looks : {size slot port n : ℕ} {old new : MeterSeat} {ports after : PortSeat} (seat : PortSeat) (s : ℕ) (f : Frame) (past : List Entry) →
    ports ≡ knowing seat (after_look seat.view port (Some slot)) → f.header.dport ≡ port → IsDelivery slot port n old new ports after →
    slot < size → AreLooksFor size past seat.view.steps → AreLooksFor size (Read s f (outcome.Slot slot) ∷ past) after.view.steps
slot_looks {size} {slot} {port} {n} {old} {new} {ports} {after} seat s f past is there d small was = go d.mark.set refl
  where
    next : List Entry
    next = Read s f (outcome.Slot slot) ∷ past

    first : AreLooksFor size next ports.view.steps
    first =
        subst (λ (h : PortSeat). AreLooksFor size next h.view.steps) (sym is)
        (looks_slot past (after_look seat.view port (Some slot)).steps s slot f small (looked_there seat port f.header.dport (Some slot) there)
        (looks_again past seat.view.steps port (Some slot) seat.view.told was))

    go : (b : Bool) → d.mark.set ≡ b → AreLooksFor size next after.view.steps
    go true set =
        let second = d.raised set in
        subst (λ (h : PortSeat). AreLooksFor size next h.view.steps) (sym second.ports)
        (looks_again next ports.view.steps d.mark.port second.holder ports.view.told first)
    go false unset = subst (λ (h : PortSeat). AreLooksFor size next h.view.steps) (sym (d.other unset).1) first

-- the bytes of a datagram that is delivered may be counted
pub delivery_fits : {slot : ℕ} {old new : Connection} {v : View} (p : Passes (found.Slot slot) old new) (port : ℕ) →
    verdict_of old.log.past p.frame.header ≡ verdict.Deliver port →
    slot < MAX_SLOTS → IsReady old → length old.log.past + old.log.spare ≤ old.log.limit → old.log.limit ≤ MAX_ENTRIES →
    IsCountedFor old.log.past v → part (put_word slot) v.steps + length p.frame.payload ≤ 2 ^ 52
delivery_fits {slot} {old} {new} {v} p port is small ready room most counted =
    let past = old.log.past in
    let next : List Entry = Read p.stream p.frame (outcome.Slot slot) ∷ past in
    let r = passes_reads (found.Slot slot) old new p (outcome.Slot slot)
    (ap (λ (k : Verdict). outcome_of k (found.Slot slot)) is) in
    let legal : IsLegal next = subst IsLegal r.past p.legal.legal in
    let bound = put_bound slot next legal in
    let here = put_here slot p.stream p.frame past in
    let was = counted.put slot small in
    let spare = ready.entries in
    omega (arith, bound, here, was, spare, room, most)

module _ {E M : Type 0} (published : M → List (List ℕ)) where
  -- no more was done with the frame, but a look at the port table
  pub passes_quietly : (came : Found) (old new : LineView E M) (p : Passes came old.channel.conn new.channel.conn) (o : Outcome) →
      outcome_of (verdict_of (line_past old) p.frame.header) came ≡ o →
      is_delivery o ≡ false → ((payload : List ℕ) (earlier : List (List ℕ)) → with_map o payload earlier ≡ earlier) →
      new.channel ≡ with_conn old.channel new.channel.conn → new.ports.table ≡ old.ports.table →
      (AreLooksFor old.ports.table.slots (line_past old) old.ports.view.steps → AreLooksFor old.ports.table.slots (Read p.stream p.frame o ∷ line_past old) new.ports.view.steps) →
      ActsOnRead p.stream p.frame o old new →
      new ≡ record old { channel = new.channel; ports = new.ports } →
      PassesWith published (pong_for o p.frame.header.sport) p.stream p.frame o old new
  passes_quietly came old new p o is kept unread rest ports looks acts same =
      let past = line_past old in
      let words = ap (λ (v : LineView E M). v.words.view) same in
      let boxes = ap (λ (v : LineView E M). v.boxes) same in
      record {
        reads = passes_reads came old.channel.conn new.channel.conn p o is;
        accounts = p.accounts;
        rest = rest;
        orders = ap (λ (v : LineView E M). v.orders) same;
        put = λ was.
            subst (IsPutFor old.channel.conn.peer (Read p.stream p.frame o ∷ past)) (sym boxes)
            (put_for_read p.stream p.frame o old.channel.conn.peer past old.boxes kept was);
        counted = λ was.
            subst (IsCountedFor (Read p.stream p.frame o ∷ past)) (sym words)
            (counted_for_read p.stream p.frame o past old.words.view kept was);
        freed = λ slot small. ap (λ (v : View). part (freed_word slot) v.steps) words;
        maps = λ was. ap (λ (v : LineView E M). published v.map) same ∙ was ∙ sym (unread p.frame.payload (maps past));
        own = ap (λ (v : LineView E M). v.own) same;
        read = λ was. subst (λ (v : View). IsAsRead old.own v.steps) (sym words) was;
        boxes = ap length boxes;
        ports = ports;
        looks = looks;
        stored = λ was. subst (λ (v : View). StoresNothing v.steps) (sym words) was;
        steps = begins_of old.words.view.steps new.words.view.steps (ap (λ (v : View). v.steps) words);
        acts = acts;
      }

  -- its map was published
  pub passes_map : (old new : LineView E M) (p : Passes found.Unasked old.channel.conn new.channel.conn) →
      verdict_of (line_past old) p.frame.header ≡ verdict.Map → published new.map ≡ published old.map ++ p.frame.payload ∷ [] →
      new.channel ≡ with_conn old.channel new.channel.conn →
      new ≡ record old { channel = new.channel; map = new.map } → PassesWith published None p.stream p.frame outcome.Map old new
  passes_map old new p is did rest same =
      let past = line_past old in
      let words = ap (λ (v : LineView E M). v.words.view) same in
      let boxes = ap (λ (v : LineView E M). v.boxes) same in
      record {
        reads =
            passes_reads found.Unasked old.channel.conn new.channel.conn p outcome.Map
            (ap (λ (k : Verdict). outcome_of k found.Unasked) is);
        accounts = p.accounts;
        rest = rest;
        orders = ap (λ (v : LineView E M). v.orders) same;
        put = λ was.
            subst (IsPutFor old.channel.conn.peer (Read p.stream p.frame outcome.Map ∷ past)) (sym boxes)
            (put_for_read p.stream p.frame outcome.Map old.channel.conn.peer past old.boxes refl was);
        counted = λ was.
            subst (IsCountedFor (Read p.stream p.frame outcome.Map ∷ past)) (sym words)
            (counted_for_read p.stream p.frame outcome.Map past old.words.view refl was);
        freed = λ slot small. ap (λ (v : View). part (freed_word slot) v.steps) words;
        maps = λ was. did ∙ ap (λ (l : List (List ℕ)). l ++ p.frame.payload ∷ []) was;
        own = ap (λ (v : LineView E M). v.own) same;
        read = λ was. subst (λ (v : View). IsAsRead old.own v.steps) (sym words) was;
        boxes = ap length boxes;
        ports = ap (λ (v : LineView E M). v.ports.table) same;
        looks = λ was.
            subst (λ (h : PortSeat). AreLooksFor old.ports.table.slots (Read p.stream p.frame outcome.Map ∷ past) h.view.steps)
            (sym (ap (λ (v : LineView E M). v.ports) same))
            (looks_beside past old.ports.view.steps (Read p.stream p.frame outcome.Map) (λ stream slot frame is. absurd (cc))
            (λ stream frame is. absurd (cc)) was);
        stored = λ was. subst (λ (v : View). StoresNothing v.steps) (sym words) was;
        steps = begins_of old.words.view.steps new.words.view.steps (ap (λ (v : View). v.steps) words);
        acts =
            map_acts old new p.stream p.frame (ap (λ (v : LineView E M). v.ports) same) (ap (λ (v : LineView E M). v.words) same)
            (ap (λ (v : LineView E M). v.own) same);
      }

  -- its datagram was put into the box of a slot, and counted
  pub passes_delivery : (slot port : ℕ) (old new : LineView E M) →
      (p : Passes (found.Slot slot) old.channel.conn new.channel.conn) →
      verdict_of (line_past old) p.frame.header ≡ verdict.Deliver port → slot < MAX_SLOTS → slot < old.ports.table.slots →
      IsPutInto slot (datagram_from old.channel.conn.peer p.frame) old.boxes new.boxes →
      (ports : PortSeat) → ports ≡ knowing old.ports (after_look old.ports.view port (Some slot)) → new.ports.table ≡ old.ports.table →
      IsDelivery slot port (length p.frame.payload) old.words new.words ports new.ports →
      new.channel ≡ with_conn old.channel new.channel.conn →
      new ≡ record old { channel = new.channel; boxes = new.boxes; ports = new.ports; words = new.words } →
      PassesWith published None p.stream p.frame (outcome.Slot slot) old new
  passes_delivery slot port old new p is small below put ports look table delivery rest same =
      let past = line_past old in
      let named : IsDelivery slot p.frame.header.dport (length p.frame.payload) old.words new.words ports new.ports =
      subst (λ (k : ℕ). IsDelivery slot k (length p.frame.payload) old.words new.words ports new.ports)
      (sym (port_is past p.frame.header port is)) delivery in
      record {
        reads =
            passes_reads (found.Slot slot) old.channel.conn new.channel.conn p (outcome.Slot slot)
            (ap (λ (k : Verdict). outcome_of k (found.Slot slot)) is);
        accounts = p.accounts;
        rest = rest;
        orders = ap (λ (v : LineView E M). v.orders) same;
        put = put_for_more p.stream slot p.frame past old.channel.conn.peer old.boxes new.boxes put;
        counted = counted_for_more p.stream slot p.frame past old.words new.words ports new.ports named;
        freed = λ s within.
            let n = length p.frame.payload in
            let before_it = part (freed_word s) old.words.view.steps in
            let more = delivery_part slot port n old.words new.words ports new.ports delivery (freed_word s) in
            let apart : put_word slot ≢ freed_word s = λ e. absurd (omega arith) in
            let none : before_it + 0 ≡ before_it = omega arith in
            more ∙ ap (λ (b : Bool). before_it + (if b then n else 0)) (ne_eqb (put_word slot) (freed_word s) apart) ∙ none;
        maps = λ was. ap (λ (v : LineView E M). published v.map) same ∙ was;
        own = ap (λ (v : LineView E M). v.own) same;
        read = read_after_delivery old.own slot small port (length p.frame.payload) old.words new.words ports new.ports delivery;
        boxes = ap length put.2 ∙ length-set old.boxes slot (after_put put.0 (datagram_from old.channel.conn.peer p.frame));
        ports = table;
        looks = slot_looks old.ports p.stream p.frame past look (port_is past p.frame.header port is) delivery below;
        stored = delivery_stores delivery;
        steps = (same_seats delivery).meter_steps;
        acts =
            delivered_acts old new slot port p.stream p.frame ports look (port_is past p.frame.header port is) delivery
            (ap (λ (v : LineView E M). v.own) same);
      }
