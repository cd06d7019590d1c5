-- What every turn of a line leaves as it was stays so where a frame is passed.
use Rattle.std.proofs.Common.{◌≡◌, inl, inr, ℕ, Bool, true, false, Option, Some, None, Result, Ok, Err, List, [], ◌∷◌, ◌++◌, drop, length, slice_get, slice_set, refl, sym, ap, subst, ◌∙◌}
use Rattle.std.specs.Prelude.{IfOk, OnOk, OnErr}
use Rattle.std.specs.Result.{is_err}
use Rattle.std.proofs.lemmas.Bool.{cases_eq}
use Rattle.std.proofs.lemmas.List.{length-set}
use Rattle.std.proofs.lemmas.Option.{same_Some, slice_get_within}
use Rattle.rds_link.specs.Ends.{Means}
use Rattle.rds_bindtab.specs.declared.view.Telling.{Telling}
use Rattle.rds_bindtab.specs.declared.view.View.{View as PortView}
use Rattle.rds_bindtab.specs.declared.view.Step.TheVariants.{Looked}
use Rattle.rds_bindtab.specs.Seats.{PortSeat, after_look, knowing}
use Rattle.rds_meter.specs.declared.view.View.{View as MeterView}
use Rattle.rds_meter.specs.declared.view.Step.{Step as MeterStep}
use Rattle.rds_meter.specs.declared.view.Step.TheVariants.{Loaded}
use Rattle.rds_meter.specs.Places.{taken_word}
use Rattle.rds_meter.specs.Seats.{MeterSeat}
use Rattle.rds_wire.specs.declared.frame.Frame.{Frame}
use Rattle.rds_model.specs.declared.entry.Entry.{Entry}
use Rattle.rds_model.specs.declared.order.Datagram.{Datagram}
use Rattle.rds_model.specs.declared.order.Order.{Order}
use Rattle.rds_model.specs.Honest.{Begins}
use Rattle.rds_model.specs.Past.{Moment, now, before}
use Rattle.rds_model.specs.Legal.{pong_for}
use Rattle.rds_model.specs.Reading.{verdict_of}
use Rattle.rds_model.specs.SumLaws.{same_list}
use Rattle.rds_model.specs.declared.entry.Outcome.{Outcome}
use Rattle.rds_mail.specs.Passes.{Getter, Putter, after_put}
use Rattle.rds_conn.specs.declared.conn.Found.{Found}
use Rattle.rds_wire.specs.declared.memory.Memory.{Memory}
use Rattle.rds_conn.specs.Connection.{Connection}
use Rattle.rds_conn.specs.Passing.{Passes, outcome_of}
use Rattle.rds_line_parts.specs.Boxes.{IsBoxOf, IsPutInto}
use Rattle.rds_line_parts.specs.Delivery.{IsDelivery, check_of, counting_steps, lowering, must_lower}
use Rattle.rds_line_channel.specs.PlaceLaws.{at_set, beside_set}
use Rattle.rds_line_channel.specs.Channel.{ChannelView, CutsView, with_conn}
use Rattle.rds_line_channel.specs.Changes.{EndsRefused, TakesBytes}
use Rattle.rds_line_channel.specs.declared.channel.Taken.{Taken}
use Rattle.rds_line_channel.specs.declared.channel.Taken.TheVariants as taken
use Rattle.rds_line.specs.Acts.{Acts, acted}
use Rattle.rds_line.specs.Line.{LineView, line_past, pulls_in}
use Rattle.rds_line.specs.Seats.{WasAlwaysTold}
use Rattle.rds_line.specs.Stays.{AreSameBoxes, ChannelStays}
use Rattle.rds_line.specs.Steps.{PassesOne, StaysQuiet}
use Rattle.rds_line.proofs.Passing.{moment_after, passes_reads, read_past}
use Rattle.rds_line.proofs.PortLooks.{told_looked}
use Rattle.rds_line.proofs.Staying.{channel_of, channel_same, conn_stays, ending_stays}
use Rattle.rds_line.proofs.Same.{begins_of, begins_through, boxes_same, same_port_view, same_view}

-- what holds on success and what holds on failure, where the test says which it was
pub at_ok : {A F : Type 0} {P : Type 0} (r : Result A F) → false ≡ is_err r → OnOk r P → P
at_ok (Ok x) is p = p
at_ok (Err why) is p = absurd (cc)

pub at_value : {A F : Type 0} {P : Type 0} (r : Result A F) → false ≡ is_err r → IfOk r (λ x. P) → P
at_value (Ok x) is p = p
at_value (Err why) is p = absurd (cc)

pub at_err : {A F : Type 0} {P : Type 0} (r : Result A F) → true ≡ is_err r → OnErr r P → P
at_err (Ok x) is p = absurd (cc)
at_err (Err why) is p = p

-- nothing was put
pub boxes_as : (old new : List (Putter Datagram)) → new ≡ old → AreSameBoxes old new
boxes_as old new is = subst (AreSameBoxes old) (sym is) (boxes_same old)

-- a datagram was put into one box
pub put_same : (slot : ℕ) (item : Datagram) (old new : List (Putter Datagram)) → IsPutInto slot item old new →
    AreSameBoxes old new
put_same slot item old new put =
    let grown : Putter Datagram = after_put put.0 item in
    record {
      count = ap length put.2 ∙ length-set old slot grown;
      each = λ s box after stood stands.
          let here = subst (λ (boxes : List (Putter Datagram)). IsBoxOf boxes s after) put.2 stands in
          elim (cases_eq s slot) [
            | inl same ↦
                let was : box ≡ put.0 = same_Some box put.0 (sym stood ∙ (ap (slice_get old) same ∙ put.1)) in
                let there = at_set old slot grown (slice_get_within old slot put.0 put.1) in
                let is : after ≡ grown =
                same_Some after grown (sym here ∙ (ap (λ k. slice_get (slice_set old slot grown) k) same ∙ there)) in (
                  ap (λ (b : Putter Datagram). b.mail) is ∙ ap (λ (b : Putter Datagram). b.mail) (sym was),
                  ap (λ (b : Putter Datagram). b.number) is ∙ ap (λ (b : Putter Datagram). b.number) (sym was),
                  ap (λ (b : Putter Datagram). b.splits) is ∙ ap (λ (b : Putter Datagram). b.splits) (sym was),
                )
            | inr apart ↦
                let is : after ≡ box = same_Some after box (sym here ∙ (beside_set old slot s grown apart ∙ stood)) in (
                  ap (λ (b : Putter Datagram). b.mail) is,
                  ap (λ (b : Putter Datagram). b.number) is,
                  ap (λ (b : Putter Datagram). b.splits) is,
                )
          ];
    }

-- a delivery leaves the table of each seat, and the slot of the meter's
pub record SameSeats (old new : MeterSeat) (ports after : PortSeat) : Type 0 where
  pub meter : new.table ≡ old.table
  pub meter_slot : new.slot ≡ old.slot
  pub port_table : after.table ≡ ports.table
  pub meter_view : new.view ≡ record old.view { checks = new.view.checks; steps = new.view.steps }
  pub meter_steps : Begins old.view.steps new.view.steps
  pub port_view : after.view ≡ record ports.view { steps = after.view.steps }
  pub port_steps : Begins ports.view.steps after.view.steps
  pub always : (t : Telling) → WasAlwaysTold t ports.view → WasAlwaysTold t after.view

pub seats_same : (words : MeterSeat) (ports : PortSeat) → SameSeats words words ports ports
seats_same words ports = record {
  meter = refl;
  meter_slot = refl;
  port_table = refl;
  meter_view = refl;
  meter_steps = same_list words.view.steps;
  port_view = refl;
  port_steps = same_list ports.view.steps;
  always = λ t was. was;
}

-- one look was made
pub seats_looked : (words : MeterSeat) (ports after : PortSeat) (port : ℕ) (found : Option ℕ) →
    after ≡ knowing ports (after_look ports.view port found) → SameSeats words words ports after
seats_looked words ports after port found is = record {
  meter = refl;
  meter_slot = refl;
  port_table = ap (λ (h : PortSeat). h.table) is;
  meter_view = refl;
  meter_steps = same_list words.view.steps;
  port_view =
      same_port_view ports.view after.view (after_look ports.view port found).steps (ap (λ (h : PortSeat). h.view) is);
  port_steps = (Looked port found ports.view.told ∷ [], ap (λ (h : PortSeat). h.view.steps) is);
  always = λ t was. subst (λ (h : PortSeat). WasAlwaysTold t h.view) (sym is) (told_looked t ports.view port found was);
}

-- and then more was done
pub seats_through : {words middle new : MeterSeat} {ports between after : PortSeat} → SameSeats words middle ports between →
    SameSeats middle new between after → SameSeats words new ports after
seats_through {words} {middle} {new} {ports} {between} {after} first second = record {
  meter = second.meter ∙ first.meter;
  meter_slot = second.meter_slot ∙ first.meter_slot;
  port_table = second.port_table ∙ first.port_table;
  meter_view =
      second.meter_view ∙ ap (λ (v : MeterView). record v { checks = new.view.checks; steps = new.view.steps }) first.meter_view;
  meter_steps = begins_through words.view.steps middle.view.steps new.view.steps first.meter_steps second.meter_steps;
  port_view = second.port_view ∙ ap (λ (v : PortView). record v { steps = after.view.steps }) first.port_view;
  port_steps = begins_through ports.view.steps between.view.steps after.view.steps first.port_steps second.port_steps;
  always = λ t was. second.always t (first.always t was);
}

pub same_seats : {slot port n : ℕ} {old new : MeterSeat} {ports after : PortSeat} →
    IsDelivery slot port n old new ports after → SameSeats old new ports after
same_seats {slot} {port} {n} {old} {new} {ports} {after} d = go d.mark.set refl
  where
    counting : List MeterStep
    counting = counting_steps slot n d.mark d.counts.number

    counted : SameSeats old d.counted ports ports
    counted = record {
      meter = ap (λ (h : MeterSeat). h.table) d.counts.seat;
      meter_slot = ap (λ (h : MeterSeat). h.slot) d.counts.seat;
      port_table = refl;
      meter_view =
          same_view old.view d.counted.view (old.view.checks ++ check_of slot d.mark ∷ []) (old.view.steps ++ counting)
          (ap (λ (h : MeterSeat). h.view) d.counts.seat);
      meter_steps = (counting, ap (λ (h : MeterSeat). h.view.steps) d.counts.seat);
      port_view = refl;
      port_steps = same_list ports.view.steps;
      always = λ t was. was;
    }

    go : (b : Bool) → d.mark.set ≡ b → SameSeats old new ports after
    go true set =
        let second = d.raised set in
        let lowered = lowering (must_lower slot d.mark second.taken second.holder) d.mark.port second.number in
        let more = Loaded (taken_word slot) second.taken ∷ lowered in
        let looked = seats_looked d.counted ports after d.mark.port second.holder second.ports in
        seats_through counted (record {
          meter = ap (λ (h : MeterSeat). h.table) second.seat;
          meter_slot = ap (λ (h : MeterSeat). h.slot) second.seat;
          port_table = looked.port_table;
          meter_view =
              same_view d.counted.view new.view d.counted.view.checks (d.counted.view.steps ++ more)
              (ap (λ (h : MeterSeat). h.view) second.seat);
          meter_steps = (more, ap (λ (h : MeterSeat). h.view.steps) second.seat);
          port_view = looked.port_view;
          port_steps = looked.port_steps;
          always = looked.always;
        })
    go false unset =
        let same = d.other unset in
        subst (λ (h : PortSeat). SameSeats old new ports h) (sym same.1)
        (subst (λ (h : MeterSeat). SameSeats old h ports ports) (sym same.0) counted)

-- a frame that was read is none that was pulled, nor is a pong
read_pulls : (s : ℕ) (f : Frame) (o : Outcome) (past : List Entry) (port : Option ℕ) →
    pulls_in (read_past port s f o past) ≡ pulls_in past
read_pulls s f o past None = refl
read_pulls s f o past (Some port) = refl

-- where the frame that waited was passed, no frame was pulled
pub passed_pulls : {came : Found} {old new : Connection} → Passes came old new → pulls_in new.log.past ≡ pulls_in old.log.past
passed_pulls {came} {old} {new} p =
    let o = outcome_of (verdict_of old.log.past p.frame.header) came in
    let r = passes_reads came old new p o refl in
    ap pulls_in r.past ∙ read_pulls p.stream p.frame o old.log.past (pong_for o p.frame.header.sport)

-- and it was passed as the view of the line tells
pub passed_one : {E M : Type 0} {came : Found} {inside old : LineView E M} → inside ≡ old → (new : ChannelView E) →
    Passes came inside.channel.conn new.conn → new ≡ with_conn inside.channel new.conn → PassesOne old.channel new
passed_one {E} {M} {came} {inside} {old} is new p rest =
    subst (λ (v : LineView E M). PassesOne v.channel new) is (record { found = came; passes = p; rest = rest })

module _ {E : Type 0} {m : Means E} where
  -- the frame that waited was passed
  pub passed_stays : {came : Found} {old new : ChannelView E} → Passes came old.conn new.conn →
      new ≡ with_conn old new.conn → ChannelStays m old new
  passed_stays {came} {old} {new} p rest =
      let o = outcome_of (verdict_of old.conn.log.past p.frame.header) came in
      let r = passes_reads came old.conn new.conn p o refl in
      let past = old.conn.log.past in
      let later = subst (λ (l : List Entry). Moment past l) (sym r.past) (moment_after p.stream p.frame o past _) in
      channel_of m old new (with_conn old new.conn) rest (conn_stays m old new.conn r.me r.peer r.slots r.limit later)

  -- bytes were taken
  fed_stays : (waits : Bool) (old new : ChannelView E) → TakesBytes waits old new → ChannelStays m old new
  fed_stays waits old new took =
      let next : Connection = record old.conn { waiting = new.conn.waiting; rest = new.conn.rest } in
      let conn : ChannelStays m old (with_conn old new.conn) =
      subst (λ (c : Connection). ChannelStays m old (with_conn old c)) (sym {b = next} took.feeds.rest_same)
      (conn_stays m old next refl refl refl refl now) in
      channel_of m old new (record old { conn = new.conn; piece = drop took.fed.used old.piece }) took.is (record {
        me = conn.me;
        peer = conn.peer;
        slots = conn.slots;
        limit = conn.limit;
        past = conn.past;
        streams = conn.streams;
        cuts = conn.cuts;
      })

  -- a header was refused
  refused_stays : (old new : ChannelView E) → EndsRefused m old new → ChannelStays m old new
  refused_stays old new ends =
      let r = ends.refuses in
      record {
        me = ap (λ (c : Connection). c.me) r.entry;
        peer = ap (λ (c : Connection). c.peer) r.entry;
        slots = ap (λ (c : Connection). c.slots) r.entry;
        limit = ap (λ (c : Connection). c.log.limit) r.entry;
        past = subst (λ (c : Connection). Moment old.conn.log.past c.log.past) (sym r.entry) (before now);
        streams = ending_stays m old.streams new.streams ends.streams;
        cuts = begins_of old.cuts.numbers new.cuts.numbers (ap (λ (c : CutsView). c.numbers) ends.cuts);
      }

  pub taken_stays : (came : Result Taken Memory) {old new : ChannelView E} → (came ≡ Ok taken.Frame → TakesBytes true old new) →
      (came ≡ Ok taken.Part → TakesBytes false old new × (new.piece ≡ [])) → (came ≡ Ok taken.Refused → EndsRefused m old new) →
      OnErr came (new ≡ old) → ChannelStays m old new
  taken_stays (Ok taken.Frame) {old} {new} frame part refused err = fed_stays true old new (frame refl)
  taken_stays (Ok taken.Part) {old} {new} frame part refused err = fed_stays false old new (part refl).0
  taken_stays (Ok taken.Refused) {old} {new} frame part refused err = refused_stays old new (refused refl)
  taken_stays (Err why) {old} {new} frame part refused err = channel_of m old new old err (channel_same m old)

  module _ {M Name : Type 0} {pair : M → Name} where
    -- the line took no order and pulled no frame, and each of its parts stays the same one
    pub line_quiet : {old inside new : LineView E M} → inside ≡ old → ChannelStays m inside.channel new.channel →
        pulls_in (line_past new) ≡ pulls_in (line_past inside) → new.orders ≡ inside.orders → AreSameBoxes inside.boxes new.boxes →
        SameSeats inside.words new.words inside.ports new.ports → pair new.map ≡ pair inside.map → new.own ≡ inside.own →
        Acts (acted inside) (acted new) → StaysQuiet m pair old new
    line_quiet {old} {inside} {new} is channel pulls orders boxes seats map own acts =
        subst (λ (v : LineView E M). StaysQuiet m pair v new) is (record {
          stays = record {
            channel = channel;
            mail = ap (λ (g : Getter Order). g.mail) orders;
            told = ap (λ (g : Getter Order). g.told) orders;
            joined = ap (λ (g : Getter Order). g.joined) orders;
            got = begins_of inside.orders.got new.orders.got (ap (λ (g : Getter Order). g.got) orders);
            boxes = boxes;
            ports = seats.port_table;
            port_view = seats.port_view;
            looks = seats.port_steps;
            always = seats.always;
            words = seats.meter;
            slot = seats.meter_slot;
            meter_view = seats.meter_view;
            steps = seats.meter_steps;
            acts = acts;
            map = map;
          };
          orders = orders;
          own = own;
          pulls = pulls;
        })
