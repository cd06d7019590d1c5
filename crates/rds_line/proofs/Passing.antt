-- What a line keeps when a frame is passed, whatever became of it.
use Rattle.std.proofs.Common.{◌≡◌, ℕ, ◌+◌, ◌<◌, ◌≤◌, ◌==◌, Bool, Option, Some, None, List, [], ◌∷◌, ◌++◌, length, refl, sym, ap, subst, ◌∙◌}
use Rattle.std.proofs.lemmas.Bool.{cond-true, eq-eqb}
use Rattle.rds_wire.specs.declared.frame.Frame.{Frame}
use Rattle.rds_model.specs.declared.entry.Entry.{Entry}
use Rattle.rds_model.specs.declared.entry.Entry.TheVariants.{Accept, Read}
use Rattle.rds_model.specs.declared.entry.Outcome.{Outcome}
use Rattle.rds_model.specs.declared.entry.TheConstants.{MAX_SLOTS, NO_SLOT}
use Rattle.rds_model.specs.declared.order.Datagram.{Datagram}
use Rattle.rds_model.specs.declared.order.Order.{Order}
use Rattle.rds_model.specs.declared.order.Order.TheVariants as order
use Rattle.rds_model.specs.Honest.{Begins}
use Rattle.rds_model.specs.Legal.{pong_for}
use Rattle.rds_model.specs.Owed.{last_map}
use Rattle.rds_model.specs.Past.{Moment, now, before, open_stream}
use Rattle.rds_model.specs.Reading.{verdict_of}
use Rattle.rds_model.specs.Sums.{maps, orders, with_map}
use Rattle.rds_mail.specs.Numbers.{bare_items}
use Rattle.rds_mail.specs.Passes.{Getter, Putter}
use Rattle.rds_seats.specs.Views.{Table}
use Rattle.rds_bindtab.specs.declared.view.Step.{Step}
use Rattle.rds_meter.specs.declared.view.View.{View}
use Rattle.rds_meter.specs.declared.view.Step.{Step as MeterStep}
use Rattle.rds_meter.specs.Places.{part, freed_word}
use Rattle.rds_conn.specs.declared.conn.Found.{Found}
use Rattle.rds_conn.specs.Connection.{Connection, freed_bytes_of, with_entries}
use Rattle.rds_conn.specs.Passing.{Passes, outcome_of, with_pong}
use Rattle.rds_conn.specs.Released.{released_bytes}
use Rattle.rds_line_parts.specs.Counted.{IsCountedFor, IsPutFor}
use Rattle.rds_line_parts.specs.CountedLaws.{freed_for_account}
use Rattle.rds_line_parts.specs.Own.{Own, IsAsRead}
use Rattle.rds_line_channel.specs.Channel.{ChannelView, with_conn}
use Rattle.rds_line.specs.Acts.{Acted, Acts, acted, enters}
use Rattle.rds_line.specs.Keeps.{KeepsLine, IsPulled, cuts_among, uncut}
use Rattle.rds_line.specs.Line.{LineView, line_past}
use Rattle.rds_line.specs.Seats.{AreFoundSet, AreLooksFor, StoresNothing}
use Rattle.rds_line.proofs.Grounding.{found_beside, found_still}
use Rattle.rds_line.proofs.PortLooks.{looks_beside}

-- the acceptance of a pong, if one is owed to a port
abbrev pub pongs : Option ℕ → List Entry
pongs None = []
pongs (Some port) = Accept NO_SLOT 0 port [] ∷ []

-- the journal with a frame that was read, and its pong
abbrev pub read_past : Option ℕ → ℕ → Frame → Outcome → List Entry → List Entry
read_past port s f o past = pongs port ++ Read s f o ∷ past

-- the connection has read a frame, and the rest of it stays but for its freed bytes
pub record ReadsFrame (port : Option ℕ) (s : ℕ) (f : Frame) (o : Outcome) (old new : Connection) : Type 0 where
  pub me : new.me ≡ old.me
  pub peer : new.peer ≡ old.peer
  pub slots : new.slots ≡ old.slots
  pub limit : new.log.limit ≡ old.log.limit
  pub past : new.log.past ≡ read_past port s f o old.log.past

reads_pong : (port : Option ℕ) (s : ℕ) (f : Frame) (o : Outcome) (c : Connection) (freed : List ℕ) →
    ReadsFrame port s f o c
    (record (with_pong port (record (with_entries (Read s f o ∷ []) c) { waiting = None })) { freed = freed })
reads_pong None s f o c freed = record { me = refl; peer = refl; slots = refl; limit = refl; past = refl }
reads_pong (Some port) s f o c freed = record { me = refl; peer = refl; slots = refl; limit = refl; past = refl }

-- a frame that is passed with this outcome
pub passes_reads : (came : Found) (old new : Connection) (p : Passes came old new) (o : Outcome) →
    outcome_of (verdict_of old.log.past p.frame.header) came ≡ o →
    ReadsFrame (pong_for o p.frame.header.sport) p.stream p.frame o old new
passes_reads came old new p o is =
    subst (λ (c : Connection). ReadsFrame (pong_for o p.frame.header.sport) p.stream p.frame o old c)
    (sym {b = next o} (p.entry ∙ ap next is)) (reads_pong (pong_for o p.frame.header.sport) p.stream p.frame o old new.freed)
  where
    next : Outcome → Connection
    next k =
        let read : Connection = record (with_entries (Read p.stream p.frame k ∷ []) old) { waiting = None } in
        record (with_pong (pong_for k p.frame.header.sport) read) { freed = new.freed }

module _ (s : ℕ) (f : Frame) (o : Outcome) (past : List Entry) where
  -- a pong is no order
  orders_after : (port : Option ℕ) → orders (read_past port s f o past) ≡ orders past
  orders_after None = refl
  orders_after (Some port) =
      cond-true (NO_SLOT == NO_SLOT) (orders past) (orders past ++ order.Send NO_SLOT 0 port [] ∷ [])
      (eq-eqb NO_SLOT NO_SLOT refl)

  maps_after : (port : Option ℕ) → maps (read_past port s f o past) ≡ with_map o f.payload (maps past)
  maps_after None = refl
  maps_after (Some port) = refl

  last_map_after : (port : Option ℕ) (t : ℕ) → last_map t (read_past port s f o past) ≡ last_map t past
  last_map_after None t = refl
  last_map_after (Some port) t = refl

  stream_after : (port : Option ℕ) → open_stream (read_past port s f o past) ≡ open_stream past
  stream_after None = refl
  stream_after (Some port) = refl

  pub moment_after : (port : Option ℕ) → Moment past (read_past port s f o past)
  moment_after None = before now
  moment_after (Some port) = before (before now)

  -- nor is it a delivery
  put_after : (port : Option ℕ) (from : ℕ) (boxes : List (Putter Datagram)) →
      IsPutFor from (Read s f o ∷ past) boxes → IsPutFor from (read_past port s f o past) boxes
  put_after None from boxes was = was
  put_after (Some port) from boxes was = was

  counted_after : (port : Option ℕ) (v : View) → IsCountedFor (Read s f o ∷ past) v → IsCountedFor (read_past port s f o past) v
  counted_after None v was = was
  counted_after (Some port) v was = record { put = was.put; checks = was.checks }

  looks_after : {size : ℕ} (port : Option ℕ) (steps : List Step) → AreLooksFor size (Read s f o ∷ past) steps → AreLooksFor size (read_past port s f o past) steps
  looks_after {size} None steps was = was
  looks_after {size} (Some port) steps was =
      looks_beside (Read s f o ∷ past) steps (Accept NO_SLOT 0 port []) (λ stream slot frame is. absurd (cc)) (λ stream frame is. absurd (cc)) was

  -- nor a pull
  found_after : (port : Option ℕ) (steps : List MeterStep) → AreFoundSet past steps → AreFoundSet (read_past port s f o past) steps
  found_after None steps was = found_beside past steps (Read s f o) (λ stream frame is. absurd (cc)) was
  found_after (Some port) steps was =
      found_beside (Read s f o ∷ past) steps (Accept NO_SLOT 0 port []) (λ stream frame is. absurd (cc)) (found_beside past steps (Read s f o) (λ stream frame is. absurd (cc)) was)

  -- nor is a port asked for it
  pub acts_after : (a b : Acted) (port : Option ℕ) → Acts a (record b { past = Read s f o ∷ past }) →
      Acts a (record b { past = read_past port s f o past })
  acts_after a b None acts = acts
  acts_after a b (Some port) acts = enters (Accept NO_SLOT 0 port []) tt acts

-- the bytes that are freed or released are accounted for
abbrev pub AccountsFreed : Connection → Connection → Type 0
AccountsFreed old new = (slot : ℕ) → slot < old.slots →
    freed_bytes_of slot new + released_bytes slot old.log.past ≡ freed_bytes_of slot old + released_bytes slot new.log.past

module _ {E M : Type 0} where
  -- the line acted on, and its journal got the reading of the frame
  abbrev pub ActsOnRead : ℕ → Frame → Outcome → LineView E M → LineView E M → Type 0
  ActsOnRead s f o old new = (a : Acted) → Acts a (acted old) → Acts a (record (acted new) { past = Read s f o ∷ line_past old })

  -- and what follows from it
  pub acts_passed : {port : Option ℕ} {s : ℕ} {f : Frame} {o : Outcome} (old new : LineView E M) →
      ReadsFrame port s f o old.channel.conn new.channel.conn → ActsOnRead s f o old new → (a : Acted) → Acts a (acted old) → Acts a (acted new)
  acts_passed {port} {s} {f} {o} old new r acts a was =
      subst (λ (l : List Entry). Acts a (record (acted new) { past = l })) (sym r.past)
      (acts_after s f o (line_past old) a (acted new) port (acts a was))

module _ {E M : Type 0} (published : M → List (List ℕ)) where
  -- A frame was passed, and what had to be done with it was done: a datagram was put and counted where it was delivered, and a
  -- map published.
  pub record PassesWith (port : Option ℕ) (s : ℕ) (f : Frame) (o : Outcome) (old new : LineView E M) : Type 0 where
    pub reads : ReadsFrame port s f o old.channel.conn new.channel.conn
    pub accounts : AccountsFreed old.channel.conn new.channel.conn
    pub rest : new.channel ≡ with_conn old.channel new.channel.conn
    pub orders : new.orders ≡ old.orders
    pub put : IsPutFor old.channel.conn.peer (line_past old) old.boxes →
        IsPutFor old.channel.conn.peer (Read s f o ∷ line_past old) new.boxes
    pub counted : IsCountedFor (line_past old) old.words.view → IsCountedFor (Read s f o ∷ line_past old) new.words.view
    pub freed : (slot : ℕ) → slot < MAX_SLOTS →
        part (freed_word slot) new.words.view.steps ≡ part (freed_word slot) old.words.view.steps
    pub maps : published old.map ≡ maps (line_past old) → published new.map ≡ with_map o f.payload (maps (line_past old))
    pub own : new.own ≡ old.own
    pub read : IsAsRead old.own old.words.view.steps → IsAsRead old.own new.words.view.steps
    pub boxes : length new.boxes ≡ length old.boxes
    pub ports : new.ports.table ≡ old.ports.table
    pub looks : AreLooksFor old.ports.table.slots (line_past old) old.ports.view.steps → AreLooksFor old.ports.table.slots (Read s f o ∷ line_past old) new.ports.view.steps
    pub stored : StoresNothing old.words.view.steps → StoresNothing new.words.view.steps
    pub steps : Begins old.words.view.steps new.words.view.steps
    pub acts : ActsOnRead s f o old new

  -- the line keeps all that it keeps
  keeps_passed_line : {port : Option ℕ} {s : ℕ} {f : Frame} {o : Outcome} {old new : LineView E M} →
      PassesWith port s f o old new → KeepsLine published old → KeepsLine published new
  keeps_passed_line {port} {s} {f} {o} {old} {new} p was =
      let r = p.reads in
      let past = line_past old in
      record {
        taken =
            ap (λ (g : Getter Order). uncut (bare_items g.got)) p.orders ∙ was.taken
            ∙ sym (ap orders r.past ∙ orders_after s f o past port);
        cuts =
            ap (λ (g : Getter Order). cuts_among (bare_items g.got)) p.orders ∙ was.cuts
            ∙ sym (ap (λ (c : ChannelView E). length c.cuts.numbers) p.rest);
        put =
            subst (λ (l : List Entry). IsPutFor new.channel.conn.peer l new.boxes) (sym r.past)
            (subst (λ (k : ℕ). IsPutFor k (read_past port s f o past) new.boxes) (sym r.peer)
            (put_after s f o past port old.channel.conn.peer new.boxes (p.put was.put)));
        counted =
            subst (λ (l : List Entry). IsCountedFor l new.words.view) (sym r.past)
            (counted_after s f o past port new.words.view (p.counted was.counted));
        freed = λ slot small.
            let inside : slot < old.channel.conn.slots = subst (λ (n : ℕ). slot < n) r.slots small in
            let same = p.freed slot (subst (λ (n : ℕ). slot < n) was.slots inside) in
            ap (λ n. n + freed_bytes_of slot new.channel.conn) same
            ∙ freed_for_account old.channel.conn new.channel.conn old.words.view r.slots p.accounts was.freed slot small;
        maps = p.maps was.maps ∙ sym (ap maps r.past ∙ maps_after s f o past port);
        read = subst (λ (own : Own). IsAsRead own new.words.view.steps) (sym p.own) (p.read was.read);
        boxes = p.boxes ∙ was.boxes ∙ sym (ap (λ (t : Table). t.slots) p.ports);
        few = subst (λ (t : Table). t.slots ≤ MAX_SLOTS) (sym p.ports) was.few;
        slots = r.slots ∙ was.slots;
        pulled =
            subst (λ (l : List Entry). AreFoundSet l new.words.view.steps) (sym r.past)
            (found_after s f o past port new.words.view.steps (found_still past old.words.view.steps new.words.view.steps p.steps was.pulled));
        ported =
            subst (λ (t : Table). AreLooksFor t.slots (line_past new) new.ports.view.steps) (sym p.ports)
            (subst (λ (l : List Entry). AreLooksFor old.ports.table.slots l new.ports.view.steps) (sym r.past)
            (looks_after s f o past port new.ports.view.steps (p.looks was.ported)));
        stored = p.stored was.stored;
        acts = (was.acts.0, was.acts.1, acts_passed old new r p.acts was.acts.0 was.acts.2);
      }

  pub keeps_passed : {port : Option ℕ} {s : ℕ} {f : Frame} {o : Outcome} {old new : LineView E M} (pulled : Bool) →
      PassesWith port s f o old new → KeepsLine published old × IsPulled pulled old →
      KeepsLine published new × IsPulled pulled new
  keeps_passed {port} {s} {f} {o} {old} {new} pulled p was = (
    keeps_passed_line p was.0,
    λ is t on.
        let past = line_past old in
        let r = p.reads in
        ap (last_map t) r.past ∙ last_map_after s f o past port t
        ∙ was.1 is t (sym (ap open_stream r.past ∙ stream_after s f o past port) ∙ on)
        ∙ ap (λ (own : Own). Some own.map) (sym p.own),
  )

  -- a publication that failed changes none of it
  pub keeps_unpublished : {old : LineView E M} (pulled : Bool) (map : M) → published map ≡ published old.map →
      KeepsLine published old × IsPulled pulled old →
      KeepsLine published (record old { map = map }) × IsPulled pulled (record old { map = map })
  keeps_unpublished {old} pulled map same was = (
    record {
      taken = was.0.taken;
      cuts = was.0.cuts;
      put = was.0.put;
      counted = was.0.counted;
      freed = was.0.freed;
      maps = same ∙ was.0.maps;
      read = was.0.read;
      boxes = was.0.boxes;
      few = was.0.few;
      slots = was.0.slots;
      pulled = was.0.pulled;
      ported = was.0.ported;
      stored = was.0.stored;
      acts = was.0.acts;
    },
    was.1,
  )
