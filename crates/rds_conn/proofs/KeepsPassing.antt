-- What a connection keeps where a frame is passed.
use Rattle.std.proofs.Common.{◌≡◌, inr, ℕ, suc, ◌+◌, ◌-◌, ◌<◌, ◌≤◌, ◌^◌, ◌&&◌, ◌||◌, nat_lt, Bool, cond, Option, Some, None, IfSome, List, [], ◌∷◌, ◌++◌, length, filter, sum, get_or, refl, sym, ◌∙◌, ap, subst, arith}
use Rattle.std.proofs.lemmas.Bool.{eq-eqb}
use Rattle.rds_wire.specs.declared.frame.Frame.{Frame}
use Rattle.rds_wire.specs.declared.header.Header.{Header}
use Rattle.rds_wire.specs.declared.header.TheConstants.{ACK_REQUIRED}
use Rattle.rds_wire.specs.Bytes.{frame_bytes}
use Rattle.rds_wire.specs.Kinds.{carries, kind_of, cause}
use Rattle.rds_frame.specs.Holding.{SplitterView as Frames, held_bytes}
use Rattle.rds_frame.specs.Splitting.{IsClear, IsFrame}
use Rattle.rds_model.specs.declared.entry.Entry.{Entry}
use Rattle.rds_model.specs.declared.entry.Entry.TheVariants.{Accept, Read}
use Rattle.rds_model.specs.declared.entry.Msg.{Msg}
use Rattle.rds_model.specs.declared.entry.Outcome.{Outcome}
use Rattle.rds_model.specs.declared.entry.Outcome.TheVariants as outcome
use Rattle.rds_model.specs.declared.entry.Verdict.TheVariants as verdict
use Rattle.rds_model.specs.declared.entry.TheConstants.{NO_SLOT}
use Rattle.rds_model.specs.Past.{accepted, highest_pulled, passes, number}
use Rattle.rds_model.specs.Owed.{answers_kind, is_asked, wants_answer}
use Rattle.rds_model.specs.Reading.{verdict_of, Obeys}
use Rattle.rds_model.specs.Legal.{IsLegal, IsLawfulRead, pong_for}
use Rattle.rds_model.specs.OwingLaws.{settled_continues}
use Rattle.rds_msgs.specs.Messages.{StoreView, bytes_of}
use Rattle.rds_conn.specs.declared.asking.Asking.{Asking}
use Rattle.rds_conn.specs.declared.conn.Conn.TheInside.{Inside}
use Rattle.rds_conn.specs.Freeing.{acknowledged, Frees}
use Rattle.rds_conn.specs.Released.{released_bytes}
use Rattle.rds_conn.specs.Invariant.{ConnectionInvariant, IsCounted, IsLinked, IsReading, IsStored, IsFreed, IsCharged}
use Rattle.rds_conn.proofs.Messages.{messages_after_read}
use Rattle.rds_conn.proofs.MessagesHeld.{holds_after_read}
use Rattle.rds_conn.proofs.ReleasedBytes.{gone_after_read, gone_after_accept}
use Rattle.rds_conn.proofs.KeepsStreams.{whole_with, reading_nothing}
use Rattle.rds_conn.proofs.Bounds.{accepted_within}
use Rattle.rds_conn.proofs.Charging.{charged_after, charged_after_pong}
use Rattle.rds_conn.proofs.KeepsOrders.{IsNext, next_message, marked_after, freed_after, frees_gone, freed_fits, stored_after_accept, freed_after_accept}
use Rattle.rds_conn.proofs.Reading.{waiting_sound}

-- what is known of the frame that waits
pub record Waits (c : Inside) (f : Frame) : Type 0 where
  pub frame : IsFrame f
  pub alone : c.splitter ≡ record { rest = []; waiting = Some f; refused = None }
  pub sound : cause f.header (highest_pulled c.journal.past) 0 ≡ None

pub waits : (c : Inside) (f : Frame) → ConnectionInvariant c → c.splitter.waiting ≡ Some f → Waits c f
waits c f keeps is =
    let held = subst (λ (o : Option Frame). IfSome o (λ g. IsFrame g × (c.splitter ≡ record { rest = []; waiting = Some g; refused = None }))) is keeps.reading.held.waiting in
    let clear : IsClear c.highest 0 (frame_bytes f ++ []) = subst (λ (y : Frames). IsClear c.highest 0 (held_bytes y)) held.1 keeps.reading.clear in
    record {
      frame = held.0;
      alone = held.1;
      sound = sym (ap (λ n. cause f.header n 0) keeps.counted.highest_is) ∙ (waiting_sound c.highest 0 f [] held.0 clear).cause;
    }

-- what holds of an item that is there
pub of_some : {X : Type 0} (P : X → Type 0) (o : Option X) (x : X) → o ≡ Some x → IfSome o P → P x
of_some P o x is fact = subst (λ (p : Option _). IfSome p P) is fact

pub lawful_read_now : (c : Inside) (s : ℕ) (f : Frame) (o : Outcome) → ConnectionInvariant c → c.stream ≡ Some s → c.splitter.waiting ≡ Some f →
    Obeys (verdict_of c.journal.past f.header) o → IsLawfulRead s c.journal.past f o
lawful_read_now c s f o keeps on is obeys =
    let w = waits c f keeps is in
    record {
      on = sym keeps.stream ∙ on;
      header = w.frame.header;
      whole = w.frame.payload;
      sound = w.sound;
      obeys = obeys;
    }

-- the parts of what is kept, after a reading
stored_after_read : (s : ℕ) (f : Frame) (o : Outcome) (past : List Entry) (store : StoreView) (slots : ℕ) → IsStored past store slots →
    IsStored (Read s f o ∷ past) (acknowledged f.header.ack store) slots
stored_after_read s f o past store slots stored = record {
  holds = holds_after_read s f o past store.messages store.mark stored.holds;
  marked = marked_after (λ (m : Msg). nat_lt f.header.ack m.num) store.mark store.messages;
  slots_are = stored.slots_are;
  few = stored.few;
}

abbrev pub asking_after : Asking → Header → Asking
asking_after a h = record a { is_asked = carries ACK_REQUIRED h.flags && answers_kind (kind_of h) || a.is_asked }

linked_after_read : (s : ℕ) (f : Frame) (o : Outcome) (past : List Entry) (mapped : Bool) (map : List ℕ) (asking : Asking) →
    IsLinked s past mapped map asking → IsLinked s (Read s f o ∷ past) mapped map (asking_after asking f.header)
linked_after_read s f o past mapped map asking linked = record {
  map_is = linked.map_is;
  asked = record {
    count = linked.asked.count;
    bytes = linked.asked.bytes;
    asked = ap (λ b. wants_answer f || b) linked.asked.asked ∙ sym (ap (λ b. b && wants_answer f || is_asked s past) (eq-eqb s s refl));
    must = linked.asked.must;
  };
}

-- what the store and the freed bytes are after a reading
pub record IsAcknowledged (c : Inside) (f : Frame) (store : StoreView) (freed : List ℕ) : Type 0 where
  pub store_is : store ≡ acknowledged f.header.ack c.store
  pub frees : Frees c.store store c.freed freed

record AfterRead (c : Inside) (s : ℕ) (f : Frame) (o : Outcome) (store : StoreView) (freed : List ℕ) : Type 0 where
  stored : IsStored (Read s f o ∷ c.journal.past) store c.slots
  freed_is : IsFreed (Read s f o ∷ c.journal.past) store freed c.slots
  charged : IsCharged store.messages freed c.charges c.slots
  linked : IfSome c.stream (λ y. IsLinked y (Read s f o ∷ c.journal.past) c.mapped c.map (asking_after c.asking f.header))
  counted : IsCounted (Read s f o ∷ c.journal.past) c.accepted c.highest (cond (passes o) (number f) c.last)

after_read : (c : Inside) (s : ℕ) (f : Frame) (o : Outcome) (store : StoreView) (freed : List ℕ) → ConnectionInvariant c → c.stream ≡ Some s →
    IsAcknowledged c f store freed → AfterRead c s f o store freed
after_read c s f o store freed keeps on acked = record {
  stored = subst (λ (h : StoreView). IsStored (Read s f o ∷ c.journal.past) h c.slots) (sym acked.store_is)
      (stored_after_read s f o c.journal.past c.store c.slots keeps.stored);
  freed_is = freed_after c.journal.past (Read s f o ∷ c.journal.past) c.store store c.freed freed c.slots refl acked.frees keeps.freed;
  charged = charged_after c.store store c.freed freed c.charges c.slots keeps.freed.slots_are acked.frees keeps.charged;
  linked =
      subst (λ y. IfSome y (λ n. IsLinked n (Read s f o ∷ c.journal.past) c.mapped c.map (asking_after c.asking f.header))) (sym on)
      (linked_after_read s f o c.journal.past c.mapped c.map c.asking (subst (λ y. IfSome y (λ n. IsLinked n c.journal.past c.mapped c.map c.asking)) on keeps.linked));
  counted = record {
    accepted_is = keeps.counted.accepted_is;
    highest_is = keeps.counted.highest_is;
    last_is = ap (λ n. cond (passes o) (number f) n) keeps.counted.last_is;
  };
}

pub keeps_passed : (c : Inside) (s : ℕ) (f : Frame) (o : Outcome) (store : StoreView) (freed : List ℕ) → ConnectionInvariant c → 1 ≤ c.spare → c.stream ≡ Some s →
    c.splitter.waiting ≡ Some f → Obeys (verdict_of c.journal.past f.header) o → ((port : ℕ) → pong_for o port ≡ None) →
    IsAcknowledged c f store freed →
    ConnectionInvariant (record c {
      journal = record c.journal { past = Read s f o ∷ c.journal.past; spare = c.journal.spare - 1 };
      store = store;
      splitter = record c.splitter { waiting = None };
      freed = freed;
      spare = c.spare - 1;
      asking = asking_after c.asking f.header;
      last = cond (passes o) (number f) c.last;
    })
keeps_passed c s f o store freed keeps some on is obeys no_pong acked =
    let after = after_read c s f o store freed keeps on acked in
    let w = waits c f keeps is in
    record {
      whole = whole_with (Read s f o) c.journal.past keeps.whole (lawful_read_now c s f o keeps on is obeys) (no_pong f.header.sport);
      room = record {
        entries = omega (arith, keeps.room.entries);
        within = omega (arith, some, keeps.room.entries, keeps.room.within);
        most = keeps.room.most;
        messages = (let spare = ap (λ (h : StoreView). h.spare) acked.store_is in omega (arith, spare, keeps.room.messages));
      };
      pong = keeps.pong;
      newest = keeps.newest;
      stream = keeps.stream;
      counted = after.counted;
      linked = after.linked;
      reading = subst (λ (y : Frames). IsReading c.stream c.highest (record y { waiting = None })) (sym w.alone) (reading_nothing c.stream c.highest);
      stored = after.stored;
      freed = after.freed_is;
      charged = after.charged;
    }

pub frees_passed : (c : Inside) (s : ℕ) (f : Frame) (o : Outcome) (store : StoreView) (freed : List ℕ) (y : ℕ) → ConnectionInvariant c → y < c.slots →
    IsAcknowledged c f store freed →
    get_or freed y 0 + released_bytes y c.journal.past ≡ get_or c.freed y 0 + released_bytes y (Read s f o ∷ c.journal.past)
frees_passed c s f o store freed y keeps within acked =
    frees_gone c.journal.past (Read s f o ∷ c.journal.past) c.store store c.freed freed y keeps.stored.holds.alive
    (ap (λ (h : StoreView). h.messages) acked.store_is ∙ ap (filter (λ (m : Msg). nat_lt f.header.ack m.num)) keeps.stored.holds.alive
    ∙ sym (messages_after_read s f o c.journal.past))
    (gone_after_read s y f o c.journal.past) (let slots = keeps.freed.slots_are in omega (arith, slots, within)) acked.frees

pub passed_fits : (c : Inside) → ConnectionInvariant c → sum c.freed + bytes_of c.store.messages < 2 ^ 64
passed_fits c keeps =
    freed_fits c.journal.past c.store c.freed c.slots (let within = keeps.room.within in let most = keeps.room.most in omega (arith, within, most)) keeps.freed

-- a ping and its pong
record Answers (c : Inside) (s : ℕ) (f : Frame) (store : StoreView) (freed : List ℕ) : Type 0 where
  legal : IsLegal (Read s f outcome.Ping ∷ c.journal.past)
  after : AfterRead c s f outcome.Ping store freed

answers : (c : Inside) (s : ℕ) (f : Frame) (store : StoreView) (freed : List ℕ) → ConnectionInvariant c → c.stream ≡ Some s →
    c.splitter.waiting ≡ Some f → verdict_of c.journal.past f.header ≡ verdict.Ping → IsAcknowledged c f store freed →
    Answers c s f store freed
answers c s f store freed keeps on is ping acked = record {
  legal = (
    settled_continues c.journal.past (Read s f outcome.Ping) keeps.whole.settled
        (lawful_read_now c s f outcome.Ping keeps on is (subst (λ v. Obeys v outcome.Ping) (sym ping) refl)),
    keeps.whole.legal,
  );
  after = after_read c s f outcome.Ping store freed keeps on acked;
}

-- the store with the message of a pong
abbrev pub with_pong : ℕ → ℕ → ℕ → StoreView → StoreView
with_pong number place port store = record store {
  messages = store.messages ++ record { num = number; place = place; slot = NO_SLOT; dport = port; len = 0 } ∷ [];
  spare = store.spare - 1;
}

pub keeps_answered : (c : Inside) (s : ℕ) (f : Frame) (store : StoreView) (freed : List ℕ) → ConnectionInvariant c → 2 ≤ c.spare → 1 ≤ c.store_spare → c.stream ≡ Some s →
    c.splitter.waiting ≡ Some f → verdict_of c.journal.past f.header ≡ verdict.Ping → IsAcknowledged c f store freed →
    ConnectionInvariant (record c {
      journal = record c.journal {
        past = Accept NO_SLOT 0 f.header.sport [] ∷ Read s f outcome.Ping ∷ c.journal.past;
        spare = c.journal.spare - 1 - 1;
      };
      store = with_pong (c.accepted + 1) (suc (length c.journal.past)) f.header.sport store;
      splitter = record c.splitter { waiting = None };
      freed = freed;
      spare = c.spare - 1 - 1;
      store_spare = c.store_spare - 1;
      pong = None;
      asking = asking_after c.asking f.header;
      accepted = c.accepted + 1;
      last = f.header.sequence;
    })
keeps_answered c s f store freed keeps some store_some on is ping acked =
    let past : List Entry = Read s f outcome.Ping ∷ c.journal.past in
    let port : ℕ = f.header.sport in
    let e : Entry = Accept NO_SLOT 0 port [] in
    let so_far = answers c s f store freed keeps on is ping acked in
    let w = waits c f keeps is in
    let number : c.accepted + 1 ≡ suc (accepted past) = omega (arith, keeps.counted.accepted_is) in
    let few : accepted c.journal.past ≤ length c.journal.past = accepted_within c.journal.past in
    let short : length c.journal.past < 4294967294 = omega (arith, some, keeps.room.entries, keeps.room.within, keeps.room.most) in
    record {
      whole = record {
        legal = (record { is = refl; number_fits = omega (arith, few, short) }, so_far.legal);
        settled = refl;
      };
      room = record {
        entries = omega (arith, keeps.room.entries);
        within = omega (arith, some, keeps.room.entries, keeps.room.within);
        most = keeps.room.most;
        messages = (let spare = ap (λ (h : StoreView). h.spare) acked.store_is in omega (arith, spare, keeps.room.messages));
      };
      pong = tt;
      newest = keeps.newest;
      stream = keeps.stream;
      counted = record { accepted_is = number; highest_is = keeps.counted.highest_is; last_is = refl };
      linked = linked_after c.stream so_far.after.linked;
      reading = subst (λ (y : Frames). IsReading c.stream c.highest (record y { waiting = None })) (sym w.alone) (reading_nothing c.stream c.highest);
      stored = subst (λ n. IsStored (e ∷ past) (with_pong n (length past) port store) c.slots) (sym number)
          (stored_after_accept NO_SLOT 0 port [] past store c.slots so_far.legal so_far.after.stored);
      freed = subst (λ n. IsFreed (e ∷ past) (with_pong n (length past) port store) freed c.slots) (sym number)
          (freed_after_accept NO_SLOT 0 port [] past store freed c.slots (omega arith) so_far.after.freed_is);
      charged = charged_after_pong (record { num = c.accepted + 1; place = length past; slot = NO_SLOT; dport = port; len = 0 })
          store.messages freed c.charges c.slots refl so_far.after.charged;
    }
  where
    linked_after : (o : Option ℕ) → IfSome o (λ y. IsLinked y (Read s f outcome.Ping ∷ c.journal.past) c.mapped c.map (asking_after c.asking f.header)) →
        IfSome o (λ y. IsLinked y (Accept NO_SLOT 0 f.header.sport [] ∷ Read s f outcome.Ping ∷ c.journal.past) c.mapped c.map (asking_after c.asking f.header))
    linked_after None linked = tt
    linked_after (Some y) linked = record {
      map_is = linked.map_is;
      asked = record { count = linked.asked.count; bytes = linked.asked.bytes; asked = linked.asked.asked; must = linked.asked.must };
    }

pub frees_answered : (c : Inside) (s : ℕ) (f : Frame) (store : StoreView) (freed : List ℕ) (y : ℕ) → ConnectionInvariant c → y < c.slots → c.stream ≡ Some s →
    c.splitter.waiting ≡ Some f → verdict_of c.journal.past f.header ≡ verdict.Ping → IsAcknowledged c f store freed →
    get_or freed y 0 + released_bytes y c.journal.past ≡ get_or c.freed y 0 + released_bytes y (Accept NO_SLOT 0 f.header.sport [] ∷ Read s f outcome.Ping ∷ c.journal.past)
frees_answered c s f store freed y keeps within on is ping acked =
    frees_passed c s f outcome.Ping store freed y keeps within acked
    ∙ ap (λ n. get_or c.freed y 0 + n)
    (sym (gone_after_accept y NO_SLOT 0 f.header.sport [] (Read s f outcome.Ping ∷ c.journal.past) (answers c s f store freed keeps on is ping acked).legal))

-- what the store needs for the pong
pub answer_next : (c : Inside) (s : ℕ) (f : Frame) (store : StoreView) (freed : List ℕ) → ConnectionInvariant c → 2 ≤ c.spare → c.stream ≡ Some s →
    c.splitter.waiting ≡ Some f → verdict_of c.journal.past f.header ≡ verdict.Ping → IsAcknowledged c f store freed →
    IsNext (Read s f outcome.Ping ∷ c.journal.past) store c.slots NO_SLOT
answer_next c s f store freed keeps some on is ping acked =
    next_message (Read s f outcome.Ping ∷ c.journal.past) store c.slots NO_SLOT (answers c s f store freed keeps on is ping acked).after.stored
    (omega (arith, some, keeps.room.entries, keeps.room.within, keeps.room.most)) (inr refl)
