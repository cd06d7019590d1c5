-- What a connection keeps where a frame is pulled.
use Rattle.std.proofs.Common.{◌≡◌, ℕ, suc, ◌+◌, ◌-◌, ◌<◌, ◌≤◌, ◌^◌, ◌||◌, ◌==◌, max, Bool, true, false, cond, Option, Some, None, IfSome, IsSome, is_some, List, [], ◌∷◌, length, map, drop, refl, sym, ◌∙◌, ap, subst, arith, rules, length-drop, nat_le, nat_lt}
use Rattle.std.specs.Prelude.{IsTrue, ◌↔◌}
use Rattle.rds_model.specs.declared.owed.TheConstants.{MAX_UNASKED, MAX_UNASKED_BYTES}
use Rattle.rds_model.specs.Streams.{was_pulled}
use Rattle.std.proofs.lemmas.Bool.{cond-true, cond-false, false≢true, eq-eqb, ne_eqb}
use Rattle.rds_wire.specs.declared.frame.Frame.{Frame}
use Rattle.rds_wire.specs.declared.header.TheConstants.{ACK_REQUIRED, RETRANSMITTED}
use Rattle.rds_wire.specs.declared.kind.TheConstants.{MAP_LENGTH}
use Rattle.rds_wire.specs.Bytes.{IsBytes}
use Rattle.rds_wire.specs.Kinds.{is_data}
use Rattle.rds_model.specs.declared.entry.Entry.{Entry}
use Rattle.rds_model.specs.declared.entry.Entry.TheVariants.{Pull}
use Rattle.rds_model.specs.declared.entry.Msg.{Msg}
use Rattle.rds_model.specs.Past.{now, before, Accepted, datagram, open_stream, highest_pulled, number, is_datagram}
use Rattle.rds_model.specs.Alive.{due_numbers}
use Rattle.rds_model.specs.Owed.{asks, is_map, is_map_kind, last_map, is_last_map, is_asked, must_ask, asks_with, map_frame, ack_frame, data_frame, data_flags, header_of, flag_if, owed_frame}
use Rattle.rds_model.specs.Legal.{IsLawfulPull}
use Rattle.rds_model.specs.Store.{HoldsMessages, due_on, message}
use Rattle.std.proofs.lemmas.List.{length-map}
use Rattle.rds_model.specs.NumberLaws.{highest_grows, number_of_known}
use Rattle.rds_model.specs.FrameLaws.{kind_of_map_frame, map_asks_not, kind_of_ack_frame, ack_asks, kind_of_data_frame, data_asks, number_of_data}
use Rattle.rds_model.specs.OwingLaws.{owed_is_lawful}
use Rattle.rds_conn.specs.declared.asking.Asking.{Asking}
use Rattle.rds_conn.specs.declared.conn.Conn.TheInside.{Inside}
use Rattle.rds_conn.specs.Asking.{IsAsking}
use Rattle.rds_conn.specs.Choosing.{IsFirstDue}
use Rattle.rds_conn.specs.Invariant.{ConnectionInvariant, IsLinked}
use Rattle.rds_conn.proofs.MessagesHeld.{holds_after_data, holds_after_other}
use Rattle.rds_conn.proofs.KeepsStreams.{whole_with}
use Rattle.rds_conn.proofs.Places.{frame_of}
use Rattle.rds_conn.proofs.Owing.{last_of_pulled, owed_map, owed_data, owed_last, owed_ack, asks_is}
use Rattle.rds_conn.proofs.Reading.{clear_higher}
use Rattle.rds_conn.proofs.Unasked.{nothing_asked, asking_after_asking, asking_after_other, asking_after_data, map_pull, len_of_data, unasked_few, unasked_bytes}

-- a lawful frame is pulled
pub keeps_pulled : (c : Inside) (s : ℕ) (f : Frame) (mark top : ℕ) (mapped : Bool) (map : List ℕ) (asking : Asking) → ConnectionInvariant c → 1 ≤ c.spare →
    c.stream ≡ Some s → IsLawfulPull s c.journal.past f → HoldsMessages c.store.messages mark (Pull s f ∷ c.journal.past) → mark ≤ length c.store.messages →
    top ≡ highest_pulled (Pull s f ∷ c.journal.past) → IsLinked s (Pull s f ∷ c.journal.past) mapped map asking →
    ConnectionInvariant (record c {
      journal = record c.journal { past = Pull s f ∷ c.journal.past; spare = c.journal.spare - 1 };
      store = record c.store { mark = mark };
      spare = c.spare - 1;
      mapped = mapped;
      map = map;
      asking = asking;
      highest = top;
    })
keeps_pulled c s f mark top mapped map asking keeps some on lawful holds marked top_is linked = record {
  whole = whole_with (Pull s f) c.journal.past keeps.whole lawful refl;
  room = record {
    entries = omega (arith, keeps.room.entries);
    within = omega (arith, some, keeps.room.entries, keeps.room.within);
    most = keeps.room.most;
    messages = keeps.room.messages;
  };
  pong = keeps.pong;
  newest = keeps.newest;
  stream = keeps.stream;
  counted = record { accepted_is = keeps.counted.accepted_is; highest_is = top_is; last_is = keeps.counted.last_is };
  linked = subst (λ o. IfSome o (λ y. IsLinked y (Pull s f ∷ c.journal.past) mapped map asking)) (sym on) linked;
  reading = record {
    held = keeps.reading.held;
    clear = clear_higher c.highest top 0 _ (let grows = highest_grows (before {e = Pull s f} {j = c.journal.past} now) in omega (arith, grows, top_is, keeps.counted.highest_is)) keeps.reading.clear;
    still_open = keeps.reading.still_open;
    idle = keeps.reading.idle;
  };
  stored = record { holds = holds; marked = marked; slots_are = keeps.stored.slots_are; few = keeps.stored.few };
  freed = record { slots_are = keeps.freed.slots_are; bounded = keeps.freed.bounded };
  charged = keeps.charged;
}

-- the fields tell of the open stream
linked_of : (c : Inside) (s : ℕ) → ConnectionInvariant c → c.stream ≡ Some s → IsLinked s c.journal.past c.mapped c.map c.asking
linked_of c s keeps on = subst (λ o. IfSome o (λ y. IsLinked y c.journal.past c.mapped c.map c.asking)) on keeps.linked

pub asking_of : (c : Inside) (s : ℕ) → ConnectionInvariant c → c.stream ≡ Some s → IsAsking s c.journal.past c.asking
asking_of c s keeps on = (linked_of c s keeps on).asked

on_of : (c : Inside) (s : ℕ) → ConnectionInvariant c → c.stream ≡ Some s → open_stream c.journal.past ≡ Some s
on_of c s keeps on = sym keeps.stream ∙ on

highest_other : (s : ℕ) (f : Frame) (past : List Entry) → is_datagram f ≡ false → highest_pulled (Pull s f ∷ past) ≡ highest_pulled past
highest_other s f past not_data = cond-false (is_datagram f) (max (number f) (highest_pulled past)) (highest_pulled past) not_data

-- a map is pulled
pub keeps_map : (c : Inside) (s : ℕ) (map : List ℕ) → ConnectionInvariant c → 1 ≤ c.spare → c.stream ≡ Some s → length map ≡ MAP_LENGTH → IsBytes map →
    is_last_map (last_map s c.journal.past) map ≡ false →
    ConnectionInvariant (record c {
      journal = record c.journal { past = Pull s (map_frame c.journal.past map) ∷ c.journal.past; spare = c.journal.spare - 1 };
      spare = c.spare - 1;
      mapped = true;
      map = map;
      asking = record c.asking { is_asked = false };
    })
keeps_map c s map keeps some on long bytes new =
    let past : List Entry = c.journal.past in
    let f : Frame = map_frame past map in
    let no_data : is_datagram f ≡ false = ap is_data (kind_of_map_frame past map) in
    let linked = linked_of c s keeps on in
    keeps_pulled c s f c.store.mark c.highest true map (record c.asking { is_asked = false }) keeps some on
    (owed_is_lawful s past map f keeps.whole.legal (on_of c s keeps on) long bytes (owed_map s past map new))
    (holds_after_other s f past c.store.messages c.store.mark (on_of c s keeps on) no_data keeps.stored.holds) keeps.stored.marked
    (keeps.counted.highest_is ∙ sym (highest_other s f past no_data))
    (record {
      map_is = map_pull s f past ∙ cond-true (is_map f) (Some f.payload) (last_map s past) (ap is_map_kind (kind_of_map_frame past map));
      asked = asking_after_other s f past c.asking (map_asks_not past map) no_data linked.asked;
    })

-- behind a map, the one that the fields tell of is the last
map_behind : (c : Inside) (s : ℕ) → ConnectionInvariant c → c.stream ≡ Some s → IsSome (last_map s c.journal.past) → last_map s c.journal.past ≡ Some c.map
map_behind c s keeps on behind = go c.mapped (linked_of c s keeps on).map_is
  where
    go : (b : Bool) → last_map s c.journal.past ≡ cond b (Some c.map) None → last_map s c.journal.past ≡ Some c.map
    go true is = is
    go false is = absurd (false≢true (subst (λ (o : Option (List ℕ)). IsSome o) is behind))

map_stays : (c : Inside) (s : ℕ) (f : Frame) → ConnectionInvariant c → c.stream ≡ Some s → is_map f ≡ false →
    last_map s (Pull s f ∷ c.journal.past) ≡ cond c.mapped (Some c.map) None
map_stays c s f keeps on no_map =
    map_pull s f c.journal.past ∙ cond-false (is_map f) (Some f.payload) (last_map s c.journal.past) no_map ∙ (linked_of c s keeps on).map_is

-- an acknowledgement is pulled
pub keeps_ack : (c : Inside) (s : ℕ) → ConnectionInvariant c → 1 ≤ c.spare → c.stream ≡ Some s → length c.map ≡ MAP_LENGTH → IsBytes c.map →
    IsSome (last_map s c.journal.past) → due_numbers s c.journal.past ≡ [] → (c.asking.is_asked || c.asking.must_ask) ≡ true →
    ConnectionInvariant (record c {
      journal = record c.journal { past = Pull s (ack_frame c.journal.past c.asking.must_ask) ∷ c.journal.past; spare = c.journal.spare - 1 };
      spare = c.spare - 1;
      asking = cond c.asking.must_ask nothing_asked (record c.asking { is_asked = false });
    })
keeps_ack c s keeps some on long bytes behind none asked =
    let past : List Entry = c.journal.past in
    let is = asking_of c s keeps on in
    let f : Frame = ack_frame past c.asking.must_ask in
    let f_is : f ≡ ack_frame past (must_ask s past) = ap (ack_frame past) is.must in
    let asked_there : (is_asked s past || must_ask s past) ≡ true =
    sym (ap (λ b. b || c.asking.must_ask) is.asked ∙ ap (λ b. is_asked s past || b) is.must) ∙ asked in
    let owed_is : owed_frame s past c.map ≡ Some f =
    owed_last s past c.map (last_of_pulled (last_map s past) c.map (map_behind c s keeps on behind)) none ∙ owed_ack s past asked_there
    ∙ ap (λ (g : Frame). Some g) (sym f_is) in
    let kind_is = kind_of_ack_frame past c.asking.must_ask in
    let no_data : is_datagram f ≡ false = ap is_data kind_is in
    keeps_pulled c s f c.store.mark c.highest c.mapped c.map (cond c.asking.must_ask nothing_asked (record c.asking { is_asked = false })) keeps some on
    (owed_is_lawful s past c.map f keeps.whole.legal (on_of c s keeps on) long bytes owed_is)
    (holds_after_other s f past c.store.messages c.store.mark (on_of c s keeps on) no_data keeps.stored.holds) keeps.stored.marked
    (keeps.counted.highest_is ∙ sym (highest_other s f past no_data))
    (record {
      map_is = map_stays c s f keeps on (ap is_map_kind kind_is);
      asked = go c.asking.must_ask (ack_asks past c.asking.must_ask) no_data is;
    })
  where
    go : (b : Bool) → asks (ack_frame c.journal.past c.asking.must_ask) ≡ b → is_datagram (ack_frame c.journal.past c.asking.must_ask) ≡ false →
        IsAsking s c.journal.past c.asking →
        IsAsking s (Pull s (ack_frame c.journal.past c.asking.must_ask) ∷ c.journal.past) (cond b nothing_asked (record c.asking { is_asked = false }))
    go true asking no_data is = asking_after_asking s (ack_frame c.journal.past c.asking.must_ask) c.journal.past asking
    go false asking no_data is = asking_after_other s (ack_frame c.journal.past c.asking.must_ask) c.journal.past c.asking asking no_data is

-- the messages behind the mark are those of the numbers that are due
pub record IsBehind (c : Inside) (n : ℕ) (rest : List ℕ) : Type 0 where
  pub m : Msg
  pub others : List Msg
  pub drop_is : drop c.store.mark c.store.messages ≡ m ∷ others
  pub num : n ≡ m.num
  pub rest_is : rest ≡ map (λ (x : Msg). x.num) others

pub behind_of : (c : Inside) (s n : ℕ) (rest : List ℕ) → ConnectionInvariant c → c.stream ≡ Some s → due_numbers s c.journal.past ≡ n ∷ rest → IsBehind c n rest
behind_of c s n rest keeps on first =
    go (drop c.store.mark c.store.messages) refl
    (sym (keeps.stored.holds.unpulled ∙ ap (λ o. due_on o c.journal.past) (on_of c s keeps on) ∙ first))
  where
    go : (ms : List Msg) → drop c.store.mark c.store.messages ≡ ms → n ∷ rest ≡ map (λ (x : Msg). x.num) (drop c.store.mark c.store.messages) → IsBehind c n rest
    go [] is nums = absurd (let never : n ∷ rest ≡ [] = nums ∙ ap (map (λ (x : Msg). x.num)) is in cc)
    go (m ∷ others) is nums =
        let all : n ∷ rest ≡ m.num ∷ map (λ (x : Msg). x.num) others = nums ∙ ap (map (λ (x : Msg). x.num)) is in
        record { m = m; others = others; drop_is = is; num = cc; rest_is = cc }

-- how many messages are behind the mark
pub mark_before : (c : Inside) (n : ℕ) (rest : List ℕ) → IsBehind c n rest → length c.store.messages ≡ c.store.mark + suc (length rest)
mark_before c n rest behind =
    let many = length-drop c.store.mark c.store.messages in
    let is = ap length behind.drop_is in
    let others = ap length behind.rest_is ∙ length-map behind.others (λ (x : Msg). x.num) in
    omega (arith, many, is, others)

-- a datagram is pulled
pub keeps_data : (c : Inside) (s : ℕ) (m : Msg) (d : Accepted) → ConnectionInvariant c → 1 ≤ c.spare → c.stream ≡ Some s → length c.map ≡ MAP_LENGTH → IsBytes c.map →
    IsSome (last_map s c.journal.past) → (first : IsFirstDue s c.journal.past m) → datagram c.journal.past m.num ≡ Some d →
    ConnectionInvariant (record c {
      journal = record c.journal { past = Pull s (data_frame s c.journal.past m.num d) ∷ c.journal.past; spare = c.journal.spare - 1 };
      store = record c.store { mark = c.store.mark + 1 };
      spare = c.spare - 1;
      asking = cond (asks_with s c.journal.past m.num d) nothing_asked
          (record { unasked = c.asking.unasked + 1; bytes = c.asking.bytes + m.len; is_asked = false; must_ask = true });
      highest = max c.highest m.num;
    })
keeps_data c s m d keeps some on long bytes behind first known =
    let past : List Entry = c.journal.past in
    let f : Frame = data_frame s past m.num d in
    let above = (number_of_known past m.num (ap is_some known)).0 in
    let kind_is = kind_of_data_frame s past m.num d above in
    let data_is : is_datagram f ≡ true = ap is_data kind_is in
    let number_is : number f ≡ m.num = number_of_data s past m.num d in
    let back = behind_of c s m.num first.rest keeps on first.first in
    let fits = mark_before c m.num first.rest back in
    let top = cond-true (is_datagram f) (max (number f) (highest_pulled past)) (highest_pulled past) data_is in
    keeps_pulled c s f (c.store.mark + 1) (max c.highest m.num) c.mapped c.map
    (cond (asks_with s past m.num d) nothing_asked (record { unasked = c.asking.unasked + 1; bytes = c.asking.bytes + m.len; is_asked = false; must_ask = true }))
    keeps some on
    (owed_is_lawful s past c.map f keeps.whole.legal (on_of c s keeps on) long bytes
    (owed_data s past c.map m.num first.rest d (last_of_pulled (last_map s past) c.map (map_behind c s keeps on behind)) first.first known))
    (holds_after_data s f past c.store.messages c.store.mark back.m back.others (on_of c s keeps on) data_is (number_is ∙ back.num) back.drop_is keeps.stored.holds)
    (omega (arith, fits))
    (omega (arith, top, number_is, keeps.counted.highest_is))
    (record {
      map_is = map_stays c s f keeps on (ap is_map_kind kind_is);
      asked = go (asks_with s past m.num d) (data_asks s past m.num d) data_is (len_of m d first known);
    })
  where
    len_of : (m : Msg) (d : Accepted) (first : IsFirstDue s c.journal.past m) → datagram c.journal.past m.num ≡ Some d → m.len ≡ length d.payload
    len_of m d first known =
        let both : Some first.tells.d ≡ Some d = sym first.tells.known ∙ known in
        let one : first.tells.d ≡ d = cc in
        ap (λ (x : Msg). x.len) (subst (λ (x : Accepted). m ≡ message m.num x) one first.tells.is)

    go : (b : Bool) → asks (data_frame s c.journal.past m.num d) ≡ b → is_datagram (data_frame s c.journal.past m.num d) ≡ true → m.len ≡ length d.payload →
        IsAsking s (Pull s (data_frame s c.journal.past m.num d) ∷ c.journal.past)
        (cond b nothing_asked (record { unasked = c.asking.unasked + 1; bytes = c.asking.bytes + m.len; is_asked = false; must_ask = true }))
    go true asking data_is len = asking_after_asking s (data_frame s c.journal.past m.num d) c.journal.past asking
    go false asking data_is len =
        subst (λ n. IsAsking s (Pull s (data_frame s c.journal.past m.num d) ∷ c.journal.past)
        (record { unasked = c.asking.unasked + 1; bytes = c.asking.bytes + n; is_asked = false; must_ask = true }))
        (len_of_data s c.journal.past m.num d ∙ sym len)
        (asking_after_data s (data_frame s c.journal.past m.num d) c.journal.past c.asking asking data_is (asking_of c s keeps on))

-- the counts of what wasn't asked fit
pub record Counts (c : Inside) : Type 0 where
  pub count : c.asking.unasked < 2 ^ 63
  pub bytes : c.asking.bytes < 2 ^ 63

pub counts_fit : (c : Inside) (s : ℕ) → ConnectionInvariant c → c.stream ≡ Some s → Counts c
counts_fit c s keeps on =
    let is = asking_of c s keeps on in
    let short : length c.journal.past < 4294967296 = (let within = keeps.room.within in let most = keeps.room.most in omega (arith, within, most)) in
    record {
      count = omega (arith, is.count, unasked_few s c.journal.past, short);
      bytes = omega (arith, is.bytes, unasked_bytes s c.journal.past keeps.whole.legal, short);
    }

-- one message is behind the mark exactly where no other number is due
pub last_is : (c : Inside) (n : ℕ) (rest : List ℕ) (b : Bool) → IsBehind c n rest → (IsTrue b ↔ (c.store.mark + 1 ≡ length c.store.messages)) →
    b ≡ (length rest == 0)
last_is c n rest true behind test =
    let fits = mark_before c n rest behind in
    let one = test.0 (search rules) in
    sym (eq-eqb (length rest) 0 (omega (arith, fits, one)))
last_is c n rest false behind test =
    let fits = mark_before c n rest behind in
    sym (ne_eqb (length rest) 0 (λ none. false≢true (let one : c.store.mark + 1 ≡ length c.store.messages = omega (arith, fits, none) in test.1 one)))

-- the rules by which a datagram asks, of a connection
pub asks_here : (c : Inside) (s : ℕ) (m : Msg) (d : Accepted) (last : Bool) → ConnectionInvariant c → c.stream ≡ Some s → (first : IsFirstDue s c.journal.past m) →
    datagram c.journal.past m.num ≡ Some d → (IsTrue last ↔ (c.store.mark + 1 ≡ length c.store.messages)) →
    (was_pulled c.journal.past m.num || ((nat_le MAX_UNASKED c.asking.unasked || nat_lt MAX_UNASKED_BYTES (c.asking.bytes + m.len)) || last))
    ≡ asks_with s c.journal.past m.num d
asks_here c s m d last keeps on first known test =
    ap (λ b. was_pulled c.journal.past m.num || ((nat_le MAX_UNASKED c.asking.unasked || nat_lt MAX_UNASKED_BYTES (c.asking.bytes + m.len)) || b))
    (last_is c m.num first.rest last (behind_of c s m.num first.rest keeps on first.first) test)
    ∙ asks_is s c.journal.past m c.asking d first known (asking_of c s keeps on)

-- the frame of a datagram, with the flags that the rules give
pub framed_data : (s : ℕ) (past : List Entry) (n : ℕ) (d : Accepted) (f : Frame) (again asks_too : Bool) (flags : ℕ) →
    f ≡ record { header = header_of past n (length d.payload) d.sport d.dport flags; payload = d.payload } →
    flags ≡ flag_if again RETRANSMITTED + flag_if asks_too ACK_REQUIRED → again ≡ was_pulled past n → asks_too ≡ asks_with s past n d →
    f ≡ data_frame s past n d
framed_data s past n d f again asks_too flags f_is flags_are again_is asks_are =
    let all : flags ≡ data_flags s past n d =
    flags_are ∙ ap (λ b. flag_if b RETRANSMITTED + flag_if asks_too ACK_REQUIRED) again_is
    ∙ ap (λ b. flag_if (was_pulled past n) RETRANSMITTED + flag_if b ACK_REQUIRED) asks_are in
    f_is ∙ ap (λ x. frame_of (header_of past n (length d.payload) d.sport d.dport x) d.payload) all
