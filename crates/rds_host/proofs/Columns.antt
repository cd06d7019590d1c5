-- How the columns of a host, its slots and its lines are made one after another.
use Rattle.std.proofs.Common.{◌≡◌, ℕ, zero, suc, ◌+◌, ◌-◌, ◌<◌, ◌≤◌, List, [], ◌∷◌, ◌++◌, All, Some, length, map, reverse, take, drop, get_or, set, slice_get, replicate, refl, sym, ap, subst, ⊎_elim, ◌∙◌, arith}
use Rattle.std.proofs.lemmas.List.{length-map, length_push, map_push, get_or-reverse, length-reverse, same_from_push}
use Rattle.std.proofs.lemmas.Grind.{reverse_onto}
use Rattle.std.proofs.lemmas.List.Elements.{All-cons, All-nil, All-replicate}
use Rattle.std.proofs.lemmas.Option.{same_Some, slice_get_within, slice_get-get_or}
use Rattle.rds_model.specs.declared.order.Datagram.{Datagram}
use Rattle.rds_model.specs.declared.order.Order.{Order}
use Rattle.rds_mail.specs.Passes.{Putter, QueueId, new_from, split_from}
use Rattle.rds_fmap.specs.Readers.{ReaderView, WriterView}
use Rattle.rds_socket_parts.specs.Lanes.{Lane}
use Rattle.rds_socket.specs.Holding.{Holding}
use Rattle.rds_host.specs.Slots.{AreInPlace}
use Rattle.rds_host.specs.Ties.{Way, ColumnView, IsColumnFilled, AreColumnsFilled, IsNextOf, AreNextOf, new_putter, putters_from, popped, with_box, with_boxes, ways_of, peers_to, lane_way}
use Rattle.rds_host.proofs.Pushing.{pushed_at, mapped_at, all_at, there_is, popped_list, after_splits, split_is}

-- the putters of one slot more
pub putters_push : (mail : QueueId) (count slot left : ℕ) → putters_from mail count slot (suc left) ≡ putters_from mail count slot left ++ new_putter mail count (slot + left) ∷ []
putters_push mail count slot zero = ap (λ (k : ℕ). new_putter mail count k ∷ []) (omega arith)
putters_push mail count slot (suc left) =
    ap (λ (l : List (Putter Order)). new_putter mail count slot ∷ l)
    (putters_push mail count (suc slot) left ∙ ap (λ (k : ℕ). putters_from mail count (suc slot) left ++ new_putter mail count k ∷ []) (omega arith))

-- the putters of all slots, the first of which is pushed behind the others
pub all_putters : (mail : QueueId) (slots : ℕ) (later : List (Putter Order)) (first : Putter Order) → 1 ≤ slots
    → later ≡ putters_from mail slots 1 (slots - 1) → first ≡ new_putter mail slots 0 → reverse later ++ first ∷ [] ≡ reverse (putters_from mail slots 0 slots)
all_putters mail slots later first some are is =
    let count : suc (slots - 1) ≡ slots = omega (arith, some) in
    ap (λ (l : List (Putter Order)). reverse l ++ first ∷ []) are
    ∙ (ap (λ (p : Putter Order). reverse (putters_from mail slots 1 (slots - 1)) ++ p ∷ []) is
    ∙ (sym (reverse_onto (putters_from mail slots 1 (slots - 1)) (new_putter mail slots 0) [])
    ∙ ap (λ (n : ℕ). reverse (putters_from mail slots 0 n)) count))

-- one slot more has its putter
pub later_more : (mail : QueueId) (slots counter : ℕ) (put after own : Putter Order) (old new : List (Putter Order)) → 1 ≤ counter → put ≡ after_splits mail (counter - 1) → old ≡ putters_from mail slots 1 (counter - 1)
    → after ≡ split_from put → own ≡ new_from put → new ≡ old ++ own ∷ [] → (after ≡ after_splits mail (counter + 1 - 1)) × (new ≡ putters_from mail slots 1 (counter + 1 - 1))
later_more mail slots counter put after own old new low is are left split pushed =
    let k = counter - 1 in
    let place : suc k ≡ 1 + k = omega (arith, low) in
    let next : k + 1 ≡ counter + 1 - 1 = omega (arith, low) in
    let one : suc k ≡ counter + 1 - 1 = omega (arith, low) in (
      left ∙ (ap split_from is ∙ ap (after_splits mail) next),
      pushed
          ∙ (ap (λ (l : List (Putter Order)). l ++ own ∷ []) are
          ∙ (ap (λ (p : Putter Order). putters_from mail slots 1 k ++ p ∷ []) (split ∙ (split_is mail slots k put is ∙ ap (new_putter mail slots) place))
          ∙ (sym (putters_push mail slots 1 k) ∙ ap (putters_from mail slots 1) one))),
    )

-- of the putters that are left, that of the next slot stands last
left_are : (mail : QueueId) (slots slot : ℕ) → slot < slots
    → reverse (putters_from mail slots slot (slots - slot)) ≡ reverse (putters_from mail slots (suc slot) (slots - suc slot)) ++ new_putter mail slots slot ∷ []
left_are mail slots slot small =
    let more : slots - slot ≡ suc (slots - suc slot) = omega (arith, small) in
    ap (λ (n : ℕ). reverse (putters_from mail slots slot n)) more
    ∙ reverse_onto (putters_from mail slots (suc slot) (slots - suc slot)) (new_putter mail slots slot) []

all_reversed : {X : Type 0} (P : X → Type 0) (xs : List X) → All P xs → All P (reverse xs)
all_reversed P xs all k d small =
    let count = length-reverse xs in
    let within : k < length xs = omega (arith, count, small) in
    subst P (sym (get_or-reverse xs k d within)) (all (length xs - 1 - k) d (omega (arith, within)))

-- putters of one queue, which have put nothing
are_new : (mail : QueueId) (count slot left : ℕ) → All (λ p. (p.mail ≡ mail) × (p.put ≡ [])) (putters_from mail count slot left)
are_new mail count slot zero = All-nil (λ (p : Putter Order). (p.mail ≡ mail) × (p.put ≡ []))
are_new mail count slot (suc left) =
    All-cons (λ (p : Putter Order). (p.mail ≡ mail) × (p.put ≡ [])) (new_putter mail count slot) (putters_from mail count (suc slot) left) (refl, refl) (are_new mail count (suc slot) left)

pub new_all : (mail : QueueId) (slots : ℕ) (passes : List (Putter Order)) → passes ≡ reverse (putters_from mail slots 0 slots) → All (λ p. (p.mail ≡ mail) × (p.put ≡ [])) passes
new_all mail slots passes are =
    subst (All (λ (p : Putter Order). (p.mail ≡ mail) × (p.put ≡ []))) (sym are)
    (all_reversed (λ (p : Putter Order). (p.mail ≡ mail) × (p.put ≡ [])) (putters_from mail slots 0 slots) (are_new mail slots 0 slots))

-- a loop that gives each column a putter at a mailbox
boxes_set : (mail : QueueId) (count place : ℕ) (old : List ColumnView) (i : ℕ) (d : ColumnView) → i < length old
    → set (with_boxes mail count place (take i old) ++ drop i old) i (with_box (new_putter mail count (place + i)) (get_or (with_boxes mail count place (take i old) ++ drop i old) i d))
    ≡ with_boxes mail count place (take (suc i) old) ++ drop (suc i) old
boxes_set mail count place [] i d small = absurd (omega arith)
boxes_set mail count place (c ∷ old) zero d small = ap (λ (k : ℕ). with_box (new_putter mail count k) c ∷ old) (omega arith)
boxes_set mail count place (c ∷ old) (suc i) d small =
    ap (λ (l : List ColumnView). with_box (new_putter mail count place) c ∷ l)
    (ap (λ (k : ℕ). set (with_boxes mail count (suc place) (take i old) ++ drop i old) i (with_box (new_putter mail count k) (get_or (with_boxes mail count (suc place) (take i old) ++ drop i old) i d))) (omega arith)
    ∙ boxes_set mail count (suc place) old i d (omega arith))

pub with_boxes_more : (mail : QueueId) (count place : ℕ) (old new : List ColumnView) (i : ℕ) (d : ColumnView) → i < length old
    → new ≡ with_boxes mail count place (take i old) ++ drop i old
    → set new i (with_box (new_putter mail count (place + i)) (get_or new i d)) ≡ with_boxes mail count place (take (i + 1) old) ++ drop (i + 1) old
with_boxes_more mail count place old new i d small is =
    let next : suc i ≡ i + 1 = omega arith in
    ap (λ (l : List ColumnView). set l i (with_box (new_putter mail count (place + i)) (get_or l i d))) is
    ∙ (boxes_set mail count place old i d small ∙ ap (λ (k : ℕ). with_boxes mail count place (take k old) ++ drop k old) next)

pub count_with_boxes : (mail : QueueId) (count place : ℕ) (columns : List ColumnView) → length (with_boxes mail count place columns) ≡ length columns
count_with_boxes mail count place [] = refl
count_with_boxes mail count place (c ∷ columns) = ap suc (count_with_boxes mail count (suc place) columns)

-- one more mailbox changes no way
ways_with_boxes : (mail : QueueId) (count place : ℕ) (columns : List ColumnView) → ways_of (with_boxes mail count place columns) ≡ ways_of columns
ways_with_boxes mail count place [] = refl
ways_with_boxes mail count place (c ∷ columns) = ap (λ (l : List Way). c.way ∷ l) (ways_with_boxes mail count (suc place) columns)

ways_popped : (columns : List ColumnView) → ways_of (map popped columns) ≡ ways_of columns
ways_popped [] = refl
ways_popped (c ∷ columns) = ap (λ (l : List Way). c.way ∷ l) (ways_popped columns)

boxed_at : (mail : QueueId) (count from : ℕ) (columns : List ColumnView) (after : ColumnView) (place : ℕ) → slice_get (with_boxes mail count from columns) place ≡ Some after
    → (c : ColumnView) × (slice_get columns place ≡ Some c) × (after ≡ with_box (new_putter mail count (from + place)) c)
boxed_at mail count from [] after place at = absurd (let small = slice_get_within [] place after at in omega arith)
boxed_at mail count from (c ∷ columns) after zero at =
    (c, refl, sym (same_Some (with_box (new_putter mail count from) c) after at) ∙ ap (λ (k : ℕ). with_box (new_putter mail count k) c) (omega arith))
boxed_at mail count from (c ∷ columns) after (suc place) at =
    let there = boxed_at mail count (suc from) columns after place at in
    (there.0, there.1, there.2 ∙ ap (λ (k : ℕ). with_box (new_putter mail count k) there.0) (omega arith))

-- the columns after one slot more
abbrev pub next_columns : QueueId → List ColumnView → List ColumnView
next_columns mail columns = with_boxes mail (length columns) 0 (map popped columns)

pub ways_next : (mail : QueueId) (columns : List ColumnView) → ways_of (next_columns mail columns) ≡ ways_of columns
ways_next mail columns = ways_with_boxes mail (length columns) 0 (map popped columns) ∙ ways_popped columns

pub count_next : (mail : QueueId) (columns : List ColumnView) → length (next_columns mail columns) ≡ length columns
count_next mail columns = count_with_boxes mail (length columns) 0 (map popped columns) ∙ length-map columns popped

-- they have one putter fewer for slots, and one more at a mailbox
pub filled_more : (slots : ℕ) (mails : List QueueId) (mail : QueueId) (columns : List ColumnView) → length mails < slots → AreColumnsFilled slots mails columns
    → AreColumnsFilled slots (mails ++ mail ∷ []) (next_columns mail columns)
filled_more slots mails mail columns small all place after at =
    let lines = length columns in
    let boxed = boxed_at mail lines 0 (map popped columns) after place at in
    let was = mapped_at popped columns boxed.0 place boxed.1 in
    let c = was.0 in
    let held = all place c was.1 in
    let longer = length_push mails mail in
    let size : length (mails ++ mail ∷ []) ≡ suc (length mails) = omega (arith, longer) in
    let is : after ≡ with_box (new_putter mail lines place) (popped c) = boxed.2 ∙ (ap (λ (k : ℕ). with_box (new_putter mail lines k) boxed.0) (omega arith) ∙ ap (with_box (new_putter mail lines place)) (sym was.2)) in
    let left : (popped c).passes ≡ reverse (putters_from c.way.mail slots (suc (length mails)) (slots - (suc (length mails)))) =
    sym (popped_list c.passes (reverse (putters_from c.way.mail slots (suc (length mails)) (slots - (suc (length mails))))) (new_putter c.way.mail slots (length mails))
    (held.passes ∙ left_are c.way.mail slots (length mails) small)) in
    subst (λ (n : ℕ). IsColumnFilled slots n place (mails ++ mail ∷ []) after) (sym (count_next mail columns))
    (subst (IsColumnFilled slots lines place (mails ++ mail ∷ [])) (sym is)
    (record {
      passes = left ∙ ap (λ (n : ℕ). reverse (putters_from c.way.mail slots n (slots - n))) (sym size);
      boxes = ap (λ (l : List (Putter Datagram)). l ++ new_putter mail lines place ∷ []) held.boxes ∙ sym (map_push (λ (m : QueueId). new_putter m lines place) mails mail);
    }))

-- columns of which nothing was taken
pub filled_first : (slots : ℕ) (columns : List ColumnView) → All (λ c. c.passes ≡ reverse (putters_from c.way.mail slots 0 slots)) columns → All (λ c. c.boxes ≡ []) columns → AreColumnsFilled slots [] columns
filled_first slots columns passes boxes place c at = let none : slots ≡ slots - 0 = omega arith in record {
  passes =
      all_at (λ (c : ColumnView). c.passes ≡ reverse (putters_from c.way.mail slots 0 slots)) columns c place passes at
      ∙ ap (λ (n : ℕ). reverse (putters_from c.way.mail slots 0 n)) none;
  boxes = all_at (λ (c : ColumnView). c.boxes ≡ []) columns c place boxes at;
}

-- each column has a putter at each of these mailboxes
pub filled_boxes : (slots : ℕ) (mails : List QueueId) (columns : List ColumnView) (count : ℕ) → length mails ≡ count → AreColumnsFilled slots mails columns → All (λ c. length c.boxes ≡ count) columns
filled_boxes slots mails columns count many all k d small =
    let c = get_or columns k d in
    ap length (all k c (slice_get-get_or columns k d small)).boxes ∙ (length-map mails (λ (m : QueueId). new_putter m (length columns) k) ∙ many)

-- one more route takes the next putter of the next column
pub next_push : (columns : List ColumnView) (routes : List (Lane ReaderView)) (lane : Lane ReaderView) (c : ColumnView) → slice_get columns (length routes) ≡ Some c → IsNextOf c lane.pass
    → AreNextOf columns routes → AreNextOf columns (routes ++ lane ∷ [])
next_push columns routes lane c at next all place other d at_lane at_column =
    ⊎_elim
    (λ (there : slice_get routes place ≡ Some other). all place other d there at_column)
    (λ (new : (place ≡ length routes) × (lane ≡ other)).
    let same : c ≡ d = same_Some c d (sym at ∙ (ap (slice_get columns) (sym new.0) ∙ at_column)) in
    subst (λ (x : ColumnView). IsNextOf x other.pass) same (subst (λ (l : Lane ReaderView). IsNextOf c l.pass) new.1 next))
    (pushed_at routes lane other place at_lane)

-- the routes of the next slot have its putters
pub slot_passes : (slots slot : ℕ) (mails : List QueueId) (columns : List ColumnView) (routes : List (Lane ReaderView)) → length mails < slots → slot ≡ length mails → length routes ≡ length columns
    → AreColumnsFilled slots mails columns → AreNextOf columns routes → All (λ lane. lane.pass ≡ new_putter lane.pass.mail slots slot) routes
slot_passes slots slot mails columns routes small is count all next k d within =
    let lane = get_or routes k d in
    let column = there_is columns k (omega (arith, count, within)) in
    let c = column.0 in
    let held = (all k c column.1).passes ∙ left_are c.way.mail slots (length mails) small in
    let took : IsNextOf c lane.pass = next k lane c (slice_get-get_or routes k d within) column.1 in
    let pass : lane.pass ≡ new_putter c.way.mail slots (length mails) =
    (same_from_push (popped c).passes (reverse (putters_from c.way.mail slots (suc (length mails)) (slots - (suc (length mails))))) lane.pass (new_putter c.way.mail slots (length mails)) (sym took ∙ held)).1 in
    pass ∙ (ap (λ (m : QueueId). new_putter m slots (length mails)) (sym (ap (λ (p : Putter Order). p.mail) pass)) ∙ ap (new_putter lane.pass.mail slots) (sym is))

pub peers_push : (columns : List ColumnView) (column : ColumnView) → peers_to (ways_of (columns ++ column ∷ [])) ≡ peers_to (ways_of columns) ++ column.way.peer ∷ []
peers_push [] column = refl
peers_push (c ∷ columns) column = ap (λ (l : List ℕ). c.way.peer ∷ l) (peers_push columns column)

-- the routes of a slot lead to the peers of their ways
pub lanes_peers : (lanes : List (Lane ReaderView)) → map (λ (lane : Lane ReaderView). lane.peer) lanes ≡ peers_to (map lane_way lanes)
lanes_peers [] = refl
lanes_peers (lane ∷ lanes) = ap (λ (l : List ℕ). lane.peer ∷ l) (lanes_peers lanes)

-- the readers of a new pair
pub readers_alike : (writer inside : WriterView) (n : ℕ) (readers : List ReaderView) → readers ≡ replicate n (record { pair = writer.pair; found = [] }) → inside ≡ writer → All (λ r. r.pair ≡ inside.pair) readers
readers_alike writer inside n readers made is =
    subst (λ (l : List ReaderView). All (λ r. r.pair ≡ inside.pair) l) (sym made)
    (All-replicate (λ (r : ReaderView). r.pair ≡ inside.pair) n (record { pair = writer.pair; found = [] }) (ap (λ (w : WriterView). w.pair) (sym is)))

pub none_in_place : {R : Type 0} → AreInPlace {R = R} []
none_in_place place vacant stands = absurd (let small = slice_get_within [] place vacant stands in omega arith)

-- one more slot, whose number is how many there were
pub in_place_push : {R : Type 0} (vacants : List (Holding R)) (vacant : Holding R) → AreInPlace vacants → vacant.words.slot ≡ length vacants → AreInPlace (vacants ++ vacant ∷ [])
in_place_push {R} vacants vacant all last place other stands =
    ⊎_elim
    (λ (there : slice_get vacants place ≡ Some other). all place other there)
    (λ (new : (place ≡ length vacants) × (vacant ≡ other)). ap (λ (h : Holding R). h.words.slot) (sym new.1) ∙ (last ∙ sym new.0))
    (pushed_at vacants vacant other place stands)

pub pushed_here : {X : Type 0} (xs : List X) (x : X) → slice_get (xs ++ x ∷ []) (length xs) ≡ Some x
pushed_here [] x = refl
pushed_here (y ∷ xs) x = pushed_here xs x
