-- What stands in lists that are pushed to, popped and written, and which putter is split off next.
use Rattle.std.proofs.Common.{◌≡◌, ◌⊎◌, ℕ, zero, suc, ◌+◌, ◌-◌, ◌<◌, ◌≤◌, List, [], ◌∷◌, ◌++◌, All, Some, length, map, take, drop, get_or, slice_get, refl, inl, inr, sym, ap, subst, ⊎_elim, ◌∙◌, arith}
use Rattle.std.proofs.Math.Seq.{take-append_seam}
use Rattle.std.proofs.lemmas.List.{length-map, length_push, map_push, take_more, drop_more, get_or-append_right, get_or-drop}
use Rattle.std.proofs.lemmas.List.Elements.{All-pop, All-take}
use Rattle.std.proofs.lemmas.Option.{same_Some, slice_get_within, slice_get-get_or}
use Rattle.rds_model.specs.declared.order.Order.{Order}
use Rattle.rds_mail.specs.Passes.{Putter, QueueId, new_from}
use Rattle.rds_fmap.specs.Readers.{ReaderView}
use Rattle.rds_socket_parts.specs.Lanes.{Lane}
use Rattle.rds_host.specs.Ties.{Way, ColumnView, IsFront, IsNextOf, new_putter, ways_of, peers_to, lane_way}

-- what stands in a list after one push stood there, or is what was pushed
pub pushed_at : {X : Type 0} (xs : List X) (x y : X) (place : ℕ) → slice_get (xs ++ x ∷ []) place ≡ Some y → (slice_get xs place ≡ Some y) ⊎ ((place ≡ length xs) × (x ≡ y))
pushed_at [] x y zero is = inr (refl, same_Some x y is)
pushed_at [] x y (suc place) is = absurd (cc)
pushed_at (z ∷ xs) x y zero is = inl is
pushed_at (z ∷ xs) x y (suc place) is = ⊎_elim (λ there. inl there) (λ (last : (place ≡ length xs) × (x ≡ y)). inr (ap suc last.0, last.1)) (pushed_at xs x y place is)

pub mapped_at : {X Y : Type 0} (f : X → Y) (xs : List X) (y : Y) (place : ℕ) → slice_get (map f xs) place ≡ Some y → (x : X) × (slice_get xs place ≡ Some x) × (f x ≡ y)
mapped_at f [] y place is = absurd (let small = slice_get_within [] place y is in omega arith)
mapped_at f (x ∷ xs) y zero is = (x, refl, same_Some (f x) y is)
mapped_at f (x ∷ xs) y (suc place) is = mapped_at f xs y place is

pub all_at : {X : Type 0} (P : X → Type 0) (xs : List X) (x : X) (place : ℕ) → All P xs → slice_get xs place ≡ Some x → P x
all_at P xs x place all is =
    let small = slice_get_within xs place x is in
    subst P (same_Some (get_or xs place x) x (sym (slice_get-get_or xs place x small) ∙ is)) (all place x small)

pub there_is : {X : Type 0} (xs : List X) (n : ℕ) → n < length xs → (x : X) × (slice_get xs n ≡ Some x)
there_is [] n small = absurd (omega arith)
there_is (x ∷ xs) zero small = (x, refl)
there_is (x ∷ xs) (suc n) small = there_is xs n (omega arith)

-- the first of what is left of a list stands at the place up to which it was taken
pub next_of : {X : Type 0} (xs rest : List X) (n : ℕ) (x : X) → n < length xs → drop n xs ≡ x ∷ rest → (slice_get xs n ≡ Some x) × (rest ≡ drop (n + 1) xs)
next_of xs rest n x small is =
    let cut = drop_more xs n x small in
    let first : get_or xs n x ≡ x = cc in
    let others : rest ≡ drop (n + 1) xs = cc in
    (slice_get-get_or xs n x small ∙ ap Some first, others)

pub push_one : {X : Type 0} (xs : List X) (x : X) → length (xs ++ x ∷ []) ≡ length xs + 1
push_one xs x = let longer = length_push xs x in omega (arith, longer)

-- of what is split off again and again something is left
pub one_left : (now done all most : ℕ) → now + done ≡ all → most ≤ all → done < most → 1 ≤ now
one_left now done all most is enough small = omega (arith, is, enough, small)

pub counted_on : (new now more done all most : ℕ) → new ≡ now - 1 → more ≡ done + 1 → now + done ≡ all → most ≤ all → done < most → new + more ≡ all
counted_on new now more done all most less one is enough small = omega (arith, less, one, is, enough, small)

-- a list behind a slice of all of it, once that was written
pub written_back : {X : Type 0} (old new : List X) (n : ℕ) → n ≡ length old → length new ≡ length old → take n (new ++ drop (length new) old) ≡ new
written_back old new n count same =
    ap (λ i. take i (new ++ drop (length new) old)) (count ∙ sym same) ∙ take-append_seam new (drop (length new) old)

pub same_count : (old new : List ColumnView) → ways_of new ≡ ways_of old → length new ≡ length old
same_count old new same = sym (length-map new (λ (c : ColumnView). c.way)) ∙ (ap length same ∙ length-map old (λ (c : ColumnView). c.way))

pub count_of : (columns : List ColumnView) → length columns ≡ length (peers_to (ways_of columns))
count_of columns = sym (length-map columns (λ (c : ColumnView). c.way)) ∙ sym (length-map (ways_of columns) (λ (w : Way). w.peer))

-- the route of one more column
pub routes_more : (columns : List ColumnView) (i : ℕ) (column : ColumnView) (routes : List (Lane ReaderView)) (lane : Lane ReaderView) → i < length columns → column ≡ get_or columns i column
    → map lane_way routes ≡ ways_of (take i columns) → lane_way lane ≡ column.way → map lane_way (routes ++ lane ∷ []) ≡ ways_of (take (i + 1) columns)
routes_more columns i column routes lane small at before way =
    map_push lane_way routes lane
    ∙ (ap (λ (l : List Way). l ++ lane_way lane ∷ []) before
    ∙ (ap (λ (w : Way). ways_of (take i columns) ++ w ∷ []) (way ∙ ap (λ (c : ColumnView). c.way) at)
    ∙ (sym (map_push (λ (c : ColumnView). c.way) (take i columns) (get_or columns i column))
    ∙ ap ways_of (sym (take_more columns i column small)))))

-- what stands behind what was changed is untouched
pub untouched : {X : Type 0} (old now front : List X) (i : ℕ) (d : X) → length front ≡ i → i < length old → now ≡ front ++ drop i old → get_or now i d ≡ get_or old i d
untouched old now front i d count small is =
    ap (λ (l : List _). get_or l i d) is
    ∙ (get_or-append_right front (drop i old) i i d count (omega arith)
    ∙ (get_or-drop i old (i - i) d ∙ ap (λ (k : ℕ). get_or old k d) (omega arith)))

-- what a pop leaves
pub popped_list : {X : Type 0} (old new : List X) (x : X) → old ≡ new ++ x ∷ [] → new ≡ take (length old - 1) old
popped_list old new x is =
    let longer = length_push new x in
    let size : length old ≡ length (new ++ x ∷ []) = ap length is in
    let count : length old - 1 ≡ length new = omega (arith, longer, size) in
    sym (take-append_seam new (x ∷ [])) ∙ (ap (take (length new)) (sym is) ∙ ap (λ n. take n old) (sym count))

-- what holds of all holds of those at the beginning, and of the last
pub all_front : {X : Type 0} (P : X → Type 0) (front all : List X) → IsFront front all → All P all → All P front
all_front P front all is each = subst (All P) (sym is.1) (All-take P is.0 all each)

pub all_last : {X : Type 0} (P : X → Type 0) (front all : List X) (x : X) → all ≡ front ++ x ∷ [] → All P all → P x
all_last P front all x is each = (All-pop P (front ++ x ∷ []) front (Some x) refl (subst (All P) is each)).1

-- the first putter of a queue after so many splits
abbrev pub after_splits : {T : Type 0} → QueueId → ℕ → Putter T
after_splits mail splits = record { mail = mail; number = []; splits = splits; put = [] }

-- what it splits off next is the putter of the next place
pub split_is : {T : Type 0} (mail : QueueId) (count splits : ℕ) (p : Putter T) → p ≡ after_splits mail splits → new_from p ≡ new_putter mail count (suc splits)
split_is mail count splits p is = ap new_from is

pub split_at : {T : Type 0} (mail : QueueId) (count splits : ℕ) (p : Putter T) → p ≡ after_splits mail splits → new_from p ≡ new_putter mail count (1 + splits)
split_at {T} mail count splits p is =
    let next : suc splits ≡ 1 + splits = omega arith in
    split_is mail count splits p is ∙ ap (λ (k : ℕ). new_putter {T = T} mail count k) next

-- the route that takes a column's last putter
pub next_is : (c : ColumnView) (left : List (Putter Order)) (pass : Putter Order) → c.passes ≡ left ++ pass ∷ [] → IsNextOf c pass
next_is c left pass is = is ∙ ap (λ (l : List (Putter Order)). l ++ pass ∷ []) (popped_list c.passes left pass is)
