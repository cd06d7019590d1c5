-- The pairs that have an accepted item, and the text of all of them.
use Rattle.std.proofs.Common.{◌≡◌, ◌<◌, ℕ, suc, Bool, true, false, ◌||◌, cond, List, [], ◌∷◌, ◌++◌, length, map, filter, get_or, arith, refl, sym, ap, ◌∙◌, subst}
use Rattle.std.specs.List.{list_any, flat_map}
use Rattle.std.proofs.lemmas.Bool.{true≢false}
use Rattle.std.proofs.lemmas.List.Folds.{list_any-append}
use Rattle.rds_model.specs.declared.entry.Entry.{Entry}
use Rattle.rds_model.specs.declared.entry.Entry.TheVariants.{Accept}
use Rattle.rds_model.specs.Past.{accepted}
use Rattle.rds_report.specs.Item.{Item}
use Rattle.rds_text.specs.Hosts.{IsAddress}
use Rattle.rds_text.specs.FinalState.{FinalJournal, FinalHost, past_of}
use Rattle.rds_text.specs.Report.{Group, accepted_groups}
use Rattle.rds_text.specs.FinalViews.{AreSides, AreFinalHosts}
use Rattle.rds_report.specs.Items.{seen, accepted_items, sent_items, came_items, socket_items, is_lost, side_items, host_items, items}
use Rattle.rds_report.specs.ItemReport.{is_same, is_of, of_pair, is_accepted, accepted_pairs}
use Rattle.rds_report.proofs.Orders.{has, same_is}
use Rattle.rds_report.proofs.Chunks.{accepting, pairs_append}
use Rattle.rds_report.proofs.Selected.{of_kind, kindless_came, kindless_sockets}
use Rattle.rds_report.proofs.Chosen.{sides_once}
use Rattle.rds_report.proofs.Sides.{AllSidesOnce}

-- the pairs that have an accepted item

pub has_pairs : (g : Group) (xs : List Item) → has g (accepted_pairs xs) ≡ list_any accepting (of_pair g xs)
has_pairs g [] = refl
has_pairs g (i ∷ xs) = go (accepting i) (is_of g i) refl refl (has_pairs g xs)
  where
    go : (a b : Bool) → accepting i ≡ a → is_of g i ≡ b → has g (accepted_pairs xs) ≡ list_any accepting (of_pair g xs) →
        has g (map (λ (j : Item). seen j.group) (cond (accepting i) (i ∷ filter accepting xs) (filter accepting xs))) ≡ list_any accepting (cond (is_of g i) (i ∷ of_pair g xs) (of_pair g xs))
    go true true a b ih =
        ap (λ (x : Bool). has g (map (λ (j : Item). seen j.group) (cond x (i ∷ filter accepting xs) (filter accepting xs)))) a
        ∙ ap (λ (x : Bool). x || has g (accepted_pairs xs)) b
        ∙ sym (ap (λ (x : Bool). list_any accepting (cond x (i ∷ of_pair g xs) (of_pair g xs))) b ∙ ap (λ (x : Bool). x || list_any accepting (of_pair g xs)) a)
    go true false a b ih =
        ap (λ (x : Bool). has g (map (λ (j : Item). seen j.group) (cond x (i ∷ filter accepting xs) (filter accepting xs)))) a
        ∙ ap (λ (x : Bool). x || has g (accepted_pairs xs)) b ∙ ih
        ∙ sym (ap (λ (x : Bool). list_any accepting (cond x (i ∷ of_pair g xs) (of_pair g xs))) b)
    go false true a b ih =
        ap (λ (x : Bool). has g (map (λ (j : Item). seen j.group) (cond x (i ∷ filter accepting xs) (filter accepting xs)))) a ∙ ih
        ∙ sym (ap (λ (x : Bool). list_any accepting (cond x (i ∷ of_pair g xs) (of_pair g xs))) b ∙ ap (λ (x : Bool). x || list_any accepting (of_pair g xs)) a)
    go false false a b ih =
        ap (λ (x : Bool). has g (map (λ (j : Item). seen j.group) (cond x (i ∷ filter accepting xs) (filter accepting xs)))) a ∙ ih
        ∙ sym (ap (λ (x : Bool). list_any accepting (cond x (i ∷ of_pair g xs) (of_pair g xs))) b)

has_append : (g : Group) (xs ys : List Item) → has g (accepted_pairs (xs ++ ys)) ≡ (has g (accepted_pairs xs) || has g (accepted_pairs ys))
has_append g xs ys = ap (has g) (pairs_append xs ys) ∙ list_any-append (is_same g) (accepted_pairs xs) (accepted_pairs ys)

or_false : (x : Bool) → (x || false) ≡ x
or_false true = refl
or_false false = refl

has_none : (g : Group) (xs : List Item) → of_kind is_accepted xs ≡ [] → has g (accepted_pairs xs) ≡ false
has_none g xs is = ap (λ (l : List Item). has g (map (λ (i : Item). seen i.group) l)) is

has_sent : (g : Group) (from to : ℕ) (lost : ℕ → Bool) (past : List Entry) → has g (accepted_pairs (sent_items from to lost past)) ≡ has g (accepted_groups from to past)
has_sent g from to lost [] = refl
has_sent g from to lost (Accept slot sport dport payload ∷ past) =
    has_append g (sent_items from to lost past) (accepted_items from to sport dport (lost (suc (accepted past))))
    ∙ ap (λ (b : Bool). b || has g (accepted_pairs (accepted_items from to sport dport (lost (suc (accepted past)))))) (has_sent g from to lost past)
    ∙ ap (λ (b : Bool). has g (accepted_groups from to past) || b) (one (lost (suc (accepted past))))
    ∙ swap (has g (accepted_groups from to past)) (is_same g (record { to = to; dport = dport; from = from; sport = sport }))
  where
    one : (b : Bool) → has g (accepted_pairs (accepted_items from to sport dport b)) ≡ is_same g (record { to = to; dport = dport; from = from; sport = sport })
    one true = or_false (is_same g (record { to = to; dport = dport; from = from; sport = sport }))
    one false = or_false (is_same g (record { to = to; dport = dport; from = from; sport = sport }))

    swap : (x y : Bool) → (x || y) ≡ (y || x)
    swap true true = refl
    swap true false = refl
    swap false true = refl
    swap false false = refl
has_sent g from to lost (_ ∷ past) = has_sent g from to lost past

has_spread : {X : Type 0} (g : Group) (f : X → List Item) (h : X → List Group) → ((x : X) → has g (accepted_pairs (f x)) ≡ has g (h x)) → (xs : List X) →
    has g (accepted_pairs (flat_map f xs)) ≡ has g (flat_map h xs)
has_spread g f h same [] = refl
has_spread g f h same (x ∷ xs) =
    has_append g (f x) (flat_map f xs)
    ∙ ap (λ (b : Bool). b || has g (accepted_pairs (flat_map f xs))) (same x)
    ∙ ap (λ (b : Bool). has g (h x) || b) (has_spread g f h same xs)
    ∙ sym (list_any-append (is_same g) (h x) (flat_map h xs))

abbrev pub side_groups : ℕ → FinalJournal → List Group
side_groups addr s = accepted_groups addr s.peer s.past

abbrev pub end_groups : FinalHost → List Group
end_groups e = flat_map (side_groups e.addr) e.sides

pub has_items : (g : Group) (ends : List FinalHost) → has g (accepted_pairs (items ends)) ≡ has g (flat_map end_groups ends)
has_items g ends = has_spread g (host_items ends) end_groups at_end ends
  where
    at_side : (addr : ℕ) (s : FinalJournal) → has g (accepted_pairs (side_items ends addr s)) ≡ has g (side_groups addr s)
    at_side addr s =
        has_append g (sent_items addr s.peer (is_lost s.past (past_of s.peer addr ends)) s.past) (came_items s.peer addr s.past)
        ∙ ap (λ (b : Bool). has g (accepted_pairs (sent_items addr s.peer (is_lost s.past (past_of s.peer addr ends)) s.past)) || b)
        (has_none g (came_items s.peer addr s.past) (kindless_came is_accepted refl refl s.peer addr s.past))
        ∙ or_false (has g (accepted_pairs (sent_items addr s.peer (is_lost s.past (past_of s.peer addr ends)) s.past)))
        ∙ has_sent g addr s.peer (is_lost s.past (past_of s.peer addr ends)) s.past

    at_end : (e : FinalHost) → has g (accepted_pairs (host_items ends e)) ≡ has g (end_groups e)
    at_end e =
        has_append g (flat_map (side_items ends e.addr) e.sides) (flat_map (socket_items e.addr) e.sockets)
        ∙ ap (λ (b : Bool). has g (accepted_pairs (flat_map (side_items ends e.addr) e.sides)) || b) (has_none g (flat_map (socket_items e.addr) e.sockets) (kindless_sockets is_accepted (λ p. refl) refl e.addr e.sockets))
        ∙ or_false (has g (accepted_pairs (flat_map (side_items ends e.addr) e.sides)))
        ∙ has_spread g (side_items ends e.addr) (side_groups e.addr) (at_side e.addr) e.sides

-- they are of hosts

known_sent : (g : Group) (from to : ℕ) (past : List Entry) → IsAddress from → IsAddress to → has g (accepted_groups from to past) ≡ true → IsAddress g.to × IsAddress g.from
known_sent g from to [] f t in' = absurd (true≢false (sym in'))
known_sent g from to (Accept slot sport dport payload ∷ past) f t in' = go (is_same g (record { to = to; dport = dport; from = from; sport = sport })) refl (known_sent g from to past f t)
  where
    go : (b : Bool) → is_same g (record { to = to; dport = dport; from = from; sport = sport }) ≡ b → (has g (accepted_groups from to past) ≡ true → IsAddress g.to × IsAddress g.from) → IsAddress g.to × IsAddress g.from
    go true is ih =
        let same = same_is g (record { to = to; dport = dport; from = from; sport = sport }) is in
        (subst IsAddress (sym (ap (λ (k : Group). k.to) same)) t, subst IsAddress (sym (ap (λ (k : Group). k.from) same)) f)
    go false is ih = ih (ap (λ (x : Bool). x || has g (accepted_groups from to past)) (sym is) ∙ in')
known_sent g from to (_ ∷ past) f t in' = known_sent g from to past f t in'

known_spread : {X : Type 0} (g : Group) (h : X → List Group) (xs : List X) → ((k : ℕ) (d : X) → k < length xs → has g (h (get_or xs k d)) ≡ true → IsAddress g.to × IsAddress g.from) →
    has g (flat_map h xs) ≡ true → IsAddress g.to × IsAddress g.from
known_spread g h [] known in' = absurd (true≢false (sym in'))
known_spread g h (x ∷ xs) known in' = go (has g (h x)) refl (known_spread g h xs (λ k d l. known (suc k) d (omega arith)))
  where
    go : (b : Bool) → has g (h x) ≡ b → (has g (flat_map h xs) ≡ true → IsAddress g.to × IsAddress g.from) → IsAddress g.to × IsAddress g.from
    go true is ih = known 0 x (omega arith) is
    go false is ih = ih (ap (λ (b : Bool). b || has g (flat_map h xs)) (sym is) ∙ sym (list_any-append (is_same g) (h x) (flat_map h xs)) ∙ in')

pub known_groups : (ends : List FinalHost) → AreFinalHosts ends → (g : Group) → has g (flat_map end_groups ends) ≡ true → IsAddress g.to × IsAddress g.from
known_groups ends are g =
    known_spread g end_groups ends (λ k d below.
    let e = get_or ends k d in
    known_spread g (side_groups e.addr) e.sides (λ j f within.
    let s = get_or e.sides j f in
    known_sent g e.addr s.peer s.past (are.addresses k d below) ((are.sides k d below).peers j f within)))

pub all_once : (ends : List FinalHost) → ((k : ℕ) (d : FinalHost) → k < length ends → AreSides (get_or ends k d).sides) → AllSidesOnce ends
all_once [] h = tt
all_once (e ∷ ends) h = (sides_once e.sides (h 0 e (omega arith)).once, all_once ends (λ k d l. h (suc k) d (omega arith)))
