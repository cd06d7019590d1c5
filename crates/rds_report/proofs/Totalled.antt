-- The totals of the items of the hosts are those of the hosts.
use Rattle.std.proofs.Common.{◌≡◌, ◌+◌, ℕ, zero, suc, Bool, true, false, cond, List, [], ◌∷◌, ◌++◌, length, map, filter, refl, sym, ap, ◌∙◌, zero-add}
use Rattle.std.specs.List.{flat_map, sum_by}
use Rattle.std.proofs.lemmas.Bool.{true≢false}
use Rattle.std.proofs.lemmas.Grind.{flat_map-append}
use Rattle.std.proofs.lemmas.List.Sums.{sum_by-cons, sum_by-append}
use Rattle.rds_text.specs.declared.host.TheConstants.{MAX_HOSTS}
use Rattle.rds_model.specs.declared.order.Datagram.{Datagram}
use Rattle.rds_report.specs.Item.{What, Accepted, Received, Unread, Dropped, Port0, Cancelled, Item}
use Rattle.rds_text.specs.FinalState.{FinalHost}
use Rattle.rds_text.specs.Hosts.{address_of}
use Rattle.rds_text.specs.Report.{Group, Counts, counts, groups, received}
use Rattle.rds_text.specs.FinalViews.{AreFinalHosts}
use Rattle.rds_report.specs.Items.{items, items_to}
use Rattle.rds_report.specs.ItemReport.{groups_to, of_pair, is_received, tally}
use Rattle.rds_report.specs.ItemTotals.{bytes_below, bytes_of, bytes_to, counts_below, counts_to, grouped, payload_bytes}
use Rattle.rds_report.specs.Summary.{all_counts, plus, received_bytes, total}
use Rattle.rds_report.proofs.Counted.{plus_assoc, same_counts, tally_append}
use Rattle.rds_report.proofs.Selected.{of_kind}
use Rattle.rds_report.proofs.Chosen.{ends_once}
use Rattle.rds_report.proofs.Tallied.{got_all, got_item, tally_is}
use Rattle.rds_report.proofs.Pairs.{all_once}
use Rattle.rds_report.proofs.Parting.{below_last, below_next, below_none, is_below, pair_kept, to_groups, to_same}

-- the counts of pairs

pub total_of : (h : Group → List Item) (gs : List Group) → tally (flat_map h gs) ≡ total (map (λ g. tally (h g)) gs)
total_of h [] = refl
total_of h (g ∷ gs) = tally_append (h g) (flat_map h gs) ∙ ap (plus (tally (h g))) (total_of h gs)

pub map_same : (f h : Group → Counts) → ((g : Group) → f g ≡ h g) → (gs : List Group) → map f gs ≡ map h gs
map_same f h same [] = refl
map_same f h same (g ∷ gs) = ap (λ (c : Counts). c ∷ map f gs) (same g) ∙ ap (λ (l : List Counts). h g ∷ l) (map_same f h same gs)

-- the bytes of a pair

abbrev item_bytes : Item → ℕ
item_bytes i = payload_bytes i.what

abbrev datagram_bytes : Datagram → ℕ
datagram_bytes d = length d.payload

pub only_bytes : (xs : List Item) → bytes_of xs ≡ bytes_of (of_kind is_received xs)
only_bytes [] = refl
only_bytes (x ∷ xs) = sum_by-cons item_bytes x xs ∙ go (is_received x.what) refl (only_bytes xs)
  where
    none : (w : What) → is_received w ≡ false → payload_bytes w ≡ 0
    none (Received payload) is = absurd (true≢false is)
    none Accepted is = refl
    none Unread is = refl
    none Dropped is = refl
    none Port0 is = refl
    none Cancelled is = refl

    go : (b : Bool) → is_received x.what ≡ b → bytes_of xs ≡ bytes_of (of_kind is_received xs) →
        payload_bytes x.what + bytes_of xs ≡ bytes_of (cond (is_received x.what) (x ∷ of_kind is_received xs) (of_kind is_received xs))
    go true is ih =
        ap (λ (n : ℕ). payload_bytes x.what + n) ih
        ∙ sym (ap (λ (b : Bool). bytes_of (cond b (x ∷ of_kind is_received xs) (of_kind is_received xs))) is ∙ sum_by-cons item_bytes x (of_kind is_received xs))
    go false is ih =
        ap (λ (n : ℕ). n + bytes_of xs) (none x.what is) ∙ zero-add (bytes_of xs) ∙ ih
        ∙ sym (ap (λ (b : Bool). bytes_of (cond b (x ∷ of_kind is_received xs) (of_kind is_received xs))) is)

pub got_bytes : (g : Group) (ds : List Datagram) → bytes_of (map (got_item g) ds) ≡ sum_by datagram_bytes ds
got_bytes g [] = refl
got_bytes g (d ∷ ds) =
    sum_by-cons item_bytes (got_item g d) (map (got_item g) ds) ∙ ap (λ (n : ℕ). length d.payload + n) (got_bytes g ds)
    ∙ sym (sum_by-cons datagram_bytes d ds)

pub bytes_spread : (h : Group → List Item) (k : Group → List Datagram) → ((g : Group) → bytes_of (h g) ≡ sum_by datagram_bytes (k g)) →
    (gs : List Group) → bytes_of (flat_map h gs) ≡ sum_by datagram_bytes (flat_map k gs)
bytes_spread h k same [] = refl
bytes_spread h k same (g ∷ gs) =
    sum_by-append item_bytes (h g) (flat_map h gs)
    ∙ ap (λ (n : ℕ). n + bytes_of (flat_map h gs)) (same g)
    ∙ ap (λ (n : ℕ). sum_by datagram_bytes (k g) + n) (bytes_spread h k same gs)
    ∙ sym (sum_by-append datagram_bytes (k g) (flat_map k gs))

-- the items of the pairs to one host in another order, where those of each pair are in their order
module _ (ends : List FinalHost) (are : AreFinalHosts ends) (to : ℕ) (sorted : List Item) (stable : (g : Group) → of_pair g sorted ≡ of_pair g (items_to to ends)) where
  grouped_to : grouped sorted ≡ flat_map (λ g. of_pair g (items ends)) (groups_to ends to)
  grouped_to =
      ap (flat_map (λ g. of_pair g sorted)) (to_groups ends are to sorted stable)
      ∙ to_same to (λ g. of_pair g sorted) (λ g. of_pair g (items ends)) (λ g is. stable g ∙ pair_kept g to (items ends) is) (groups ends)

  pub to_tally : tally (grouped sorted) ≡ counts_to ends to
  to_tally =
      ap tally grouped_to ∙ total_of (λ g. of_pair g (items ends)) (groups_to ends to)
      ∙ ap total (map_same (λ g. tally (of_pair g (items ends))) (counts ends)
      (λ g. tally_is ends (ends_once ends are.once) (all_once ends are.sides) g) (groups_to ends to))

  pub to_bytes : bytes_of (grouped sorted) ≡ bytes_to ends to
  to_bytes =
      ap bytes_of grouped_to
      ∙ bytes_spread (λ g. of_pair g (items ends)) (received ends)
      (λ g. only_bytes (of_pair g (items ends))
      ∙ ap bytes_of (got_all ends (ends_once ends are.once) (all_once ends are.sides) g) ∙ got_bytes g (received ends g)) (groups_to ends to)

-- counts of two lists of pairs together

pub plus_nothing : (c : Counts) → plus (total []) c ≡ c
plus_nothing c =
    same_counts (zero-add c.accepted) (zero-add c.received) (zero-add c.unread) (zero-add c.dropped) (zero-add c.port0) (zero-add c.cancelled)

total_append : (f : Group → Counts) (gs hs : List Group) → total (map f (gs ++ hs)) ≡ plus (total (map f gs)) (total (map f hs))
total_append f [] hs = sym (plus_nothing (total (map f hs)))
total_append f (g ∷ gs) hs = ap (plus (f g)) (total_append f gs hs) ∙ sym (plus_assoc (f g) (total (map f gs)) (total (map f hs)))

-- the totals of all hosts together are those of all pairs
module _ (ends : List FinalHost) (are : AreFinalHosts ends) where
  abbrev below : ℕ → List Group
  below n = filter (is_below (address_of n)) (groups ends)

  abbrev bytes_at : List Group → ℕ
  bytes_at gs = sum_by datagram_bytes (flat_map (received ends) gs)

  pub counts_so_far : (n : ℕ) → counts_below ends n ≡ total (map (counts ends) (below n))
  counts_so_far zero = sym (ap (λ (gs : List Group). total (map (counts ends) gs)) (below_none ends are))
  counts_so_far (suc n) =
      ap (λ (c : Counts). plus c (counts_to ends (address_of n))) (counts_so_far n)
      ∙ sym (total_append (counts ends) (below n) (groups_to ends (address_of n)))
      ∙ sym (ap (λ (gs : List Group). total (map (counts ends) gs)) (below_next ends n))

  pub bytes_so_far : (n : ℕ) → bytes_below ends n ≡ bytes_at (below n)
  bytes_so_far zero = sym (ap bytes_at (below_none ends are))
  bytes_so_far (suc n) =
      ap (λ (k : ℕ). k + bytes_to ends (address_of n)) (bytes_so_far n)
      ∙ sym (sum_by-append datagram_bytes (flat_map (received ends) (below n)) (flat_map (received ends) (groups_to ends (address_of n))))
      ∙ ap (sum_by datagram_bytes) (sym (flat_map-append (received ends) (below n) (groups_to ends (address_of n))))
      ∙ sym (ap bytes_at (below_next ends n))

  pub counts_all : counts_below ends MAX_HOSTS ≡ all_counts ends
  counts_all = counts_so_far MAX_HOSTS ∙ ap (λ (gs : List Group). total (map (counts ends) gs)) (below_last ends are)

  pub bytes_all : bytes_below ends MAX_HOSTS ≡ received_bytes ends
  bytes_all = bytes_so_far MAX_HOSTS ∙ ap bytes_at (below_last ends are)
