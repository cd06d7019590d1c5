-- Private: it serves the contracts of the private functions that count items, add them up and print the counts.
-- Source: this project's own.
use Rattle.std.specs.Prelude.{◌≡◌, ◌<◌, ◌^◌, ℕ, zero, suc, ◌+◌, ◌==◌, if◌then◌else◌, List, [], ◌∷◌, length, map, codes}
use Rattle.std.specs.List.{flat_map, sum_by}
use Rattle.std.specs.Fmt.{decimal}
use Rattle.rds_text.specs.Lines.{phrase}
use Rattle.rds_report.specs.declared.counts.Counts.{Counts as Fates}
use Rattle.rds_report.specs.Item.{What, Received, Item}
use Rattle.rds_model.specs.declared.order.Datagram.{Datagram}
use Rattle.rds_report.specs.declared.totals.Totals.{Totals}
use Rattle.rds_text.specs.FinalState.{FinalHost}
use Rattle.rds_text.specs.Hosts.{address_of}
use Rattle.rds_text.specs.FinalViews.{AreFinalHosts}
use Rattle.rds_text.specs.Report.{Counts, ascending, counts, received}
use Rattle.rds_report.specs.Summary.{plus, total}
use Rattle.rds_report.specs.ItemReport.{accepted_pairs, count_of, groups_to, is_accepted, of_pair}

-- counts as the report has them
abbrev pub seen_counts : Fates → Counts
seen_counts c = record {
  accepted = c.accepted;
  received = c.received;
  unread = c.unread;
  dropped = c.dropped;
  port0 = c.port0;
  cancelled = c.cancelled;
}

-- how many items are counted
abbrev pub count_all : Counts → ℕ
count_all c = c.accepted + c.received + c.unread + c.dropped + c.port0 + c.cancelled

-- counts, each behind its word
abbrev pub fate_words : Counts → List (List ℕ)
fate_words c =
    codes " accepted " ∷ decimal c.accepted ∷ codes " received " ∷ decimal c.received ∷ codes " unread " ∷ decimal c.unread
    ∷ codes " dropped " ∷ decimal c.dropped ∷ codes " port0 " ∷ decimal c.port0 ∷ codes " cancelled " ∷ decimal c.cancelled ∷ []

abbrev pub fates : Counts → List ℕ
fates c = phrase (fate_words c)

-- how many payload bytes were received with an item
abbrev pub payload_bytes : What → ℕ
payload_bytes (Received payload) = length payload
payload_bytes _ = 0

-- how many payload bytes were received with items
abbrev pub bytes_of : List Item → ℕ
bytes_of items = sum_by (λ (i : Item). payload_bytes i.what) items

-- the items of a pair, unless none of them was accepted
abbrev pub with_accepted : List Item → List Item
with_accepted items = if count_of is_accepted items == 0 then [] else items

-- the items of each pair that has an item that was accepted
abbrev pub grouped : List Item → List Item
grouped items = flat_map (λ g. of_pair g items) (ascending (accepted_pairs items))

-- the counts of all port pairs to the host at an address together, and how many payload bytes were handed out there
abbrev pub counts_to : List FinalHost → ℕ → Counts
counts_to hosts to = total (map (counts hosts) (groups_to hosts to))

abbrev pub bytes_to : List FinalHost → ℕ → ℕ
bytes_to hosts to = sum_by (λ (d : Datagram). length d.payload) (flat_map (received hosts) (groups_to hosts to))

-- the same of the first n hosts
abbrev pub counts_below : List FinalHost → (n : ℕ) → Counts
counts_below hosts zero = total []
counts_below hosts (suc n) = plus (counts_below hosts n) (counts_to hosts (address_of n))

abbrev pub bytes_below : List FinalHost → (n : ℕ) → ℕ
bytes_below hosts zero = 0
bytes_below hosts (suc n) = bytes_below hosts n + bytes_to hosts (address_of n)

-- the counts and the bytes of totals
abbrev pub totals_counts : Totals → Counts
totals_counts t = seen_counts t.counts

abbrev pub totals_bytes : Totals → ℕ
totals_bytes t = t.bytes

-- the totals are these counts and bytes
pub record AreTotals (t : Totals) (c : Counts) (n : ℕ) : Type 0 where
  pub counts : seen_counts t.counts ≡ c
  pub bytes : t.bytes ≡ n

-- the totals of so many hosts as there may be don't overflow where each is like these
pub record IsSmall (t : Totals) : Type 0 where
  pub few : count_all (totals_counts t) < 2 ^ 64
  pub short : t.bytes < 2 ^ 96

-- the totals are those of all port pairs to the host at an address
pub record AreTotalsTo (hosts : List FinalHost) (to : ℕ) (t : Totals) : Type 0 where
  pub exact : AreFinalHosts hosts → AreTotals t (counts_to hosts to) (bytes_to hosts to)
  pub small : IsSmall t
