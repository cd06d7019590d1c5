-- Private: needed by the proofs of `report` and `summary`, and by laws, only. The report of items. Source: this project's own.
use Rattle.std.specs.Prelude.{◌≡◌, ℕ, zero, suc, ⊤, ◌==◌, nat_lt, if◌then◌else◌, ◌&&◌, Bool, true, false, Option, Some, None, List, [], ◌∷◌, ◌++◌, length, filter, map, codes}
use Rattle.std.specs.List.{All, flat_map, list_any}
use Rattle.rds_text.specs.Words.{hex}
use Rattle.rds_text.specs.declared.host.TheConstants.{MAX_HOSTS}
use Rattle.rds_report.specs.Item.{What, Accepted, Received, Unread, Dropped, Port0, Cancelled, Item}
use Rattle.rds_text.specs.FinalState.{FinalHost}
use Rattle.rds_text.specs.Hosts.{IsAddress, address_of}
use Rattle.rds_text.specs.Lines.{text_line}
use Rattle.rds_text.specs.Report.{Group, Counts, is_before, ascending, groups, group_text, pair_text, counts_line}
use Rattle.rds_report.specs.Items.{seen}

-- two pairs are one
abbrev pub is_same : Group → Group → Bool
is_same a b = ((a.to == b.to) && (a.dport == b.dport)) && ((a.from == b.from) && (a.sport == b.sport))

-- an item is of a pair
abbrev pub is_of : Group → Item → Bool
is_of g i = is_same g (seen i.group)

abbrev pub is_accepted : What → Bool
is_accepted Accepted = true
is_accepted _ = false

abbrev pub is_received : What → Bool
is_received (Received payload) = true
is_received _ = false

abbrev pub is_unread : What → Bool
is_unread Unread = true
is_unread _ = false

abbrev pub is_dropped : What → Bool
is_dropped Dropped = true
is_dropped _ = false

abbrev pub is_port0 : What → Bool
is_port0 Port0 = true
is_port0 _ = false

abbrev pub is_cancelled_item : What → Bool
is_cancelled_item Cancelled = true
is_cancelled_item _ = false

-- how many items are of a kind
abbrev pub count_of : (What → Bool) → List Item → ℕ
count_of kind items = length (filter (λ (i : Item). kind i.what) items)

-- the items of each kind
abbrev pub tally : List Item → Counts
tally items = record {
  accepted = count_of is_accepted items;
  received = count_of is_received items;
  unread = count_of is_unread items;
  dropped = count_of is_dropped items;
  port0 = count_of is_port0 items;
  cancelled = count_of is_cancelled_item items;
}

-- the line of an item, where it was received
abbrev pub data_lines : What → List ℕ
data_lines (Received payload) = text_line (codes " data=" ∷ hex payload ∷ [])
data_lines _ = []

-- the pair of the first item, if there is one
abbrev pub first_pair : List Item → Option Group
first_pair [] = None
first_pair (i ∷ items) = Some (seen i.group)

-- the lines of a pair whose items these are
abbrev pub pair_lines : Group → List Item → List ℕ
pair_lines g items = pair_text g ++ (counts_line (tally items) ++ flat_map (λ (i : Item). data_lines i.what) items)

-- the pairs of the items that were accepted
abbrev pub accepted_pairs : List Item → List Group
accepted_pairs items = map (λ (i : Item). seen i.group) (filter (λ (i : Item). is_accepted i.what) items)

-- each item is of a pair that has an item that was accepted
abbrev pub AllOfAccepted : List Item → Type 0
AllOfAccepted items = All (λ (i : Item). list_any (is_same (seen i.group)) (accepted_pairs items) ≡ true) items

-- the items of a pair
abbrev pub of_pair : Group → List Item → List Item
of_pair g items = filter (is_of g) items

-- the lines of each pair that has an item that was accepted
abbrev pub groups_text : List Item → List ℕ
groups_text items = flat_map (λ g. pair_lines g (of_pair g items)) (ascending (accepted_pairs items))

-- the lines of the items of a pair, unless none of them was accepted
abbrev pub lines_of : Group → List Item → List ℕ
lines_of g items = if count_of is_accepted items == 0 then [] else pair_lines g items

-- the pairs of the accepted items are of hosts
abbrev pub AreKnown : List Item → Type 0
AreKnown items = (g : Group) → list_any (is_same g) (accepted_pairs items) ≡ true → IsAddress g.to × IsAddress g.from

-- no item is of a pair before this one
abbrev pub AreNotBefore : Group → List Item → Type 0
AreNotBefore g [] = ⊤
AreNotBefore g (i ∷ items) = (is_before (seen i.group) g ≡ false) × AreNotBefore g items

-- no item is of a pair before that of an item ahead of it
abbrev pub IsUp : List Item → Type 0
IsUp [] = ⊤
IsUp (i ∷ items) = AreNotBefore (seen i.group) items × IsUp items

-- the pairs to the host at an address that have a datagram that was accepted, and the part of the report on them
abbrev pub groups_to : List FinalHost → ℕ → List Group
groups_to hosts to = filter (λ (g : Group). g.to == to) (groups hosts)

abbrev pub part : List FinalHost → ℕ → List ℕ
part hosts to = flat_map (group_text hosts) (groups_to hosts to)

-- the parts on what went to the first n hosts
abbrev pub parts : List FinalHost → (n : ℕ) → List ℕ
parts hosts zero = []
parts hosts (suc n) = parts hosts n ++ part hosts (address_of n)

-- One more than `count` jobs print the parts, each that on the host of its number, and the last those on all hosts from there on: where the
-- parts of a job end
abbrev pub job_end : (count : ℕ) → (job : ℕ) → ℕ
job_end count job = if nat_lt job count then suc job else MAX_HOSTS
