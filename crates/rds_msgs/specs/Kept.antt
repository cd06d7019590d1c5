-- What every store keeps: a message for each index, the indexes on two lists, and a mark. Source: this project's own.
use Rattle.std.specs.Prelude.{◌≡◌, ◌⊎◌, ℕ, suc, ◌+◌, ◌≤◌, ◌<◌, ◌==◌, min, Bool, cond, false, Option, Some, None, List, [], ◌∷◌, length, map, get_or}
use Rattle.std.specs.List.{AllByRecursion}
use Rattle.std.specs.Option.{IfSome}
use Rattle.rds_model.specs.declared.entry.Msg.{Msg}
use Rattle.rds_model.specs.declared.entry.TheConstants.{NO_SLOT}
use Rattle.rds_msgs_lists.specs.Lists.{Place, ListsView, IsOn, IsDistinct}
use Rattle.rds_msgs.specs.declared.store.TheConstants.{MAX_MESSAGES}
use Rattle.rds_msgs.specs.Messages.{StoreView, IsAscending}

-- the message of an index that has none
abbrev pub no_message : Msg
no_message = record { num = 0; place = 0; slot = 0; dport = 0; len = 0 }

-- the message at a place
abbrev pub message_at : List Msg → Place → Msg
message_at items p = get_or items p.index no_message

-- the messages at places
abbrev pub messages_at : List Msg → List Place → List Msg
messages_at items places = map (message_at items) places

-- the mark is at an index
abbrev pub is_at : Option ℕ → ℕ → Bool
is_at None k = false
is_at (Some j) k = k == j

-- how many places stand before the mark, and all where there is none
abbrev pub count_before : Option ℕ → List Place → ℕ
count_before mark [] = 0
count_before mark (p ∷ rest) = cond (is_at mark p.index) 0 (suc (count_before mark rest))

-- the mark after an index leaves, behind which `next` stands
abbrev pub mark_without : ℕ → Option ℕ → Option ℕ → Option ℕ
mark_without k next mark = cond (is_at mark k) next mark

-- the mark after an index comes
abbrev pub mark_with : ℕ → Option ℕ → Option ℕ
mark_with k None = Some k
mark_with k (Some j) = Some j

-- what contracts see
abbrev pub seen : ListsView → List Msg → Option ℕ → ℕ → StoreView
seen lists items mark slots = record {
  messages = messages_at items lists.places;
  mark = count_before mark lists.places;
  spare = lists.spare;
  slots = slots;
}

-- a slot may have messages: it is a socket's, or that of pongs
abbrev pub HasSlot : ℕ → ℕ → Type 0
HasSlot slots slot = (slot < slots) ⊎ (slot ≡ NO_SLOT)

-- a place is on the list of its message's slot
abbrev pub IsListed : List Msg → ℕ → Place → Type 0
IsListed items slots p = (p.socket ≡ min (message_at items p).slot slots) × HasSlot slots (message_at items p).slot

-- What the parts of every store keep. There is a list for each slot and one for pongs.
pub record IsKept (lists : ListsView) (items : List Msg) (mark : Option ℕ) (slots : ℕ) : Type 0 where
  pub ascending : IsAscending (messages_at items lists.places)
  pub marked : IfSome mark (IsOn lists.places)
  pub distinct : IsDistinct lists.places
  pub within : (k : ℕ) → IsOn lists.places k → k < length items
  pub few : length lists.places ≤ MAX_MESSAGES
  pub held : length items ≡ lists.made
  pub sockets : lists.sockets ≡ slots + 1
  pub listed : AllByRecursion (IsListed items slots) lists.places

-- What every store keeps, with room for `capacity` messages in all.
pub record IsStore (lists : ListsView) (items : List Msg) (mark : Option ℕ) (slots capacity : ℕ) : Type 0 where
  pub kept : IsKept lists items mark slots
  pub room : length lists.places + lists.spare ≤ capacity
