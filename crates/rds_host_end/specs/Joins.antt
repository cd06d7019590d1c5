-- What passes that were joined show of a line's order queue and of a slot's mailbox. This project's own.
use Rattle.std.specs.Prelude.{◌≡◌, ℕ, List, All, Option, Some, None}
use Rattle.rds_seats.specs.Views.{Has, Each}
use Rattle.rds_model.specs.declared.order.Order.{Order}
use Rattle.rds_model.specs.declared.order.Order.TheVariants as order
use Rattle.rds_model.specs.declared.order.Datagram.{Datagram}
use Rattle.rds_mail.specs.declared.view.Account.{Account}
use Rattle.rds_mail.specs.Numbers.{Number, Numbered, bare_items}
use Rattle.rds_mail.specs.Merging.{by_key}

-- the slot of an order, which a cut has not
abbrev pub slot_of_order : Order → Option ℕ
slot_of_order (order.Send slot sport dport payload) = Some slot
slot_of_order (order.Cancel slot dport) = Some slot
slot_of_order (order.CloseSocket slot) = Some slot
slot_of_order order.Cut = None

-- the host that sent a datagram
abbrev pub sender_in : Datagram → Option ℕ
sender_in item = Some item.from

-- the datagram is of this host
abbrev pub IsFrom : ℕ → Datagram → Type 0
IsFrom host item = item.from ≡ host

module _ {T : Type 0} where
  -- each putter has put only items of its own mark, by this relation, and no two putters have one mark
  pub record AreMarked (Own : ℕ → T → Type 0) (mark : Number → ℕ) (puts : List (Account T)) : Type 0 where
    pub own : Each puts (λ a. All (Own (mark a.number)) a.put)
    pub apart : Each puts (λ a. Each puts (λ b. mark a.number ≡ mark b.number → a.number ≡ b.number))

  -- the getter was told of all that each putter has put
  abbrev pub PutsAreTold : List (Account T) → List (Account T) → Type 0
  PutsAreTold told puts = Each puts (λ a. Has told (λ t. (t.number ≡ a.number) × (t.put ≡ a.put)))

  -- what was got with each putter's mark is what it put with that mark
  abbrev pub KeysAre : (T → Option ℕ) → (Number → ℕ) → List (Numbered T) → List (Account T) → Type 0
  KeysAre key mark got puts = Each puts (λ a. by_key key (mark a.number) (bare_items got) ≡ by_key key (mark a.number) a.put)
