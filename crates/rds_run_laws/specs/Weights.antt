-- What a journal sums up to by a weight of datagrams, as 1 or their length: of what it accepted, of what it passed, and of what it was ordered to
-- send. Source: this project's own.
use Rattle.std.specs.Prelude.{◌≢◌, ℕ, zero, suc, ◌+◌, if◌then◌else◌, All, List, [], ◌∷◌, length}
use Rattle.rds_model.specs.declared.entry.Entry.{Entry}
use Rattle.rds_model.specs.declared.entry.Entry.TheVariants.{Accept, Read}
use Rattle.rds_model.specs.declared.order.Order.{Order}
use Rattle.rds_model.specs.declared.order.Order.TheVariants as order
use Rattle.rds_model.specs.Past.{passes}
use Rattle.rds_model.specs.Sums.{orders}
use Rattle.rds_host_end.specs.Joined.{orders_of}

-- a number of each datagram, by its ports and its payload
abbrev pub Weight : Type 0
Weight = (sport dport : ℕ) → List ℕ → ℕ

-- each counts once
abbrev pub by_one : (sport dport : ℕ) → List ℕ → ℕ
by_one sport dport payload = 1

-- each counts with its bytes
abbrev pub by_length : (sport dport : ℕ) → List ℕ → ℕ
by_length sport dport payload = length payload

-- of all datagrams that were accepted
abbrev pub accepted_sum : Weight → List Entry → ℕ
accepted_sum weight [] = 0
accepted_sum weight (Accept slot sport dport payload ∷ past) = accepted_sum weight past + weight sport dport payload
accepted_sum weight (_ ∷ past) = accepted_sum weight past

-- of all that were read and passed
abbrev pub passed_sum : Weight → List Entry → ℕ
passed_sum weight [] = 0
passed_sum weight (Read stream frame outcome ∷ past) =
    if passes outcome then passed_sum weight past + weight frame.header.sport frame.header.dport frame.payload else passed_sum weight past
passed_sum weight (_ ∷ past) = passed_sum weight past

-- of all orders that send a datagram
abbrev pub orders_sum : Weight → List Order → ℕ
orders_sum weight [] = 0
orders_sum weight (order.Send slot sport dport payload ∷ list) = weight sport dport payload + orders_sum weight list
orders_sum weight (_ ∷ list) = orders_sum weight list

-- the order sends a datagram to a port other than 0
abbrev pub SendsToPort : Order → Type 0
SendsToPort (order.Send slot sport dport payload) = dport ≢ 0
SendsToPort _ = ⊥

-- nothing was taken back, and no socket sent to port 0
abbrev pub OnlySends : List Entry → Type 0
OnlySends past = All SendsToPort (orders past)

-- of the orders of the slots below this number that stand in a journal
abbrev pub slots_sum : Weight → (slots : ℕ) → List Entry → ℕ
slots_sum weight zero past = 0
slots_sum weight (suc slots) past = slots_sum weight slots past + orders_sum weight (orders_of slots past)
