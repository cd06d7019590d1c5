-- The mailboxes of a host's slots, as one line puts into them. Source: this project's own.
use Rattle.std.specs.Prelude.{◌≡◌, ℕ, List, Some, slice_get, slice_set}
use Rattle.rds_model.specs.declared.order.Datagram.{Datagram}
use Rattle.rds_mail.specs.Passes.{Putter, after_put}

-- this is the line's putter at the mailbox of the slot
abbrev pub IsBoxOf : List (Putter Datagram) → ℕ → Putter Datagram → Type 0
IsBoxOf boxes slot box = slice_get boxes slot ≡ Some box

-- the datagram was put into the mailbox of this slot, and into no other
abbrev pub IsPutInto : ℕ → Datagram → List (Putter Datagram) → List (Putter Datagram) → Type 0
IsPutInto slot item old new = (box : Putter Datagram) × IsBoxOf old slot box × (new ≡ slice_set old slot (after_put box item))
