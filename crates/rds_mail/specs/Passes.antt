-- What contracts see of a mailbox and of its passes. This project's own.
use Rattle.std.specs.Prelude.{ℕ, ◌+◌, ◌-◌, ◌^◌, min, List, [], ◌∷◌, ◌++◌, Option}
use Rattle.std.specs.Global.{Global}
use Rattle.atomic_blocks.specs.declared.web.Seat.{Seat}
use Rattle.crossbeam_queue.specs.SegTies.{SegId}
use Rattle.crossbeam_queue.specs.declared.seg_queue.Going.{Going}
use Rattle.rds_mail.specs.declared.view.View.{View}
use Rattle.rds_mail.specs.declared.view.Account.{Account}
use Rattle.rds_mail.specs.Numbers.{Number, Numbered}
use Rattle.rds_mail.specs.Views as view

-- which queue it is
abbrev pub QueueId : Type 0
QueueId = SegId Global

-- a mailbox is its queue and the name of its bell's source
pub record Mailbox : Type 0 where
  pub line : QueueId
  pub bell : ℕ

-- a putter of a queue, or a note of one
pub record Putter (T : Type 0) : Type 0 where
  pub mail : QueueId
  pub number : Number
  pub splits : ℕ
  pub put : List T

-- the getter of a queue, and how many of its counted gets have found the queue empty
pub record Getter (T : Type 0) : Type 0 where
  pub mail : QueueId
  pub got : List (Numbered T)
  pub told : List (Account T)
  pub joined : List (Account T)
  pub empties : ℕ

-- one more, which goes no further than the last value of a u64
abbrev pub next_empty : ℕ → ℕ
next_empty empties = min (empties + 1) (2 ^ 64 - 1)

-- a pass of the queue itself
abbrev pub Pass : Type 0 → Type 0
Pass T = Seat (Option T) (Going T (View T)) Global

module _ {T : Type 0} where
  abbrev pub queue_of : Pass T → QueueId
  queue_of p = record { web = p.web; heap = p.heap }

  abbrev pub putter_of : QueueId → Account T → Putter T
  putter_of mail a = record { mail = mail; number = a.number; splits = a.splits; put = a.put }

  abbrev pub getter_of : QueueId → View T → ℕ → Getter T
  getter_of mail v empties = record { mail = mail; got = v.got; told = v.told; joined = v.joined; empties = empties }

  abbrev pub putter : Pass T → Putter T
  putter p = putter_of (queue_of p) p.me.view.client.account

  abbrev pub getter : Pass T → ℕ → Getter T
  getter p empties = getter_of (queue_of p) p.me.view.client empties

  abbrev pub account_of : Putter T → Account T
  account_of p = record { number = p.number; splits = p.splits; put = p.put }

  -- the first putter of a new mailbox
  abbrev pub first_putter : QueueId → Putter T
  first_putter mail = putter_of mail (view.fresh [])

  -- the getter of a new mailbox
  abbrev pub first_getter : QueueId → Getter T
  first_getter mail = record { mail = mail; got = []; told = []; joined = []; empties = 0 }

  abbrev pub after_put : Putter T → T → Putter T
  after_put p item = record p { put = p.put ++ item ∷ [] }

  abbrev pub after_get : Getter T → Number → T → Getter T
  after_get g number item = record g { got = g.got ++ (number, item) ∷ [] }

  -- the getter once one more counted get found the queue empty
  abbrev pub after_none : Getter T → Getter T
  after_none g = record g { empties = next_empty g.empties }

  -- a putter once one more was split off
  abbrev pub split_from : Putter T → Putter T
  split_from p = putter_of p.mail (view.split_once (account_of p))

  -- the putter that was split off
  abbrev pub new_from : Putter T → Putter T
  new_from p = putter_of p.mail (view.fresh (view.next_number (account_of p)))

  abbrev pub after_note : Getter T → Putter T → Getter T
  after_note g note = record g { told = g.told ++ account_of note ∷ [] }

  abbrev pub with_joined : Getter T → List (Account T) → Getter T
  with_joined g puts = record g { joined = g.joined ++ puts }

  abbrev pub after_join : Getter T → Putter T → Getter T
  after_join g put = with_joined g (account_of put ∷ [])
