-- What the steps of a call leave a socket with. This project's own.
use Rattle.std.specs.Prelude.{◌≡◌, ◌<◌, ◌≤◌, ◌-◌, ℕ, Bool, nat_lt, List, length, Some}
use Rattle.rds_model.specs.declared.order.Datagram.{Datagram}
use Rattle.rds_model.specs.declared.order.Order.TheVariants as order
use Rattle.rds_bindtab.specs.Seats.{knowing, after_release}
use Rattle.rds_meter.specs.Places.{freed_word}
use Rattle.rds_meter.specs.Seats.{after_load}
use Rattle.rds_mail.specs.Numbers.{Number}
use Rattle.rds_mail.specs.Passes.{Putter, after_get, after_note}
use Rattle.rds_socket_parts.specs.Words.{Purse, purse_with, after_clearing, IsReceipt}
use Rattle.rds_socket_parts.specs.Boxes.{Box}
use Rattle.rds_socket_parts.specs.Lanes.{Lane, ArePut}
use Rattle.rds_socket.specs.Holding.{Holding, Open, told_of}

-- the mailbox once a datagram was taken
abbrev pub after_taking_out : Box → Number → Datagram → Box
after_taking_out b number item = record { bell = b.bell; get = after_get b.get number item }

-- the mailbox once it was told of what a putter had put
abbrev pub after_hearing : Box → Putter Datagram → Box
after_hearing b note = record { bell = b.bell; get = after_note b.get note }

-- the words once a load has found so many bytes freed
abbrev pub after_freed : Purse → ℕ → Purse
after_freed p freed = purse_with p (after_load p.seat.view (freed_word p.slot) freed)

module _ {R : Type 0} where
  abbrev pub with_own : Open R → Holding R → Open R
  with_own o h = record { port = o.port; sndbuf = o.sndbuf; rcvbuf = o.rcvbuf; told = o.told; own = h }

  abbrev pub with_words : Holding R → Purse → Holding R
  with_words h words = record { ports = h.ports; words = words; inbox = h.inbox; routes = h.routes; total = h.total }

  abbrev pub with_inbox : Holding R → Box → Holding R
  with_inbox h inbox = record { ports = h.ports; words = h.words; inbox = inbox; routes = h.routes; total = h.total }

  abbrev pub with_routes : Holding R → List (Lane R) → Holding R
  with_routes h routes = record { ports = h.ports; words = h.words; inbox = h.inbox; routes = routes; total = h.total }

  abbrev pub with_total : Holding R → ℕ → Holding R
  with_total h total = record { ports = h.ports; words = h.words; inbox = h.inbox; routes = h.routes; total = total }

  -- the datagram was taken from the mailbox, and nothing else was done
  abbrev pub IsTakenOut : Datagram → Holding R → Holding R → Type 0
  IsTakenOut item old new = (number : Number) × (new ≡ with_inbox old (after_taking_out old.inbox number item))

  -- the answer is whether fewer bytes than the send buffer holds are in use, by what a load found freed
  abbrev pub FindsRoom : Open R → Bool → Open R → Type 0
  FindsRoom old answer new = (freed : ℕ) × (answer ≡ nat_lt (old.own.total - freed) old.sndbuf)
      × (new ≡ with_own old (with_words old.own (after_freed old.own.words freed)))

  -- the datagram was taken from the mailbox, and the steps of its receipt were made
  abbrev pub IsReceived : Datagram → Open R → Open R → Type 0
  IsReceived item old new = (number : Number) × (words : Purse) × IsReceipt old.port old.rcvbuf (length item.payload) old.own.words words
      × (new ≡ with_own old (with_words (with_inbox old.own (after_taking_out old.own.inbox number item)) words))

  -- peers were told from the first that hadn't been, up to this place
  abbrev pub PeersAreTold : ℕ → Open R → List (Lane R) → Type 0
  PeersAreTold upto old routes = (told_of old ≤ upto) × ArePut (told_of old) upto (order.CloseSocket old.own.words.slot) old.own.routes routes

  -- the slot once the socket's port was released, its bit lowered and the change counted
  abbrev pub after_releasing : Open R → ℕ → List (Lane R) → Holding R
  after_releasing old change routes = record {
    ports = knowing old.own.ports (after_release old.own.ports.view);
    words = purse_with old.own.words (after_clearing old.own.words.seat.view old.port change);
    inbox = old.own.inbox;
    routes = routes;
    total = old.own.total;
  }

  -- each peer was told, then the port was released, its bit lowered and the change counted
  abbrev pub IsClosed : Open R → Holding R → Type 0
  IsClosed old h = PeersAreTold (length old.own.routes) old h.routes × ((change : ℕ) × (h ≡ after_releasing old change h.routes))

  -- some peers were told, and nothing else was done
  abbrev pub IsClosing : Open R → Open R → Type 0
  IsClosing old new = (upto : ℕ) × (upto < length old.own.routes) × PeersAreTold upto old new.own.routes
      × (new ≡ record { port = old.port; sndbuf = old.sndbuf; rcvbuf = old.rcvbuf; told = Some upto; own = with_routes old.own new.own.routes })
