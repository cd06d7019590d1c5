-- A datagram was taken from the mailbox.
use Rattle.std.proofs.Common.{◌≡◌, ℕ, length, refl, ap, subst}
use Rattle.rds_model.specs.declared.order.Datagram.{Datagram}
use Rattle.rds_mail.specs.Numbers.{Number}
use Rattle.rds_socket_parts.specs.Words.{Purse, IsReceipt}
use Rattle.rds_socket_parts.specs.Boxes.{Box}
use Rattle.rds_socket_parts.specs.ChangeLaws.{stay_same}
use Rattle.rds_fmap.specs.declared.seen.Seen.{Seen}
use Rattle.rds_socket.specs.Holding.{Open, IsOpen}
use Rattle.rds_socket.specs.Calls.{with_own, after_taking_out, IsReceived}
use Rattle.rds_socket.specs.Stays.{Stays}
use Rattle.rds_socket.proofs.Quiet.{quiet_receipt, seats_receipt}
use Rattle.rds_socket.proofs.Kept.{moved, open_on}
use Rattle.rds_socket.proofs.Staying.{stays_all}

module _ {R : Type 0} (v : Open R) (inbox : Box) (words : Purse) (n : ℕ) (receipt : IsReceipt v.port v.rcvbuf n v.own.words words) where
  abbrev now : Open R
  now = with_own v (moved v.own words inbox v.own.routes v.own.total)

  pub received_open : IsOpen v → IsOpen now
  received_open k = open_on v words _ inbox v.own.routes v.own.total receipt.4 (quiet_receipt v.own.words.slot v.own.words.seat.view v.port v.rcvbuf n receipt.0 receipt.1 receipt.2 receipt.3 k.held.quiet) k.held.orders refl k.held.total k

  pub received_is : (z : Open R) (number : Number) (item : Datagram) → v ≡ z → n ≡ length item.payload → inbox ≡ after_taking_out v.own.inbox number item → IsReceived item z now
  received_is z number item view_is len is =
      subst (λ (o : Open R). IsReceived item o now) view_is
      (number, words, subst (λ m. IsReceipt v.port v.rcvbuf m v.own.words words) len receipt, ap (λ (b : Box). with_own v (moved v.own words b v.own.routes v.own.total)) is)

  pub received_stays : {P : Type 0} (pair : R → P) (looked : R → ℕ → Seen → Type 0) (z : Open R) (number : Number) (item : Datagram) → v ≡ z → inbox ≡ after_taking_out v.own.inbox number item → Stays pair looked z now
  received_stays pair looked z number item view_is is =
      stays_all pair looked v z words _ inbox v.own.routes v.own.total view_is receipt.4 (seats_receipt v.own.words.slot v.own.words.seat.view v.port v.rcvbuf n receipt.0 receipt.1 receipt.2 receipt.3) (ap (λ (b : Box). b.bell) is) (ap (λ (b : Box). b.get.mail) is) (stay_same pair looked v.own.routes)
