-- What no call changes.
use Rattle.std.proofs.Common.{◌≡◌, ℕ, List, Option, Some, None, IfSome, IfNone, refl, ap, subst, ◌∙◌}
use Rattle.rds_meter.specs.declared.view.View.{View}
use Rattle.rds_meter.specs.Grounds.{seats_of}
use Rattle.rds_model.specs.declared.order.Datagram.{Datagram}
use Rattle.rds_mail.specs.Numbers.{Number}
use Rattle.rds_fmap.specs.declared.seen.Seen.{Seen}
use Rattle.rds_socket_parts.specs.Words.{Purse, purse_with}
use Rattle.rds_socket_parts.specs.Boxes.{Box}
use Rattle.rds_socket_parts.specs.Lanes.{Lane, RoutesStay}
use Rattle.rds_socket_parts.specs.ChangeLaws.{stay_same, stay_on}
use Rattle.rds_socket.specs.Holding.{Holding, Open}
use Rattle.rds_socket.specs.Calls.{with_own, after_taking_out}
use Rattle.rds_socket.specs.Stays.{HoldingStays, Stays}
use Rattle.rds_socket.proofs.Kept.{moved}

module _ {R P : Type 0} (pair : R → P) (looked : R → ℕ → Seen → Type 0) where
  holds_on : (h : Holding R) (words : Purse) (w : View) (inbox : Box) (routes : List (Lane R)) (total : ℕ) → words ≡ purse_with h.words w → seats_of w ≡ seats_of h.words.seat.view → inbox.bell ≡ h.inbox.bell → inbox.get.mail ≡ h.inbox.get.mail
      → RoutesStay pair looked h.routes routes → HoldingStays pair looked h (moved h words inbox routes total)
  holds_on h words w inbox routes total is seats bell mail stay = record {
    slot = ap (λ (p : Purse). p.slot) is;
    table = refl;
    meter = ap (λ (p : Purse). p.seat.table) is;
    seats = ap (λ (p : Purse). seats_of p.seat.view) is ∙ seats;
    bell = bell;
    mail = mail;
    routes = stay;
  }

  stays_on : (v z : Open R) (words : Purse) (w : View) (inbox : Box) (routes : List (Lane R)) (total : ℕ) → v ≡ z → words ≡ purse_with v.own.words w → seats_of w ≡ seats_of v.own.words.seat.view → inbox.bell ≡ v.own.inbox.bell → inbox.get.mail ≡ v.own.inbox.get.mail
      → RoutesStay pair looked v.own.routes routes → Stays pair looked z (with_own v (moved v.own words inbox routes total))
  stays_on v z words w inbox routes total view_is is seats bell mail stay =
      subst (λ (o : Open R). Stays pair looked o (with_own v (moved v.own words inbox routes total))) view_is
      (record { port = refl; sndbuf = refl; rcvbuf = refl; told = refl; own = holds_on v.own words w inbox routes total is seats bell mail stay })

  pub stays_all : (v z : Open R) (words : Purse) (w : View) (inbox : Box) (routes : List (Lane R)) (total : ℕ) → v ≡ z → words ≡ purse_with v.own.words w → seats_of w ≡ seats_of v.own.words.seat.view → inbox.bell ≡ v.own.inbox.bell → inbox.get.mail ≡ v.own.inbox.get.mail
      → RoutesStay pair looked v.own.routes routes → Stays pair looked z (with_own v (moved v.own words inbox routes total))
  stays_all = stays_on

  pub stays_routes : (v z : Open R) (routes : List (Lane R)) → v ≡ z → RoutesStay pair looked v.own.routes routes → Stays pair looked z (with_own v (moved v.own v.own.words v.own.inbox routes v.own.total))
  stays_routes v z routes view_is stay = stays_on v z v.own.words v.own.words.seat.view v.own.inbox routes v.own.total view_is refl refl refl refl stay

  pub stays_words : (v z : Open R) (words : Purse) (w : View) → v ≡ z → words ≡ purse_with v.own.words w → seats_of w ≡ seats_of v.own.words.seat.view → Stays pair looked z (with_own v (moved v.own words v.own.inbox v.own.routes v.own.total))
  stays_words v z words w view_is is seats = stays_on v z words w v.own.inbox v.own.routes v.own.total view_is is seats refl refl (stay_same pair looked v.own.routes)

  pub stays_inbox : (v z : Open R) (inbox : Box) → v ≡ z → inbox.bell ≡ v.own.inbox.bell → inbox.get.mail ≡ v.own.inbox.get.mail → Stays pair looked z (with_own v (moved v.own v.own.words inbox v.own.routes v.own.total))
  stays_inbox v z inbox view_is bell mail = stays_on v z v.own.words v.own.words.seat.view inbox v.own.routes v.own.total view_is refl refl bell mail (stay_same pair looked v.own.routes)

  -- one call after another
  pub stays_then : (a b c : Open R) → Stays pair looked a b → Stays pair looked b c → Stays pair looked a c
  stays_then a b c x y = record {
    port = y.port ∙ x.port;
    sndbuf = y.sndbuf ∙ x.sndbuf;
    rcvbuf = y.rcvbuf ∙ x.rcvbuf;
    told = y.told ∙ x.told;
    own = record {
      slot = y.own.slot ∙ x.own.slot;
      table = y.own.table ∙ x.own.table;
      meter = y.own.meter ∙ x.own.meter;
      seats = y.own.seats ∙ x.own.seats;
      bell = y.own.bell ∙ x.own.bell;
      mail = y.own.mail ∙ x.own.mail;
      routes = stay_on pair looked a.own.routes b.own.routes c.own.routes x.own.routes y.own.routes;
    };
  }

  pub stays_same : (o : Open R) → Stays pair looked o o
  stays_same o = stays_routes o o o.own.routes refl (stay_same pair looked o.own.routes)

  pub holds_routes : (v z : Holding R) (routes : List (Lane R)) → v ≡ z → RoutesStay pair looked v.routes routes → HoldingStays pair looked z (moved v v.words v.inbox routes v.total)
  holds_routes v z routes view_is stay =
      subst (λ (o : Holding R). HoldingStays pair looked o (moved v v.words v.inbox routes v.total)) view_is (holds_on v v.words v.words.seat.view v.inbox routes v.total refl refl refl refl stay)

  pub holds_inbox : (v z : Holding R) (inbox : Box) → v ≡ z → inbox.bell ≡ v.inbox.bell → inbox.get.mail ≡ v.inbox.get.mail → HoldingStays pair looked z (moved v v.words inbox v.routes v.total)
  holds_inbox v z inbox view_is bell mail =
      subst (λ (o : Holding R). HoldingStays pair looked o (moved v v.words inbox v.routes v.total)) view_is (holds_on v v.words v.words.seat.view inbox v.routes v.total refl refl bell mail (stay_same pair looked v.routes))

-- a mailbox from which an item was taken, or none, has its bell and its queue
pub got_bell : (r : Option Datagram) (old new : Box) → IfSome r (λ item. (number : Number) × (new ≡ after_taking_out old number item)) → IfNone r (new ≡ old) → (new.bell ≡ old.bell) × (new.get.mail ≡ old.get.mail)
got_bell (Some item) old new got none = (ap (λ (b : Box). b.bell) got.1, ap (λ (b : Box). b.get.mail) got.1)
got_bell None old new got none = (ap (λ (b : Box). b.bell) none, ap (λ (b : Box). b.get.mail) none)
