-- What a mailbox gave is kept, and what no call on a slot changes.
use Rattle.std.proofs.Common.{◌≡◌, List, [], ◌∷◌, ◌++◌, refl, sym, ap, ◌∙◌, append_assoc}
use Rattle.rds_model.specs.declared.order.Datagram.{Datagram}
use Rattle.rds_mail.specs.Numbers.{Number, Numbered, bare_items}
use Rattle.rds_mail.specs.Passes.{Getter, after_get}
use Rattle.rds_fmap.specs.Readers.{ReaderView, HasSeen}
use Rattle.rds_socket_parts.specs.ChangeLaws.{stay_same, stay_on}
use Rattle.rds_socket.specs.Holding.{Holding}
use Rattle.rds_socket.specs.Calls.{with_inbox, after_taking_out}
use Rattle.rds_socket.specs.Stays.{HoldingStays}
use Rattle.rds_run_callers.specs.Places.{PlaceKeeps}
use Rattle.rds_run_callers.specs.Ends.{IsEndOf}
use Rattle.rds_run_callers.specs.StoringLaws.{stores_same, stores_then}

items-append : (xs ys : List (Numbered Datagram)) → bare_items (xs ++ ys) ≡ bare_items xs ++ bare_items ys
items-append [] ys = refl
items-append (e ∷ xs) ys = ap (λ l. e.1 ∷ l) (items-append xs ys)

-- one more was got and kept
pub kept_more : (got new : List Datagram) (get after : Getter Datagram) (number : Number) (item : Datagram)
    → got ≡ bare_items get.got → new ≡ got ++ item ∷ [] → after ≡ after_get get number item → new ≡ bare_items after.got
kept_more got new get after number item kept more taken =
    more ∙ (ap (λ l. l ++ item ∷ []) kept ∙ (sym (items-append get.got ((number, item) ∷ [])) ∙ ap (λ (g : Getter Datagram). bare_items g.got) (sym taken)))

pub keeps_same : (h : Holding ReaderView) → PlaceKeeps h h
keeps_same h = record {
  stays = record { slot = refl; table = refl; meter = refl; seats = refl; bell = refl; mail = refl; routes = stay_same (λ (r : ReaderView). r.pair) HasSeen h.routes };
  joined = refl;
  told = refl;
}

pub keeps_then : (a b c : Holding ReaderView) → PlaceKeeps a b → PlaceKeeps b c → PlaceKeeps a c
keeps_then a b c x y = record {
  stays = record {
    slot = y.stays.slot ∙ x.stays.slot;
    table = y.stays.table ∙ x.stays.table;
    meter = y.stays.meter ∙ x.stays.meter;
    seats = y.stays.seats ∙ x.stays.seats;
    bell = y.stays.bell ∙ x.stays.bell;
    mail = y.stays.mail ∙ x.stays.mail;
    routes = stay_on (λ (r : ReaderView). r.pair) HasSeen a.routes b.routes c.routes x.stays.routes y.stays.routes;
  };
  joined = y.joined ∙ x.joined;
  told = y.told ∙ x.told;
}

pub ends_same : (h : Holding ReaderView) → IsEndOf h h
ends_same h = record { keeps = keeps_same h; routes = refl; ports = refl; stored = stores_same h h refl }

pub ends_then : (a b c : Holding ReaderView) → IsEndOf a b → IsEndOf b c → IsEndOf a c
ends_then a b c x y = record { keeps = keeps_then a b c x.keeps y.keeps; routes = y.routes ∙ x.routes; ports = y.ports ∙ x.ports; stored = stores_then a b c x.stored y.stored }

-- one more was taken out and listed
pub taken_more : (base list new : List Datagram) (get after : Getter Datagram) (number : Number) (item : Datagram)
    → bare_items get.got ≡ base ++ list → new ≡ list ++ item ∷ [] → after ≡ after_get get number item → bare_items after.got ≡ base ++ new
taken_more base list new get after number item kept more taken =
    ap (λ (g : Getter Datagram). bare_items g.got) taken ∙ (items-append get.got ((number, item) ∷ []) ∙ (ap (λ l. l ++ item ∷ []) kept ∙ (append_assoc base list (item ∷ []) ∙ ap (λ l. base ++ l) (sym more))))

-- a slot from whose mailbox an item was taken
pub taken_end : (old new : Holding ReaderView) (number : Number) (item : Datagram) → HoldingStays (λ (r : ReaderView). r.pair) HasSeen old new
    → new ≡ with_inbox old (after_taking_out old.inbox number item) → IsEndOf old new
taken_end old new number item stays is = record {
  keeps = record { stays = stays; joined = ap (λ (h : Holding ReaderView). h.inbox.get.joined) is; told = ap (λ (h : Holding ReaderView). h.inbox.get.told) is };
  routes = ap (λ (h : Holding ReaderView). h.routes) is;
  ports = ap (λ (h : Holding ReaderView). h.ports) is;
  stored = stores_same old new (ap (λ (h : Holding ReaderView). h.words) is);
}
