-- What a line keeps holds of one on which nothing has happened.
use Rattle.std.proofs.Common.{◌≡◌, ℕ, ◌<◌, ◌≤◌, All, List, [], get_or, Some, None, length, refl, sym, ap, subst, ◌∙◌, arith}
use Rattle.std.proofs.lemmas.List.{get_or-replicate}
use Rattle.std.proofs.lemmas.Option.{slice_get_within, get_or_from_slice_get}
use Rattle.rds_model.specs.declared.entry.TheConstants.{MAX_SLOTS}
use Rattle.rds_model.specs.declared.order.Datagram.{Datagram}
use Rattle.rds_model.specs.declared.order.Order.{Order}
use Rattle.rds_model.specs.Deliveries.{delivered_datagrams, put_bytes}
use Rattle.rds_model.specs.Sums.{maps, orders}
use Rattle.rds_mail.specs.Numbers.{Numbered, bare_items}
use Rattle.rds_mail.specs.Passes.{Getter, Putter}
use Rattle.rds_bindtab.specs.Seats.{PortSeat}
use Rattle.rds_meter.specs.Places.{freed_word, put_word, part}
use Rattle.rds_meter.specs.Seats.{MeterSeat}
use Rattle.rds_conn.specs.Connection.{freed_bytes_of}
use Rattle.rds_conn.specs.Released.{released_bytes}
use Rattle.rds_line_parts.specs.Counted.{AreChecksOf, IsFreedFor}
use Rattle.rds_line_parts.specs.Own.{Own}
use Rattle.rds_line_channel.specs.Channel.{ChannelView, new_channel}
use Rattle.rds_line.specs.Acts.{acted, nothing}
use Rattle.rds_line.specs.Keeps.{KeepsLine, uncut, cuts_among}
use Rattle.rds_line.specs.Line.{LineView}
use Rattle.rds_line.specs.Seats.{AreFoundSet, AreLooksFor, StoresNothing}
use Rattle.rds_line.proofs.Grounding.{found_none}
use Rattle.rds_line.proofs.PortLooks.{looks_none}
use Rattle.rds_line.proofs.Storing.{stores_none}

module _ {E M : Type 0} (published : M → List (List ℕ)) (me peer slots limit : ℕ) (streams : List (ℕ × E)) (v : LineView E M) (is : v.channel ≡ new_channel me peer slots limit streams) where
  nothing_put : All (λ (box : Putter Datagram). box.put ≡ []) v.boxes → (slot : ℕ) (box : Putter Datagram) → Some box ≡ Some box → slot < length v.boxes → get_or v.boxes slot box ≡ box → box.put ≡ []
  nothing_put all slot box at small there = subst (λ (b : Putter Datagram). b.put ≡ []) there (all slot box small)

  freed_at_first : v.words.view.steps ≡ [] → IsFreedFor v.channel.conn v.words.view
  freed_at_first steps slot small =
      let inside : slot < slots = subst (λ (c : ChannelView E). slot < c.conn.slots) is small in
      let held : freed_bytes_of slot v.channel.conn ≡ 0 = ap (λ (c : ChannelView E). freed_bytes_of slot c.conn) is ∙ get_or-replicate slots slot 0 0 inside in
      let none : part (freed_word slot) v.words.view.steps ≡ 0 = ap (part (freed_word slot)) steps in
      let released : released_bytes slot v.channel.conn.log.past ≡ 0 = ap (λ (c : ChannelView E). released_bytes slot c.conn.log.past) is in
      omega arith

  pub keeps_at_first : slots ≡ MAX_SLOTS → v.orders.got ≡ [] → All (λ (box : Putter Datagram). box.put ≡ []) v.boxes → length v.boxes ≡ v.ports.table.slots → v.ports.table.slots ≤ MAX_SLOTS
      → v.ports.view.steps ≡ [] → v.words.view.steps ≡ [] → v.words.view.checks ≡ [] → published v.map ≡ [] → v.own.change ≡ None → KeepsLine published v
  keeps_at_first all_slots got put boxes few looks steps checks maps_none unread = record {
    taken = ap (λ (l : List (Numbered Order)). uncut (bare_items l)) got ∙ sym (ap (λ (c : ChannelView E). orders c.conn.log.past) is);
    cuts = ap (λ (l : List (Numbered Order)). cuts_among (bare_items l)) got ∙ sym (ap (λ (c : ChannelView E). length c.cuts.numbers) is);
    put = λ slot box at.
        nothing_put put slot box refl (slice_get_within v.boxes slot box at) (get_or_from_slice_get v.boxes slot box box at)
        ∙ sym (ap (λ (c : ChannelView E). delivered_datagrams c.conn.peer slot c.conn.log.past) is);
    counted = record {
      put = λ slot small. ap (part (put_word slot)) steps ∙ sym (ap (λ (c : ChannelView E). put_bytes slot c.conn.log.past) is);
      checks = subst (λ (c : ChannelView E). AreChecksOf c.conn.log.past v.words.view.checks) (sym is) checks;
    };
    freed = freed_at_first steps;
    maps = maps_none ∙ sym (ap (λ (c : ChannelView E). maps c.conn.log.past) is);
    read = λ number change i small. absurd (none_some (sym unread ∙ change));
    boxes = boxes;
    few = few;
    slots = ap (λ (c : ChannelView E). c.conn.slots) is ∙ all_slots;
    pulled = subst (λ (c : ChannelView E). AreFoundSet c.conn.log.past v.words.view.steps) (sym is) (found_none v.words.view.steps);
    ported =
        subst (λ (c : ChannelView E). AreLooksFor v.ports.table.slots c.conn.log.past v.ports.view.steps) (sym is)
        (subst (AreLooksFor v.ports.table.slots []) (sym looks) looks_none);
    stored = subst StoresNothing (sym steps) stores_none;
    acts = (
      acted v,
      record { past = ap (λ (c : ChannelView E). c.conn.log.past) is; looks = looks; steps = steps; checks = checks; unread = unread },
      nothing,
    );
  }
    where
      none_some : {n : ℕ} → None ≡ Some n → ⊥
      none_some e = absurd (cc)

-- two views are one where each part is
pub same_line : {E M : Type 0} {a b : LineView E M} → a.channel ≡ b.channel → a.orders ≡ b.orders → a.boxes ≡ b.boxes → a.ports ≡ b.ports → a.words ≡ b.words → a.own ≡ b.own → a.map ≡ b.map → a ≡ b
same_line {E} {M} {a} {b} channel orders boxes ports words own map =
    ap (λ (x : ChannelView E). record a { channel = x }) channel
    ∙ (ap (λ (x : Getter Order). record a { channel = b.channel; orders = x }) orders
    ∙ (ap (λ (x : List (Putter Datagram)). record a { channel = b.channel; orders = b.orders; boxes = x }) boxes
    ∙ (ap (λ (x : PortSeat). record b { ports = x; words = a.words; own = a.own; map = a.map }) ports
    ∙ (ap (λ (x : MeterSeat). record b { words = x; own = a.own; map = a.map }) words
    ∙ (ap (λ (x : Own). record b { own = x; map = a.map }) own
    ∙ ap (λ (x : M). record b { map = x }) map)))))
