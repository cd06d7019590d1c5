-- What a line keeps stays so where all freed bytes are counted.
use Rattle.std.proofs.Common.{◌≡◌, ℕ, ◌+◌, ◌<◌, ◌≤◌, inr, List, ◌++◌, length, sum, refl, sym, ap, subst, ◌∙◌, arith}
use Rattle.rds_model.specs.Legal.{IsLegal}
use Rattle.rds_model.specs.Sums.{maps, orders}
use Rattle.rds_model.specs.SumLaws.{same_list}
use Rattle.rds_meter.specs.Places.{part, freed_word, put_word}
use Rattle.rds_meter.specs.Seats.{MeterSeat}
use Rattle.rds_conn.specs.Connection.{Connection, freed_bytes_of}
use Rattle.rds_line_parts.specs.Counted.{IsCountedFor, IsFreedFor, IsPutFor}
use Rattle.rds_line_parts.specs.CountedLaws.{counted_for_steps, freed_for_relief, released_bound}
use Rattle.rds_line_parts.specs.Relief.{IsRelief}
use Rattle.rds_line_parts.specs.ReliefLaws.{relieved_others, read_after_relief}
use Rattle.rds_line_channel.specs.Channel.{ChannelView, with_conn}
use Rattle.rds_link.specs.Ends.{Means}
use Rattle.rds_line.specs.Acts.{Acts, Acted, acted, frees, nothing}
use Rattle.rds_line.specs.Keeps.{KeepsLine}
use Rattle.rds_line.specs.Line.{LineView, line_past}
use Rattle.rds_line.specs.Seats.{AreFoundSet, AreLooksFor}
use Rattle.rds_line.specs.Stays.{LineStays}
use Rattle.rds_line.proofs.Acting.{still_acts}
use Rattle.rds_line.proofs.Grounding.{found_still}
use Rattle.rds_line.proofs.Staying.{relief_stays}
use Rattle.rds_line.proofs.Same.{boxes_same, same_view}
use Rattle.rds_line.proofs.Storing.{relief_stores}

-- the words that count freed bytes have room for those that are held
pub room_to_relieve : (conn : Connection) (seat : MeterSeat) → IsLegal conn.log.past → length conn.log.past ≤ 4294967294 → IsFreedFor conn seat.view
    → (slot : ℕ) → slot < conn.slots → part (freed_word slot) seat.view.steps + freed_bytes_of slot conn ≤ 4503599627370496
room_to_relieve conn seat legal few freed slot small =
    let all = released_bound slot conn.log.past legal in
    let are = freed slot small in
    omega arith

module _ {E M : Type 0} (v : LineView E M) (channel : ChannelView E) (words : MeterSeat) (rest : channel ≡ with_conn v.channel (record v.channel.conn { freed = channel.conn.freed })) (relief : IsRelief v.channel.conn.freed v.words words) where
  acts_relieved : (a : Acted) → Acts a (acted v) → Acts a (acted (record v { channel = channel; words = words }))
  acts_relieved a acts =
      still_acts (line_past v) channel.conn.log.past (ap (λ (c : ChannelView E). c.conn.log.past) rest) a
      (record (acted v) { words = words }) refl (frees relief acts)

  pub keeps_relieved : (published : M → List (List ℕ)) → sum channel.conn.freed ≡ 0 → KeepsLine published v → KeepsLine published (record v { channel = channel; words = words })
  keeps_relieved published none k = record {
    taken = k.taken ∙ sym (ap (λ (c : ChannelView E). orders c.conn.log.past) rest);
    cuts = k.cuts ∙ sym (ap (λ (c : ChannelView E). length c.cuts.numbers) rest);
    put = subst (λ (c : ChannelView E). IsPutFor c.conn.peer c.conn.log.past v.boxes) (sym rest) k.put;
    counted =
        subst (λ (c : ChannelView E). IsCountedFor c.conn.log.past words.view) (sym rest)
        (counted_for_steps (line_past v) v.words.view words.view (λ slot small. relieved_others v.channel.conn.freed v.words words relief (put_word slot) (inr (omega arith)))
        (ap (λ (h : MeterSeat). h.view.checks) relief.seat) k.counted);
    freed = freed_for_relief v.channel.conn channel.conn v.words words (ap (λ (c : ChannelView E). c.conn) rest) none relief k.freed;
    maps = k.maps ∙ sym (ap (λ (c : ChannelView E). maps c.conn.log.past) rest);
    read = read_after_relief v.own v.channel.conn.freed v.words words relief k.read;
    boxes = k.boxes;
    few = k.few;
    slots = ap (λ (c : ChannelView E). c.conn.slots) rest ∙ k.slots;
    pulled =
        subst (λ (c : ChannelView E). AreFoundSet c.conn.log.past words.view.steps) (sym rest)
        (found_still (line_past v) v.words.view.steps words.view.steps (relief.steps, ap (λ (h : MeterSeat). h.view.steps) relief.seat) k.pulled);
    ported = subst (λ (c : ChannelView E). AreLooksFor v.ports.table.slots c.conn.log.past v.ports.view.steps) (sym rest) k.ported;
    stored = relief_stores relief k.stored;
    acts = (k.acts.0, k.acts.1, acts_relieved k.acts.0 k.acts.2);
  }

  pub stays_relieved : {Name : Type 0} (m : Means E) (pair : M → Name) → LineStays m pair v (record v { channel = channel; words = words })
  stays_relieved m pair = record {
    channel = relief_stays m v.channel channel rest;
    mail = refl;
    told = refl;
    joined = refl;
    got = same_list v.orders.got;
    boxes = boxes_same v.boxes;
    ports = refl;
    port_view = refl;
    looks = same_list v.ports.view.steps;
    always = λ telling was. was;
    words = ap (λ (h : MeterSeat). h.table) relief.seat;
    slot = ap (λ (h : MeterSeat). h.slot) relief.seat;
    meter_view = same_view v.words.view words.view v.words.view.checks (v.words.view.steps ++ relief.steps) (ap (λ (h : MeterSeat). h.view) relief.seat);
    steps = (relief.steps, ap (λ (h : MeterSeat). h.view.steps) relief.seat);
    acts = acts_relieved (acted v) nothing;
    map = refl;
  }
