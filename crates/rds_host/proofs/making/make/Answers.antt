use Rattle.std.proofs.Common.{◌≡◌, ℕ, List, Vec, [], All, Some, length, map, slice_get, sym, ap, subst, ◌∙◌, arith}
use Rattle.std.specs.Arc.{arc_value}
use Rattle.std.specs.Global.{Global}
use Rattle.std.proofs.lemmas.List.{length-map}
use Rattle.rds_seats.specs.Views.{Table}
use Rattle.rds_model.specs.declared.order.Datagram.{Datagram}
use Rattle.rds_model.specs.declared.order.Order.{Order}
use Rattle.rds_mail.specs.Passes.{Getter, Putter}
use Rattle.rds_fmap.specs.Readers.{ReaderView}
use Rattle.rds_socket_parts.specs.Lanes.{Ascend}
use Rattle.rds_socket.specs.Holding.{Holding}
use Rattle.rds_host.specs.Ties.{AreColumnsFilled, AreLinesOf, ColumnView, IsSlotOf, inbox_of, peers_to, ways_of}
use Rattle.rds_host.proofs.Columns.{filled_boxes, lanes_peers}
use Rattle.rds_host.proofs.Pushing.{all_at, count_of, same_count, written_back}
use Rattle.rds_host.proofs.ColumnLines.{new_lines, all_passes, of_host}
use Rattle.rds_host.proofs.making.make.Goals as goal

pub vacants-requires-clause-filled : goal.vacants-requires-clause-filled
vacants-requires-clause-filled g c = subst (AreColumnsFilled c.args.slots []) (sym c.deref_mut.ensures.value) c.in_ok-columns.ensures.filled

pub lines-requires-clause-boxes : goal.lines-requires-clause-boxes
lines-requires-clause-boxes g c =
    let old = c.in_ok-columns.columns.items in
    let new = c.vacants.new.columns in
    let made = c.in_ok-vacants.ensures in
    let ways : ways_of new ≡ ways_of old = made.ways ∙ ap ways_of c.deref_mut.ensures.value in
    let back = written_back old new c.in_ok-columns.columns.len c.in_ok-columns.columns.ok.0 (same_count old new ways) in
    let count : length (map inbox_of c.in_ok-vacants.vacants.items) ≡ (arc_value c.vacants.new.seats.table).slots =
    length-map c.in_ok-vacants.vacants.items inbox_of ∙ (made.count ∙ sym (ap (λ (t : Table). t.slots) made.table ∙ c.in_ok-seats.ensures.slots)) in
    subst (All (λ (x : ColumnView). length x.boxes ≡ (arc_value c.vacants.new.seats.table).slots)) (sym back)
    (filled_boxes c.args.slots (map inbox_of c.in_ok-vacants.vacants.items) new (arc_value c.vacants.new.seats.table).slots count made.filled)

pub lines-requires-clause-some : goal.lines-requires-clause-some
lines-requires-clause-some g c =
    let old = c.in_ok-columns.columns.items in
    let new = c.vacants.new.columns in
    let ways : ways_of new ≡ ways_of old = c.in_ok-vacants.ensures.ways ∙ ap ways_of c.deref_mut.ensures.value in
    let back = written_back old new c.in_ok-columns.columns.len c.in_ok-columns.columns.ok.0 (same_count old new ways) in
    let size = ap length back in
    let peers : length new ≡ length c.args.peers.now = same_count old new ways ∙ (count_of old ∙ ap length c.in_ok-columns.ensures.peers) in
    let some = c.requires.peers in
    omega (arith, size, peers, some.0)

pub returns-clause-slots : goal.returns-clause-slots
returns-clause-slots g c =
    let old = c.in_ok-columns.columns.items in
    let slots = c.args.slots in
    let vacants = c.in_ok-vacants.vacants.items in
    let held = ways_of c.deref_mut.result.now in
    let ways : held ≡ ways_of old = ap ways_of c.deref_mut.ensures.value in
    let tied : (place : ℕ) (vacant : Holding ReaderView) → slice_get vacants place ≡ Some vacant → IsSlotOf slots held (arc_value c.in_ok-seats.seats.table) (arc_value c.in_ok-seats.seats.meter) vacant =
    λ (place : ℕ) (vacant : Holding ReaderView) (stands : slice_get vacants place ≡ Some vacant).
    all_at (IsSlotOf slots held (arc_value c.in_ok-seats.seats.table) (arc_value c.in_ok-seats.seats.meter)) vacants vacant place c.in_ok-vacants.ensures.slot stands in
    record {
      count = c.in_ok-vacants.ensures.count;
      number = c.in_ok-vacants.ensures.number;
      routes = λ place vacant stands. lanes_peers vacant.routes ∙ (ap peers_to (tied place vacant stands).ways ∙ (ap peers_to ways ∙ c.in_ok-columns.ensures.peers));
      got = λ place vacant stands. ap (λ (g : Getter Datagram). g.got) (tied place vacant stands).get;
      put = λ place vacant stands k d small. ap (λ (p : Putter Order). p.put) ((tied place vacant stands).passes k d small);
      total = λ place vacant stands. (tied place vacant stands).total;
      steps = λ place vacant stands. (tied place vacant stands).steps;
    }

pub returns-clause-lines : goal.returns-clause-lines
returns-clause-lines g c =
    let old = c.in_ok-columns.columns.items in
    let new = c.vacants.new.columns in
    let ways : ways_of new ≡ ways_of old = c.in_ok-vacants.ensures.ways ∙ ap ways_of c.deref_mut.ensures.value in
    let back = written_back old new c.in_ok-columns.columns.len c.in_ok-columns.columns.ok.0 (same_count old new ways) in
    new_lines _ _ _ _ _ _ _ _ c.in_ok-lines.ensures.lines (ap (λ (l : List ColumnView). peers_to (ways_of l)) back ∙ (ap peers_to ways ∙ c.in_ok-columns.ensures.peers))

pub returns-clause-host : goal.returns-clause-host
returns-clause-host g c =
    let old = c.in_ok-columns.columns.items in
    let new = c.vacants.new.columns in
    let vacants = c.in_ok-vacants.vacants.items in
    let table = arc_value c.vacants.new.seats.table in
    let meter = arc_value c.vacants.new.seats.meter in
    let made = c.in_ok-vacants.ensures in
    let ways : ways_of new ≡ ways_of old = made.ways ∙ ap ways_of c.deref_mut.ensures.value in
    let back = written_back old new c.in_ok-columns.columns.len c.in_ok-columns.columns.ok.0 (same_count old new ways) in
    let streams : List (List (ℕ × g.row.E.Denot)) = map (λ (v : Vec (ℕ × g.row.E.Denot) Global). v.items) c.args.streams.items in
    let lines : AreLinesOf c.args.addr c.args.limit table meter new streams c.in_ok-lines.lines.items =
    subst (λ (l : List ColumnView). AreLinesOf c.args.addr c.args.limit table meter l streams c.in_ok-lines.lines.items) back c.in_ok-lines.ensures.lines in
    let slots : All (IsSlotOf c.args.slots (ways_of new) table meter) vacants =
    λ k d small.
    let tied = made.slot k d small in
    record { ways = tied.ways ∙ sym made.ways; passes = tied.passes; get = tied.get; ports = tied.ports ∙ sym made.table; words = tied.words ∙ sym made.meter; total = tied.total; steps = tied.steps } in
    let peers : length new ≡ length c.args.peers.now = same_count old new ways ∙ (count_of old ∙ ap length c.in_ok-columns.ensures.peers) in
    let streams_are = length-map c.args.streams.items (λ (v : Vec (ℕ × g.row.E.Denot) Global). v.items) ∙ (c.requires.streams ∙ sym peers) in
    of_host c.args.addr c.args.limit table meter new streams c.in_ok-lines.lines.items c.args.slots vacants lines streams_are slots made.number made.filled

pub returns-clause-passes : goal.returns-clause-passes
returns-clause-passes g c =
    let old = c.in_ok-columns.columns.items in
    let new = c.vacants.new.columns in
    let vacants = c.in_ok-vacants.vacants.items in
    let table = arc_value c.vacants.new.seats.table in
    let meter = arc_value c.vacants.new.seats.meter in
    let made = c.in_ok-vacants.ensures in
    let ways : ways_of new ≡ ways_of old = made.ways ∙ ap ways_of c.deref_mut.ensures.value in
    let back = written_back old new c.in_ok-columns.columns.len c.in_ok-columns.columns.ok.0 (same_count old new ways) in
    let streams : List (List (ℕ × g.row.E.Denot)) = map (λ (v : Vec (ℕ × g.row.E.Denot) Global). v.items) c.args.streams.items in
    let lines : AreLinesOf c.args.addr c.args.limit table meter new streams c.in_ok-lines.lines.items =
    subst (λ (l : List ColumnView). AreLinesOf c.args.addr c.args.limit table meter l streams c.in_ok-lines.lines.items) back c.in_ok-lines.ensures.lines in
    let slots : All (IsSlotOf c.args.slots (ways_of new) table meter) vacants =
    λ k d small.
    let tied = made.slot k d small in
    record { ways = tied.ways ∙ sym made.ways; passes = tied.passes; get = tied.get; ports = tied.ports ∙ sym made.table; words = tied.words ∙ sym made.meter; total = tied.total; steps = tied.steps } in
    let peers : length new ≡ length c.args.peers.now = same_count old new ways ∙ (count_of old ∙ ap length c.in_ok-columns.ensures.peers) in
    let streams_are = length-map c.args.streams.items (λ (v : Vec (ℕ × g.row.E.Denot) Global). v.items) ∙ (c.requires.streams ∙ sym peers) in
    all_passes c.args.addr c.args.limit table meter new streams c.in_ok-lines.lines.items c.args.slots vacants lines streams_are slots made.number made.filled
    made.count (subst Ascend (sym (ap peers_to ways ∙ c.in_ok-columns.ensures.peers)) c.requires.ascend)
    (let one = made.stand in let two = c.in_ok-lines.ensures.stand in let all = c.in_ok-seats.ensures.stand in omega (arith, one, two, all))
