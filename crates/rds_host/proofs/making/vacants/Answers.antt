use Rattle.std.proofs.Common.{◌≡◌, ◌+◌, ◌<◌, List, [], ◌∷◌, ◌++◌, All, length, map, unwrap_or, refl, sym, ap, subst, ◌∙◌, arith, rules}
use Rattle.std.specs.Arc.{arc_value}
use Rattle.std.proofs.lemmas.List.{length-map, length_push, map_push}
use Rattle.std.proofs.lemmas.List.Elements.{All-nil, All-push}
use Rattle.rds_mail.specs.Passes.{QueueId}
use Rattle.rds_seats.specs.ViewLaws.{total_snoc}
use Rattle.rds_meter.specs.Grounds.{seats_of}
use Rattle.rds_meter.specs.Seats.{MeterSeat}
use Rattle.rds_fmap.specs.Readers.{ReaderView}
use Rattle.rds_socket.specs.Holding.{Holding}
use Rattle.rds_host.specs.Passes.{slot_seats}
use Rattle.rds_host.specs.Slots.{AreInPlace}
use Rattle.rds_host.specs.Ties.{AreColumnsFilled, ColumnView, IsSlotOf, inbox_of, lane_way, ways_of}
use Rattle.rds_host.proofs.Columns.{count_next, filled_more, in_place_push, next_columns, none_in_place, slot_passes, ways_next}
use Rattle.rds_host.proofs.making.vacants.Goals as goal

pub loop-init : goal.loop-init
loop-init c =
    let none : map inbox_of c.in_ok-vacants.vacants.items ≡ [] = ap (map inbox_of) c.in_ok-vacants.ensures.items in (
      refl,
      refl,
      search rules,
      c.requires.seats,
      c.requires.draws,
      search rules,
      (let none_yet : slot_seats c.in_ok-vacants.vacants.items ≡ 0 = ap slot_seats c.in_ok-vacants.ensures.items in omega (arith, none_yet)),
      refl,
      refl,
      subst (λ (l : List QueueId). AreColumnsFilled c.args.slots l c.args.columns.now) (sym none) c.requires.filled,
      search rules,
      subst AreInPlace (sym c.in_ok-vacants.ensures.items) none_in_place,
      subst (All (IsSlotOf c.args.slots (ways_of c.args.columns.now) (arc_value c.args.seats.now.table) (arc_value c.args.seats.now.meter))) (sym c.in_ok-vacants.ensures.items)
          (All-nil (IsSlotOf c.args.slots (ways_of c.args.columns.now) (arc_value c.args.seats.now.table) (arc_value c.args.seats.now.meter))),
    )

pub loop-preserved : goal.loop-preserved
loop-preserved c =
    let inv = c.loop.invariant in
    let own = c.in_ok-own.ensures in
    let v = c.in_ok-vacant.field-0 in
    let made = c.in_ok-vacant.ensures in
    let old = c.loop.vacants.items in
    let columns = c.loop.columns in
    let mail = inbox_of v in
    let slots = c.args.slots in
    let pushed : c.push.new.self.items ≡ old ++ v ∷ [] = c.in_ok-push.ensures.items in
    let given : c.vacant.new.columns ≡ next_columns mail columns = made.columns in
    let mails : map inbox_of c.push.new.self.items ≡ map inbox_of old ++ mail ∷ [] = ap (map inbox_of) pushed ∙ map_push inbox_of old v in
    let draws : c.draw.new.self.seat.view.draws ≡ c.loop.seats.seat.view.draws + 1 = own.draws in
    let words = own.words in
    let longer = length_push old v in
    let size : length c.push.new.self.items ≡ length (old ++ v ∷ []) = ap length pushed in
    let count : length (map inbox_of old) ≡ length old = length-map old inbox_of in
    let few : length (map inbox_of old) < slots = omega (arith, count, inv.10, c.loop-test.true) in
    let number : v.words.slot ≡ length old = made.slot ∙ (ap (λ o. unwrap_or o 0) own.slot ∙ (inv.4 ∙ sym inv.10)) in
    let routes : length v.routes ≡ length columns = sym (length-map v.routes lane_way) ∙ (ap length made.ways ∙ length-map columns (λ (x : ColumnView). x.way)) in
    let tied : IsSlotOf slots (ways_of c.args.columns.now) (arc_value c.args.seats.now.table) (arc_value c.args.seats.now.meter) v =
    record {
      ways = made.ways ∙ inv.7;
      passes = slot_passes slots v.words.slot (map inbox_of old) columns v.routes few (number ∙ sym count) routes inv.9 made.next;
      get = made.get;
      ports = made.ports ∙ (own.same_table ∙ inv.0);
      words = made.words ∙ (own.same_meter ∙ inv.1);
      total = made.total;
      steps = made.steps;
    } in (
      own.table ∙ inv.0,
      own.meter ∙ inv.1,
      own.weight ∙ inv.2,
      own.seats ∙ inv.3,
      omega (arith, draws, inv.4),
      omega (arith, words, inv.5, c.loop-test.true, c.requires.slots, c.args.seats.now.free.few),
      (let one = ap slot_seats pushed in
          let two = total_snoc (λ (h : Holding ReaderView). seats_of h.words.seat.view) old v in
          let own_is = ap (λ (h : MeterSeat). seats_of h.view) made.own in
          let split = own.stand in
          omega (arith, one, two, own_is, split, inv.6)),
      ap ways_of given ∙ (ways_next mail columns ∙ inv.7),
      ap length given ∙ (count_next mail columns ∙ inv.8),
      subst (λ (l : List QueueId). AreColumnsFilled slots l c.vacant.new.columns) (sym mails)
          (subst (AreColumnsFilled slots (map inbox_of old ++ mail ∷ [])) (sym given) (filled_more slots (map inbox_of old) mail columns few inv.9)),
      omega (arith, size, longer, inv.10),
      subst AreInPlace (sym pushed) (in_place_push old v inv.11 number),
      subst (All (IsSlotOf slots (ways_of c.args.columns.now) (arc_value c.args.seats.now.table) (arc_value c.args.seats.now.meter))) (sym pushed)
          (All-push (IsSlotOf slots (ways_of c.args.columns.now) (arc_value c.args.seats.now.table) (arc_value c.args.seats.now.meter)) old v inv.12 tied),
    )
