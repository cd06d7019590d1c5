use Rattle.rds_line_channel.specs.Meeting.{AtEach, AreMet, GotBeginning, StayPaired}
use Rattle.std.proofs.Common.{◌≡◌, ℕ, List, length, sym, ap, subst, ◌∙◌}
use Rattle.std.proofs.lemmas.List.{with_items_is}
use Rattle.rds_line_channel.specs.Streams.{StreamsView, AreKept, with_list, numbers}
use Rattle.rds_line_channel.specs.MeetingLaws.{met_first, met_second}
use Rattle.rds_line_channel.specs.ChangeLaws.{same_length}
use Rattle.rds_line_channel.proofs.Keeping.{kept_met}
use Rattle.rds_line_channel.proofs.OtherTerms.{by_two, by_four}
use Rattle.rds_line_channel.proofs.stream_meeting.meet_streams.Goals as goal

pub invariant_of-a : goal.invariant_of-a
invariant_of-a g c =
    let m = g.W.End.End.means in
    let one = c.deref_mut.result.now in
    let other = c.deref_mut-2.result.now in
    let one_met = c.meet_each.new.a in
    let other_met = c.meet_each.new.b in
    let one_is : one ≡ c.args.a.now.list = c.deref_mut.ensures.value ∙ ap (λ (v : StreamsView g.row.W-End.Denot). v.list) c.a.view_is in
    let other_is : other ≡ c.args.b.now.list = c.deref_mut-2.ensures.value ∙ ap (λ (v : StreamsView g.row.W-End.Denot). v.list) c.b.view_is in
    let one_now = with_items_is c.a.inside.streams one_met (c.meet_each.auto.a ∙ c.deref_mut.ensures.len) in
    let other_now = with_items_is c.b.inside.streams other_met (c.meet_each.auto.b ∙ c.deref_mut-2.ensures.len) in
    let count : length other ≡ length one = ap length other_is ∙ (same_length c.args.b.now.list c.args.a.now.list c.requires.numbers ∙ sym (ap length one_is)) in
    let inside = c.a.inside in
    let s : StreamsView g.row.W-End.Denot = record { list = inside.streams.items; opened = inside.opened; is_open = inside.is_open } in
    subst (λ (l : List (ℕ × g.row.W-End.Denot)). AreKept m (with_list s l)) (sym one_now)
    (kept_met m s one one_met c.a.invariant c.deref_mut.ensures.value c.meet_each.ensures.one (met_first m one one_met other other_met c.meet_each.ensures.met count c.meet_each.auto.b))

pub invariant_of-b : goal.invariant_of-b
invariant_of-b g c =
    let m = g.W.End.End.means in
    let one = c.deref_mut.result.now in
    let other = c.deref_mut-2.result.now in
    let one_met = c.meet_each.new.a in
    let other_met = c.meet_each.new.b in
    let one_is : one ≡ c.args.a.now.list = c.deref_mut.ensures.value ∙ ap (λ (v : StreamsView g.row.W-End.Denot). v.list) c.a.view_is in
    let other_is : other ≡ c.args.b.now.list = c.deref_mut-2.ensures.value ∙ ap (λ (v : StreamsView g.row.W-End.Denot). v.list) c.b.view_is in
    let one_now = with_items_is c.a.inside.streams one_met (c.meet_each.auto.a ∙ c.deref_mut.ensures.len) in
    let other_now = with_items_is c.b.inside.streams other_met (c.meet_each.auto.b ∙ c.deref_mut-2.ensures.len) in
    let count : length other ≡ length one = ap length other_is ∙ (same_length c.args.b.now.list c.args.a.now.list c.requires.numbers ∙ sym (ap length one_is)) in
    let inside = c.b.inside in
    let s : StreamsView g.row.W-End.Denot = record { list = inside.streams.items; opened = inside.opened; is_open = inside.is_open } in
    subst (λ (l : List (ℕ × g.row.W-End.Denot)). AreKept m (with_list s l)) (sym other_now)
    (kept_met m s other other_met c.b.invariant c.deref_mut-2.ensures.value c.meet_each.ensures.other (met_second m one one_met other other_met c.meet_each.ensures.met count c.meet_each.auto.a))

pub meet_each-requires-clause-count : goal.meet_each-requires-clause-count
meet_each-requires-clause-count g c =
    let one_is = c.deref_mut.ensures.value ∙ ap (λ (v : StreamsView g.row.W-End.Denot). v.list) c.a.view_is in
    let other_is = c.deref_mut-2.ensures.value ∙ ap (λ (v : StreamsView g.row.W-End.Denot). v.list) c.b.view_is in
    ap length other_is ∙ (same_length c.args.b.now.list c.args.a.now.list c.requires.numbers ∙ sym (ap length one_is))

pub returns-clause-met : goal.returns-clause-met
returns-clause-met g c =
    let one_is = c.deref_mut.ensures.value ∙ ap (λ (v : StreamsView g.row.W-End.Denot). v.list) c.a.view_is in
    let other_is = c.deref_mut-2.ensures.value ∙ ap (λ (v : StreamsView g.row.W-End.Denot). v.list) c.b.view_is in
    let one_now = with_items_is c.a.inside.streams c.meet_each.new.a (c.meet_each.auto.a ∙ c.deref_mut.ensures.len) in
    let other_now = with_items_is c.b.inside.streams c.meet_each.new.b (c.meet_each.auto.b ∙ c.deref_mut-2.ensures.len) in
    by_four (AreMet g.W.End.End.means) one_is (sym one_now) other_is (sym other_now) c.meet_each.ensures.met

pub returns-clause-forth : goal.returns-clause-forth
returns-clause-forth g c =
    let one_now = with_items_is c.a.inside.streams c.meet_each.new.a (c.meet_each.auto.a ∙ c.deref_mut.ensures.len) in
    let other_now = with_items_is c.b.inside.streams c.meet_each.new.b (c.meet_each.auto.b ∙ c.deref_mut-2.ensures.len) in
    by_two (AtEach (GotBeginning g.W.End.End.means)) (sym other_now) (sym one_now) c.meet_each.ensures.forth

pub returns-clause-back : goal.returns-clause-back
returns-clause-back g c =
    let one_now = with_items_is c.a.inside.streams c.meet_each.new.a (c.meet_each.auto.a ∙ c.deref_mut.ensures.len) in
    let other_now = with_items_is c.b.inside.streams c.meet_each.new.b (c.meet_each.auto.b ∙ c.deref_mut-2.ensures.len) in
    by_two (AtEach (GotBeginning g.W.End.End.means)) (sym one_now) (sym other_now) c.meet_each.ensures.back

pub returns-clause-pairs : goal.returns-clause-pairs
returns-clause-pairs g c =
    let one_now = with_items_is c.a.inside.streams c.meet_each.new.a (c.meet_each.auto.a ∙ c.deref_mut.ensures.len) in
    let other_now = with_items_is c.b.inside.streams c.meet_each.new.b (c.meet_each.auto.b ∙ c.deref_mut-2.ensures.len) in
    by_two (AtEach g.W.End.End.means.meets) (sym one_now) (sym other_now) c.meet_each.ensures.pairs

pub returns-clause-one_numbers : goal.returns-clause-one_numbers
returns-clause-one_numbers g c =
    let one_is = c.deref_mut.ensures.value ∙ ap (λ (v : StreamsView g.row.W-End.Denot). v.list) c.a.view_is in
    let one_now = with_items_is c.a.inside.streams c.meet_each.new.a (c.meet_each.auto.a ∙ c.deref_mut.ensures.len) in
    by_two (λ (x y : List (ℕ × g.row.W-End.Denot)). numbers y ≡ numbers x) one_is (sym one_now) c.meet_each.ensures.one

pub returns-clause-other_numbers : goal.returns-clause-other_numbers
returns-clause-other_numbers g c =
    let other_is = c.deref_mut-2.ensures.value ∙ ap (λ (v : StreamsView g.row.W-End.Denot). v.list) c.b.view_is in
    let other_now = with_items_is c.b.inside.streams c.meet_each.new.b (c.meet_each.auto.b ∙ c.deref_mut-2.ensures.len) in
    by_two (λ (x y : List (ℕ × g.row.W-End.Denot)). numbers y ≡ numbers x) other_is (sym other_now) c.meet_each.ensures.other

pub returns-clause-one_stays : goal.returns-clause-one_stays
returns-clause-one_stays g c =
    let one_is = c.deref_mut.ensures.value ∙ ap (λ (v : StreamsView g.row.W-End.Denot). v.list) c.a.view_is in
    let one_now = with_items_is c.a.inside.streams c.meet_each.new.a (c.meet_each.auto.a ∙ c.deref_mut.ensures.len) in
    by_two (StayPaired g.W.End.End.means) one_is (sym one_now) c.meet_each.ensures.one_stays

pub returns-clause-other_stays : goal.returns-clause-other_stays
returns-clause-other_stays g c =
    let other_is = c.deref_mut-2.ensures.value ∙ ap (λ (v : StreamsView g.row.W-End.Denot). v.list) c.b.view_is in
    let other_now = with_items_is c.b.inside.streams c.meet_each.new.b (c.meet_each.auto.b ∙ c.deref_mut-2.ensures.len) in
    by_two (StayPaired g.W.End.End.means) other_is (sym other_now) c.meet_each.ensures.other_stays
