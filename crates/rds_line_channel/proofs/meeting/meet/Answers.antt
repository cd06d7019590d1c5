use Rattle.std.proofs.Common.{◌≡◌, ◌++◌, sym, refl, ◌∙◌}
use Rattle.rds_conn.specs.Connection.{taken_bytes}
use Rattle.rds_line_channel.specs.ChangeLaws.{same_length}
use Rattle.rds_line_channel.specs.MeetingLaws.{met_first, met_second}
use Rattle.rds_line_channel.specs.Streams.{numbers}
use Rattle.rds_line_channel.proofs.Honesty.{honest}
use Rattle.rds_line_channel.proofs.Moving.{carried_met}
use Rattle.rds_line_channel.proofs.Restated.{restated, same_numbers}
use Rattle.rds_line_channel.proofs.meeting.meet.Goals as goal

pub invariant_of-a : goal.invariant_of-a
invariant_of-a g c =
    let m = g.W.End.End.means in
    let one = c.a.inside in
    let list = one.streams.list in
    let other_list = c.b.inside.streams.list in
    let now = c.meet_streams.new.a.list in
    let other_now = c.meet_streams.new.b.list in
    let did = c.meet_streams.ensures in
    let same = same_numbers c.a.view_is c.b.view_is c.requires.numbers in
    let count = same_length other_list list same in
    let met = met_first m list now other_list other_now did.met count (same_length other_now other_list did.other_numbers) in
    let arrived = taken_bytes one.conn ++ one.piece in
    restated m refl refl refl did.one refl
    (carried_met m one.conn.log.past arrived one.out one.cuts.numbers one.streams now did.one_numbers met c.a.invariant)

pub invariant_of-b : goal.invariant_of-b
invariant_of-b g c =
    let m = g.W.End.End.means in
    let one_list = c.a.inside.streams.list in
    let other = c.b.inside in
    let list = other.streams.list in
    let one_now = c.meet_streams.new.a.list in
    let now = c.meet_streams.new.b.list in
    let did = c.meet_streams.ensures in
    let same = same_numbers c.a.view_is c.b.view_is c.requires.numbers in
    let count = same_length list one_list same in
    let met = met_second m one_list one_now list now did.met count (same_length one_now one_list did.one_numbers) in
    let arrived = taken_bytes other.conn ++ other.piece in
    restated m refl refl refl did.other refl
    (carried_met m other.conn.log.past arrived other.out other.cuts.numbers other.streams now did.other_numbers met c.b.invariant)

pub returns-clause-honest : goal.returns-clause-honest
returns-clause-honest g c = λ tells.
    let m = g.W.End.End.means in
    let a = c.a.inside in
    let b = c.b.inside in
    let arrived = taken_bytes a.conn ++ a.piece in
    let b_arrived = taken_bytes b.conn ++ b.piece in
    let cuts = a.cuts.numbers in
    let b_cuts = b.cuts.numbers in
    let now = c.meet_streams.new.a in
    let b_now = c.meet_streams.new.b in
    let did = c.meet_streams.ensures in
    let same = same_numbers c.a.view_is c.b.view_is c.requires.numbers in
    let same_now : numbers b_now.list ≡ numbers now.list = did.other_numbers ∙ (same ∙ sym did.one_numbers) in
    let first = invariant_of-a g c in
    let second = invariant_of-b g c in
    record {
      forth = honest m tells b.conn.log.past a.conn.log.past b_arrived arrived b.out a.out b_cuts cuts b_now now second first
          c.known-3.ensures c.known-2.ensures.whole.legal (sym same_now) did.forth;
      back = honest m tells a.conn.log.past b.conn.log.past arrived b_arrived a.out b.out cuts b_cuts now b_now first second
          c.known-4.ensures c.known.ensures.whole.legal same_now did.back;
    }
