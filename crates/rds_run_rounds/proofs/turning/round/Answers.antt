use Rattle.std.proofs.Common.{⊎_elim, inl, inr, Bool, List, sym, subst, ◌∙◌}
use Rattle.rds_mail.specs.Learning.{AllGot}
use Rattle.rds_model.specs.declared.entry.Entry.{Entry}
use Rattle.rds_line.specs.Line.{line_past}
use Rattle.rds_run_rounds.specs.Causes.{IsLeftWell, OwesNothing}
use Rattle.rds_run_rounds.specs.Connection.{IsFullAt}
use Rattle.rds_run_rounds.specs.Drained.{AreDrained}
use Rattle.rds_run_rounds.specs.Sweep.{HaveGoneOn, MissStreamAt}
use Rattle.rds_run_rounds.proofs.Going.{goes_through, had_room, room_met}
use Rattle.rds_run_rounds.proofs.Lacking.{by_order_met, left_met, one_misses_met}
use Rattle.rds_run_rounds.proofs.turning.round.Goals as goal

pub meet_lines-requires-2 : goal.meet_lines-requires-2
meet_lines-requires-2 g c =
    let connected = c.requires.connected in (
      connected.0,
      c.args.low,
      c.args.high,
      c.turn_both-came.ensures.together.connected connected.0 (c.meet_lines.ensures.connected connected.0 c.args.low c.args.high connected.1),
    )

pub returns-clause-together : goal.returns-clause-together
returns-clause-together g c = record {
  one_goes =
      goes_through c.args.one.now c.meet_lines.new.one c.meet_lines-2.new.one c.meet_lines.ensures.one.goes
      (goes_through c.meet_lines.new.one c.turn_both-came.new.one c.meet_lines-2.new.one c.turn_both-came.ensures.together.one_goes
      c.meet_lines-2.ensures.one.goes);
  other_goes =
      goes_through c.args.other.now c.meet_lines.new.other c.meet_lines-2.new.other c.meet_lines.ensures.other.goes
      (goes_through c.meet_lines.new.other c.turn_both-came.new.other c.meet_lines-2.new.other c.turn_both-came.ensures.together.other_goes
      c.meet_lines-2.ensures.other.goes);
  connected = λ limit connected.
      c.meet_lines-2.ensures.connected limit c.args.low c.args.high
      (c.turn_both-came.ensures.together.connected limit (c.meet_lines.ensures.connected limit c.args.low c.args.high connected));
}

pub returns-clause-had : goal.returns-clause-had
returns-clause-had g c =
    let one = c.meet_lines-2.ensures.one in
    let other = c.meet_lines-2.ensures.other in
    record {
      sound = c.meet_lines-2.ensures.sound;
      left = λ idle.
          let w = c.args.wanted in
          let left = c.turn_both-came.ensures.left idle in
          let a = c.turn_both-came.new.one in
          let b = c.turn_both-came.new.other in
          let a_met = c.meet_lines-2.new.one in
          let b_met = c.meet_lines-2.new.other in
          subst (λ (tells : Bool). IsLeftWell tells w a_met b_met × IsLeftWell tells w b_met a_met) c.tells.ensures
          (left_met c.tells.result w a a_met b b_met one other left.0, left_met c.tells.result w b b_met a a_met other one left.1);
      quiet = λ idle.
          let got = c.turn_both-came.ensures.idle idle in
          (subst AllGot (sym one.orders) got.0, subst AllGot (sym other.orders) got.1);
      room = λ idle.
          let room = c.turn_both-came.ensures.room idle in
          (room_met c.turn_both-came.new.one c.meet_lines-2.new.one one room.0, room_met c.turn_both-came.new.other c.meet_lines-2.new.other other room.1);
      owes = λ idle.
          let owes = c.turn_both-came.ensures.owes idle in
          (λ out. subst OwesNothing (sym one.past) (owes.0 (sym one.out ∙ out)), λ out. subst OwesNothing (sym other.past) (owes.1 (sym other.out ∙ out)));
      drained = λ tells idle one_out other_out.
          let drained = c.turn_both-came.ensures.drained tells c.meet_lines.ensures.met idle (sym one.out ∙ one_out) (sym other.out ∙ other_out) in
          subst (λ (past : List Entry). AreDrained past (line_past c.meet_lines-2.new.other)) (sym one.past)
          (subst (AreDrained (line_past c.turn_both-came.new.one)) (sym other.past) drained);
    }

pub returns-clause-fault : goal.returns-clause-fault
returns-clause-fault g c = λ first second fault.
    let found = c.turn_both-came.ensures.fault first second fault in
    let one = c.meet_lines-2.new.one in
    let other = c.meet_lines-2.new.other in
    subst (λ (tells : Bool). MissStreamAt tells c.args.wanted first second c.args.low c.args.high one other) c.tells.ensures (
      found.0,
      found.1,
      one_misses_met c.tells.result c.args.wanted c.turn_both-came.new.one one c.turn_both-came.new.other other c.meet_lines-2.ensures.one
          c.meet_lines-2.ensures.other found.2,
    )

pub returns-clause-spent : goal.returns-clause-spent
returns-clause-spent g c = λ host peer entries spent.
    ⊎_elim {C = IsFullAt host peer entries c.args.low c.args.high c.meet_lines-2.new.one c.meet_lines-2.new.other}
    (λ at_one. inl (at_one.0, at_one.1, c.meet_lines-2.ensures.one.full entries at_one.2))
    (λ at_other. inr (at_other.0, at_other.1, c.meet_lines-2.ensures.other.full entries at_other.2)) (c.turn_both-came.ensures.spent host peer entries spent)

pub returns-clause-gone_on : goal.returns-clause-gone_on
returns-clause-gone_on g c = λ goes.
    let tells = c.tells.result in
    let w = c.args.wanted in
    let one = c.meet_lines-2.new.one in
    let other = c.meet_lines-2.new.other in
    let both = c.turn_both-came.ensures.gone_on goes in
    subst (λ (t : Bool). HaveGoneOn t w c.args.one.now c.args.other.now one other) c.tells.ensures
    (record {
      one_room = had_room c.args.one.now c.meet_lines.new.one c.meet_lines.ensures.one.goes both.one_room;
      other_room = had_room c.args.other.now c.meet_lines.new.other c.meet_lines.ensures.other.goes both.other_room;
      one_misses =
          by_order_met tells w c.turn_both-came.new.one one c.turn_both-came.new.other other c.meet_lines-2.ensures.one c.meet_lines-2.ensures.other c.args.one.now
          c.meet_lines.new.one c.meet_lines.ensures.one both.one_misses;
      other_misses =
          by_order_met tells w c.turn_both-came.new.other other c.turn_both-came.new.one one c.meet_lines-2.ensures.other c.meet_lines-2.ensures.one
          c.args.other.now c.meet_lines.new.other c.meet_lines.ensures.other both.other_misses;
    })
