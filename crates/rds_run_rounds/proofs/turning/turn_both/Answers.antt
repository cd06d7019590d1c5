use Rattle.std.proofs.Common.{⊎_elim, inr, sym, ◌∙◌}
use Rattle.rds_host.specs.Lines.{pair_of}
use Rattle.rds_run_rounds.specs.Sweep.{MissStreamAt}
use Rattle.rds_run_rounds.proofs.Connected.{connected_first, connected_stays}
use Rattle.rds_run_rounds.proofs.Going.{goes_of_stays, goes_same}
use Rattle.rds_run_rounds.proofs.Lacking.{by_order_grows, left_grows, named_high_too, named_low_too}
use Rattle.rds_run_rounds.proofs.Passing.{both_go, never_goes}
use Rattle.rds_run_rounds.proofs.turning.turn_both.Goals as goal

pub returns-clause-together : goal.returns-clause-together
returns-clause-together g c = record {
  one_goes = goes_of_stays g.E.End.means c.args.one.now c.turn-first.new.line c.turn-first.ensures.stays;
  other_goes = goes_of_stays g.E.End.means c.args.other.now c.turn-second.new.line c.turn-second.ensures.stays;
  connected = λ limit connected.
      connected_stays g.E.End.means pair_of limit c.args.low c.args.high c.args.one.now c.args.other.now c.turn-first.new.line c.turn-second.new.line
      connected c.turn-first.ensures.stays c.turn-second.ensures.stays;
}

pub returns-then-not-goes_on-clause-together : goal.returns-then-not-goes_on-clause-together
returns-then-not-goes_on-clause-together g c = record {
  one_goes = goes_of_stays g.E.End.means c.args.one.now c.turn-first.new.line c.turn-first.ensures.stays;
  other_goes = goes_same c.args.other.now;
  connected = λ limit connected.
      connected_first g.E.End.means pair_of limit c.args.low c.args.high c.args.one.now c.args.other.now c.turn-first.new.line connected
      c.turn-first.ensures.stays;
}

pub returns-clause-room : goal.returns-clause-room
returns-clause-room g c = λ idle.
    let both = c.either.ensures.idle idle in (c.turn-first.ensures.still_room both.0, c.turn-second.ensures.still_room both.1)

pub returns-clause-owes : goal.returns-clause-owes
returns-clause-owes g c = λ idle. let both = c.either.ensures.idle idle in (c.turn-first.ensures.owes both.0, c.turn-second.ensures.owes both.1)

pub returns-clause-drained : goal.returns-clause-drained
returns-clause-drained g c = λ tells met idle one_out other_out.
    let both = c.either.ensures.idle idle in
    let told = c.requires.told ∙ tells in
    c.rested_are_drained.ensures c.args.one.now c.args.other.now c.turn-first.new.line c.turn-second.new.line tells met
    (record {
      kept = c.turn-first.ensures.kept;
      keeps = c.turn-first.ensures.keeps;
      idle = c.turn-first.ensures.nothing told both.0;
      written = one_out;
    })
    (record {
      kept = c.turn-second.ensures.kept;
      keeps = c.turn-second.ensures.keeps;
      idle = c.turn-second.ensures.nothing told both.1;
      written = other_out;
    })

pub returns-clause-left : goal.returns-clause-left
returns-clause-left g c = λ idle.
    let both = c.either.ensures.idle idle in (
      left_grows c.args.tells c.args.wanted c.turn-first.new.line c.args.other.now c.turn-second.new.line c.turn-second.ensures.stays.channel.past
          (c.turn-first.ensures.left both.0),
      c.turn-second.ensures.left both.1,
    )

pub returns-clause-fault : goal.returns-clause-fault
returns-clause-fault g c = λ first second fault.
    let less = c.requires.less in
    let Misses = MissStreamAt c.args.tells c.args.wanted first second c.args.low c.args.high c.turn-first.new.line c.turn-second.new.line in
    ⊎_elim {C = Misses} (λ same. absurd (never_goes c.turn-first.result first second (c.goes_on.ensures.0 c.if-not-goes_on.false) (sym same ∙ fault)))
    (λ same.
    let is = sym same ∙ fault in
    let named = c.turn-second.ensures.fault first second is in (
      named_low_too c.args.low c.args.high first less named.0,
      named_high_too c.args.low c.args.high second less named.1,
      inr (c.turn-second.ensures.misses first second is),
    ))
    c.either.ensures.one

pub returns-clause-gone_on : goal.returns-clause-gone_on
returns-clause-gone_on g c = λ goes.
    let both = both_go c.turn-first.result c.turn-second.result c.either.result c.either.ensures.exact goes in
    record {
      one_room = c.turn-first.ensures.room both.0;
      other_room = c.turn-second.ensures.room both.1;
      one_misses =
          by_order_grows c.args.tells c.args.wanted c.args.one.now c.turn-first.new.line c.args.other.now c.turn-second.new.line
          c.turn-second.ensures.stays.channel.past (c.turn-first.ensures.by_order both.0);
      other_misses = c.turn-second.ensures.by_order both.1;
    }
