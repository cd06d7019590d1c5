use Rattle.std.proofs.Common.{◌≡◌, ◌<◌, Ok, length, sym, ap, ◌∙◌, arith}
use denote.Enum.Bare.{same_true}
use Rattle.rds_line_channel.specs.contracts.channel.Taken.{the_type}
use Rattle.rds_line_channel.specs.declared.channel.Taken.TheVariants as taken
use Rattle.rds_line_channel.specs.Channel.{ChannelView}
use Rattle.rds_line.specs.Line.{line_past}
use Rattle.rds_line.proofs.Carrying.{appended_arrived, appended_unwritten, out_through, passed_longer, still_out}
use Rattle.rds_line.proofs.Longer.{longer}
use Rattle.rds_line.proofs.Quiet.{quiet_through}
use Rattle.rds_line.proofs.line.Line.pass_all.Goals as goal

pub returns-in_err-pass-clause-quiet : goal.returns-in_err-pass-clause-quiet
returns-in_err-pass-clause-quiet g c = quiet_through c.loop-taken.invariant.quiet c.pass.ensures.quiet

pub returns-in_err-taken-2-clause-quiet : goal.returns-in_err-taken-2-clause-quiet
returns-in_err-taken-2-clause-quiet g c =
    quiet_through (quiet_through c.loop-taken.invariant.quiet c.pass.ensures.quiet) c.take-in-loop-taken.ensures.quiet

pub loop-taken-preserved : goal.loop-taken-preserved
loop-taken-preserved g c =
    let start = c.args.self.now in
    let middle = c.pass.new.self in
    let was = c.loop-taken.invariant in
    let took = c.in_ok-taken-2.ensures in
    let passed = quiet_through was.quiet c.pass.ensures.quiet in
    let new = c.take-in-loop-taken.new.self in
    let all = quiet_through passed c.take-in-loop-taken.ensures.quiet in
    let long = longer (line_past start) (line_past c.loop-taken.self) was.quiet.stays.channel.past in
    let one = passed_longer c.loop-taken.self.channel.conn middle.channel.conn c.in_ok-pass.ensures.passed.passes in
    let rest = longer (line_past middle) (line_past new) c.take-in-loop-taken.ensures.quiet.stays.channel.past in
    let appended : length (line_past start) < length (line_past new) = omega (arith, long, one, rest) in
    let frame : c.loop-taken.taken ≡ taken.Frame = same_true the_type tt c.loop-taken.taken taken.Frame
    (sym c.eq.ensures ∙ c.loop-taken-test.true) in
    record {
      quiet = all;
      streams = λ other.
          took.streams (λ same. other (cc)) ∙ ap (λ (v : ChannelView g.row.E.Denot). v.streams) c.in_ok-pass.ensures.passed.rest
          ∙ was.streams (λ refused. absurd (cc));
      ready = λ e. took.ready (ap Ok e);
      frame = λ e. took.frame (ap Ok e);
      part = λ e. took.part (ap Ok e);
      arrived = appended_arrived start.channel new.channel appended;
      unwritten = appended_unwritten start.channel new.channel appended;
      out =
          out_through start.channel middle.channel new.channel
          (out_through start.channel c.loop-taken.self.channel middle.channel was.out
          (still_out c.loop-taken.self.channel middle.channel
          (ap (λ (v : ChannelView g.row.E.Denot). v.streams.is_open) c.in_ok-pass.ensures.passed.rest)
          (ap (λ (v : ChannelView g.row.E.Denot). v.out) c.in_ok-pass.ensures.passed.rest))) took.out;
      refused = λ e.
          let more = took.refused (ap Ok e) in
          let long = longer (line_past start) (line_past middle) passed.stays.channel.past in
          omega arith;
    }
