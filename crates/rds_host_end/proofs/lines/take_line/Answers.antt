use Rattle.std.proofs.Common.{◌-◌, ap, arith, length, ◌∙◌}
use Rattle.std.proofs.lemmas.List.{length_push}
use Rattle.std.proofs.lemmas.Iterator.Adapters.{YieldsList-from_vec}
use Rattle.std.proofs.lemmas.Iterator.Consumers.{YieldsList-end}
use Rattle.rds_line_channel.specs.Channel.{arrived_bytes}
use Rattle.rds_host_end.proofs.Cutting.{cut_of}
use Rattle.rds_host_end.proofs.Risen.{stays_by}
use Rattle.rds_host_end.proofs.lines.take_line.Goals as goal

pub returns-clause-cut : goal.returns-clause-cut
returns-clause-cut g c =
    let line = c.args.line in
    cut_of g.W.End.End.means (λ w. w.published) line (arrived_bytes line.channel) line.channel.out c.known.ensures.keeps c.known.ensures.carried

-- refused where an end isn't given back
pub returns-clause-out : goal.returns-clause-out
returns-clause-out g c =
    let streams = c.into_parts-journal.result.1.streams in
    let gives = c.into_iter-end-iterator.ensures.into_iter_gives in
    let from = YieldsList-from_vec streams.items gives.0 (gives.1 ∙ streams.ok.0) in
    let end = YieldsList-end from c.loop-end.yielded c.loop-end.end-iterator c.loop-end.yielded_by c.next.result c.next.new.self c.in-None.is c.next.ensures.steps in
    c.loop-end.invariant.0 ∙ ap (λ n. g.W.Wire.out c.args.wire.now - n) (end.1 ∙ ap length c.into_parts-journal.ensures.streams)

pub loop-end-preserved : goal.loop-end-preserved
loop-end-preserved g c =
    let more = length_push c.loop-end.yielded (c.in-Some.field-0-0, c.in-Some.end) in
    let past = c.loop-end.invariant.0 in (
      omega (arith, more, past, c.give_back.ensures.out),
      λ before fits risen. stays_by _ _ _ c.give_back.ensures.faults before fits (c.loop-end.invariant.1 before fits risen),
    )

pub returns-clause-risen : goal.returns-clause-risen
returns-clause-risen g c = c.loop-end.invariant.1
