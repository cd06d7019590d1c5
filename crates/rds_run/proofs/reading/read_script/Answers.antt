use Rattle.std.proofs.Common.{inl, inr, rules}
use Rattle.rds_link.specs.Seen.{SinkSeen, SourceSeen}
use Rattle.rds_run.specs.declared.status.Status.TheVariants as ended
use Rattle.rds_run.proofs.Sources.{said_or_failed}
use Rattle.rds_run.proofs.Whole.{emptied, spelled, ends_of_refused, refused_told, refuses_same, spelled_told, ends_of_fault}
use Rattle.rds_run.proofs.reading.read_script.Goals as goal

pub returns-in-Ok-read_by_threads-clause-spelled : goal.returns-in-Ok-read_by_threads-clause-spelled
returns-in-Ok-read_by_threads-clause-spelled g c =
    let spells = rw c.deref.ensures.value at c.in-Ok-read_by_threads.ensures.found in
    spelled _ _ _ c.in-Ok.ensures.bytes spells

pub returns-in-Err-BadLine-clause-ends : goal.returns-in-Err-BadLine-clause-ends
returns-in-Err-BadLine-clause-ends g c =
    let at_line = rw c.in-Err-BadLine.field-0-is at c.in-Err-BadLine.ensures.refused in
    let refused = rw c.deref.ensures.value at at_line in
    let source : SourceSeen = record {
      left = g.S.Source.left c.args.source.now;
      faults_before = g.S.Source.faults c.args.source.now;
      faults_after = g.S.Source.faults c.read_all.new.source;
    } in
    let sink : SinkSeen = record {
      held_before = g.K.Sink.held c.args.sink.now;
      held_after = g.K.Sink.held c.refuse.new.sink;
      faults_before = g.K.Sink.faults c.args.sink.now;
      faults_after = g.K.Sink.faults c.refuse.new.sink;
    } in
    ends_of_refused _ _ _ source sink c.refuse.result c.in-Ok.ensures.bytes refused c.refuse.ensures

pub returns-in-Ok-read_by_threads-clause-refuses : goal.returns-in-Ok-read_by_threads-clause-refuses
returns-in-Ok-read_by_threads-clause-refuses g c line why told =
    let refuses = rw c.deref.ensures.value at c.in-Ok-read_by_threads.ensures.refuses in
    absurd (refuses line why (refused_told _ _ line why c.in-Ok.ensures.bytes told))

pub returns-in-Err-BadLine-clause-refuses : goal.returns-in-Err-BadLine-clause-refuses
returns-in-Err-BadLine-clause-refuses g c line why told =
    let at_line = rw c.in-Err-BadLine.field-0-is at c.in-Err-BadLine.ensures.refuses in
    let refuses = rw c.deref.ensures.value at at_line in
    let same = refuses line why (refused_told _ _ line why c.in-Ok.ensures.bytes told) in
    let sink : SinkSeen = record {
      held_before = g.K.Sink.held c.args.sink.now;
      held_after = g.K.Sink.held c.refuse.new.sink;
      faults_before = g.K.Sink.faults c.args.sink.now;
      faults_after = g.K.Sink.faults c.refuse.new.sink;
    } in
    inl (refuses_same _ _ _ _ sink c.refuse.result same c.refuse.ensures)

pub returns-in-Ok-read_by_threads-clause-reads : goal.returns-in-Ok-read_by_threads-clause-reads
returns-in-Ok-read_by_threads-clause-reads g c m told =
    let only = rw c.deref.ensures.value at c.in-Ok-read_by_threads.ensures.only in
    only m (spelled_told _ _ m c.in-Ok.ensures.bytes told)

pub returns-in-Err-BadLine-clause-reads : goal.returns-in-Err-BadLine-clause-reads
returns-in-Err-BadLine-clause-reads g c m told =
    let at_line = rw c.in-Err-BadLine.field-0-is at c.in-Err-BadLine.ensures.only in
    let only = rw c.deref.ensures.value at at_line in
    absurd (only m (spelled_told _ _ m c.in-Ok.ensures.bytes told))

pub returns-in-Err-Failed-clause-ends : goal.returns-in-Err-Failed-clause-ends
returns-in-Err-Failed-clause-ends g c =
    let source : SourceSeen = record {
      left = g.S.Source.left c.args.source.now;
      faults_before = g.S.Source.faults c.args.source.now;
      faults_after = g.S.Source.faults c.read_all.new.source;
    } in
    let sink : SinkSeen = record {
      held_before = g.K.Sink.held c.args.sink.now;
      held_after = g.K.Sink.held c.say.new.sink;
      faults_before = g.K.Sink.faults c.args.sink.now;
      faults_after = g.K.Sink.faults c.say.new.sink;
    } in
    ends_of_fault source sink c.say.result (search rules) c.say.ensures.said c.say.ensures.front

pub returns-in-Err-Failed-clause-tells : goal.returns-in-Err-Failed-clause-tells
returns-in-Err-Failed-clause-tells g c = inr (said_or_failed ended.ReadFault c.say.result c.say.ensures.said)

pub returns-in-Err-BadLine-clause-tells : goal.returns-in-Err-BadLine-clause-tells
returns-in-Err-BadLine-clause-tells g c = inl c.in-Ok.ensures.quiet

pub returns-in-Ok-read_by_threads-clause-emptied : goal.returns-in-Ok-read_by_threads-clause-emptied
returns-in-Ok-read_by_threads-clause-emptied g c =
    let spells = rw c.deref.ensures.value at c.in-Ok-read_by_threads.ensures.found in
    emptied _ _ _ _ c.in-Ok.ensures.end spells
