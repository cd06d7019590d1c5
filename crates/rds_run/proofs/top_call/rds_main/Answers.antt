use Rattle.rds_link.specs.Seen.{SourceSeen}
use Rattle.rds_run.proofs.Begun as begun
use Rattle.rds_run.proofs.Codes as codes
use Rattle.rds_run.proofs.Complete as complete
use Rattle.rds_run.proofs.Ended as ended
use Rattle.rds_run.proofs.Sources as sources
use Rattle.rds_run.proofs.Summed as summed
use Rattle.rds_run.proofs.top_call.rds_main.Goals as goal

pub returns-clause-usage : goal.returns-clause-usage
returns-clause-usage g c = ended.usage _ _ _ _ c.do_work.result c.code.result c.code.ensures c.do_work.ensures.ends

pub returns-clause-usage_only : goal.returns-clause-usage_only
returns-clause-usage_only g c = ended.usage_only _ _ _ _ c.do_work.result c.code.result c.code.ensures c.do_work.ensures.ends

pub returns-clause-usage_text : goal.returns-clause-usage_text
returns-clause-usage_text g c = ended.usage_text _ _ _ _ c.do_work.result c.code.result c.code.ensures c.do_work.ensures.ends

pub returns-clause-read_fault : goal.returns-clause-read_fault
returns-clause-read_fault g c = ended.read_fault _ _ _ _ c.do_work.result c.code.result c.code.ensures c.do_work.ensures.ends

pub returns-clause-read_fault_text : goal.returns-clause-read_fault_text
returns-clause-read_fault_text g c = ended.read_fault_text _ _ _ _ c.do_work.result c.code.result c.code.ensures c.do_work.ensures.ends

pub returns-clause-write_fault : goal.returns-clause-write_fault
returns-clause-write_fault g c = ended.write_fault _ _ _ _ c.do_work.result c.code.result c.code.ensures c.do_work.ensures.ends

pub returns-clause-usage_begun : goal.returns-clause-usage_begun
returns-clause-usage_begun g c = ended.usage_begun _ _ _ _ c.do_work.result c.code.result c.code.ensures c.do_work.ensures.ends

pub returns-clause-answer_begun : goal.returns-clause-answer_begun
returns-clause-answer_begun g c = ended.answer_begun _ _ _ _ c.do_work.result c.code.result c.code.ensures c.do_work.ensures.ends

pub returns-clause-run_begun : goal.returns-clause-run_begun
returns-clause-run_begun g c = begun.run_begun _ _ _ _ c.do_work.result c.code.result c.code.ensures c.do_work.ensures.ends

pub returns-clause-gen_begun : goal.returns-clause-gen_begun
returns-clause-gen_begun g c = begun.gen_begun _ _ _ _ c.do_work.result c.code.result c.code.ensures c.do_work.ensures.ends

pub returns-clause-memory : goal.returns-clause-memory
returns-clause-memory g c = ended.memory _ _ _ _ c.do_work.result c.code.result c.code.ensures c.do_work.ensures.ends

pub returns-clause-refused : goal.returns-clause-refused
returns-clause-refused g c = ended.refused _ _ _ _ c.do_work.result c.code.result c.code.ensures c.do_work.ensures.ends

pub returns-clause-refuses : goal.returns-clause-refuses
returns-clause-refuses g c = ended.refuses _ _ _ _ c.do_work.result c.code.result c.code.ensures c.do_work.ensures.ends

pub returns-clause-played : goal.returns-clause-played
returns-clause-played g c = ended.played _ _ _ _ c.do_work.result c.code.result c.code.ensures c.do_work.ensures.ends

pub returns-clause-ran : goal.returns-clause-ran
returns-clause-ran g c = ended.ran _ _ _ _ c.do_work.result c.code.result c.code.ensures c.do_work.ensures.ends

pub returns-clause-summed : goal.returns-clause-summed
returns-clause-summed g c = ended.summed _ _ _ _ c.do_work.result c.code.result c.code.ensures c.do_work.ensures.ends

pub returns-clause-summary_text : goal.returns-clause-summary_text
returns-clause-summary_text g c =
    summed.summary_text c.summary_of_words.ensures _ _ _ _ c.do_work.result c.code.result c.code.ensures c.do_work.ensures.ends

pub returns-clause-written : goal.returns-clause-written
returns-clause-written g c = ended.written _ _ _ _ c.do_work.result c.code.result c.code.ensures c.do_work.ensures.ends

pub returns-clause-full : goal.returns-clause-full
returns-clause-full g c = ended.full _ _ _ _ c.do_work.result c.code.result c.code.ensures c.do_work.ensures.ends

pub returns-clause-filled : goal.returns-clause-filled
returns-clause-filled g c = ended.filled _ _ _ _ c.do_work.result c.code.result c.code.ensures c.do_work.ensures.ends

pub returns-clause-filled_by_gen : goal.returns-clause-filled_by_gen
returns-clause-filled_by_gen g c = ended.filled_by_gen _ _ _ _ c.do_work.result c.code.result c.code.ensures c.do_work.ensures.ends

pub returns-clause-spent : goal.returns-clause-spent
returns-clause-spent g c = ended.spent _ _ _ _ c.do_work.result c.code.result c.code.ensures c.do_work.ensures.ends

pub returns-clause-plays : goal.returns-clause-plays
returns-clause-plays g c = ended.plays _ _ _ _ c.do_work.result c.code.result c.code.ensures c.do_work.ensures.ends

pub returns-clause-wire_fault : goal.returns-clause-wire_fault
returns-clause-wire_fault g c = ended.wire_fault _ _ _ _ c.do_work.result c.code.result c.code.ensures c.do_work.ensures.ends

pub returns-clause-unfinished : goal.returns-clause-unfinished
returns-clause-unfinished g c = ended.unfinished _ _ _ _ c.do_work.result c.code.result c.code.ensures c.do_work.ensures.ends

pub returns-clause-ran_over_tcp : goal.returns-clause-ran_over_tcp
returns-clause-ran_over_tcp g c = ended.ran_over_tcp _ _ _ _ c.do_work.result c.code.result c.code.ensures c.do_work.ensures.ends

pub returns-clause-too_many : goal.returns-clause-too_many
returns-clause-too_many g c = ended.too_many _ _ _ _ c.do_work.result c.code.result c.code.ensures c.do_work.ensures.ends

pub returns-clause-refuses_many : goal.returns-clause-refuses_many
returns-clause-refuses_many g c = ended.refuses_many _ _ _ _ c.do_work.result c.code.result c.code.ensures c.do_work.ensures.ends

pub returns-clause-known : goal.returns-clause-known
returns-clause-known g c = codes.at_most c.do_work.result c.code.result c.code.ensures

pub returns-clause-runs : goal.returns-clause-runs
returns-clause-runs g c = complete.runs _ _ _ _ c.do_work.result c.code.result c.code.ensures c.do_work.ensures.ends

pub returns-clause-generates : goal.returns-clause-generates
returns-clause-generates g c = complete.generates _ _ _ _ c.do_work.result c.code.result c.code.ensures c.do_work.ensures.ends

pub returns-clause-read_fault_told : goal.returns-clause-read_fault_told
returns-clause-read_fault_told g c =
    let source : SourceSeen = record {
      left = g.S.Source.left c.args.source.now;
      faults_before = g.S.Source.faults c.args.source.now;
      faults_after = g.S.Source.faults c.do_work.new.source;
    } in
    sources.read_fault_told source c.do_work.result c.code.result c.code.ensures c.do_work.ensures.tells

pub returns-clause-read_to_end : goal.returns-clause-read_to_end
returns-clause-read_to_end g c = λ reads of.
    c.do_work.ensures.emptied reads (sources.of_script c.do_work.result c.code.result c.code.ensures of)
