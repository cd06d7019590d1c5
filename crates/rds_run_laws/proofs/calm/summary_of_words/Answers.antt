use Rattle.std.proofs.Common.{◌≤◌, arith}
use Rattle.rds_text.specs.declared.host.TheConstants.{MAX_HOSTS}
use Rattle.rds_script_gen.specs.Generator.{generated}
use Rattle.rds_run_laws.specs.Calm.{HaveRunCalmly}
use Rattle.rds_run_laws.proofs.Summarized.{summary_is}
use Rattle.rds_run_laws.proofs.calm.summary_of_words.Goals as goal

pub returns : goal.returns
returns c sends seed ends few did acknowledged =
    let commands = (generated sends seed).commands in
    let run : HaveRunCalmly 8 commands ends = record { calm = c.generated_is_calm.ensures sends seed few; did = did; acknowledged = acknowledged } in
    let room : 8 ≤ MAX_HOSTS = omega arith in
    summary_is seed sends ends (c.all_is_received.ensures.totals 8 commands ends room run) (c.all_is_received.ensures.bytes 8 commands ends room run)
