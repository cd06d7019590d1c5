use Rattle.std.proofs.Common.{◌≡◌, ℕ, List, filter_map, ap, ◌∙◌, arith}
use Rattle.rds_script.specs.declared.script.Placed.{Placed}
use Rattle.rds_run_hosts.specs.Cuts.{cut_of}
use Rattle.rds_run_hosts.specs.Streams.{cuts_between}
use Rattle.rds_run_hosts.proofs.Cuts.{cuts_alone, few_cuts}
use Rattle.rds_run_hosts.proofs.counts.cuts_of.Goals as goal

all_of : (found slice commands : List Placed) → found ≡ filter_map cut_of slice → slice ≡ commands → (low high : ℕ) → cuts_between low high found ≡ cuts_between low high commands
all_of found slice commands is same low high =
    ap (λ (l : List Placed). cuts_between low high l) (is ∙ ap (λ (l : List Placed). filter_map cut_of l) same) ∙ cuts_alone low high commands

pub returns-clause-few : goal.returns-clause-few
returns-clause-few c = λ low high.
    let all = all_of c.in_ok-only_cuts.field-0.items c.as_slice.result.now c.args.script.now.commands.items c.in_ok-only_cuts.ensures c.as_slice.ensures.value low high in
    let few = few_cuts c.args.script.now.commands.items c.requires.cuts low high in
    omega (arith, all, few)

pub returns-clause-all : goal.returns-clause-all
returns-clause-all c =
    all_of c.in_ok-only_cuts.field-0.items c.as_slice.result.now c.args.script.now.commands.items c.in_ok-only_cuts.ensures c.as_slice.ensures.value
