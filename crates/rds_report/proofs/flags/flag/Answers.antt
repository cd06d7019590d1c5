use Rattle.std.proofs.Common.{rules, ◌≡◌, ◌∙◌, Bool, List, false, get_or, ap}
use Rattle.rds_report.proofs.FlagLemmas.{flag_at}
use Rattle.rds_report.proofs.flags.flag.Goals as goal

pub returns : goal.returns
returns c = λ test m is below.
    let found : c.unwrap_or.result ≡ get_or c.args.flags.now c.args.place false = search rules in
    found ∙ ap (λ (l : List Bool). get_or l c.args.place false) is ∙ flag_at test m c.args.place false below
