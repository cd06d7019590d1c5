use Rattle.rds_run_rounds.specs.Grid.{rows_of}
use Rattle.rds_run_hosts.proofs.Jobs.{parties_called}
use Rattle.rds_run_hosts.proofs.Obeying.{obeyed_same}
use Rattle.rds_run_hosts.proofs.leading.lead.Goals as goal

pub tell_all-requires : goal.tell_all-requires
tell_all-requires g c = (
  c.requires.parties.0,
  parties_called c.tied_keeps.ensures.places c.requires.parties.0 c.args.callers.now.items c.bind_leading.new.callers.items (rows_of c.args.lines.now.items)
      c.requires.parties.1 c.bind_leading.ensures.keeps,
)

pub returns-clause-obeyed : goal.returns-clause-obeyed
returns-clause-obeyed g c =
    obeyed_same _ c.args.callers.now.items c.bind_leading.new.callers.items c.tell_all.new.callers.items c.in_ok-leading.ensures.obeyed c.tell_all.ensures.places

pub returns-clause-parties : goal.returns-clause-parties
returns-clause-parties g c = λ hosts parties.
    c.tell_all.ensures.parties hosts
    (parties_called c.tied_keeps.ensures.places hosts c.args.callers.now.items c.bind_leading.new.callers.items (rows_of c.args.lines.now.items)
    parties c.bind_leading.ensures.keeps)
