use Rattle.std.proofs.Common.{◌≡◌, List, Vec, Result, IfOk, length, subst, sym, ◌∙◌, arith}
use Rattle.std.specs.Global.{Global}
use Rattle.std.proofs.lemmas.Option.{get_or_from_slice_get, slice_get_within}
use Rattle.rds_wire.specs.declared.memory.Memory.{Memory}
use Rattle.rds_fmap.specs.Readers.{WriterView}
use Rattle.rds_line.specs.Line.{LineView}
use Rattle.rds_run_callers.specs.Places.{CallerView}
use Rattle.rds_run_hosts.specs.Making.{IsParty}
use Rattle.rds_run_hosts.proofs.making.made_beside.Goals as goal

pub returns : goal.returns
returns g c =
    let One = Result (CallerView × Vec (LineView g.row.E.Denot WriterView) Global) Memory in
    let hosts = c.args.script.now.hosts in
    let commands = c.args.script.now.commands.items in
    let made = c.in_ok-made.made.items in
    let long : length made ≡ hosts = sym c.in_ok-made.made.ok.0 ∙ c.in_ok-made.ensures.len ∙ c.from.ensures in record {
      count = long;
      each = λ host one at.
          let did = (c.in_ok-made.ensures.each host one (let within = slice_get_within made host one at in let more = c.from.ensures in omega (arith, within, long, more))).1 in
          subst (λ (r : One). IfOk r (IsParty c.args.limit hosts host commands)) (get_or_from_slice_get made host one one at) did.met;
    }
