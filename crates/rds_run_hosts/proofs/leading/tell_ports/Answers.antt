use Rattle.std.proofs.Common.{◌≡◌, List, length, rules, subst, sym}
use Rattle.rds_fmap.specs.Readers.{WriterView}
use Rattle.rds_line.specs.Line.{LineView}
use Rattle.rds_run_settling.specs.Tied.{ArePortsTold, AreTied, LinesLearnPorts}
use Rattle.rds_run_hosts.proofs.Keeping.{back_of}
use Rattle.rds_run_hosts.proofs.leading.tell_ports.Goals as goal

pub returns-clause-told : goal.returns-clause-told
returns-clause-told g c =
    let len : c.args.lines.now.len ≡ length c.args.lines.now.items = search rules in
    let learn = subst (λ (l : List (LineView g.row.E.Denot WriterView)). LinesLearnPorts l c.settle_ports.new.lines) c.deref_mut.ensures.value c.settle_ports.ensures.lines in
    let same = back_of c.args.lines.now.items c.settle_ports.new.lines c.args.lines.now.len len learn.count in
    subst (λ (l : List (LineView g.row.E.Denot WriterView)). ArePortsTold c.settle_ports.new.caller.places l) (sym same) c.settle_ports.ensures.told

pub returns-clause-lines : goal.returns-clause-lines
returns-clause-lines g c =
    let len : c.args.lines.now.len ≡ length c.args.lines.now.items = search rules in
    let learn = subst (λ (l : List (LineView g.row.E.Denot WriterView)). LinesLearnPorts l c.settle_ports.new.lines) c.deref_mut.ensures.value c.settle_ports.ensures.lines in
    let same = back_of c.args.lines.now.items c.settle_ports.new.lines c.args.lines.now.len len learn.count in
    subst (λ (l : List (LineView g.row.E.Denot WriterView)). LinesLearnPorts c.args.lines.now.items l) (sym same) learn

pub returns-clause-tied : goal.returns-clause-tied
returns-clause-tied g c =
    let len : c.args.lines.now.len ≡ length c.args.lines.now.items = search rules in
    let learn = subst (λ (l : List (LineView g.row.E.Denot WriterView)). LinesLearnPorts l c.settle_ports.new.lines) c.deref_mut.ensures.value c.settle_ports.ensures.lines in
    let same = back_of c.args.lines.now.items c.settle_ports.new.lines c.args.lines.now.len len learn.count in
    subst (λ (l : List (LineView g.row.E.Denot WriterView)). AreTied c.settle_ports.new.caller.places l) (sym same) c.settle_ports.ensures.tied
