use Rattle.std.proofs.Common.{◌≡◌, List, length, rules, subst, sym}
use Rattle.rds_fmap.specs.Readers.{WriterView}
use Rattle.rds_line.specs.Line.{LineView}
use Rattle.rds_run_settling.specs.Tied.{AreLinesTold, AreTied, LinesHear, holdings}
use Rattle.rds_run_threads.proofs.Keeping.{back_of}
use Rattle.rds_run_threads.proofs.running.tell_lines.Goals as goal

pub returns : goal.returns
returns g c =
    let len : c.args.lines.now.len ≡ length c.args.lines.now.items = search rules in
    let hear = subst (λ (l : List (LineView g.row.E.Denot WriterView)). LinesHear l c.settle_lines.new.lines) c.deref_mut.ensures.value c.settle_lines.ensures.lines in
    let same = back_of c.args.lines.now.items c.settle_lines.new.lines c.args.lines.now.len len hear.count in record {
      places = c.settle_lines.ensures.places;
      used = c.settle_lines.ensures.used;
      told = subst (λ (l : List (LineView g.row.E.Denot WriterView)). AreLinesTold (holdings c.settle_lines.new.caller.places) l) (sym same) c.settle_lines.ensures.told;
      hear = subst (λ (l : List (LineView g.row.E.Denot WriterView)). LinesHear c.args.lines.now.items l) (sym same) hear;
      tied = subst (λ (l : List (LineView g.row.E.Denot WriterView)). AreTied c.settle_lines.new.caller.places l) (sym same) c.settle_lines.ensures.tied;
    }
