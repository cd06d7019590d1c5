use Rattle.std.proofs.Common.{Vec, sym, subst}
use Rattle.std.specs.Global.{Global}
use Rattle.rds_fmap.specs.Readers.{WriterView}
use Rattle.rds_line.specs.Line.{LineView}
use Rattle.rds_host.specs.Lines.{AreTurned, pair_of}
use Rattle.rds_host.proofs.Staying.{lines_same, lines_back}
use Rattle.rds_host.proofs.working.work.Goals.{in-None, in-Some+then-not-moved+then-is_told+then-others_rest+then-is_long}
use Rattle.rds_host.proofs.working.work.Goals as goal

pub loop-init : goal.loop-init
loop-init g c = lines_same g.E.End.means pair_of c.args.lines.items

pub loop-preserved : goal.loop-preserved
loop-preserved g c =
    lines_back g.E.End.means pair_of c.args.lines.items c.loop.lines.items c.deref_mut.result.now c.turn_all-moved.new.lines c.loop.lines.len
    c.loop.invariant c.deref_mut.ensures.value c.turn_all-moved.ensures c.loop.lines.ok.0

pub returns : goal.returns
returns g c = elim c.match-next.branch [
  | in-None w ↦ subst (λ (v : Vec (LineView g.row.E.Denot WriterView) Global). AreTurned g.E.End.means pair_of c.args.lines.items v.items) (sym w.lines-is) c.loop.invariant
  | in-Some+then-not-moved+then-is_told+then-others_rest+then-is_long w ↦ subst (λ (v : Vec (LineView g.row.E.Denot WriterView) Global). AreTurned g.E.End.means pair_of c.args.lines.items v.items) (sym w.lines-is)
      (lines_back g.E.End.means pair_of c.args.lines.items c.loop.lines.items w.deref_mut.result.now w.turn_all-moved.new.lines c.loop.lines.len
      c.loop.invariant w.deref_mut.ensures.value w.turn_all-moved.ensures c.loop.lines.ok.0)
]
