use Rattle.std.proofs.Common.{◌≡◌, ℕ, List, [], ◌∷◌, ◌++◌, Result, Ok, Err, OnOk, is_ok, refl, sym, ap, true, ◌∙◌}
use Rattle.std.specs.Result.{result_and}
use Rattle.std.proofs.lemmas.Bool.{false≢true}
use Rattle.std.proofs.lemmas.List.Elements.{All-push}
use Rattle.rds_fmap.specs.Readers.{WriterView}
use Rattle.rds_model.specs.declared.entry.Entry.{Entry}
use Rattle.rds_model.specs.declared.order.Order.{Order}
use Rattle.rds_mail.specs.Passes.{Getter}
use Rattle.rds_text.specs.FinalState.{FinalJournal}
use Rattle.rds_text.specs.FinalViews.{side_view}
use Rattle.rds_line.specs.Keeps.{KeepsLine}
use Rattle.rds_line.specs.Line.{LineView, line_past}
use Rattle.rds_host_end.specs.Columns.{rows_left}
use Rattle.rds_host_end.specs.Cuts.{HasCut}
use Rattle.rds_host_end.specs.Sides.{line_side}
use Rattle.rds_host_end.proofs.Columns.{mapped_push, pushed_map}
use Rattle.rds_host_end.proofs.Held.{out_after}
use Rattle.rds_host_end.proofs.lines.take_lines.Goals as goal

both_ok : {X Y Z : Type 0} (a : Result X Z) (b r : Result Y Z) → r ≡ result_and a b → is_ok r ≡ true → (is_ok a ≡ true) × (is_ok b ≡ true)
both_ok (Ok x) b r is ok = (refl, ap is_ok (sym is) ∙ ok)
both_ok (Err e) b r is ok = absurd (false≢true (ap is_ok (sym is) ∙ ok))

on_ok : {X Z : Type 0} (r : Result X Z) (P : Type 0) → OnOk r P → is_ok r ≡ true → P
on_ok (Ok x) P known is = known
on_ok (Err e) P known is = absurd (false≢true is)

added : {X Y Z : Type 0} (r : Result Y Z) (old new : List X) (x : X) → OnOk r (new ≡ old ++ x ∷ []) → is_ok r ≡ true → new ≡ old ++ x ∷ []
added r old new x known is = on_ok r (new ≡ old ++ x ∷ []) known is

same_side : (p q : ℕ) (a b : List Entry) → p ≡ q → a ≡ b → ◌≡◌ {A = FinalJournal} (record { peer = p; past = a }) (record { peer = q; past = b })
same_side p q a b peers pasts = cc

same_asked : (o p : Getter Order) (m n : WriterView) → o ≡ p → m ≡ n → ◌≡◌ {A = Getter Order × WriterView} (o, m) (p, n)
same_asked o p m n orders maps = cc

pub loop-line-preserved : goal.loop-line-preserved
loop-line-preserved g c =
    let seen = c.loop-line.yielded in
    let line = c.in-Some.line in
    let own = c.take_line-own in
    let old = c.loop-line.left in
    let new = c.add.new.self in (
      All-push (KeepsLine (λ w. w.published)) seen line c.loop-line.invariant.0 own.ensures.kept,
      All-push HasCut seen line c.loop-line.invariant.1 own.ensures.cut,
      λ ok.
          let both = both_ok c.loop-line.all c.add.result c.and-all.result c.and-all.ensures ok in
          let inv = c.loop-line.invariant.2 both.0 in (
            mapped_push side_view line_side old.journals.items new.journals.items seen (own.result.peer, own.result.journal) line (added c.add.result old.journals.items new.journals.items (own.result.peer, own.result.journal) c.add.ensures.journals both.1) inv.0
                (same_side own.result.peer line.channel.conn.peer own.result.journal.past (line_past line) own.ensures.peer own.ensures.past),
            pushed_map (λ (l : LineView g.row.W-End.Denot WriterView). (l.orders, l.map)) old.orders.items new.orders.items seen (own.result.orders, own.result.map) line (added c.add.result old.orders.items new.orders.items (own.result.orders, own.result.map) c.add.ensures.orders both.1) inv.1
                (same_asked own.result.orders line.orders own.result.map line.map own.ensures.orders own.ensures.map),
            pushed_map (λ (l : LineView g.row.W-End.Denot WriterView). l.boxes) (rows_left old.boxes.items) (rows_left new.boxes.items) seen own.result.boxes line (added c.add.result (rows_left old.boxes.items) (rows_left new.boxes.items) own.result.boxes c.add.ensures.boxes both.1) inv.2 own.ensures.boxes,
            pushed_map (λ (l : LineView g.row.W-End.Denot WriterView). l.ports) old.ports.items new.ports.items seen own.result.ports line (added c.add.result old.ports.items new.ports.items own.result.ports c.add.ensures.ports both.1) inv.3 own.ensures.ports,
            pushed_map (λ (l : LineView g.row.W-End.Denot WriterView). l.words) old.words.items new.words.items seen own.result.words line (added c.add.result old.words.items new.words.items own.result.words c.add.ensures.words both.1) inv.4 own.ensures.words,
          ),
      out_after seen line _ _ _ c.loop-line.invariant.3 own.ensures.out,
      λ before fits risen. own.ensures.risen before fits (c.loop-line.invariant.4 before fits risen),
    )
