use Rattle.std.proofs.Common.{◌≡◌, inl, inr, ℕ, ◌<◌, nat_lt, List, length, refl, subst, sym, ap, ◌∙◌}
use Rattle.std.proofs.lemmas.Bool.{lt-ltb}
use Rattle.rds_model.specs.declared.entry.Entry.{Entry}
use Rattle.rds_line.specs.Line.{LineView, line_past}
use Rattle.rds_line.proofs.Judging.{judged_moved, not_false}
use Rattle.rds_line.proofs.line.Line.judged.Goals as goal
use Rattle.rds_line.proofs.line.Line.judged.Goals.{else-not-done-via-then-not-done+then-not-is_open+else-not-has_next, else-not-done-via-then-not-done+else-not-is_open, else-not-done-via-else-not-done, then-moved-via-then-moved, then-moved-via-else-moved+then-len-before}

pub returns-then-moved : goal.returns-then-moved
returns-then-moved g c =
    let now = c.args.self.now in
    let view = c.self.view_is in
    judged_moved c.args.done.took now.channel.streams.is_open (nat_lt now.channel.streams.opened (length now.channel.streams.list)) _ (nat_lt c.args.before (length (line_past now)))
    (elim c.else-not-done.branch [
      | else-not-done-via-then-not-done+then-not-is_open+else-not-has_next w ↦
          inr (inr (lt-ltb now.channel.streams.opened (length now.channel.streams.list)
          (subst (λ (l : LineView g.row.E.Denot g.row.M.Denot). l.channel.streams.opened < length l.channel.streams.list) view ((w.if-not-has_next.ensures {u = tt}).0 refl))))
      | else-not-done-via-then-not-done+else-not-is_open w ↦
          inr (inl (sym (ap (λ (l : LineView g.row.E.Denot g.row.M.Denot). l.channel.streams.is_open) view) ∙ sym (w.if-not-is_open.ensures {u = tt})))
      | else-not-done-via-else-not-done w ↦ inl (not_false c.args.done.took w.if-not-done.false)
    ])
    (elim c.then-moved.branch [
      | then-moved-via-then-moved w ↦ inl (sym c.moved.ensures ∙ w.if-moved.true)
      | then-moved-via-else-moved+then-len-before w ↦
          let many : w.len.result ≡ length (line_past now) =
          w.len.ensures.len ∙ (ap (λ (l : List Entry). length l) w.journal.ensures.past ∙ ap (λ (l : LineView g.row.E.Denot g.row.M.Denot). length (line_past l)) view) in
          inr (lt-ltb c.args.before (length (line_past now)) (subst (λ (n : ℕ). c.args.before < n) many w.if-len-before.true))
    ])
