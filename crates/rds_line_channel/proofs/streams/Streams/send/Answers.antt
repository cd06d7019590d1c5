use Rattle.std.proofs.Common.{◌≡◌, ℕ, ◌-◌, true, List, take, sym, ap, subst, ◌∙◌}
use Rattle.std.proofs.lemmas.List.{with_items_is}
use Rattle.rds_link.specs.Answers.{bytes_put}
use Rattle.rds_line_channel.specs.Streams.{StreamsView, AreKept, EndAt, HasSaidOver, ShutByFaultOnly, newest_place, numbers, with_list}
use Rattle.rds_line_channel.specs.StreamChanges.{ChangesAt, Sends}
use Rattle.rds_line_channel.specs.Meeting.{StayPaired}
use Rattle.rds_line_channel.proofs.Over.{sent_by_fault}
use Rattle.rds_line_channel.proofs.Keeping.{kept_changed}
use Rattle.rds_line_channel.proofs.OtherTerms.{told}
use Rattle.rds_line_channel.proofs.streams.Streams.send.Goals as goal

pub invariant_of-self : goal.invariant_of-self
invariant_of-self g c =
    let inside = c.self.inside in
    let whole = with_items_is inside.streams c.write_at.new.streams (c.write_at.auto.streams ∙ c.deref_mut.ensures.len) in
    let s : StreamsView g.row.E.Denot = record { list = inside.streams.items; opened = inside.opened; is_open = inside.is_open } in
    let on : inside.is_open ≡ true = ap (λ (v : StreamsView g.row.E.Denot). v.is_open) c.self.view_is ∙ c.requires.open in
    subst (λ (l : List (ℕ × g.row.E.Denot)). AreKept g.E.End.means (with_list s l)) (sym whole)
    (kept_changed g.E.End.means s c.self.invariant on c.deref_mut.result.now c.write_at.new.streams c.deref_mut.ensures.value c.write_at.ensures.sent
    (sent_by_fault g.E.End.means c.write_at.result (take (bytes_put c.write_at.result) c.args.piece.now)))

pub write_at-requires-clause-by_fault : goal.write_at-requires-clause-by_fault
write_at-requires-clause-by_fault g c =
    let inside = c.self.inside in
    let on : inside.is_open ≡ true = ap (λ (v : StreamsView g.row.E.Denot). v.is_open) c.self.view_is ∙ c.requires.open in
    subst (λ (l : List (ℕ × g.row.E.Denot)). EndAt (ShutByFaultOnly g.E.End.means) (inside.opened - 1) l) (sym c.deref_mut.ensures.value) (c.self.invariant.newest on)

pub returns-clause-sent : goal.returns-clause-sent
returns-clause-sent g c =
    let inside = c.self.inside in
    let whole = with_items_is inside.streams c.write_at.new.streams (c.write_at.auto.streams ∙ c.deref_mut.ensures.len) in
    told (λ (v : StreamsView g.row.E.Denot) (l : List (ℕ × g.row.E.Denot)). ChangesAt (Sends g.E.End.means c.write_at.result (take (bytes_put c.write_at.result) c.args.piece.now)) (newest_place v) v.list l) c.self.view_is c.deref_mut.ensures.value whole c.write_at.ensures.sent

pub returns-clause-over : goal.returns-clause-over
returns-clause-over g c = λ over.
    let inside = c.self.inside in
    let whole = with_items_is inside.streams c.write_at.new.streams (c.write_at.auto.streams ∙ c.deref_mut.ensures.len) in
    told (λ (v : StreamsView g.row.E.Denot) (l : List (ℕ × g.row.E.Denot)). EndAt (HasSaidOver g.E.End.means) (newest_place v) l) c.self.view_is c.deref_mut.ensures.value whole (c.write_at.ensures.over over)

pub returns-clause-numbers : goal.returns-clause-numbers
returns-clause-numbers g c =
    let inside = c.self.inside in
    let whole = with_items_is inside.streams c.write_at.new.streams (c.write_at.auto.streams ∙ c.deref_mut.ensures.len) in
    told (λ (v : StreamsView g.row.E.Denot) (l : List (ℕ × g.row.E.Denot)). numbers l ≡ numbers v.list) c.self.view_is c.deref_mut.ensures.value whole c.write_at.ensures.numbers

pub returns-clause-stays : goal.returns-clause-stays
returns-clause-stays g c =
    let inside = c.self.inside in
    let whole = with_items_is inside.streams c.write_at.new.streams (c.write_at.auto.streams ∙ c.deref_mut.ensures.len) in
    told (λ (v : StreamsView g.row.E.Denot) (l : List (ℕ × g.row.E.Denot)). StayPaired g.E.End.means v.list l) c.self.view_is c.deref_mut.ensures.value whole c.write_at.ensures.stays
