use Rattle.std.proofs.Common.{◌≡◌, ℕ, true, false, List, sym, ap, subst, ◌∙◌}
use Rattle.std.proofs.lemmas.List.{with_items_is}
use Rattle.rds_line_channel.specs.Streams.{StreamsView, AreKept, newest_place, numbers}
use Rattle.rds_line_channel.specs.StreamChanges.{ChangesAt, IsShutDown}
use Rattle.rds_line_channel.specs.Meeting.{StayPaired}
use Rattle.rds_line_channel.proofs.Keeping.{kept_ended}
use Rattle.rds_line_channel.proofs.OtherTerms.{told}
use Rattle.rds_line_channel.proofs.streams.Streams.end_current.Goals as goal

pub invariant_of-self : goal.invariant_of-self
invariant_of-self g c =
    let inside = c.self.inside in
    let whole = with_items_is inside.streams c.shut_at.new.streams (c.shut_at.auto.streams ∙ c.deref_mut.ensures.len) in
    let s : StreamsView g.row.E.Denot = record { list = inside.streams.items; opened = inside.opened; is_open = inside.is_open } in
    let on : inside.is_open ≡ true = ap (λ (v : StreamsView g.row.E.Denot). v.is_open) c.self.view_is ∙ c.requires in
    subst (λ (l : List (ℕ × g.row.E.Denot)). AreKept g.E.End.means (record s { list = l; is_open = false })) (sym whole)
    (kept_ended g.E.End.means s c.self.invariant on c.deref_mut.result.now c.shut_at.new.streams c.deref_mut.ensures.value c.shut_at.ensures.shut)

pub returns-clause-shut : goal.returns-clause-shut
returns-clause-shut g c =
    let inside = c.self.inside in
    let whole = with_items_is inside.streams c.shut_at.new.streams (c.shut_at.auto.streams ∙ c.deref_mut.ensures.len) in
    told (λ (v : StreamsView g.row.E.Denot) (l : List (ℕ × g.row.E.Denot)). ChangesAt (IsShutDown g.E.End.means) (newest_place v) v.list l) c.self.view_is c.deref_mut.ensures.value whole c.shut_at.ensures.shut

pub returns-clause-numbers : goal.returns-clause-numbers
returns-clause-numbers g c =
    let inside = c.self.inside in
    let whole = with_items_is inside.streams c.shut_at.new.streams (c.shut_at.auto.streams ∙ c.deref_mut.ensures.len) in
    told (λ (v : StreamsView g.row.E.Denot) (l : List (ℕ × g.row.E.Denot)). numbers l ≡ numbers v.list) c.self.view_is c.deref_mut.ensures.value whole c.shut_at.ensures.numbers

pub returns-clause-stays : goal.returns-clause-stays
returns-clause-stays g c =
    let inside = c.self.inside in
    let whole = with_items_is inside.streams c.shut_at.new.streams (c.shut_at.auto.streams ∙ c.deref_mut.ensures.len) in
    told (λ (v : StreamsView g.row.E.Denot) (l : List (ℕ × g.row.E.Denot)). StayPaired g.E.End.means v.list l) c.self.view_is c.deref_mut.ensures.value whole c.shut_at.ensures.stays
