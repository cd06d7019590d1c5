use Rattle.std.proofs.Common.{◌≡◌, ◌<◌, ℕ, false, List, slice_get, length, sym, ap, subst, ◌∙◌}
use Rattle.rds_line_channel.specs.Streams.{StreamsView, AreNumbered, numbers}
use Rattle.rds_line_channel.proofs.Keeping.{kept_opened}
use Rattle.rds_line_channel.proofs.Numbering.{above_opened, number_read}
use Rattle.rds_line_channel.proofs.streams.Streams.open_next.Goals as goal

pub invariant_of-self : goal.invariant_of-self
invariant_of-self g c =
    let inside = c.self.inside in
    let s : StreamsView g.row.E.Denot = record { list = inside.streams.items; opened = inside.opened; is_open = inside.is_open } in
    let off : inside.is_open ≡ false = ap (λ (v : StreamsView g.row.E.Denot). v.is_open) c.self.view_is ∙ c.requires in
    let found = c.in_ok-number.ensures {u = tt} in
    let left : inside.opened < length inside.streams.items = subst (λ (l : List (ℕ × g.row.E.Denot)). inside.opened < length l) c.deref.ensures.value found.lookup.3.0 in
    kept_opened g.E.End.means s c.self.invariant off left

pub returns-clause-number : goal.returns-clause-number
returns-clause-number g c =
    let found = c.in_ok-number.ensures {u = tt} in
    let inside = c.self.inside in
    let stream = c.in_ok-number.field-0.now in
    number_read c.deref.result.now inside.opened stream found.lookup.3.0 found.lookup.1
    ∙ (ap (λ (l : List (ℕ × g.row.E.Denot)). slice_get (numbers l) inside.opened) c.deref.ensures.value ∙ ap (λ (v : StreamsView g.row.E.Denot). slice_get (numbers v.list) v.opened) c.self.view_is)

pub returns-clause-above : goal.returns-clause-above
returns-clause-above g c =
    let stream = c.in_ok-number.field-0.now in
    let numbered = subst (λ (v : StreamsView g.row.E.Denot). AreNumbered v.list) c.self.view_is c.self.invariant.numbered in
    above_opened c.args.self.now.list c.args.self.now.opened stream.0 numbered (sym (returns-clause-number g c))
