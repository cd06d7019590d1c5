use Rattle.std.proofs.Common.{◌≡◌, ◌<◌, ◌-◌, Bool, true, if◌then◌else◌, length, Some, None, slice_get, sym, subst, arith}
use Rattle.rds_line_channel.specs.Streams.{StreamsView, numbers, open_number}
use Rattle.rds_line_channel.proofs.Numbering.{number_read}
use Rattle.rds_line_channel.proofs.streams.Streams.current.Goals as goal

pub returns-clause-number : goal.returns-clause-number
returns-clause-number g c =
    let inside = c.self.inside in
    let stream = c.index.result.now in
    let on : inside.is_open ≡ true = c.if-not-self.false in
    let some = c.self.invariant.some on in
    let within : inside.opened - 1 < length inside.streams.items = (let upto = c.self.invariant.within in omega arith) in
    let number = number_read inside.streams.items (inside.opened - 1) stream within c.index.ensures in
    subst (λ (v : StreamsView g.row.E.Denot). Some stream.0 ≡ open_number v) c.self.view_is
    (subst (λ (b : Bool). Some stream.0 ≡ (if b then slice_get (numbers inside.streams.items) (inside.opened - 1) else None)) (sym on) number)
