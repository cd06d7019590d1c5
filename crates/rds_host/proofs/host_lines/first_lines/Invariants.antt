use Rattle.std.proofs.Common.{◌≡◌, ◌+◌, All, length, map, drop}
use Rattle.std.specs.Arc.{arc_value}
use Rattle.rds_line_channel.specs.Streams.{AreNumbered, IsUnused}
use Rattle.rds_meter.specs.Grounds.{seats_of}
use Rattle.rds_host.specs.Passes.{line_seats}
use Rattle.rds_host.specs.Ties.{AreLinesOf}
use Rattle.rds_host.proofs.host_lines.first_lines.Given as goal

abbrev pub invariant-loop-column : goal.invariant-loop-column
invariant-loop-column g l =
    (arc_value l.seats.table ≡ arc_value l.fn.seats.table)
    × (arc_value l.seats.meter ≡ arc_value l.fn.seats.meter)
    × (l.seats.seat.view.splits + length l.yielded ≡ l.fn.seats.seat.view.splits)
    × (l.seats.own.view.splits + length l.yielded ≡ l.fn.seats.own.view.splits)
    × (line_seats l.lines.items + seats_of l.seats.own.view ≡ seats_of l.fn.seats.own.view)
    × (l.streams.rest.items ≡ drop (length l.yielded) l.fn.streams.items)
    × All (λ list. AreNumbered list.items) l.streams.rest.items
    × All (λ list. All (λ stream. IsUnused g.E.End.means stream.1) list.items) l.streams.rest.items
    × AreLinesOf l.fn.addr l.fn.limit (arc_value l.fn.seats.table) (arc_value l.fn.seats.meter) l.yielded (map (λ list. list.items) l.fn.streams.items) l.lines.items
