use Rattle.std.proofs.Common.{rules, refl}
use Rattle.rds_meter.specs.Places.{freed_word}
use Rattle.rds_meter.specs.Seats.{after_load}
use Rattle.rds_socket.proofs.Quiet.{quiet_load}
use Rattle.rds_socket.proofs.Kept.{open_words}
use Rattle.rds_socket.proofs.Staying.{stays_words}
use Rattle.rds_socket.proofs.socket.Socket.writable.Goals as goal

pub invariant_of-self : goal.invariant_of-self
invariant_of-self g c =
    let p = c.self.inside.words in
    open_words _ c.freed-freed.new.self (after_load p.seat.view (freed_word p.slot) c.freed-freed.result) c.freed-freed.ensures.words (quiet_load p.slot p.seat.view (freed_word p.slot) c.freed-freed.result c.self.invariant.held.quiet) c.self.invariant

pub returns-clause-stays : goal.returns-clause-stays
returns-clause-stays g c =
    let p = c.self.inside.words in
    stays_words g.R.MapReader.pair g.R.MapReader.has_seen _ _ c.freed-freed.new.self (after_load p.seat.view (freed_word p.slot) c.freed-freed.result) c.self.view_is c.freed-freed.ensures.words refl

pub returns-clause-answer : goal.returns-clause-answer
returns-clause-answer g c = search rules
