use Rattle.std.proofs.Common.{rules, ◌≡◌, ◌⊎◌, nat_lt, List, length, sym, ap, subst, ◌∙◌}
use Rattle.rds_model.specs.declared.entry.Entry.{Entry}
use Rattle.rds_line.specs.declared.outcome.Turn.{Turn}
use Rattle.rds_line.specs.declared.outcome.Turn.TheVariants as turn
use Rattle.rds_line.specs.Line.{LineView, line_past}
use Rattle.rds_line.specs.Turns.{is_bytes_heard, is_bytes_sent}
use Rattle.rds_line.proofs.Judging.{answer_goes_on, answer_idle, answer_moved, answer_over, answer_unspent, goes_on_of, idle_of, moved_of, over_of}
use Rattle.rds_line.proofs.Ordering.{took_or_not}
use Rattle.rds_line.proofs.line.Line.turn.Goals as goal

pub returns-in-Ok-clause-moved : goal.returns-in-Ok-clause-moved
returns-in-Ok-clause-moved g c = λ is.
    let new = c.steps.new.self in
    let done = c.in-Ok.done in
    let streams = new.channel.streams in
    let count : c.len-before.result ≡ length (line_past c.args.self.now) =
    c.len-before.ensures.len ∙ (ap (λ (l : List Entry). length l) c.journal.ensures.past ∙ ap (λ (l : LineView g.row.E.Denot g.row.M.Denot). length (line_past l)) c.self.view_is) in
    moved_of g.E.End.means c.args.self.now new done c.len-before.result (c.in-Ok.ensures {u = tt}).did count
    (answer_moved done.took (is_bytes_heard done.heard) (is_bytes_sent done.sent) streams.is_open (nat_lt streams.opened (length streams.list)) (nat_lt c.len-before.result (length (line_past new))) (sym c.judged.ensures ∙ is))

pub returns-in-Ok-clause-idle : goal.returns-in-Ok-clause-idle
returns-in-Ok-clause-idle g c = λ is.
    let new = c.steps.new.self in
    let done = c.in-Ok.done in
    let streams = new.channel.streams in
    let count : c.len-before.result ≡ length (line_past c.args.self.now) =
    c.len-before.ensures.len ∙ (ap (λ (l : List Entry). length l) c.journal.ensures.past ∙ ap (λ (l : LineView g.row.E.Denot g.row.M.Denot). length (line_past l)) c.self.view_is) in
    idle_of g.E.End.means c.args.self.now new done c.len-before.result (c.in-Ok.ensures {u = tt}).did count c.steps.ensures.stays.channel.past
    (answer_idle done.took (is_bytes_heard done.heard) (is_bytes_sent done.sent) streams.is_open (nat_lt streams.opened (length streams.list)) (nat_lt c.len-before.result (length (line_past new))) (sym c.judged.ensures ∙ is))

pub returns-in-Ok-clause-spent : goal.returns-in-Ok-clause-spent
returns-in-Ok-clause-spent g c = λ entries is.
    let new = c.steps.new.self in
    let done = c.in-Ok.done in
    let streams = new.channel.streams in
    absurd (answer_unspent done.took (is_bytes_heard done.heard) (is_bytes_sent done.sent) streams.is_open (nat_lt streams.opened (length streams.list)) (nat_lt c.len-before.result (length (line_past new))) entries (sym c.judged.ensures ∙ is))

pub returns-in-Ok-clause-over : goal.returns-in-Ok-clause-over
returns-in-Ok-clause-over g c = λ is.
    let new = c.steps.new.self in
    let done = c.in-Ok.done in
    let streams = new.channel.streams in
    let count : c.len-before.result ≡ length (line_past c.args.self.now) =
    c.len-before.ensures.len ∙ (ap (λ (l : List Entry). length l) c.journal.ensures.past ∙ ap (λ (l : LineView g.row.E.Denot g.row.M.Denot). length (line_past l)) c.self.view_is) in
    over_of g.E.End.means c.args.self.now new done c.len-before.result (c.in-Ok.ensures {u = tt}).did count c.known.ensures.streams.within
    (answer_over done.took (is_bytes_heard done.heard) (is_bytes_sent done.sent) streams.is_open (nat_lt streams.opened (length streams.list)) (nat_lt c.len-before.result (length (line_past new))) (sym c.judged.ensures ∙ is))

pub returns-in-Ok-clause-goes_on : goal.returns-in-Ok-clause-goes_on
returns-in-Ok-clause-goes_on g c = λ is.
    let new = c.steps.new.self in
    let done = c.in-Ok.done in
    let streams = new.channel.streams in
    let count : c.len-before.result ≡ length (line_past c.args.self.now) =
    c.len-before.ensures.len ∙ (ap (λ (l : List Entry). length l) c.journal.ensures.past ∙ ap (λ (l : LineView g.row.E.Denot g.row.M.Denot). length (line_past l)) c.self.view_is) in
    goes_on_of g.E.End.means c.args.self.now new done c.len-before.result (c.in-Ok.ensures {u = tt}).did count
    (answer_goes_on done.took (is_bytes_heard done.heard) (is_bytes_sent done.sent) streams.is_open (nat_lt streams.opened (length streams.list)) (nat_lt c.len-before.result (length (line_past new))) (subst (λ (t : Turn). (t ≡ turn.Moved) ⊎ (t ≡ turn.Idle)) c.judged.ensures is))

pub returns-in-Err-Spent-clause-idle : goal.returns-in-Err-Spent-clause-idle
returns-in-Err-Spent-clause-idle g c = search rules

pub returns-in-Err-Spent-clause-goes_on : goal.returns-in-Err-Spent-clause-goes_on
returns-in-Err-Spent-clause-goes_on g c = search rules

pub returns-in-Err-Spent-clause-freed : goal.returns-in-Err-Spent-clause-freed
returns-in-Err-Spent-clause-freed g c = search rules

pub returns-in-Ok-clause-ordered : goal.returns-in-Ok-clause-ordered
returns-in-Ok-clause-ordered g c = λ is.
    let did = (c.in-Ok.ensures {u = tt}).did in
    took_or_not c.in-Ok.done.took did.took did.none

pub returns-in-Ok-clause-at_most : goal.returns-in-Ok-clause-at_most
returns-in-Ok-clause-at_most g c = c.steps.ensures.at_most

pub returns-in-Err-Spent-clause-ordered : goal.returns-in-Err-Spent-clause-ordered
returns-in-Err-Spent-clause-ordered g c = search rules

pub returns-in-Err-Spent-clause-at_most : goal.returns-in-Err-Spent-clause-at_most
returns-in-Err-Spent-clause-at_most g c = c.steps.ensures.at_most
