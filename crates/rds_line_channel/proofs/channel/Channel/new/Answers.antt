use Rattle.std.proofs.Common.{◌≡◌, ◌++◌, ap, ◌∙◌}
use Rattle.rds_conn.specs.Connection.{Connection, taken_bytes}
use Rattle.rds_line_channel.specs.Channel.{CutsView, new_connection}
use Rattle.rds_line_channel.proofs.Restated.{restated}
use Rattle.rds_line_channel.proofs.Starting.{carried_first}
use Rattle.rds_line_channel.proofs.channel.Channel.new.Goals as goal

pub invariant_of-result : goal.invariant_of-result
invariant_of-result g c =
    let m = g.E.End.means in
    let first = new_connection c.args.me c.args.peer c.args.slots c.args.limit in
    let conn_is : c.in_ok-new.field-0 ≡ first = c.in_ok-new.ensures.empty in
    let piece = c.in_ok-new-3.field-0 in
    restated m (ap (λ (conn : Connection). conn.log.past) conn_is)
    (ap (λ (conn : Connection). taken_bytes conn ++ piece) conn_is ∙ c.in_ok-new-3.ensures) c.in_ok-new-2.ensures c.new-4.ensures
    (ap (λ (v : CutsView). v.numbers) c.new-5.ensures) (carried_first m c.args.streams.items)
