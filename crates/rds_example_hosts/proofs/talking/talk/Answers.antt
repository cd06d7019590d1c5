use Rattle.rds_example_hosts.proofs.Keeping.{keeps_then}
use Rattle.rds_example_hosts.proofs.talking.talk.Goals as goal

pub returns-clause-a : goal.returns-clause-a
returns-clause-a g c =
    let one = c.send.new.socket in
    let two = c.send-2.new.socket in
    let three = c.send-3.new.socket in
    let last = c.in_ok-a.a in
    keeps_then c.args.a one last c.send.ensures (keeps_then one two last c.send-2.ensures (keeps_then two three last c.send-3.ensures c.in_ok-a.ensures))

pub returns-clause-b : goal.returns-clause-b
returns-clause-b g c =
    let one = c.in_ok-b.b in
    let two = c.in_ok-b-2.b in
    let three = c.in_ok-b-3.b in
    let last = c.send-4.new.socket in
    keeps_then c.args.b one last c.in_ok-b.ensures (keeps_then one two last c.in_ok-b-2.ensures (keeps_then two three last c.in_ok-b-3.ensures c.send-4.ensures))
