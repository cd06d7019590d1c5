use Rattle.std.proofs.Common.{refl, arith}
use Rattle.rds_socket.proofs.Orders.{of_look, routes_length}
use Rattle.rds_socket.proofs.Sends.{congested, clear_at, leads_still, loaded_open, send_full}
use Rattle.rds_socket.proofs.socket.Socket.check.Goals as goal

pub returns-then-seen-clause-refused : goal.returns-then-seen-clause-refused
returns-then-seen-clause-refused g c =
    let s = c.self.inside in
    let a = c.if-len-limit.false in
    let b = c.min-limit.ensures in
    let e = c.len-len.ensures.len in
    congested g.R.MapReader.is_look c.args.peer c.args.dport c.args.payload.now _ _ c.self.view_is (omega arith) c.in-Some.place c.look-seen.result c.look-seen.new.self c.in-Some.ensures.found c.look-seen.ensures.look c.if-seen.true

pub invariant_of-self-then-is_full : goal.invariant_of-self-then-is_full
invariant_of-self-then-is_full g c =
    loaded_open _ c.freed.new.self c.freed.result c.look-seen.new.self c.freed.ensures.words
    (of_look c.self.inside.words.slot g.R.MapReader.is_look c.in-Some.place c.args.dport c.look-seen.result _ _ c.look-seen.ensures.look c.self.invariant.held.orders)
    (routes_length g.R.MapReader.pair g.R.MapReader.has_seen _ _ c.look-seen.ensures.stay) c.self.invariant

pub returns-then-is_full-clause-refused : goal.returns-then-is_full-clause-refused
returns-then-is_full-clause-refused g c =
    let s = c.self.inside in
    let a = c.if-len-limit.false in
    let b = c.min-limit.ensures in
    let e = c.len-len.ensures.len in
    let full = c.if-is_full.true in
    let from_limit = c.from-2.ensures in
    let from_len = c.from.ensures in
    send_full g.R.MapReader.is_look c.args.peer c.args.dport c.args.payload.now _ _ c.self.view_is (omega arith) c.in-Some.place c.look-seen.result c.look-seen.new.self c.in-Some.ensures.found c.look-seen.ensures.look
    c.freed.new.self c.freed.result c.freed.ensures.words c.saturating_sub-queued.result c.len-len.result s.sndbuf c.if-seen.false c.saturating_sub-queued.ensures e refl (omega arith)

pub invariant_of-self-2 : goal.invariant_of-self-2
invariant_of-self-2 g c =
    loaded_open _ c.freed.new.self c.freed.result c.look-seen.new.self c.freed.ensures.words
    (of_look c.self.inside.words.slot g.R.MapReader.is_look c.in-Some.place c.args.dport c.look-seen.result _ _ c.look-seen.ensures.look c.self.invariant.held.orders)
    (routes_length g.R.MapReader.pair g.R.MapReader.has_seen _ _ c.look-seen.ensures.stay) c.self.invariant

pub returns-clause-clear : goal.returns-clause-clear
returns-clause-clear g c =
    let a = c.if-len-limit.false in
    let b = c.min-limit.ensures in
    let e = c.len-len.ensures.len in
    clear_at g.R.MapReader.is_look c.args.peer c.args.dport c.args.payload.now _ _ c.self.view_is (omega arith) c.in-Some.place c.look-seen.result c.look-seen.new.self c.in-Some.ensures.found c.look-seen.ensures.look c.if-seen.false

pub returns-clause-place : goal.returns-clause-place
returns-clause-place g c =
    let a = c.if-len-limit.false in
    let b = c.min-limit.ensures in
    let e = c.len-len.ensures.len in
    leads_still g.R.MapReader.is_look c.args.peer c.args.dport c.args.payload.now _ _ c.self.view_is (omega arith) c.in-Some.place c.look-seen.result c.look-seen.new.self c.in-Some.ensures.found c.look-seen.ensures.look
