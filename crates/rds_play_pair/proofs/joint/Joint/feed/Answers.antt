use Rattle.std.proofs.Common.{◌≡◌, ◌∙◌, ◌<◌, ap, subst, ℕ, List, length}
use Rattle.std.specs.Prelude.{IfOk}
use Rattle.rds_play_pair.specs.Sides.{Side, of_end}
use Rattle.rds_play_pair.proofs.Keeping.{across}
use Rattle.rds_play_pair.proofs.Pulling.{across_is}
use Rattle.rds_play_pair.proofs.Feeding.{IsFedTo, count_seen, fed_tried, kept_fed, seen_fed, some_are}
use Rattle.rds_play_pair.proofs.joint.Joint.feed.Goals as goal

-- the bytes went as they should, where the pair moved them
fed_is : (c : goal.After-reading) →
    IfOk c.move_bytes-moved.result (λ used. IsFedTo c.args.to c.args.bytes used c.self.inside.pair c.move_bytes-moved.new.self)
fed_is c =
    let p = c.self.inside.pair in
    let faced : of_end c.other.result p ≡ across c.args.to p = ap (λ e. of_end e p) c.other.ensures ∙ across_is c.args.to p in
    let some : 0 < length (across c.args.to p).flying =
    subst (λ (bytes : List ℕ). 0 < length bytes) (c.in_flight.ensures ∙ ap (λ (s : Side). s.flying) faced)
    (some_are c.in_flight.result.now c.is_empty.result c.is_empty.ensures c.if-is_empty.false) in
    fed_tried c.move_bytes-moved.result c.args.to c.args.bytes p c.move_bytes-moved.new.self some c.known.ensures.whole_first.legal
    c.known.ensures.whole_second.legal c.self.invariant
    (record {
      first = c.reading.ensures.first;
      second = c.reading.ensures.second;
      whole_first = c.reading.ensures.whole_first;
      whole_second = c.reading.ensures.whole_second;
    })
    c.move_bytes-moved.ensures.ok

pub invariant_of-self : goal.invariant_of-self
invariant_of-self c =
    kept_fed c.move_bytes-moved.result c.args.to c.args.bytes c.self.inside.pair c.move_bytes-moved.new.self (fed_is c)
    c.move_bytes-moved.ensures.err c.self.invariant

pub returns-clause-used : goal.returns-clause-used
returns-clause-used c =
    rw (← c.self.view_is)
    (count_seen c.move_bytes-moved.result c.args.to c.args.bytes c.self.inside.pair c.move_bytes-moved.new.self (fed_is c))

pub returns-clause-ok : goal.returns-clause-ok
returns-clause-ok c =
    rw (← c.self.view_is)
    (seen_fed c.move_bytes-moved.result c.args.to c.args.bytes c.self.inside.pair c.move_bytes-moved.new.self (fed_is c))
