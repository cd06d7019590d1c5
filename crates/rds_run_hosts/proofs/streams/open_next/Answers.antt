use Rattle.std.proofs.Common.{rules, ℕ, true, ◌+◌, ◌-◌, length, List, [], ◌∷◌, ◌++◌, sym, subst, ◌∙◌}
use Rattle.rds_run_hosts.specs.Preparing.{ArePrepared}
use Rattle.rds_link.specs.Streaming.{HasRisen, HasRisenBy}
use Rattle.rds_line_channel.specs.Streams.{numbers}
use Rattle.rds_run_hosts.specs.Streams.{AreAllUnlessLacking, AreAllUnlessRisen}
use Rattle.rds_run_hosts.proofs.At.{joined}
use Rattle.rds_run_hosts.proofs.Counted.{all_more, all_refused}
use Rattle.rds_run_hosts.proofs.Known.{all_one_more, one_refused}
use Rattle.rds_run_hosts.proofs.Missing.{missing_more, missing_refused}
use Rattle.rds_run_hosts.proofs.Preparing.{prepared_less, prepared_more}
use Rattle.rds_run_hosts.proofs.streams.open_next.Goals as goal

pub returns-in-Ok-clause-prepared : goal.returns-in-Ok-clause-prepared
returns-in-Ok-clause-prepared g c =
    let m = g.W.End.End.means in
    let old = c.args.opened.now in
    let n = c.args.before + 1 in
    subst (λ (l : List (ℕ × g.row.W-End.Denot)). ArePrepared m n l c.add.new.self.high.items) (sym (joined (c.args.before + 1, c.in-Ok.first) c.add.ensures.low c.reserve.ensures.low))
    (subst (λ (h : List (ℕ × g.row.W-End.Denot)). ArePrepared m n (old.low.items ++ (n, c.in-Ok.first) ∷ []) h) (sym (joined (c.args.before + 1, c.in-Ok.second) c.add.ensures.high c.reserve.ensures.high))
    (prepared_more m c.args.before old.low.items old.high.items c.in-Ok.first c.in-Ok.second c.requires.prepared c.in-Ok.ensures.fresh.0 c.in-Ok.ensures.fresh.1 c.in-Ok.ensures.pair))

pub returns-in-Err-Fault-clause-prepared : goal.returns-in-Err-Fault-clause-prepared
returns-in-Err-Fault-clause-prepared g c =
    let m = g.W.End.End.means in
    let old = c.args.opened.now in
    let n = c.args.before + 1 in
    subst (λ (l : List (ℕ × g.row.W-End.Denot)). ArePrepared m n l c.reserve.new.self.high.items) (sym c.reserve.ensures.low)
    (subst (λ (h : List (ℕ × g.row.W-End.Denot)). ArePrepared m n old.low.items h) (sym c.reserve.ensures.high)
    (prepared_less m c.args.before old.low.items old.high.items c.requires.prepared))

pub returns-in-Ok-clause-whole : goal.returns-in-Ok-clause-whole
returns-in-Ok-clause-whole g c = λ first least whole.
    let n = c.args.before + 1 in
    subst (λ (l : List (ℕ × g.row.W-End.Denot)). AreAllUnlessRisen n first (g.W.Wire.counted c.open.new.self).faults (numbers l)) (sym (joined (c.args.before + 1, c.in-Ok.first) c.add.ensures.low c.reserve.ensures.low))
    (all_more c.args.before first (g.W.Wire.counted c.args.wire.now).faults (g.W.Wire.counted c.open.new.self).faults c.args.opened.now.low.items c.in-Ok.first least
    c.open.ensures.faults whole)

pub returns-in-Err-Fault-clause-whole : goal.returns-in-Err-Fault-clause-whole
returns-in-Err-Fault-clause-whole g c = λ first least whole.
    let before = (g.W.Wire.counted c.args.wire.now).faults in
    let after = (g.W.Wire.counted c.open.new.self).faults in
    let risen : HasRisen before after = search rules in
    all_refused c.args.before first before after (numbers c.reserve.new.self.low.items) least risen

pub returns-in-Ok-clause-lacks : goal.returns-in-Ok-clause-lacks
returns-in-Ok-clause-lacks g c = λ are.
    let n = c.args.before + 1 in
    subst (λ (l : List (ℕ × g.row.W-End.Denot)). AreAllUnlessLacking n c.add.new.self.lacks (numbers l)) (sym (joined (c.args.before + 1, c.in-Ok.first) c.add.ensures.low c.reserve.ensures.low))
    (subst (λ b. AreAllUnlessLacking n b (numbers (c.args.opened.now.low.items ++ (n, c.in-Ok.first) ∷ []))) (sym (c.add.ensures.lacks ∙ c.reserve.ensures.lacks))
    (all_one_more c.args.before c.args.opened.now.lacks c.args.opened.now.low.items c.in-Ok.first are))

-- refused where a stream is left out and it isn't said that one is missing
pub returns-in-Err-Fault-clause-lacks : goal.returns-in-Err-Fault-clause-lacks
returns-in-Err-Fault-clause-lacks g c = λ are.
    subst (λ (l : List (ℕ × g.row.W-End.Denot)). AreAllUnlessLacking (c.args.before + 1) true (numbers l)) (sym c.reserve.ensures.low)
    (one_refused c.args.before c.args.opened.now.lacks (numbers c.args.opened.now.low.items) are)

pub returns-in-Ok-clause-missing : goal.returns-in-Ok-clause-missing
returns-in-Ok-clause-missing g c = λ first small risen.
    let n = c.args.before + 1 in
    let after = (g.W.Wire.counted c.open.new.self).faults in
    subst (λ (l : List (ℕ × g.row.W-End.Denot)). HasRisenBy (n - length (numbers l)) first after) (sym (joined (c.args.before + 1, c.in-Ok.first) c.add.ensures.low c.reserve.ensures.low))
    (missing_more c.args.before first (g.W.Wire.counted c.args.wire.now).faults after c.args.opened.now.low.items (n, c.in-Ok.first) c.open.ensures.faults small risen)

pub returns-in-Err-Fault-clause-missing : goal.returns-in-Err-Fault-clause-missing
returns-in-Err-Fault-clause-missing g c = λ first small risen.
    let before = (g.W.Wire.counted c.args.wire.now).faults in
    let after = (g.W.Wire.counted c.open.new.self).faults in
    let refused : HasRisen before after = search rules in
    subst (λ (l : List (ℕ × g.row.W-End.Denot)). HasRisenBy (c.args.before + 1 - length (numbers l)) first after) (sym c.reserve.ensures.low)
    (missing_refused c.args.before (length (numbers c.args.opened.now.low.items)) first before after c.open.ensures.faults small refused risen)

-- refused where a stream is left out and no fault was counted
pub returns-in-Err-Memory-clause-whole : goal.returns-in-Err-Memory-clause-whole
returns-in-Err-Memory-clause-whole g c = search rules

pub returns-in-Err-Memory-clause-missing : goal.returns-in-Err-Memory-clause-missing
returns-in-Err-Memory-clause-missing g c = search rules

pub returns-in-Err-Memory-clause-lacks : goal.returns-in-Err-Memory-clause-lacks
returns-in-Err-Memory-clause-lacks g c = search rules
