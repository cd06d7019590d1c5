use Rattle.std.proofs.Common.{ap, ◌∙◌}
use Rattle.rds_model.specs.Owed.{owed_frame}
use Rattle.rds_conn.specs.Connection.{Connection}
use Rattle.rds_bench_program.proofs.Slots.{slots_pulled}
use Rattle.rds_bench_program.proofs.Mapped.{behind_same, named, unnamed}
use Rattle.rds_bench_program.proofs.conn.end.pull_behind.Goals as goal

pub loop-preserved : goal.loop-preserved
loop-preserved c =
    let ready = c.in_ok-reserve.ensures.ok in
    let n = named c.reserve.new.self (behind_same c.loop.conn c.reserve.new.self (ap (λ (d : Connection). d.log.past) ready) c.loop.invariant.0) in
    let did = c.in_ok-pull_behind.ensures in (
      unnamed c.pull_behind.new.self n.stream n.map (did.stream ∙ n.on) (did.map n.stream n.on ∙ n.behind),
      slots_pulled n.stream (owed_frame n.stream c.reserve.new.self.log.past n.map) _ _ _ _ _ (did.owed n.stream n.map n.on n.behind)
          ∙ (ap (λ (d : Connection). d.slots) ready ∙ c.loop.invariant.1),
    )

pub returns-in-Nothing : goal.returns-in-Nothing
returns-in-Nothing c =
    let ready = c.in_ok-reserve.ensures.ok in
    let n = named c.reserve.new.self (behind_same c.loop.conn c.reserve.new.self (ap (λ (d : Connection). d.log.past) ready) c.loop.invariant.0) in
    let did = c.in_ok-pull_behind.ensures in
    record {
      behind = unnamed c.pull_behind.new.self n.stream n.map (did.stream ∙ n.on) (did.map n.stream n.on ∙ n.behind);
      slots = slots_pulled n.stream (owed_frame n.stream c.reserve.new.self.log.past n.map) _ _ _ _ _ (did.owed n.stream n.map n.on n.behind)
          ∙ (ap (λ (d : Connection). d.slots) ready ∙ c.loop.invariant.1);
    }
