use Rattle.std.proofs.Common.{◌≡◌, ◌∙◌, ap, arith}
use Rattle.std.specs.Prelude.{sum_by}
use Rattle.rds_model.specs.Alive.{alive_bytes}
use Rattle.rds_history.specs.Journals.{journal, peers}
use Rattle.rds_play_world.proofs.Sums.{sum_more}
use Rattle.rds_play_world.proofs.world.World.unacknowledged.Goals as goal

pub loop-peer-preserved : goal.loop-peer-preserved
loop-peer-preserved c = record {
  few = omega (arith, c.loop-peer.invariant.few, c.unacknowledged_by-bytes.ensures.few);
  told = λ limit hosts past told.
      sum_more (λ k. alive_bytes c.args.slot (journal c.args.host k past)) c.loop-peer.peer c.args.host c.loop-peer.bytes c.unacknowledged_by-bytes.result
      (c.loop-peer.invariant.told limit hosts past told) (c.unacknowledged_by-bytes.ensures.bytes limit hosts past told);
}

pub returns-clause-bytes : goal.returns-clause-bytes
returns-clause-bytes c = λ limit hosts past told.
    let all : c.loop-peer.peer ≡ hosts = omega (arith, told.count_is, c.loop-peer-test.false, c.loop-peer.auto.peer-end) in
    c.loop-peer.invariant.told limit hosts past told
    ∙ ap (λ n. sum_by (λ k. alive_bytes c.args.slot (journal c.args.host k past)) (peers n c.args.host)) all
