use Rattle.std.proofs.Common.{◌<◌, subst}
use Rattle.rds_history.specs.Journals.{journal}
use Rattle.rds_play_mesh.specs.Ends.{end_at}
use Rattle.rds_play_world.specs.Telling.{state}
use Rattle.rds_play_world.proofs.Passing.{end_waits}
use Rattle.rds_play_world.proofs.Readings.{read_unanswered, verdict_waits}
use Rattle.rds_play_world.proofs.world.World.read.Goals as goal

pub returns-in-Old : goal.returns-in-Old
returns-in-Old c = record {
  count = c.read_quietly.ensures.count;
  told = λ limit hosts stream f past waits.
      let k = c.args.host in
      let h = c.args.peer in
      let s = state c.args.self.now in
      let k_in : k < hosts = subst (λ n. k < n) waits.tells.count_is c.requires.host in
      let h_in : h < hosts = subst (λ n. h < n) waits.tells.count_is c.requires.peer in
      let e = end_waits limit hosts k h stream f past s k_in h_in c.requires.apart waits in
      let is = verdict_waits (end_at k h s.mesh) (journal k h past) f c.in-Some.verdict c.verdict.result c.verdict.ensures c.in-Some.is e.waiting_is e.journal_is in
      read_unanswered limit hosts k h stream f past s (state c.read_quietly.new.self) c.read_quietly.result c.in-Some.verdict c.in-Old.is c.requires.apart k_in h_in waits is
      (c.read_quietly.ensures.told limit hosts stream f past waits);
  stop = c.read_quietly.ensures.stop;
}
