use Rattle.std.proofs.Common.{sym, ◌∙◌, ap}
use Rattle.rds_play_pair.specs.Ends.{of_end, other_end}
use Rattle.rds_play_mesh.specs.Places.{end_of}
use Rattle.rds_play_mesh.specs.Ends.{end_at}
use Rattle.rds_play_mesh.proofs.Places.{there}
use Rattle.rds_play_mesh.proofs.Knowing.{known_of}
use Rattle.rds_play_mesh.proofs.mesh.Mesh.known.Goals as goal

pub returns : goal.returns
returns c =
    let h = c.args.host in
    let k = c.args.peer in
    let m = c.args.self.now in
    let x = end_of h k in
    let e = c.known.ensures in
    known_of x c.joint.result.now (end_at h k m) (end_at k h m)
    (ap (of_end x) c.joint.ensures) (ap (of_end (other_end x)) c.joint.ensures ∙ sym (there h k m c.requires.apart))
    (record {
      streams = e.streams;
      newest = e.newest;
      one_forth = e.one_forth;
      one_back = e.one_back;
      all_forth = e.all_forth;
      all_back = e.all_back;
      whole_here = e.whole_first;
      whole_there = e.whole_second;
      honest = e.honest;
      forth = e.forth;
      back = e.back;
      none_refused = e.none_refused;
    })
