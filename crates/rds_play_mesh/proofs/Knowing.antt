-- What is known of both ends of a joint, seen from either.
use Rattle.std.proofs.Common.{◌≡◌, sym, subst}
use Rattle.rds_play_pair.specs.declared.step.PairEnd.{PairEnd}
use Rattle.rds_play_pair.specs.declared.step.PairEnd.TheVariants.{First, Second}
use Rattle.rds_play_pair.specs.Ends.{JointEnd, JointEnds, of_end, other_end}
use Rattle.rds_play_mesh.specs.Known.{KnownOfEnds}

turned : (a b : JointEnd) → KnownOfEnds a b → KnownOfEnds b a
turned a b k = record {
  streams = sym k.streams;
  newest = sym k.newest;
  one_forth = k.one_back;
  one_back = k.one_forth;
  all_forth = k.all_back;
  all_back = k.all_forth;
  whole_here = k.whole_there;
  whole_there = k.whole_here;
  honest = record { forth = k.honest.back; back = k.honest.forth };
  forth = k.back;
  back = k.forth;
  none_refused = (k.none_refused.1, k.none_refused.0);
}

pub known_of : (x : PairEnd) (q : JointEnds) (here there : JointEnd) → of_end x q ≡ here → of_end (other_end x) q ≡ there →
    KnownOfEnds q.first q.second → KnownOfEnds here there
known_of x q here there here_is there_is known =
    subst (λ e. KnownOfEnds e there) here_is (subst (λ e. KnownOfEnds (of_end x q) e) there_is (seen x))
  where
    seen : (x : PairEnd) → KnownOfEnds (of_end x q) (of_end (other_end x) q)
    seen First = known
    seen Second = turned q.first q.second known
