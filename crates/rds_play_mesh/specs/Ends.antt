-- What contracts see of a mesh, and how its ends change. Source: this project's own.
use Rattle.std.specs.Prelude.{◌≡◌, ◌≢◌, ℕ, ◌<◌, List, get_or}
use Rattle.std.specs.List.{All}
use Rattle.rds_model.specs.declared.entry.TheConstants.{MAX_SLOTS}
use Rattle.rds_play_pair.specs.Ends.{JointEnd, JointEnds, blank, of_end}
use Rattle.rds_play_mesh.specs.Places.{end_of, place}

-- how many hosts there are, and the joints of each two of them
pub record MeshView : Type 0 where
  pub count : ℕ
  pub joints : List JointEnds

-- a joint of which nothing has happened
abbrev pub new_joint : ℕ → JointEnds
new_joint limit = record { first = blank MAX_SLOTS limit; second = blank MAX_SLOTS limit }

abbrev pub AreNew : (limit : ℕ) → List JointEnds → Type 0
AreNew limit joints = All (λ j. j ≡ new_joint limit) joints

-- the joint of hosts h and k
abbrev pub joint_of : (h k : ℕ) → MeshView → JointEnds
joint_of h k m = get_or m.joints (place h k) (record { first = blank 0 0; second = blank 0 0 })

-- the end of host h that faces k
abbrev pub end_at : (h k : ℕ) → MeshView → JointEnd
end_at h k m = of_end (end_of h k) (joint_of h k m)

-- a and b are two hosts, and not h and k
pub record IsOtherPair (h k a b count : ℕ) : Type 0 where
  pub first : a < count
  pub second : b < count
  pub apart : b ≢ a
  pub not_forth : a ≡ h → b ≢ k
  pub not_back : a ≡ k → b ≢ h

-- the two ends between hosts h and k are these now, and all others are as they were
pub record ChangesPair (h k : ℕ) (here there : JointEnd) (old new : MeshView) : Type 0 where
  pub count_same : new.count ≡ old.count
  pub here_is : end_at h k new ≡ here
  pub there_is : end_at k h new ≡ there
  pub others_same : (a b : ℕ) → IsOtherPair h k a b old.count → end_at a b new ≡ end_at a b old

-- so many hosts, and at no end has anything happened
pub record IsNewMesh (hosts limit : ℕ) (m : MeshView) : Type 0 where
  pub count_is : m.count ≡ hosts
  pub blank_ends : (h k : ℕ) → h < hosts → k < hosts → k ≢ h → end_at h k m ≡ blank MAX_SLOTS limit
