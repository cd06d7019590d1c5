-- The journals that hosts keep in the end. Source: this project's own.
use Rattle.std.specs.Prelude.{◌≡◌, ℕ, ◌<◌, ◌==◌, not, List, Vec, filter, get_or, map}
use Rattle.std.specs.Global.{Global}
use Rattle.rds_text.specs.Ports.{below}
use Rattle.rds_model.specs.Log.{Log}
use Rattle.rds_text.specs.FinalState.{FinalJournal}
use Rattle.rds_text.specs.Hosts.{address_of}
use Rattle.rds_text.specs.FinalViews.{side_view}
use Rattle.rds_play_pair.specs.Ends.{JointEnds}
use Rattle.rds_play_mesh.specs.Ends.{MeshView, end_at, joint_of}

-- the journal that host h keeps of its connection with k
abbrev pub journal_with : (h k : ℕ) → MeshView → FinalJournal
journal_with h k m = record { peer = address_of k; past = (end_at h k m).past }

-- those of host h with the others of the first n hosts, by peer ascending
abbrev pub journals_below : (n h : ℕ) → MeshView → List FinalJournal
journals_below n h m = map (λ k. journal_with h k m) (filter (λ k. not (k == h)) (below n))

-- those of host h with all others
abbrev pub journals_of : (h : ℕ) → MeshView → List FinalJournal
journals_of h m = journals_below m.count h m

-- a list for each host, of its journals with all others
abbrev pub AreJournals : MeshView → List (Vec (ℕ × Log) Global) → Type 0
AreJournals m rows = (h : ℕ) → h < m.count → (row : Vec (ℕ × Log) Global) → row ≡ get_or rows h row →
    map side_view row.items ≡ journals_of h m

-- Private: needed by the proofs only. So it is for the first n hosts, where no others are counted.
abbrev pub HoldJournals : (n : ℕ) → MeshView → List (Vec (ℕ × Log) Global) → Type 0
HoldJournals n m rows = (h : ℕ) → h < n → (row : Vec (ℕ × Log) Global) → row ≡ get_or rows h row →
    map side_view row.items ≡ journals_below n h m

-- Private likewise: the joints of host `high` with those below it
abbrev pub AreJointsOf : (high : ℕ) → MeshView → List JointEnds → Type 0
AreJointsOf high m joints = (low : ℕ) → low < high → (j : JointEnds) → j ≡ get_or joints low j → j ≡ joint_of low high m
