-- What contracts see of an end of a stream in memory. This project's own.
use Rattle.std.specs.Prelude.{◌≢◌, ◌⊎◌, ℕ, List, [], true, None, Some}
use Rattle.rtrb.specs.Ring.{sent, received, known_items, known_free, IsPair}
use Rattle.rds_link.specs.declared.memory_end.MemEnd.{MemEnd}
use Rattle.rds_link.specs.Ends.{Means}
use Rattle.rds_link.specs.Failing.{CallsView}
use Rattle.rds_link.specs.Standing.{AreTwoEnds}

-- what was taken out of the ring of an end, and what is known to wait there
abbrev pub taken : MemEnd → List ℕ
taken e = elim e.inp [ None ↦ [] | Some ring ↦ received ring ]

abbrev pub waiting : MemEnd → List ℕ
waiting e = elim e.inp [ None ↦ [] | Some ring ↦ known_items ring ]

-- what one end puts into its ring comes to the other
abbrev pub Reach : MemEnd → MemEnd → Type 0
Reach a b = elim b.inp [ None ↦ ⊥ | Some ring ↦ IsPair a.out ring ]

abbrev pub memory_means : Means MemEnd
memory_means = record {
  tells = true;
  sent = λ e. sent e.out;
  got = taken;
  known = waiting;
  room = λ e. known_free e.out;
  calls = λ e. e.calls.made;
  fail = λ e. e.calls.fail;
  stand = λ e. e.standing.stand;
  nothings = λ e. e.nothings;
  fulls = λ e. e.fulls;
  meets = λ a b. Reach a b × Reach b a × AreTwoEnds a.standing b.standing;
}

-- a wire in memory: which openings fail and how many were made, which calls of its ends fail, its three counts, and how many
-- ends are out
pub record WireView : Type 0 where
  pub openings : CallsView
  pub fail_end : List ℕ
  pub faults : ℕ
  pub nothings : ℕ
  pub fulls : ℕ
  pub out : ℕ

-- an opening of the wire, or a call of one of its ends, is to fail
abbrev pub MayFail : WireView → Type 0
MayFail w = (w.openings.fail ≢ []) ⊎ (w.fail_end ≢ [])
