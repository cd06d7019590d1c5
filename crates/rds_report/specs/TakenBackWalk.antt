-- Private: needed by the proofs of `report` and `summary` only. A walk back over a journal, which finds the numbers that
-- were taken back. Source: this project's own.
use Rattle.std.specs.Prelude.{◌≡◌, ℕ, ◌-◌, ◌&&◌, ◌||◌, nat_lt, Bool, false, Option, Some, None, List, [], ◌∷◌, ◌++◌, length, drop}
use Rattle.std.specs.BTreeMap as tree
use Rattle.std.specs.Ordering.{nat_cmp, ordering_then}
use Rattle.std.specs.declared.cmp.Ordering.{Ordering}
use Rattle.rds_model.specs.declared.entry.Entry.{Entry}
use Rattle.rds_model.specs.Past.{Accepted, accepted, datagram, highest_ack}
use Rattle.rds_model.specs.Alive.{was_taken_back}
use Rattle.rds_report.specs.declared.cancellations.Cancellations.{Cancellations}
use Rattle.rds_report.specs.declared.taken.Walk.{Walk}
use Rattle.rds_report.specs.Items.{flags}

-- the past after the first i entries
abbrev pub before : ℕ → List Entry → List Entry
before i past = drop (length past - i) past

-- what was acknowledged before each entry, by the oldest first
abbrev pub acknowledgements : List Entry → List ℕ
acknowledgements [] = []
acknowledgements (e ∷ past) = acknowledgements past ++ highest_ack past ∷ []

-- a number is above the acknowledged one, where there is one
abbrev pub is_above : Option ℕ → ℕ → Bool
is_above None n = false
is_above (Some ack) n = nat_lt ack n

-- pairs of a slot and a port, by the slot and then the port
abbrev pub pair_cmp : ℕ × ℕ → ℕ × ℕ → Ordering
pair_cmp a b = ordering_then (nat_cmp a.0 b.0) (nat_cmp a.1 b.1)

-- one of the cancellations takes back number n, which a slot sent to a port
abbrev pub takes : Cancellations → (slot dport n : ℕ) → Bool
takes c slot dport n = is_above (tree.get pair_cmp c.ports (slot, dport)) n || is_above (tree.get nat_cmp c.slots slot) n

-- what a walk back knows, over all entries, where these are left
pub record IsWalk (all : List Entry) (w : Walk) (past : List Entry) : Type 0 where
  pub flagged : w.taken.items ≡ flags (λ n. nat_lt (accepted past) n && was_taken_back all n) (accepted all)
  pub number : w.accepted ≡ accepted past
  pub covered : (n : ℕ) (d : Accepted) → datagram past n ≡ Some d →
      was_taken_back all n ≡ was_taken_back past n || takes w.cancellations d.slot d.dport n
