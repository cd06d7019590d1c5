-- What the two journals say of one port pair: from port sport of the sender to port dport of the receiver. Source: this
-- project's own.
use Rattle.std.specs.Prelude.{◌≡◌, ◌⊎◌, ℕ, suc, ◌≤◌, ◌==◌, ◌&&◌, if◌then◌else◌, Bool, true, false, Some, List, [], ◌∷◌, ◌++◌, filter, Contains}
use Rattle.std.specs.List.Sorted.{IsStrictlyIncreasing}
use Rattle.rds_wire.specs.declared.frame.Frame.{Frame}
use Rattle.rds_model.specs.declared.entry.Entry.{Entry}
use Rattle.rds_model.specs.declared.entry.Entry.TheVariants.{Accept, Read}
use Rattle.rds_model.specs.declared.entry.Outcome.{Outcome}
use Rattle.rds_model.specs.declared.entry.Outcome.TheVariants as outcome
use Rattle.rds_model.specs.Past.{Accepted, Moment, accepted, datagram, number, last_passed, passes}
use Rattle.rds_model.specs.Streams.{was_passed}
use Rattle.rds_model.specs.Alive.{was_taken_back}
use Rattle.rds_model.specs.Fifo.{Carries}

-- the numbers accepted for the pair, ascending
abbrev pub accepted_for : ℕ → ℕ → List Entry → List ℕ
accepted_for sport dport [] = []
accepted_for sport dport (Accept slot from to payload ∷ past) =
    if from == sport && (to == dport) then accepted_for sport dport past ++ suc (accepted past) ∷ []
    else accepted_for sport dport past
accepted_for sport dport (_ ∷ past) = accepted_for sport dport past

-- the frame has the ports of the pair
abbrev pub is_between : ℕ → ℕ → Frame → Bool
is_between sport dport f = f.header.sport == sport && (f.header.dport == dport)

-- the numbers of the pair that were read with such an outcome, in the order of reading
abbrev pub read_with : (Outcome → Bool) → ℕ → ℕ → List Entry → List ℕ
read_with such sport dport [] = []
read_with such sport dport (Read stream frame outcome ∷ past) =
    if such outcome && is_between sport dport frame then read_with such sport dport past ++ number frame ∷ []
    else read_with such sport dport past
read_with such sport dport (_ ∷ past) = read_with such sport dport past

abbrev pub is_delivery : Outcome → Bool
is_delivery (outcome.Slot slot) = true
is_delivery _ = false

abbrev pub is_delivery_to : ℕ → Outcome → Bool
is_delivery_to slot (outcome.Slot to) = to == slot
is_delivery_to slot _ = false

abbrev pub is_drop : Outcome → Bool
is_drop outcome.NoSocket = true
is_drop _ = false

abbrev pub is_port_0 : Outcome → Bool
is_port_0 outcome.Ping = true
is_port_0 outcome.Void = true
is_port_0 _ = false

-- the numbers of the pair that were delivered, over all slots, and those delivered to one slot
abbrev pub delivered : ℕ → ℕ → List Entry → List ℕ
delivered sport dport past = read_with is_delivery sport dport past

abbrev pub delivered_to : ℕ → ℕ → ℕ → List Entry → List ℕ
delivered_to slot sport dport past = read_with (is_delivery_to slot) sport dport past

-- the numbers of the pair that arrived when no socket held the port
abbrev pub dropped : ℕ → ℕ → List Entry → List ℕ
dropped sport dport past = read_with is_drop sport dport past

-- the numbers of the pair that port 0 took
abbrev pub taken_by_port_0 : ℕ → ℕ → List Entry → List ℕ
taken_by_port_0 sport dport past = read_with is_port_0 sport dport past

-- the numbers of the pair that were alive when a cancellation covered them
abbrev pub taken_back : ℕ → ℕ → List Entry → List ℕ
taken_back sport dport past = filter (was_taken_back past) (accepted_for sport dport past)

-- What was delivered for the pair was accepted for it, in order and each once; each number accepted for it, up to the
-- last that arrived, was delivered, dropped, taken by port 0 or taken back.
pub record IsDeliveredOnce (sport dport : ℕ) (a b : List Entry) : Type 0 where
  -- the numbers delivered, over all slots, rise strictly: each stands once
  pub rise : IsStrictlyIncreasing (delivered sport dport b)
  -- no number goes to two slots
  pub one_slot : (n slot other : ℕ) →
      Contains (delivered_to slot sport dport b) n → Contains (delivered_to other sport dport b) n → slot ≡ other
  -- the numbers delivered to a slot rise strictly
  pub rise_at : (slot : ℕ) → IsStrictlyIncreasing (delivered_to slot sport dport b)
  -- what was delivered was accepted for the pair
  pub accepted : (n : ℕ) → Contains (delivered sport dport b) n → Contains (accepted_for sport dport a) n
  -- and it has the bytes that were accepted
  pub bytes : (s : ℕ) (f : Frame) (o : Outcome) (past : List Entry) → Moment (Read s f o ∷ past) b →
      passes o ≡ true → (d : Accepted) × (datagram a (number f) ≡ Some d) × Carries f d
  -- what was accepted for the pair, up to the last number that arrived, is accounted for
  pub none_lost : (n : ℕ) → Contains (accepted_for sport dport a) n → n ≤ last_passed b →
      Contains (delivered sport dport b) n ⊎ Contains (dropped sport dport b) n
      ⊎ Contains (taken_by_port_0 sport dport b) n ⊎ Contains (taken_back sport dport a) n

-- a number of the pair was delivered to a slot, by a read of its frame in the journal
pub record IsDeliveredAt (sport dport n : ℕ) (b : List Entry) : Type 0 where
  pub slot : ℕ
  pub stream : ℕ
  pub frame : Frame
  pub numbered : number frame ≡ n
  pub read : Contains b (Read stream frame (outcome.Slot slot))
  pub listed : Contains (delivered_to slot sport dport b) n

-- what was accepted for the pair is all accounted for: it was delivered, dropped, taken by port 0, or taken back and never passed
abbrev pub IsAllAccounted : (sport dport : ℕ) → (a b : List Entry) → Type 0
IsAllAccounted sport dport a b = (n : ℕ) → Contains (accepted_for sport dport a) n →
    IsDeliveredAt sport dport n b ⊎ Contains (dropped sport dport b) n ⊎ Contains (taken_by_port_0 sport dport b) n
    ⊎ (Contains (taken_back sport dport a) n × (was_passed b n ≡ false))
