-- Which datagrams an end still has to deliver. Sources: rds(7) for the cancellation by destination; the rest is this
-- project's own.
use Rattle.std.specs.Prelude.{ℕ, zero, suc, ◌==◌, ◌&&◌, ◌||◌, not, nat_lt, Bool, true, false, Option, Some, None, is_some, List, [], ◌∷◌, ◌++◌, length, filter, sum_by}
use Rattle.rds_model.specs.declared.entry.Entry.{Entry}
use Rattle.rds_model.specs.declared.entry.Entry.TheVariants.{Cancel}
use Rattle.rds_model.specs.declared.entry.Target.{Target}
use Rattle.rds_model.specs.declared.entry.Target.TheVariants.{Port, All}
use Rattle.rds_model.specs.Past.{Accepted, accepted, datagram, highest_ack}
use Rattle.rds_model.specs.Streams.{pulled_on, was_pulled}

-- a target covers the datagrams to a port
abbrev pub aims_at : Target → ℕ → Bool
aims_at (Port port) dport = port == dport
aims_at All dport = true

-- a cancellation by a slot covers a datagram: it is the slot's, and the target covers its destination port
abbrev pub covers : ℕ → Target → Option Accepted → Bool
covers slot target None = false
covers slot target (Some d) = slot == d.slot && aims_at target d.dport

-- a cancellation covers number n
abbrev pub is_cancelled : List Entry → ℕ → Bool
is_cancelled [] n = false
is_cancelled (Cancel slot target ∷ past) n = covers slot target (datagram past n) || is_cancelled past n
is_cancelled (_ ∷ past) n = is_cancelled past n

-- number n was accepted, no cancellation covers it, and no frame that was read acknowledges it
abbrev pub is_alive : List Entry → ℕ → Bool
is_alive past n = is_some (datagram past n) && (not (is_cancelled past n) && nat_lt (highest_ack past) n)

-- the numbers from 1 to m
abbrev pub up_to : ℕ → List ℕ
up_to zero = []
up_to (suc m) = up_to m ++ suc m ∷ []

-- the numbers that are alive, ascending
abbrev pub alive_numbers : List Entry → List ℕ
alive_numbers past = filter (is_alive past) (up_to (accepted past))

-- a datagram came from the socket of a slot
abbrev pub is_from : ℕ → Option Accepted → Bool
is_from slot None = false
is_from slot (Some d) = d.slot == slot

-- how many bytes a datagram has
abbrev pub payload_bytes : Option Accepted → ℕ
payload_bytes None = 0
payload_bytes (Some d) = length d.payload

-- the bytes of the datagrams from the socket of a slot that are alive
abbrev pub alive_bytes : ℕ → List Entry → ℕ
alive_bytes slot past = sum_by (λ n. payload_bytes (datagram past n)) (filter (λ n. is_from slot (datagram past n)) (alive_numbers past))

-- the numbers that are alive and that a cancellation by a slot covers, ascending
abbrev pub covered : ℕ → Target → List Entry → List ℕ
covered slot target past = filter (λ n. covers slot target (datagram past n)) (alive_numbers past)

-- the numbers that are alive and were not pulled on stream s, ascending
abbrev pub due_numbers : ℕ → List Entry → List ℕ
due_numbers s past = filter (λ n. is_alive past n && not (pulled_on s past n)) (up_to (accepted past))

-- number n was alive when a cancellation covered it
abbrev pub was_taken_back : List Entry → ℕ → Bool
was_taken_back [] n = false
was_taken_back (Cancel slot target ∷ past) n =
    is_alive past n && covers slot target (datagram past n) || was_taken_back past n
was_taken_back (_ ∷ past) n = was_taken_back past n

-- number n was alive and not pulled yet when a cancellation covered it
abbrev pub was_taken_back_unbegun : List Entry → ℕ → Bool
was_taken_back_unbegun [] n = false
was_taken_back_unbegun (Cancel slot target ∷ past) n =
    is_alive past n && (covers slot target (datagram past n) && not (was_pulled past n)) || was_taken_back_unbegun past n
was_taken_back_unbegun (_ ∷ past) n = was_taken_back_unbegun past n
