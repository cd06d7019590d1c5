-- The freed bytes of a connection with one slot.
use Rattle.std.proofs.Common.{◌≡◌, ℕ, zero, suc, ◌≤◌, List, length, slice_index, arith}
use Rattle.std.proofs.lemmas.List.{get_or_past}

pub few : (freed : List ℕ) (slot : ℕ) → length freed ≡ 1 → slice_index freed 0 ≤ 5 → slice_index freed slot ≤ 5
few freed zero one first = first
few freed (suc slot) one first = let past = get_or_past freed (suc slot) 0 (omega arith) in omega arith
