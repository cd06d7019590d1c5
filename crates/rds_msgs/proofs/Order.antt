-- Messages in the order of their numbers.
use Rattle.std.proofs.Common.{◌≡◌, ◌<◌, ℕ, zero, suc, List, [], ◌∷◌, arith, slice_index_or}
use Rattle.std.specs.List.{All}
use Rattle.rds_model.specs.declared.entry.Msg.{Msg}
use Rattle.rds_msgs.specs.Messages.{IsAscending}

-- where the first number is above a bound, each is
pub above_first : (bound : ℕ) (messages : List Msg) (m : Msg) → IsAscending messages → m ≡ slice_index_or messages 0 m
    → bound < m.num → All (λ (k : Msg). bound < k.num) messages
above_first bound (n ∷ messages) m ascending is h zero d in' = let e : bound < n.num = rw (← is) h in e
above_first bound (n ∷ messages) m ascending is h (suc k) d in' =
    let first : bound < n.num = rw (← is) h in
    let below : n.num < (slice_index_or messages k d).num = ascending 0 (suc k) d (omega arith) in' in
    omega arith
above_first bound [] m ascending is h k d in' = absurd (omega arith)
