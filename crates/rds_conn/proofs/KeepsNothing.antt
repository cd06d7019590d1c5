-- What a new connection keeps.
use Rattle.std.proofs.Common.{◌≡◌, ℕ, zero, suc, ◌≤◌, None, [], replicate, sum, refl, arith}
use Rattle.std.proofs.lemmas.List.{length-replicate}
use Rattle.std.proofs.lemmas.List.Sums.{sum_by-cons}
use Rattle.rds_frame.specs.Holding.{nothing_held}
use Rattle.rds_model.specs.declared.journal.TheConstants.{MAX_ENTRIES}
use Rattle.rds_model.specs.declared.entry.TheConstants.{MAX_SLOTS}
use Rattle.rds_conn.specs.declared.conn.Conn.TheInside.{Inside}
use Rattle.rds_conn.specs.Invariant.{ConnectionInvariant}
use Rattle.rds_conn.proofs.KeepsStreams.{reading_nothing}

sum_none : (n : ℕ) → sum (replicate n 0) ≡ 0
sum_none zero = refl
sum_none (suc n) = (let more = sum_by-cons (λ x. x) 0 (replicate n 0) in let rest = sum_none n in omega (arith, more, rest))

-- the fields of a connection on which nothing happened yet
pub record IsNew (c : Inside) (limit : ℕ) : Type 0 where
  pub journal : c.journal ≡ record { past = []; spare = 0; limit = limit }
  pub store : c.store ≡ record { messages = []; mark = 0; spare = 0; slots = c.slots }
  pub splitter : c.splitter ≡ nothing_held
  pub freed : c.freed ≡ replicate c.slots 0
  pub charges : c.charges ≡ replicate c.slots 0

pub keeps_nothing : (c : Inside) (limit : ℕ) → IsNew c limit → c.slots ≤ MAX_SLOTS → limit ≤ MAX_ENTRIES →
    ConnectionInvariant (record c { spare = 0; store_spare = 0; pong = None; newest = 0; stream = None; accepted = 0; highest = 0; last = 0 })
keeps_nothing c limit new few most =
    rw (new.journal, new.store, new.splitter, new.freed, new.charges)
    (record {
      whole = record { legal = tt; settled = refl };
      room = record { entries = omega arith; within = omega arith; most = most; messages = omega arith };
      pong = tt;
      newest = refl;
      stream = refl;
      counted = record { accepted_is = refl; highest_is = refl; last_is = refl };
      linked = tt;
      reading = reading_nothing None 0;
      stored = record { holds = record { alive = refl; unpulled = refl }; marked = omega arith; slots_are = refl; few = few };
      freed = record { slots_are = length-replicate {A = ℕ} c.slots 0; bounded = (let none = sum_none c.slots in omega (arith, none)) };
      charged = record { wide = length-replicate {A = ℕ} c.slots 0; each = λ s within. omega arith };
    })
