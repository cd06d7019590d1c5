-- How many streams are missing, and how many faults were counted.
use Rattle.std.proofs.Common.{◌≡◌, ◌≤◌, ◌+◌, ◌-◌, ◌*◌, inl, inr, ℕ, List, [], ◌∷◌, ◌++◌, length, ap, ◌∙◌, arith}
use Rattle.std.proofs.lemmas.List.{length_push, map-append}
use Rattle.rds_link.specs.Streaming.{HasRisen, HasRisenBy}
use Rattle.rds_line_channel.specs.Streams.{numbers}
use Rattle.rds_run_hosts.specs.Growing.{AreMissingBeside, IsCount}
use Rattle.rds_run_hosts.specs.Streams.{AreNumbersOf}

-- a count that didn't fall rose by nothing
risen_none : (before after : ℕ) → before ≤ after → HasRisenBy 0 before after
risen_none before after grows = inl (omega (arith, grows))

-- one that rose, rose by one
risen_once : (before after : ℕ) → HasRisen before after → HasRisenBy 1 before after
risen_once before after (inl less) = inl (omega (arith, less))
risen_once before after (inr last) = inr last

-- one that rose by so many, rose by fewer
risen_less : (fewer most before after : ℕ) → fewer ≤ most → HasRisenBy most before after → HasRisenBy fewer before after
risen_less fewer most before after few (inl risen) = inl (omega (arith, few, risen))
risen_less fewer most before after few (inr last) = inr last

-- and from an earlier count too
pub risen_by_since : (n first before after : ℕ) → first ≤ before → HasRisenBy n before after → HasRisenBy n first after
risen_by_since n first before after low (inl risen) = inl (omega (arith, risen, low))
risen_by_since n first before after low (inr last) = inr last

-- two steps
risen_twice : (one other first before after : ℕ) → before ≤ after → IsCount after → HasRisenBy one first before → HasRisenBy other before after →
    HasRisenBy (one + other) first after
risen_twice one other first before after grows small (inl a) (inl b) = inl (omega (arith, a, b))
risen_twice one other first before after grows small (inl a) (inr last) = inr last
risen_twice one other first before after grows small (inr full) (inl b) = inr (omega (arith, full, grows, small))
risen_twice one other first before after grows small (inr full) (inr last) = inr last

-- it had risen by so many before
pub risen_by_later : (n first before after : ℕ) → before ≤ after → IsCount after → HasRisenBy n first before → HasRisenBy n first after
risen_by_later n first before after grows small risen =
    risen_less n (n + 0) first after (omega arith) (risen_twice n 0 first before after grows small risen (risen_none before after grows))

module _ {E : Type 0} where
  -- one more was opened
  pub missing_more : (n first before after : ℕ) (list : List (ℕ × E)) (s : ℕ × E) → before ≤ after → IsCount after →
      HasRisenBy (n - length (numbers list)) first before → HasRisenBy (n + 1 - length (numbers (list ++ s ∷ []))) first after
  missing_more n first before after list s grows small risen =
      let size = ap length (map-append (λ (t : ℕ × E). t.0) list (s ∷ [])) ∙ length_push (numbers list) s.0 in
      risen_less (n + 1 - length (numbers (list ++ s ∷ []))) (n - length (numbers list)) first after (omega (arith, size))
      (risen_by_later (n - length (numbers list)) first before after grows small risen)

-- one more was refused
pub missing_refused : (n size first before after : ℕ) → before ≤ after → IsCount after → HasRisen before after → HasRisenBy (n - size) first before →
    HasRisenBy (n + 1 - size) first after
missing_refused n size first before after grows small refused risen =
    risen_less (n + 1 - size) (n - size + 1) first after (omega arith)
    (risen_twice (n - size) 1 first before after grows small risen (risen_once before after refused))

-- none was to be prepared
pub none_missing : (ends ends_after before after : ℕ) → ends ≤ ends_after → before ≤ after → AreMissingBeside 0 ends ends_after before after
none_missing ends ends_after before after more grows = (0, omega (arith, more), risen_none before after grows)

-- those of two hosts were prepared
pub missing_between : (count ends ends_after before after : ℕ) (list : List ℕ) → ends_after ≡ ends + length list * 2 → AreNumbersOf count before after list →
    AreMissingBeside count ends ends_after before after
missing_between count ends ends_after before after list grown of = (count - length list, omega (arith, grown), of.missing)

-- first some, and then more
pub missing_both : (streams more ends middle ends_after first before after : ℕ) → before ≤ after → IsCount after →
    AreMissingBeside streams ends middle first before → AreMissingBeside more middle ends_after before after →
    AreMissingBeside (streams + more) ends ends_after first after
missing_both streams more ends middle ends_after first before after grows small one other =
    let a = one.1 in
    let b = other.1 in
    (one.0 + other.0, omega (arith, a, b), risen_twice one.0 other.0 first before after grows small one.2 other.2)
