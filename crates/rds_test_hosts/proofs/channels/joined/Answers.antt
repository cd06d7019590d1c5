use Rattle.std.proofs.Common.{◌≡◌, ℕ, zero, suc, Some, List, [], ◌∷◌, slice_get, sym, subst}
use Rattle.std.proofs.lemmas.Option.{same_Some}
use Rattle.rds_line_channel.specs.Meeting.{AtEach}
use Rattle.rds_test_hosts.proofs.channels.joined.Goals as goal

-- what holds of two ends holds at each place of two lists that have one each
one_each : {E : Type 0} (Holds : E → E → Type 0) (n : ℕ) (x y : E) → Holds x y → AtEach Holds ((n, x) ∷ []) ((n, y) ∷ [])
one_each {E} Holds n x y holds = record { at = go }
  where
    go : (place : ℕ) (a b : ℕ × E) → slice_get ((n, x) ∷ []) place ≡ Some a → slice_get ((n, y) ∷ []) place ≡ Some b → Holds a.1 b.1
    go zero a b one other =
        subst (λ (e : ℕ × E). Holds a.1 e.1) (same_Some (n, y) b other)
        (subst (λ (e : ℕ × E). Holds e.1 y) (same_Some (n, x) a one) holds)
    go (suc place) a b one other = absurd (cc)

pub returns-clause-pairs : goal.returns-clause-pairs
returns-clause-pairs g c =
    let meets = g.W.End.End.means.meets in
    let each = one_each meets 1 c.in-Ok.a c.in-Ok.b c.in-Ok.ensures.pair in
    let first = c.in_ok-first.ensures.list in
    let second = c.in_ok-second.ensures.list in
    let half = subst (λ (l : List (ℕ × g.row.W-End.Denot)). AtEach meets l ((1, c.in-Ok.b) ∷ [])) (sym first) each in
    subst (λ (l : List (ℕ × g.row.W-End.Denot)). AtEach meets c.in_ok-first.first.streams.list l) (sym second) half
