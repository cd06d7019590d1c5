-- Laws, each proved: proofs in other crates use them. Nothing here has to be believed.
-- What is known of a header that has no fault, or has one.
use Rattle.std.proofs.Common.{◌≡◌, ℕ, ◌≤◌, Option, Some, None, Ok, Err, refl, arith}
use Rattle.std.proofs.lemmas.Bool.Decides.{nat_tests}
use Rattle.rds_wire.specs.declared.header.Header.{Header}
use Rattle.rds_wire.specs.declared.kind.Kind.{Kind}
use Rattle.rds_wire.specs.declared.kind.Malformed.{Malformed}
use Rattle.rds_wire.specs.declared.kind.Malformed.TheVariants as malformed
use Rattle.rds_wire.specs.Generations.{generation}
use Rattle.rds_wire.specs.Kinds.{cause, answered}

-- an answer is Ok exactly where there is no fault
pub answered-ok : (kind k : Kind) (fault : Option Malformed) → answered kind fault ≡ Ok k → fault ≡ None
answered-ok kind k None is = refl
answered-ok kind k (Some fault) is = cc

pub answered-err : (kind : Kind) (m : Malformed) (fault : Option Malformed) → answered kind fault ≡ Err m → fault ≡ Some m
answered-err kind m None is = cc
answered-err kind m (Some fault) is = cc

-- a header without fault announces no more than a frame may have
pub len-cause : (h : Header) (highest known : ℕ) → cause h highest known ≡ None → h.len ≤ 1048576
unfolding cause
len-cause h highest known none = grind (arith, nat_tests)

-- a header without fault has none for a reader that has pulled more
pub cause-rises : (h : Header) (low high known : ℕ) → low ≤ high → cause h low known ≡ None → cause h high known ≡ None
unfolding cause
cause-rises h low high known rises none = grind (arith, nat_tests)

-- nor one that is of an earlier generation than the reader has read
pub known-cause : (h : Header) (highest known : ℕ) → cause h highest known ≡ None → known ≤ generation h
unfolding cause
known-cause h highest known none = grind (arith, nat_tests)

-- what a reader has read before matters by the generation alone
pub cause-known : (h : Header) (highest low known : ℕ) → known ≤ generation h → cause h highest low ≡ None → cause h highest known ≡ None
unfolding cause
cause-known h highest low known within none = grind (arith, nat_tests)

-- a reader that has read no generation refuses none
pub no-earlier-generation : (h : Header) (highest found known : ℕ) → cause h highest 0 ≡ Some (malformed.Generation found known) → ⊥
unfolding cause
no-earlier-generation h highest found known is = grind (arith, nat_tests)

-- a header without fault acknowledges no number that wasn't pulled
pub ack-cause : (h : Header) (highest known : ℕ) → cause h highest known ≡ None → h.ack ≤ highest
unfolding cause
ack-cause h highest known none = grind (arith, nat_tests)
