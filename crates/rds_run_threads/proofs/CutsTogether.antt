-- The cuts that all slots of a host have put for one peer.
use Rattle.std.proofs.Common.{◌≡◌, ◌≤◌, ℕ, zero, suc, List, [], ◌∷◌, Some, length, slice_get, refl, ap, arith}
use Rattle.std.proofs.lemmas.Option.{none-some, same_Some}
use Rattle.rds_fmap.specs.Readers.{ReaderView}
use Rattle.rds_socket_parts.specs.Lanes.{IsLaneAt, Lane}
use Rattle.rds_socket.specs.Holding.{Holding}
use Rattle.rds_line.specs.Keeps.{cuts_among}
use Rattle.rds_host_end.specs.Cuts.{cuts_on, cuts_put}

cuts_here : (routes : List (Lane ReaderView)) (place : ℕ) (lane : Lane ReaderView) → IsLaneAt routes place lane → cuts_on routes place ≡ cuts_among lane.pass.put
cuts_here [] place lane at = absurd (none-some lane at)
cuts_here (way ∷ routes) zero lane at = ap (λ (x : Lane ReaderView). cuts_among x.pass.put) (same_Some way lane at)
cuts_here (way ∷ routes) (suc place) lane at = cuts_here routes place lane at

in_all : (place : ℕ) (slots : List (Holding ReaderView)) (slot : ℕ) (h : Holding ReaderView) → slice_get slots slot ≡ Some h →
    cuts_on h.routes place ≤ cuts_put place slots
in_all place [] slot h at = absurd (none-some h at)
in_all place (k ∷ slots) zero h at =
    let same = ap (λ (x : Holding ReaderView). cuts_on x.routes place) (same_Some k h at) in
    omega (arith, same)
in_all place (k ∷ slots) (suc slot) h at = let rest = in_all place slots slot h at in omega (arith, rest)

-- one slot has put no more than all of them
pub one_of_all : (place : ℕ) (slots : List (Holding ReaderView)) (slot : ℕ) (h : Holding ReaderView) (lane : Lane ReaderView) → slice_get slots slot ≡ Some h →
    IsLaneAt h.routes place lane → cuts_among lane.pass.put ≤ cuts_put place slots
one_of_all place slots slot h lane at at_lane =
    let here = cuts_here h.routes place lane at_lane in
    let all = in_all place slots slot h at in
    omega (arith, here, all)

-- slots with the same routes have put as many
pub as_many : (place : ℕ) (slots others : List (Holding ReaderView)) → length others ≡ length slots →
    ((slot : ℕ) (h k : Holding ReaderView) → slice_get slots slot ≡ Some h → slice_get others slot ≡ Some k → k.routes ≡ h.routes) →
    cuts_put place others ≡ cuts_put place slots
as_many place [] [] same each = refl
as_many place [] (k ∷ others) same each = absurd (omega (arith, same))
as_many place (h ∷ slots) [] same each = absurd (omega (arith, same))
as_many place (h ∷ slots) (k ∷ others) same each =
    let first = ap (λ (r : List (Lane ReaderView)). cuts_on r place) (each 0 h k refl refl) in
    let rest = as_many place slots others (omega (arith, same)) (λ slot x y at_x at_y. each (suc slot) x y at_x at_y) in
    omega (arith, first, rest)
