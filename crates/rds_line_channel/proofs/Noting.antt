-- What becomes of the streams that cuts shut among all that were shut, where one more is noted or shut.
use Rattle.std.proofs.Common.{◌≡◌, ◌<◌, ℕ, zero, suc, List, [], ◌∷◌, ◌++◌, refl, sym, ap, subst, arith}
use Rattle.rds_line_channel.specs.Carried.{AreSomeOf, also, cut_streams, nothing, without}

-- one more was shut, and not by a cut
pub shut_beside : {some all : List ℕ} (number : ℕ) → AreSomeOf some all → AreSomeOf some (all ++ number ∷ [])
shut_beside number nothing = without number nothing
shut_beside number (also n rest) = also n (shut_beside number rest)
shut_beside number (without n rest) = without n (shut_beside number rest)

-- one more stands behind some and behind all
behind_both : {some all : List ℕ} (number : ℕ) → AreSomeOf some all → AreSomeOf (some ++ number ∷ []) (all ++ number ∷ [])
behind_both number nothing = also number nothing
behind_both number (also n rest) = also n (behind_both number rest)
behind_both number (without n rest) = without n (behind_both number rest)

-- a cut that found a stream open is noted with its number
found_more : (cuts : List ℕ) (number : ℕ) → 0 < number → cut_streams (cuts ++ number ∷ []) ≡ cut_streams cuts ++ number ∷ []
found_more [] zero some = absurd (omega (arith, some))
found_more [] (suc number) some = refl
found_more (zero ∷ cuts) number some = found_more cuts number some
found_more (suc n ∷ cuts) number some = ap (λ (noted : List ℕ). suc n ∷ noted) (found_more cuts number some)

-- one that found none open is noted with 0, which is no stream
pub late_more : (cuts : List ℕ) → cut_streams (cuts ++ 0 ∷ []) ≡ cut_streams cuts
late_more [] = refl
late_more (zero ∷ cuts) = late_more cuts
late_more (suc n ∷ cuts) = ap (λ (noted : List ℕ). suc n ∷ noted) (late_more cuts)

-- one more was shut, and by a cut, which is noted with its number
pub shut_too : {all : List ℕ} (cuts : List ℕ) (number : ℕ) → 0 < number → AreSomeOf (cut_streams cuts) all →
    AreSomeOf (cut_streams (cuts ++ number ∷ [])) (all ++ number ∷ [])
shut_too {all} cuts number some were =
    subst (λ (noted : List ℕ). AreSomeOf noted (all ++ number ∷ [])) (sym (found_more cuts number some)) (behind_both number were)
