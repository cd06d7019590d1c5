-- What is read of a stream stays free of faulty headers.
use Rattle.std.proofs.Common.{◌≡◌, inl, inr, ℕ, ◌<◌, ◌≤◌, List, [], ◌∷◌, ◌++◌, length, refl, sym, ◌∙◌, ap, subst, arith, append_assoc}
use Rattle.std.proofs.lemmas.Bool.{cases_lt}
use Rattle.rds_wire.specs.declared.frame.Frame.{Frame}
use Rattle.rds_wire.specs.Bytes.{header_bytes, frame_bytes}
use Rattle.rds_wire.specs.CauseLaws.{cause-rises}
use Rattle.rds_wire.specs.HeaderLaws.{length-header_bytes}
use Rattle.rds_frame.specs.Holding.{SplitterView, held_bytes}
use Rattle.rds_frame.specs.Splitting.{IsClear, IsFrame, IsSound}

-- of two fronts of one list the shorter is a front of the longer
front_of_front : {X : Type 0} (short long more rest : List X) → length short ≤ length long → long ++ more ≡ short ++ rest →
    (middle : List X) × (long ≡ short ++ middle)
front_of_front [] long more rest within is = (long, refl)
front_of_front (x ∷ short) [] more rest within is = absurd (omega (arith, within))
front_of_front (x ∷ short) (y ∷ long) more rest within is =
    let heads : y ≡ x = cc in
    let tails : long ++ more ≡ short ++ rest = cc in
    let front = front_of_front short long more rest (omega (arith, within)) tails in
    (front.0, ap (λ (z : _). z ∷ long) heads ∙ ap (λ (xs : List _). x ∷ xs) front.1)

-- bytes with a whole header stay clear, whatever follows
clear_longer : (top known : ℕ) (bytes more : List ℕ) → 48 ≤ length bytes → IsClear top known bytes → IsClear top known (bytes ++ more)
clear_longer top known bytes more long clear h rest fits is =
    let whole = length-header_bytes h fits in
    let front = front_of_front (header_bytes h) bytes more rest (omega (arith, whole, long)) is in
    clear h front.0 fits front.1

-- what is clear after a piece
pub clear_after : (top known : ℕ) (old new : SplitterView) (taken : List ℕ) → held_bytes new ≡ held_bytes old ++ taken →
    (length (held_bytes old) < 48 → IsClear top known (held_bytes new)) → IsClear top known (held_bytes old) → IsClear top known (held_bytes new)
clear_after top known old new taken grown early clear =
    elim (cases_lt (length (held_bytes old)) 48) [
      | inl short ↦ early short
      | inr long ↦ subst (IsClear top known) (sym grown) (clear_longer top known (held_bytes old) taken long clear)
    ]

-- a frame that waits is sound
pub waiting_sound : (top known : ℕ) (f : Frame) (rest : List ℕ) → IsFrame f → IsClear top known (frame_bytes f ++ rest) → IsSound top known f
waiting_sound top known f rest is clear = record {
  frame = is;
  cause = clear f.header (f.payload ++ rest) is.header (append_assoc (header_bytes f.header) f.payload rest);
}

-- bytes that are clear stay so as more is pulled
pub clear_higher : (low high known : ℕ) (bytes : List ℕ) → low ≤ high → IsClear low known bytes → IsClear high known bytes
clear_higher low high known bytes above clear h more fits is = cause-rises h low high known above (clear h more fits is)
