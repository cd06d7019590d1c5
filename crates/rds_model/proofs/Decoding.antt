-- Bytes tell the frames: a list of frames that begins with the bytes of others begins with those frames.
use Rattle.std.proofs.Common.{◌≡◌, ℕ, List, [], ◌∷◌, ◌++◌, length, take, drop, refl, sym, ◌∙◌, ap, arith, append_assoc, length-append}
use Rattle.std.specs.List.{All, flat_map}
use Rattle.std.proofs.lemmas.List.{take_at, drop_at, append-nil}
use Rattle.std.proofs.lemmas.List.Elements.{All-head, All-tail}
use Rattle.rds_wire.specs.declared.frame.Frame.{Frame}
use Rattle.rds_wire.specs.declared.header.Header.{Header}
use Rattle.rds_wire.specs.Bytes.{header_bytes, IsHeader, frame_bytes}
use Rattle.rds_wire.specs.HeaderLaws.{length-header_bytes, header_bytes-append}

-- each field of the header fits, and the payload has the length that it says
pub record IsSound (f : Frame) : Type 0 where
  pub header : IsHeader f.header
  pub whole : length f.payload ≡ f.header.len

-- two fronts of one length, before the same list
same_fronts : (n : ℕ) (a b xs ys : List ℕ) → length a ≡ n → length b ≡ n → a ++ xs ≡ b ++ ys → (a ≡ b) × (xs ≡ ys)
same_fronts n a b xs ys long_a long_b same = (
  sym (take_at a xs n long_a) ∙ ap (take n) same ∙ take_at b ys n long_b,
  sym (drop_at a xs n long_a) ∙ ap (drop n) same ∙ drop_at b ys n long_b,
)

-- the frame at the front of some bytes
first_frame : (f g : Frame) (xs ys : List ℕ) → IsSound f → IsSound g → frame_bytes f ++ xs ≡ frame_bytes g ++ ys → (f ≡ g) × (xs ≡ ys)
first_frame f g xs ys sound_f sound_g same =
    let regrouped : header_bytes f.header ++ (f.payload ++ xs) ≡ header_bytes g.header ++ (g.payload ++ ys) =
    sym (append_assoc (header_bytes f.header) f.payload xs) ∙ same ∙ append_assoc (header_bytes g.header) g.payload ys in
    let headers = header_bytes-append f.header g.header (f.payload ++ xs) (g.payload ++ ys) sound_f.header sound_g.header regrouped in
    let long_f : length f.payload ≡ g.header.len = sound_f.whole ∙ ap (λ (h : Header). h.len) headers.0 in
    let payloads = same_fronts g.header.len f.payload g.payload xs ys long_f sound_g.whole headers.1 in
    (λ i. record { header = headers.0 i; payload = payloads.0 i }, payloads.1)

-- a frame has bytes
no_frame : (f : Frame) (xs ys : List ℕ) → IsSound f → [] ≡ (frame_bytes f ++ xs) ++ ys → ⊥
no_frame f xs ys sound none =
    let long = length-header_bytes f.header sound.header in
    let same : 0 ≡ length ((frame_bytes f ++ xs) ++ ys) = ap length none in
    let sum = length-append (frame_bytes f ++ xs) ys in
    let sum_2 = length-append (frame_bytes f) xs in
    let sum_3 = length-append (header_bytes f.header) f.payload in
    omega (arith, long, same, sum, sum_2, sum_3)

-- frames whose bytes begin with those of others begin with those frames
pub decoded : (fs gs : List Frame) (rest : List ℕ) → All IsSound fs → All IsSound gs →
    flat_map frame_bytes fs ≡ flat_map frame_bytes gs ++ rest →
    (left : List Frame) × (fs ≡ gs ++ left) × (flat_map frame_bytes left ≡ rest)
decoded fs [] rest sound_fs sound_gs same = (fs, refl, same)
decoded [] (g ∷ gs) rest sound_fs sound_gs same =
    absurd (no_frame g (flat_map frame_bytes gs) rest (All-head IsSound g gs sound_gs) same)
decoded (f ∷ fs) (g ∷ gs) rest sound_fs sound_gs same =
    let both =
    first_frame f g (flat_map frame_bytes fs) (flat_map frame_bytes gs ++ rest) (All-head IsSound f fs sound_fs) (All-head IsSound g gs sound_gs)
    (same ∙ append_assoc (frame_bytes g) (flat_map frame_bytes gs) rest) in
    let more = decoded fs gs rest (All-tail IsSound f fs sound_fs) (All-tail IsSound g gs sound_gs) both.1 in
    (more.0, (λ i. both.0 i ∷ more.1 i), more.2)

no_bytes : (f : Frame) (xs : List ℕ) → IsSound f → [] ≡ frame_bytes f ++ xs → ⊥
no_bytes f xs sound none = no_frame f xs [] sound (none ∙ sym (append-nil (frame_bytes f ++ xs)))

-- frames with the same bytes are the same
pub same_frames : (fs gs : List Frame) → All IsSound fs → All IsSound gs → flat_map frame_bytes fs ≡ flat_map frame_bytes gs → fs ≡ gs
same_frames [] [] sound_fs sound_gs same = refl
same_frames [] (g ∷ gs) sound_fs sound_gs same = absurd (no_bytes g (flat_map frame_bytes gs) (All-head IsSound g gs sound_gs) same)
same_frames (f ∷ fs) [] sound_fs sound_gs same = absurd (no_bytes f (flat_map frame_bytes fs) (All-head IsSound f fs sound_fs) (sym same))
same_frames (f ∷ fs) (g ∷ gs) sound_fs sound_gs same =
    let both =
    first_frame f g (flat_map frame_bytes fs) (flat_map frame_bytes gs) (All-head IsSound f fs sound_fs) (All-head IsSound g gs sound_gs) same in
    let more = same_frames fs gs (All-tail IsSound f fs sound_fs) (All-tail IsSound g gs sound_gs) both.1 in
    λ i. both.0 i ∷ more i
