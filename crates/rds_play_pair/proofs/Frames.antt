-- Bytes that begin with a frame begin with no other, and less than a frame is none.
use Rattle.std.proofs.Common.{◌≡◌, ℕ, List, ◌++◌, length, take, drop, refl, sym, ap, ◌∙◌, arith, inl, inr, append_assoc, length-append}
use Rattle.std.proofs.lemmas.List.{take_at, drop_at}
use Rattle.rds_wire.specs.declared.header.Header.{Header}
use Rattle.rds_wire.specs.declared.frame.Frame.{Frame}
use Rattle.rds_wire.specs.Bytes.{frame_bytes, header_bytes}
use Rattle.rds_wire.specs.HeaderLaws.{header_bytes-append, length-header_bytes}
use Rattle.rds_frame.specs.Splitting.{IsFrame, IsPartial}

-- what begins with a frame shows it, and what follows it
pub frame_bytes-append : (f g : Frame) (xs ys : List ℕ) → IsFrame f → IsFrame g
    → frame_bytes f ++ xs ≡ frame_bytes g ++ ys → (f ≡ g) × (xs ≡ ys)
frame_bytes-append f g xs ys is_f is_g same =
    let grouped : header_bytes f.header ++ (f.payload ++ xs) ≡ header_bytes g.header ++ (g.payload ++ ys) =
    sym (append_assoc (header_bytes f.header) f.payload xs) ∙ same ∙ append_assoc (header_bytes g.header) g.payload ys in
    let headers = header_bytes-append f.header g.header (f.payload ++ xs) (g.payload ++ ys) is_f.header is_g.header grouped in
    let len : length f.payload ≡ length g.payload =
    is_f.payload ∙ ap (λ (h : Header). h.len) headers.0 ∙ sym is_g.payload in
    let n : ℕ = length g.payload in
    let payloads : f.payload ≡ g.payload =
    sym (take_at f.payload xs n len) ∙ ap (take n) headers.1 ∙ take_at g.payload ys n refl in
    let rests : xs ≡ ys = sym (drop_at f.payload xs n len) ∙ ap (drop n) headers.1 ∙ drop_at g.payload ys n refl in
    ((λ i. record { header = headers.0 i; payload = payloads i }), rests)

-- less than a whole frame begins with none
pub partial-no_frame : (rest : List ℕ) (f : Frame) (more : List ℕ) → IsPartial rest → IsFrame f → rest ≡ frame_bytes f ++ more → ⊥
partial-no_frame rest f more (inl short) is same =
    let lens = ap length same ∙ length-append (header_bytes f.header ++ f.payload) more in
    omega (arith, short, lens, length-append (header_bytes f.header) f.payload, length-header_bytes f.header is.header)
partial-no_frame rest f more (inr unfinished) is same =
    let grouped : header_bytes unfinished.header ++ unfinished.body ≡ header_bytes f.header ++ (f.payload ++ more) =
    sym unfinished.bytes_are ∙ same ∙ append_assoc (header_bytes f.header) f.payload more in
    let headers = header_bytes-append unfinished.header f.header unfinished.body (f.payload ++ more) unfinished.fits is.header grouped in
    let len = ap (λ (h : Header). h.len) headers.0 in
    omega (arith, len, unfinished.short, is.payload, ap length headers.1, length-append f.payload more)
