-- Each list of bytes has one split into frames and a rest.
use Rattle.std.proofs.Common.{◌≡◌, ℕ, zero, suc, ◌<◌, ◌≤◌, List, [], ◌∷◌, ◌++◌, length, take, drop, refl, sym, ap, ◌∙◌, arith, inl, inr, append_assoc, length-append, length-drop}
use Rattle.std.proofs.lemmas.Bool.{cases_lt}
use Rattle.std.proofs.lemmas.List.{take_at, drop_at, take-append-drop, length-take-le}
use Rattle.std.proofs.lemmas.List.Elements.{All-nil, All-cons, All-head, All-tail, All-take, All-drop}
use Rattle.std.specs.List.{All}
use Rattle.rds_wire.specs.declared.header.Header.{Header}
use Rattle.rds_wire.specs.declared.frame.Frame.{Frame}
use Rattle.rds_wire.specs.Bytes.{frame_bytes, header_bytes, IsBytes}
use Rattle.rds_wire.specs.HeaderLaws.{header_bytes-append, length-header_bytes}
use Rattle.rds_wire.specs.DecodingLaws.{header_of, header_bytes-header_of, IsHeader-header_of}
use Rattle.rds_frame.specs.Splitting.{frames_bytes, IsFrame, IsPartial, Splits}

-- what begins with a frame shows it, and what follows it
pub frame_bytes-append : (f g : Frame) (xs ys : List ℕ) → IsFrame f → IsFrame g
    → frame_bytes f ++ xs ≡ frame_bytes g ++ ys → (f ≡ g) × (xs ≡ ys)
frame_bytes-append f g xs ys is_f is_g same =
    let grouped : header_bytes f.header ++ (f.payload ++ xs) ≡ header_bytes g.header ++ (g.payload ++ ys) =
    sym (append_assoc (header_bytes f.header) f.payload xs) ∙ same ∙ append_assoc (header_bytes g.header) g.payload ys in
    let headers = header_bytes-append f.header g.header (f.payload ++ xs) (g.payload ++ ys) is_f.header is_g.header grouped in
    let len : length f.payload ≡ length g.payload =
    is_f.payload ∙ ap (λ (h : Header). h.len) headers.0 ∙ sym is_g.payload in
    let n : ℕ = length g.payload in
    let payloads : f.payload ≡ g.payload =
    sym (take_at f.payload xs n len) ∙ ap (take n) headers.1 ∙ take_at g.payload ys n refl in
    let rests : xs ≡ ys = sym (drop_at f.payload xs n len) ∙ ap (drop n) headers.1 ∙ drop_at g.payload ys n refl in
    ((λ i. record { header = headers.0 i; payload = payloads i }), rests)

-- less than a whole frame begins with none
pub partial-no_frame : (rest : List ℕ) (f : Frame) (more : List ℕ) → IsPartial rest → IsFrame f → rest ≡ frame_bytes f ++ more → ⊥
partial-no_frame rest f more (inl short) is same =
    let lens = ap length same ∙ length-append (header_bytes f.header ++ f.payload) more in
    omega (arith, short, lens, length-append (header_bytes f.header) f.payload, length-header_bytes f.header is.header)
partial-no_frame rest f more (inr unfinished) is same =
    let grouped : header_bytes unfinished.header ++ unfinished.body ≡ header_bytes f.header ++ (f.payload ++ more) =
    sym unfinished.bytes_are ∙ same ∙ append_assoc (header_bytes f.header) f.payload more in
    let headers = header_bytes-append unfinished.header f.header unfinished.body (f.payload ++ more) unfinished.fits is.header grouped in
    let len = ap (λ (h : Header). h.len) headers.0 in
    omega (arith, len, unfinished.short, is.payload, ap length headers.1, length-append f.payload more)

-- no two lists of frames, each with less than a frame after it, have the same bytes
pub one_list : (fs gs : List Frame) (r s : List ℕ) → All IsFrame fs → All IsFrame gs → IsPartial r → IsPartial s
    → frames_bytes fs ++ r ≡ frames_bytes gs ++ s → (fs ≡ gs) × (r ≡ s)
one_list [] [] r s each_f each_g partial_r partial_s same = (refl, same)
one_list [] (g ∷ gs) r s each_f each_g partial_r partial_s same =
    absurd (partial-no_frame r g (frames_bytes gs ++ s) partial_r (All-head IsFrame g gs each_g)
    (same ∙ append_assoc (frame_bytes g) (frames_bytes gs) s))
one_list (f ∷ fs) [] r s each_f each_g partial_r partial_s same =
    absurd (partial-no_frame s f (frames_bytes fs ++ r) partial_s (All-head IsFrame f fs each_f)
    (sym same ∙ append_assoc (frame_bytes f) (frames_bytes fs) r))
one_list (f ∷ fs) (g ∷ gs) r s each_f each_g partial_r partial_s same =
    let grouped : frame_bytes f ++ (frames_bytes fs ++ r) ≡ frame_bytes g ++ (frames_bytes gs ++ s) =
    sym (append_assoc (frame_bytes f) (frames_bytes fs) r) ∙ same ∙ append_assoc (frame_bytes g) (frames_bytes gs) s in
    let first = frame_bytes-append f g (frames_bytes fs ++ r) (frames_bytes gs ++ s) (All-head IsFrame f fs each_f) (All-head IsFrame g gs each_g) grouped in
    let others = one_list fs gs r s (All-tail IsFrame f fs each_f) (All-tail IsFrame g gs each_g) partial_r partial_s first.1 in
    ((λ i. first.0 i ∷ others.0 i), others.1)

pub Splits-only : (bytes : List ℕ) (fs gs : List Frame) (r s : List ℕ) → Splits bytes fs r → Splits bytes gs s → (fs ≡ gs) × (r ≡ s)
Splits-only bytes fs gs r s one other =
    one_list fs gs r s one.each other.each one.partial other.partial (sym one.whole ∙ other.whole)

-- a split of some bytes
record HasSplit (bytes : List ℕ) : Type 0 where
  frames : List Frame
  rest : List ℕ
  splits : Splits bytes frames rest

-- one frame in front
split-cons : (bytes : List ℕ) (f : Frame) (after : List ℕ) → IsFrame f → bytes ≡ frame_bytes f ++ after → HasSplit after → HasSplit bytes
split-cons bytes f after is same others = record {
  frames = f ∷ others.frames;
  rest = others.rest;
  splits = record {
    whole =
        same
        ∙ (λ i. frame_bytes f ++ others.splits.whole i)
        ∙ sym (append_assoc (frame_bytes f) (frames_bytes others.frames) others.rest);
    each = All-cons IsFrame f others.frames is others.splits.each;
    partial = others.splits.partial;
  };
}

split-nil : (bytes : List ℕ) → IsPartial bytes → HasSplit bytes
split-nil bytes partial = record {
  frames = [];
  rest = bytes;
  splits = record { whole = refl; each = All-nil IsFrame; partial = partial };
}

-- by a bound on how many bytes there are
split-within : (n : ℕ) (bytes : List ℕ) → length bytes ≤ n → IsBytes bytes → HasSplit bytes
split-within zero bytes within is = split-nil bytes (inl (omega arith))
split-within (suc n) bytes within is = elim (cases_lt (length bytes) 48) [
  | inl short ↦ split-nil bytes (inl short)
  | inr long ↦
      let front : List ℕ = take 48 bytes in
      let body : List ℕ = drop 48 bytes in
      let len : length front ≡ 48 = length-take-le 48 bytes long in
      let is_front : IsBytes front = All-take (λ b. b < 256) 48 bytes is in
      let h : Header = header_of front in
      let fits = IsHeader-header_of front len is_front in
      let whole : bytes ≡ header_bytes h ++ body =
      sym (take-append-drop 48 bytes) ∙ (λ i. sym (header_bytes-header_of front len is_front) i ++ body) in
      elim (cases_lt (length body) h.len) [
        | inl less ↦ split-nil bytes (inr (record { header = h; body = body; fits = fits; bytes_are = whole; short = less }))
        | inr enough ↦
            let payload : List ℕ = take h.len body in
            let after : List ℕ = drop h.len body in
            let f : Frame = record { header = h; payload = payload } in
            let is_f : IsFrame f = record { header = fits; payload = length-take-le h.len body enough } in
            let same : bytes ≡ frame_bytes f ++ after =
            whole ∙ (λ i. header_bytes h ++ sym (take-append-drop h.len body) i) ∙ sym (append_assoc (header_bytes h) payload after) in
            let fewer : length after ≤ n = omega (arith, length-drop h.len body, length-drop 48 bytes) in
            split-cons bytes f after is_f same
            (split-within n after fewer (All-drop (λ b. b < 256) h.len body (All-drop (λ b. b < 256) 48 bytes is)))
      ]
]

pub Splits-some : (bytes : List ℕ) → IsBytes bytes → (frames : List Frame) × (rest : List ℕ) × Splits bytes frames rest
Splits-some bytes is =
    let split = split-within (length bytes) bytes (omega arith) is in
    (split.frames, split.rest, split.splits)
