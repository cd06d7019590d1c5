-- The frames that went over a stream, and the moments at which they did.
use Rattle.std.proofs.Common.{◌≡◌, ◌⊎◌, inl, inr, ℕ, ◌==◌, true, false, cond, if◌then◌else◌, Option, Some, None, List, [], ◌∷◌, ◌++◌, refl, sym, ◌∙◌, ap, subst, append_assoc}
use Rattle.std.specs.Option.{option_to_list}
use Rattle.std.proofs.lemmas.Bool.{eqb-true, eq-eqb, cond-true, cond-false, cases_Bool}
use Rattle.std.proofs.lemmas.List.{append-nil, same_from_push}
use Rattle.rds_wire.specs.declared.frame.Frame.{Frame}
use Rattle.rds_model.specs.declared.entry.Entry.{Entry}
use Rattle.rds_model.specs.declared.entry.Entry.TheVariants.{Accept, Pull, Read}
use Rattle.rds_model.specs.declared.entry.Outcome.{Outcome}
use Rattle.rds_model.specs.Past.{Moment, now, before}
use Rattle.rds_model.specs.Streams.{pulled_frames, read_frames}

-- a list is empty or has a last element
ends : (fs : List Frame) → (fs ≡ []) ⊎ ((front : List Frame) × (last : Frame) × (fs ≡ front ++ last ∷ []))
ends [] = inl refl
ends (f ∷ fs) = inr (cons_ends (ends fs))
  where
    cons_ends : (fs ≡ []) ⊎ ((front : List Frame) × (last : Frame) × (fs ≡ front ++ last ∷ [])) →
        (front : List Frame) × (last : Frame) × (f ∷ fs ≡ front ++ last ∷ [])
    cons_ends (inl e) = ([], f, ap (λ (rest : List Frame). f ∷ rest) e)
    cons_ends (inr (front, last, e)) = (f ∷ front, last, ap (λ (rest : List Frame). f ∷ rest) e)

nothing_within : (xs : List Frame) (f : Frame) (rest : List Frame) → [] ≡ xs ++ f ∷ rest → ⊥
nothing_within [] f rest e = cc
nothing_within (x ∷ xs) f rest e = cc

-- the frames of the entries that carry one
abbrev frames : (Entry → Option Frame) → List Entry → List Frame
frames carried [] = []
frames carried (e ∷ past) = frames carried past ++ option_to_list (carried e)

-- an entry that carries this frame, behind those that carry the frames before it
record Carried (carried : Entry → Option Frame) (fs : List Frame) (f : Frame) (j : List Entry) : Type 0 where
  e : Entry
  past : List Entry
  at : Moment (e ∷ past) j
  carries : carried e ≡ Some f
  earlier : frames carried past ≡ fs

module _ (carried : Entry → Option Frame) where
  -- the frames of a moment are the first of all
  frames_grow : {p j : List Entry} → Moment p j → (rest : List Frame) × (frames carried j ≡ frames carried p ++ rest)
  frames_grow {p} now = ([], sym (append-nil (frames carried p)))
  frames_grow {p} (before {e} {j} m) =
      let older = frames_grow m in
      let newer = option_to_list (carried e) in
      (older.0 ++ newer, ap (λ (fs : List Frame). fs ++ newer) older.1 ∙ append_assoc (frames carried p) older.0 newer)

  -- a frame stands behind those that were carried before it
  frame_begins : (e : Entry) (f : Frame) {p j : List Entry} → carried e ≡ Some f → Moment (e ∷ p) j →
      (rest : List Frame) × (frames carried j ≡ frames carried p ++ f ∷ rest)
  frame_begins e f {p} carries m =
      let grown = frames_grow m in (
        grown.0,
        grown.1 ∙ ap (λ (o : Option Frame). (frames carried p ++ option_to_list o) ++ grown.0) carries
            ∙ append_assoc (frames carried p) (f ∷ []) grown.0,
      )

  carried_before : (fs : List Frame) (f : Frame) (e : Entry) (past : List Entry) → Carried carried fs f past → Carried carried fs f (e ∷ past)
  carried_before fs f e past there =
      record { e = there.e; past = there.past; at = before there.at; carries = there.carries; earlier = there.earlier }

  -- each of the frames has its moment
  frame_moment : (j : List Entry) (fs : List Frame) (f : Frame) (rest : List Frame) →
      frames carried j ≡ fs ++ f ∷ rest → Carried carried fs f j
  frame_moment [] fs f rest is = absurd (nothing_within fs f rest is)
  frame_moment (e ∷ past) fs f rest is = by_entry (λ r. frame_moment past fs f r) (carried e) refl is (ends rest)
    where
      by_entry : ((r : List Frame) → frames carried past ≡ fs ++ f ∷ r → Carried carried fs f past) →
          (o : Option Frame) → carried e ≡ o → frames carried past ++ option_to_list o ≡ fs ++ f ∷ rest →
          (rest ≡ []) ⊎ ((front : List Frame) × (last : Frame) × (rest ≡ front ++ last ∷ [])) →
          Carried carried fs f (e ∷ past)
      by_entry older None none is _ = carried_before fs f e past (older rest (sym (append-nil (frames carried past)) ∙ is))
      by_entry older (Some g) some is (inl empty) =
          let both = same_from_push (frames carried past) fs g f (is ∙ ap (λ (r : List Frame). fs ++ f ∷ r) empty) in
          record { e = e; past = past; at = now; carries = some ∙ ap (λ (x : Frame). Some x) both.1; earlier = both.0 }
      by_entry older (Some g) some is (inr (front, last, split)) =
          let pushed = ap (λ (r : List Frame). fs ++ f ∷ r) split ∙ sym (append_assoc fs (f ∷ front) (last ∷ [])) in
          let both = same_from_push (frames carried past) (fs ++ f ∷ front) g last (is ∙ pushed) in
          carried_before fs f e past (older front both.0)

-- the frame that an entry pulls on stream s, or reads there
abbrev pulled_by : ℕ → Entry → Option Frame
pulled_by s (Pull stream frame) = if stream == s then Some frame else None
pulled_by s _ = None

abbrev read_by : ℕ → Entry → Option Frame
read_by s (Read stream frame outcome) = if stream == s then Some frame else None
read_by s _ = None

pulls_are : (s : ℕ) (j : List Entry) → frames (pulled_by s) j ≡ pulled_frames s j
pulls_are s [] = refl
pulls_are s (Pull stream frame ∷ past) =
    elim (stream == s) as (λ b. frames (pulled_by s) past ++ option_to_list (cond b (Some frame) None)
    ≡ cond b (pulled_frames s past ++ frame ∷ []) (pulled_frames s past)) [
      | true ↦ ap (λ (fs : List Frame). fs ++ frame ∷ []) (pulls_are s past)
      | false ↦ append-nil (frames (pulled_by s) past) ∙ pulls_are s past
    ]
pulls_are s (_ ∷ past) = append-nil (frames (pulled_by s) past) ∙ pulls_are s past

reads_are : (s : ℕ) (j : List Entry) → frames (read_by s) j ≡ read_frames s j
reads_are s [] = refl
reads_are s (Read stream frame outcome ∷ past) =
    elim (stream == s) as (λ b. frames (read_by s) past ++ option_to_list (cond b (Some frame) None)
    ≡ cond b (read_frames s past ++ frame ∷ []) (read_frames s past)) [
      | true ↦ ap (λ (fs : List Frame). fs ++ frame ∷ []) (reads_are s past)
      | false ↦ append-nil (frames (read_by s) past) ∙ reads_are s past
    ]
reads_are s (_ ∷ past) = append-nil (frames (read_by s) past) ∙ reads_are s past

-- the frames that were pulled by a moment are the first of all
pub pulls_grow : (s : ℕ) {p j : List Entry} → Moment p j → (rest : List Frame) × (pulled_frames s j ≡ pulled_frames s p ++ rest)
pulls_grow s {p} {j} m =
    let grown = frames_grow (pulled_by s) m in
    (grown.0, sym (pulls_are s j) ∙ grown.1 ∙ ap (λ (fs : List Frame). fs ++ grown.0) (pulls_are s p))

pub reads_grow : (s : ℕ) {p j : List Entry} → Moment p j → (rest : List Frame) × (read_frames s j ≡ read_frames s p ++ rest)
reads_grow s {p} {j} m =
    let grown = frames_grow (read_by s) m in
    (grown.0, sym (reads_are s j) ∙ grown.1 ∙ ap (λ (fs : List Frame). fs ++ grown.0) (reads_are s p))

-- a frame stands behind those that were pulled, or read, before it
pub pull_begins : (s : ℕ) (f : Frame) {p j : List Entry} → Moment (Pull s f ∷ p) j →
    (rest : List Frame) × (pulled_frames s j ≡ pulled_frames s p ++ f ∷ rest)
pull_begins s f {p} {j} m =
    let begins = frame_begins (pulled_by s) (Pull s f) f (cond-true (s == s) (Some f) None (eq-eqb s s refl)) m in
    (begins.0, sym (pulls_are s j) ∙ begins.1 ∙ ap (λ (fs : List Frame). fs ++ f ∷ begins.0) (pulls_are s p))

pub read_begins : (s : ℕ) (f : Frame) (o : Outcome) {p j : List Entry} → Moment (Read s f o ∷ p) j →
    (rest : List Frame) × (read_frames s j ≡ read_frames s p ++ f ∷ rest)
read_begins s f o {p} {j} m =
    let begins = frame_begins (read_by s) (Read s f o) f (cond-true (s == s) (Some f) None (eq-eqb s s refl)) m in
    (begins.0, sym (reads_are s j) ∙ begins.1 ∙ ap (λ (fs : List Frame). fs ++ f ∷ begins.0) (reads_are s p))

-- a pull of the frame behind these, and a reading
pub record PulledAfter (s : ℕ) (fs : List Frame) (f : Frame) (j : List Entry) : Type 0 where
  pub past : List Entry
  pub at : Moment (Pull s f ∷ past) j
  pub earlier : pulled_frames s past ≡ fs

pub record ReadAfter (s : ℕ) (fs : List Frame) (f : Frame) (j : List Entry) : Type 0 where
  pub outcome : Outcome
  pub past : List Entry
  pub at : Moment (Read s f outcome ∷ past) j
  pub earlier : read_frames s past ≡ fs

is_pull : (s : ℕ) (e : Entry) (f : Frame) → pulled_by s e ≡ Some f → e ≡ Pull s f
is_pull s (Pull stream frame) f is =
    elim (cases_Bool (stream == s)) [
      | inl same ↦
          let is_f : Some frame ≡ Some f = sym (cond-true (stream == s) (Some frame) None same) ∙ is in
          let is_k = eqb-true stream s same in
          cc
      | inr other ↦
          let is_f : None ≡ Some f = sym (cond-false (stream == s) (Some frame) None other) ∙ is in
          cc
    ]
is_pull s (Accept slot sport dport payload) f is = cc
is_pull s _ f is = cc

is_read : (s : ℕ) (e : Entry) (f : Frame) → read_by s e ≡ Some f → (o : Outcome) × (e ≡ Read s f o)
is_read s (Read stream frame outcome) f is =
    elim (cases_Bool (stream == s)) [
      | inl same ↦
          let is_f : Some frame ≡ Some f = sym (cond-true (stream == s) (Some frame) None same) ∙ is in
          let is_k = eqb-true stream s same in
          let is_frame : frame ≡ f = cc in
          (outcome, λ i. Read (is_k i) (is_frame i) outcome)
      | inr other ↦
          let is_f : None ≡ Some f = sym (cond-false (stream == s) (Some frame) None other) ∙ is in
          cc
    ]
is_read s _ f is = cc

-- each pulled frame has its pull, and each that was read its reading
pub pull_moment : (s : ℕ) (j : List Entry) (fs : List Frame) (f : Frame) (rest : List Frame) →
    pulled_frames s j ≡ fs ++ f ∷ rest → PulledAfter s fs f j
pull_moment s j fs f rest is =
    let found = frame_moment (pulled_by s) j fs f rest (pulls_are s j ∙ is) in
    record {
      past = found.past;
      at = subst (λ (e : Entry). Moment (e ∷ found.past) j) (is_pull s found.e f found.carries) found.at;
      earlier = sym (pulls_are s found.past) ∙ found.earlier;
    }

pub read_moment : (s : ℕ) (j : List Entry) (fs : List Frame) (f : Frame) (rest : List Frame) →
    read_frames s j ≡ fs ++ f ∷ rest → ReadAfter s fs f j
read_moment s j fs f rest is =
    let found = frame_moment (read_by s) j fs f rest (reads_are s j ∙ is) in
    let reading = is_read s found.e f found.carries in
    record {
      outcome = reading.0;
      past = found.past;
      at = subst (λ (e : Entry). Moment (e ∷ found.past) j) reading.1 found.at;
      earlier = sym (reads_are s found.past) ∙ found.earlier;
    }
