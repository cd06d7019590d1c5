-- Laws, each proved: proofs in other crates use them. Nothing here has to be believed.
-- What went over a stream: nothing before it was opened, and with each entry on it so much more.
use Rattle.std.proofs.Common.{◌≡◌, ◌≢◌, inl, inr, ℕ, ◌<◌, ◌==◌, Some, List, [], ◌∷◌, ◌++◌, refl, sym, ◌∙◌, ap, subst, arith}
use Rattle.std.specs.List.{Contains, flat_map}
use Rattle.std.proofs.lemmas.Bool.{cond-true, cond-false, eq-eqb, ne_eqb, cases_eq}
use Rattle.std.proofs.lemmas.List.{append-nil, flat_map_more}
use Rattle.std.proofs.lemmas.List.Elements.{Contains-push, Contains-append_left}
use Rattle.rds_wire.specs.declared.frame.Frame.{Frame}
use Rattle.rds_wire.specs.declared.header.Header.{Header}
use Rattle.rds_wire.specs.declared.kind.Malformed.{Malformed}
use Rattle.rds_wire.specs.Bytes.{header_bytes, frame_bytes}
use Rattle.rds_model.specs.declared.entry.Entry.{Entry}
use Rattle.rds_model.specs.declared.entry.Entry.TheVariants.{Accept, Cancel, Open, Pull, Read, Shut, Bad}
use Rattle.rds_model.specs.declared.entry.Outcome.{Outcome}
use Rattle.rds_model.specs.Past.{now, open_stream, newest_stream}
use Rattle.rds_model.specs.Streams.{pulled_frames, read_frames, refused_bytes, written_bytes, read_bytes}
use Rattle.rds_model.specs.Sums.{opens, newest_pull}
use Rattle.rds_model.specs.Legal.{IsLegal}
use Rattle.rds_model.specs.LegalityLaws.{lawful_open, lawful_pull, lawful_read, lawful_bad, open_is_newest}

-- a stream that is newer than all has no entry of its own
pub no_pulls : (s : ℕ) (past : List Entry) → IsLegal past → newest_stream past < s → pulled_frames s past ≡ []
no_pulls s [] legal newer = refl
no_pulls s (Open stream ∷ past) legal newer = no_pulls s past legal.1 (omega (arith, (lawful_open stream past legal).1))
no_pulls s (Pull stream frame ∷ past) legal newer =
    let is = open_is_newest past legal.1 stream (lawful_pull stream frame legal now).on in
    cond-false (stream == s) (pulled_frames s past ++ frame ∷ []) (pulled_frames s past) (ne_eqb stream s (λ same. omega (arith, is, same)))
    ∙ no_pulls s past legal.1 newer
no_pulls s (_ ∷ past) legal newer = no_pulls s past legal.1 newer

pub no_reads : (s : ℕ) (past : List Entry) → IsLegal past → newest_stream past < s → read_frames s past ≡ []
no_reads s [] legal newer = refl
no_reads s (Open stream ∷ past) legal newer = no_reads s past legal.1 (omega (arith, (lawful_open stream past legal).1))
no_reads s (Read stream frame outcome ∷ past) legal newer =
    let is = open_is_newest past legal.1 stream (lawful_read stream frame outcome legal now).on in
    cond-false (stream == s) (read_frames s past ++ frame ∷ []) (read_frames s past) (ne_eqb stream s (λ same. omega (arith, is, same)))
    ∙ no_reads s past legal.1 newer
no_reads s (_ ∷ past) legal newer = no_reads s past legal.1 newer

pub none_refused : (s : ℕ) (past : List Entry) → IsLegal past → newest_stream past < s → refused_bytes s past ≡ []
none_refused s [] legal newer = refl
none_refused s (Open stream ∷ past) legal newer = none_refused s past legal.1 (omega (arith, (lawful_open stream past legal).1))
none_refused s (Bad stream header found ∷ past) legal newer =
    let is = open_is_newest past legal.1 stream (lawful_bad stream header found legal now).on in
    cond-false (stream == s) (header_bytes header) (refused_bytes s past) (ne_eqb stream s (λ same. omega (arith, is, same)))
    ∙ none_refused s past legal.1 newer
none_refused s (_ ∷ past) legal newer = none_refused s past legal.1 newer

-- no byte went over it
pub none_written : (s : ℕ) (past : List Entry) → IsLegal past → newest_stream past < s → written_bytes s past ≡ []
none_written s past legal newer = ap (flat_map frame_bytes) (no_pulls s past legal newer)

pub none_read : (s : ℕ) (past : List Entry) → IsLegal past → newest_stream past < s → read_bytes s past ≡ []
none_read s past legal newer =
    ap (λ (fs : List Frame). flat_map frame_bytes fs ++ refused_bytes s past) (no_reads s past legal newer) ∙ none_refused s past legal newer

-- no header was refused on the open stream
pub unrefused : (s : ℕ) (past : List Entry) → IsLegal past → open_stream past ≡ Some s → refused_bytes s past ≡ []
unrefused s [] legal is = cc
unrefused s (Open stream ∷ past) legal is =
    let same : stream ≡ s = cc in
    none_refused s past legal.1 (omega (arith, (lawful_open stream past legal).1))
unrefused s (Shut stream ∷ past) legal is = cc
unrefused s (Bad stream header cause ∷ past) legal is = cc
unrefused s (Accept slot sport dport payload ∷ past) legal is = unrefused s past legal.1 is
unrefused s (Cancel slot target ∷ past) legal is = unrefused s past legal.1 is
unrefused s (Pull stream frame ∷ past) legal is = unrefused s past legal.1 is
unrefused s (Read stream frame outcome ∷ past) legal is = unrefused s past legal.1 is

-- what was written to a stream, with a frame that is pulled on it or on another
pub written_pull : (s : ℕ) (f : Frame) (past : List Entry) → written_bytes s (Pull s f ∷ past) ≡ written_bytes s past ++ frame_bytes f
written_pull s f past =
    ap (flat_map frame_bytes) (cond-true (s == s) (pulled_frames s past ++ f ∷ []) (pulled_frames s past) (eq-eqb s s refl))
    ∙ sym (flat_map_more frame_bytes [] (pulled_frames s past) f)

pub written_pull_other : (s other : ℕ) (f : Frame) (past : List Entry) → other ≢ s → written_bytes s (Pull other f ∷ past) ≡ written_bytes s past
written_pull_other s other f past apart =
    ap (flat_map frame_bytes) (cond-false (other == s) (pulled_frames s past ++ f ∷ []) (pulled_frames s past) (ne_eqb other s apart))

-- what was read of a stream, with a frame that is read on it or on another
pub read_read : (s : ℕ) (f : Frame) (o : Outcome) (past : List Entry) → IsLegal past → open_stream past ≡ Some s →
    read_bytes s (Read s f o ∷ past) ≡ read_bytes s past ++ frame_bytes f
read_read s f o past legal on =
    let none = unrefused s past legal on in
    let before = flat_map frame_bytes (read_frames s past) in
    let frames =
    ap (flat_map frame_bytes) (cond-true (s == s) (read_frames s past ++ f ∷ []) (read_frames s past) (eq-eqb s s refl))
    ∙ sym (flat_map_more frame_bytes [] (read_frames s past) f) in
    ap (λ (bytes : List ℕ). bytes ++ refused_bytes s past) frames
    ∙ ap (λ (rest : List ℕ). (before ++ frame_bytes f) ++ rest) none
    ∙ append-nil (before ++ frame_bytes f)
    ∙ sym (ap (λ (bytes : List ℕ). bytes ++ frame_bytes f) (ap (λ (rest : List ℕ). before ++ rest) none ∙ append-nil before))

pub read_read_other : (s other : ℕ) (f : Frame) (o : Outcome) (past : List Entry) → other ≢ s → read_bytes s (Read other f o ∷ past) ≡ read_bytes s past
read_read_other s other f o past apart =
    ap (λ (fs : List Frame). flat_map frame_bytes fs ++ refused_bytes s past)
    (cond-false (other == s) (read_frames s past ++ f ∷ []) (read_frames s past) (ne_eqb other s apart))

-- and with a header that is refused
pub read_bad : (s : ℕ) (h : Header) (found : Malformed) (past : List Entry) → IsLegal past → open_stream past ≡ Some s →
    read_bytes s (Bad s h found ∷ past) ≡ read_bytes s past ++ header_bytes h
read_bad s h found past legal on =
    let before = flat_map frame_bytes (read_frames s past) in
    ap (λ (bytes : List ℕ). before ++ bytes) (cond-true (s == s) (header_bytes h) (refused_bytes s past) (eq-eqb s s refl))
    ∙ sym (ap (λ (bytes : List ℕ). bytes ++ header_bytes h) (ap (λ (rest : List ℕ). before ++ rest) (unrefused s past legal on) ∙ append-nil before))

pub read_bad_other : (s other : ℕ) (h : Header) (found : Malformed) (past : List Entry) → other ≢ s → read_bytes s (Bad other h found ∷ past) ≡ read_bytes s past
read_bad_other s other h found past apart =
    ap (λ (bytes : List ℕ). flat_map frame_bytes (read_frames s past) ++ bytes)
    (cond-false (other == s) (header_bytes h) (refused_bytes s past) (ne_eqb other s apart))

-- the open stream was opened
pub open_was_opened : (s : ℕ) (past : List Entry) → open_stream past ≡ Some s → Contains (opens past) s
open_was_opened s [] is = cc
open_was_opened s (Open stream ∷ past) is =
    let same : stream ≡ s = cc in
    subst (Contains (opens past ++ stream ∷ [])) same (Contains-push (opens past) stream)
open_was_opened s (Shut stream ∷ past) is = cc
open_was_opened s (Bad stream header cause ∷ past) is = cc
open_was_opened s (Accept slot sport dport payload ∷ past) is = open_was_opened s past is
open_was_opened s (Cancel slot target ∷ past) is = open_was_opened s past is
open_was_opened s (Pull stream frame ∷ past) is = open_was_opened s past is
open_was_opened s (Read stream frame outcome ∷ past) is = open_was_opened s past is

-- a stream of which bytes were read was opened, and so was one to which bytes were written
pub read_was_opened : (s : ℕ) (past : List Entry) → IsLegal past → read_bytes s past ≢ [] → Contains (opens past) s
read_was_opened s [] legal some = absurd (some refl)
read_was_opened s (Open stream ∷ past) legal some = Contains-append_left (opens past) (stream ∷ []) s (read_was_opened s past legal.1 some)
read_was_opened s (Read stream frame outcome ∷ past) legal some =
    elim (cases_eq stream s) [
      | inl same ↦ open_was_opened s past ((lawful_read stream frame outcome legal now).on ∙ ap Some same)
      | inr apart ↦ read_was_opened s past legal.1 (λ none. some (read_read_other s stream frame outcome past apart ∙ none))
    ]
read_was_opened s (Bad stream header found ∷ past) legal some =
    elim (cases_eq stream s) [
      | inl same ↦ open_was_opened s past ((lawful_bad stream header found legal now).on ∙ ap Some same)
      | inr apart ↦ read_was_opened s past legal.1 (λ none. some (read_bad_other s stream header found past apart ∙ none))
    ]
read_was_opened s (_ ∷ past) legal some = read_was_opened s past legal.1 some

pub written_was_opened : (s : ℕ) (past : List Entry) → IsLegal past → written_bytes s past ≢ [] → Contains (opens past) s
written_was_opened s [] legal some = absurd (some refl)
written_was_opened s (Open stream ∷ past) legal some = Contains-append_left (opens past) (stream ∷ []) s (written_was_opened s past legal.1 some)
written_was_opened s (Pull stream frame ∷ past) legal some =
    elim (cases_eq stream s) [
      | inl same ↦ open_was_opened s past ((lawful_pull stream frame legal now).on ∙ ap Some same)
      | inr apart ↦ written_was_opened s past legal.1 (λ none. some (written_pull_other s stream frame past apart ∙ none))
    ]
written_was_opened s (_ ∷ past) legal some = written_was_opened s past legal.1 some

-- what was written to a stream ends with the frame that was pulled last
pub newest_is_last : (s : ℕ) (f : Frame) (past : List Entry) → newest_pull s past ≡ Some f →
    (front : List ℕ) × (written_bytes s past ≡ front ++ frame_bytes f)
newest_is_last s f [] is = cc
newest_is_last s f (Pull stream frame ∷ past) is =
    elim (cases_eq stream s) [
      | inl same ↦
          let given : Some frame ≡ Some f = sym (cond-true (stream == s) (Some frame) (newest_pull s past) (eq-eqb stream s same)) ∙ is in
          let is_f : frame ≡ f = cc in (
            written_bytes s past,
            ap (λ (n : ℕ). written_bytes s (Pull n frame ∷ past)) same ∙ written_pull s frame past ∙ ap (λ (g : Frame). written_bytes s past ++ frame_bytes g) is_f,
          )
      | inr apart ↦
          let earlier = newest_is_last s f past (sym (cond-false (stream == s) (Some frame) (newest_pull s past) (ne_eqb stream s apart)) ∙ is) in
          (earlier.0, written_pull_other s stream frame past apart ∙ earlier.1)
    ]
newest_is_last s f (_ ∷ past) is = newest_is_last s f past is
