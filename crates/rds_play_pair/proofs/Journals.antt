-- What an entry adds to the bytes that were written to a stream, and to those that were got of it.
use Rattle.std.proofs.Common.{◌≡◌, ℕ, ◌<◌, ◌==◌, Option, Some, None, MatchOption, List, [], ◌∷◌, ◌++◌, refl, sym, ◌∙◌, ap, arith}
use Rattle.std.specs.List.{flat_map}
use Rattle.std.proofs.lemmas.Bool.{cond-true, cond-false, eq-eqb, ne_eqb}
use Rattle.std.proofs.lemmas.List.{append-nil, flat_map_more}
use Rattle.rds_wire.specs.declared.frame.Frame.{Frame}
use Rattle.rds_wire.specs.declared.header.Header.{Header}
use Rattle.rds_wire.specs.declared.kind.Malformed.{Malformed}
use Rattle.rds_wire.specs.Bytes.{header_bytes, frame_bytes}
use Rattle.rds_model.specs.declared.entry.Entry.{Entry}
use Rattle.rds_model.specs.declared.entry.Entry.TheVariants.{Accept, Cancel, Open, Pull, Read, Shut, Bad}
use Rattle.rds_model.specs.declared.entry.Outcome.{Outcome}
use Rattle.rds_model.specs.declared.entry.TheConstants.{NO_SLOT}
use Rattle.rds_model.specs.Past.{open_stream, newest_stream}
use Rattle.rds_model.specs.Streams.{pulled_frames, read_frames, refused_bytes, written_bytes, read_bytes}
use Rattle.rds_model.specs.Legal.{IsLegal, IsLawful, IsPong, pong_to}

-- the open stream is the newest
pub open_is_newest : (p : List Entry) (s : ℕ) → open_stream p ≡ Some s → newest_stream p ≡ s
open_is_newest [] s is = cc
open_is_newest (Open stream ∷ past) s is = cc
open_is_newest (Shut stream ∷ past) s is = cc
open_is_newest (Bad stream header cause ∷ past) s is = cc
open_is_newest (Accept slot sport dport payload ∷ past) s is = open_is_newest past s is
open_is_newest (Cancel slot target ∷ past) s is = open_is_newest past s is
open_is_newest (Pull stream frame ∷ past) s is = open_is_newest past s is
open_is_newest (Read stream frame outcome ∷ past) s is = open_is_newest past s is

-- an entry that is no pong is lawful behind its past
lawful_unless_pong : (e : Entry) (past : List Entry) → ((port : ℕ) → e ≡ Accept NO_SLOT 0 port [] → ⊥) →
    (o : Option ℕ) → MatchOption o (IsLawful past e) (λ port. IsPong past port e) → IsLawful past e
lawful_unless_pong e past other None lawful = lawful
lawful_unless_pong e past other (Some port) pong = absurd (other port pong.is)

lawful_open : (s : ℕ) (past : List Entry) → IsLegal (Open s ∷ past) → newest_stream past < s
lawful_open s past legal = (lawful_unless_pong (Open s) past (λ port e. cc) (pong_to past) legal.0).1

-- what goes over a stream goes over the newest one
pull_is_on_newest : (s : ℕ) (f : Frame) (past : List Entry) → IsLegal (Pull s f ∷ past) → newest_stream past ≡ s
pull_is_on_newest s f past legal =
    open_is_newest past s (lawful_unless_pong (Pull s f) past (λ port e. cc) (pong_to past) legal.0).on

newest_read : (s : ℕ) (f : Frame) (o : Outcome) (past : List Entry) → IsLegal (Read s f o ∷ past) → newest_stream past ≡ s
newest_read s f o past legal =
    open_is_newest past s (lawful_unless_pong (Read s f o) past (λ port e. cc) (pong_to past) legal.0).on

newest_bad : (s : ℕ) (h : Header) (found : Malformed) (past : List Entry) → IsLegal (Bad s h found ∷ past) → newest_stream past ≡ s
newest_bad s h found past legal =
    open_is_newest past s (lawful_unless_pong (Bad s h found) past (λ port e. cc) (pong_to past) legal.0).on

-- a stream that is newer than all has no entry of its own
pub no_pulls : (s : ℕ) (past : List Entry) → IsLegal past → newest_stream past < s → pulled_frames s past ≡ []
no_pulls s [] legal newer = refl
no_pulls s (Open stream ∷ past) legal newer = no_pulls s past legal.1 (omega (arith, lawful_open stream past legal))
no_pulls s (Pull stream frame ∷ past) legal newer =
    let is = pull_is_on_newest stream frame past legal in
    cond-false (stream == s) (pulled_frames s past ++ frame ∷ []) (pulled_frames s past) (ne_eqb stream s (λ same. omega (arith, is, same)))
    ∙ no_pulls s past legal.1 newer
no_pulls s (_ ∷ past) legal newer = no_pulls s past legal.1 newer

pub no_reads : (s : ℕ) (past : List Entry) → IsLegal past → newest_stream past < s → read_frames s past ≡ []
no_reads s [] legal newer = refl
no_reads s (Open stream ∷ past) legal newer = no_reads s past legal.1 (omega (arith, lawful_open stream past legal))
no_reads s (Read stream frame outcome ∷ past) legal newer =
    let is = newest_read stream frame outcome past legal in
    cond-false (stream == s) (read_frames s past ++ frame ∷ []) (read_frames s past) (ne_eqb stream s (λ same. omega (arith, is, same)))
    ∙ no_reads s past legal.1 newer
no_reads s (_ ∷ past) legal newer = no_reads s past legal.1 newer

pub none_refused : (s : ℕ) (past : List Entry) → IsLegal past → newest_stream past < s → refused_bytes s past ≡ []
none_refused s [] legal newer = refl
none_refused s (Open stream ∷ past) legal newer = none_refused s past legal.1 (omega (arith, lawful_open stream past legal))
none_refused s (Bad stream header found ∷ past) legal newer =
    let is = newest_bad stream header found past legal in
    cond-false (stream == s) (header_bytes header) (refused_bytes s past) (ne_eqb stream s (λ same. omega (arith, is, same)))
    ∙ none_refused s past legal.1 newer
none_refused s (_ ∷ past) legal newer = none_refused s past legal.1 newer

-- nor was a header refused on the open stream
pub unrefused : (s : ℕ) (past : List Entry) → IsLegal past → open_stream past ≡ Some s → refused_bytes s past ≡ []
unrefused s [] legal is = cc
unrefused s (Open stream ∷ past) legal is =
    let same : stream ≡ s = cc in
    none_refused s past legal.1 (omega (arith, lawful_open stream past legal))
unrefused s (Shut stream ∷ past) legal is = cc
unrefused s (Bad stream header cause ∷ past) legal is = cc
unrefused s (Accept slot sport dport payload ∷ past) legal is = unrefused s past legal.1 is
unrefused s (Cancel slot target ∷ past) legal is = unrefused s past legal.1 is
unrefused s (Pull stream frame ∷ past) legal is = unrefused s past legal.1 is
unrefused s (Read stream frame outcome ∷ past) legal is = unrefused s past legal.1 is

-- what was written to a stream, with a frame that is pulled on it or on another
pub wrote-pull : (s : ℕ) (f : Frame) (past : List Entry) → written_bytes s (Pull s f ∷ past) ≡ written_bytes s past ++ frame_bytes f
wrote-pull s f past =
    ap (λ (fs : List Frame). flat_map frame_bytes fs) (cond-true (s == s) (pulled_frames s past ++ f ∷ []) (pulled_frames s past) (eq-eqb s s refl))
    ∙ sym (flat_map_more frame_bytes [] (pulled_frames s past) f)

pub wrote-pull_other : (j s : ℕ) (f : Frame) (past : List Entry) → (s ≡ j → ⊥) → written_bytes j (Pull s f ∷ past) ≡ written_bytes j past
wrote-pull_other j s f past other =
    ap (λ (fs : List Frame). flat_map frame_bytes fs)
    (cond-false (s == j) (pulled_frames j past ++ f ∷ []) (pulled_frames j past) (ne_eqb s j other))

-- what was got of a stream, with a frame that is read on it or on another
pub got-read : (s : ℕ) (f : Frame) (o : Outcome) (past : List Entry) → refused_bytes s past ≡ [] →
    read_bytes s (Read s f o ∷ past) ≡ read_bytes s past ++ frame_bytes f
got-read s f o past none =
    let before = flat_map frame_bytes (read_frames s past) in
    let frames =
    ap (λ (fs : List Frame). flat_map frame_bytes fs) (cond-true (s == s) (read_frames s past ++ f ∷ []) (read_frames s past) (eq-eqb s s refl))
    ∙ sym (flat_map_more frame_bytes [] (read_frames s past) f) in
    ap (λ (bytes : List ℕ). bytes ++ refused_bytes s past) frames
    ∙ ap (λ (rest : List ℕ). (before ++ frame_bytes f) ++ rest) none
    ∙ append-nil (before ++ frame_bytes f)
    ∙ sym (ap (λ (bytes : List ℕ). bytes ++ frame_bytes f) (ap (λ (rest : List ℕ). before ++ rest) none ∙ append-nil before))

pub got-read_other : (j s : ℕ) (f : Frame) (o : Outcome) (past : List Entry) → (s ≡ j → ⊥) → read_bytes j (Read s f o ∷ past) ≡ read_bytes j past
got-read_other j s f o past other =
    ap (λ (fs : List Frame). flat_map frame_bytes fs ++ refused_bytes j past)
    (cond-false (s == j) (read_frames j past ++ f ∷ []) (read_frames j past) (ne_eqb s j other))

-- and with a header that is refused
pub got-bad : (s : ℕ) (h : Header) (found : Malformed) (past : List Entry) → refused_bytes s past ≡ [] →
    read_bytes s (Bad s h found ∷ past) ≡ read_bytes s past ++ header_bytes h
got-bad s h found past none =
    let before = flat_map frame_bytes (read_frames s past) in
    ap (λ (bytes : List ℕ). before ++ bytes) (cond-true (s == s) (header_bytes h) (refused_bytes s past) (eq-eqb s s refl))
    ∙ sym (ap (λ (bytes : List ℕ). bytes ++ header_bytes h) (ap (λ (rest : List ℕ). before ++ rest) none ∙ append-nil before))

pub got-bad_other : (j s : ℕ) (h : Header) (found : Malformed) (past : List Entry) → (s ≡ j → ⊥) → read_bytes j (Bad s h found ∷ past) ≡ read_bytes j past
got-bad_other j s h found past other =
    ap (λ (bytes : List ℕ). flat_map frame_bytes (read_frames j past) ++ bytes)
    (cond-false (s == j) (header_bytes h) (refused_bytes j past) (ne_eqb s j other))
