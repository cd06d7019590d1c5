-- No header is refused: the one that a `Bad` has is that of a lawful frame, and such a frame has no fault.
use Rattle.std.proofs.Common.{◌≡◌, inl, inr, ℕ, ◌<◌, ◌≤◌, ◌==◌, Some, None, List, [], ◌∷◌, ◌++◌, length, refl, sym, ◌∙◌, ap, arith, append_assoc, length-append}
use Rattle.std.specs.List.{flat_map}
use Rattle.std.proofs.lemmas.Bool.{cases_lt, eq-eqb, ne_eqb, cond-true, cond-false}
use Rattle.rds_wire.specs.declared.frame.Frame.{Frame}
use Rattle.rds_wire.specs.declared.header.Header.{Header}
use Rattle.rds_wire.specs.declared.kind.Malformed.{Malformed}
use Rattle.rds_wire.specs.Bytes.{header_bytes, frame_bytes, IsHeader}
use Rattle.rds_wire.specs.Kinds.{cause}
use Rattle.rds_wire.specs.HeaderLaws.{length-header_bytes, header_bytes-append}
use Rattle.rds_model.specs.declared.entry.Entry.{Entry}
use Rattle.rds_model.specs.declared.entry.Entry.TheVariants.{Bad}
use Rattle.rds_model.specs.Past.{Moment, now, before, open_stream, highest_pulled, last_passed}
use Rattle.rds_model.specs.Streams.{pulled_frames, read_frames, refused_bytes}
use Rattle.rds_model.specs.Legal.{IsLegal}
use Rattle.rds_model.specs.Fifo.{HasNoBad}
use Rattle.rds_model.proofs.Moments.{earlier, past_of, of_two_entries, first, second, same}
use Rattle.rds_model.proofs.Frames.{pull_moment}
use Rattle.rds_model.specs.LegalityLaws.{legal_at, lawful_pull, lawful_read, lawful_bad}
use Rattle.rds_model.proofs.StreamOrder.{open_is_newest, opened_later, on_earlier_stream}
use Rattle.rds_model.specs.BoundLaws.{pulled_bounds}
use Rattle.rds_model.proofs.SoundFrames.{lawful_frame_is_sound}
use Rattle.rds_model.proofs.Matching.{ArePeers, other_way, matched, pull_of_read}
use Rattle.rds_model.proofs.Rise.{last_was_passed, passed_datagram}

-- behind a `Bad` of stream s nothing more is read there
module _ (s : ℕ) (h : Header) (found : Malformed) where
  later_streams : {p j : List Entry} (x : ℕ) → IsLegal j → Moment (Bad s h found ∷ p) j → open_stream j ≡ Some x → s < x
  later_streams {p} x legal m is =
      let bad = lawful_bad s h found legal m in
      omega (arith, opened_later x legal m refl is, open_is_newest p s bad.on)

  refused_step : (e : Entry) (past : List Entry) → IsLegal (e ∷ past) → ((x : ℕ) → open_stream past ≡ Some x → s < x) →
      refused_bytes s (e ∷ past) ≡ refused_bytes s past
  refused_step (Bad x g c) past legal later =
      let on = (lawful_bad x g c legal now).on in
      let above = later x on in
      cond-false (x == s) (header_bytes g) (refused_bytes s past) (ne_eqb x s (λ e. omega (arith, above)))
  refused_step _ past legal later = refl

  refused_after : {p j : List Entry} → IsLegal j → Moment (Bad s h found ∷ p) j → refused_bytes s j ≡ header_bytes h
  refused_after {p} legal now = cond-true (s == s) (header_bytes h) (refused_bytes s p) (eq-eqb s s refl)
  refused_after legal (before {e} {j} m) =
      refused_step e j legal (λ x. later_streams x legal.1 m) ∙ refused_after legal.1 m

-- What A acknowledges when it pulls a frame on stream s, B had pulled before it refused a header of k: that was on s or on
-- an earlier stream, and all that B pulled there stands before its `Bad`.
acknowledged_is_known : (s : ℕ) (h : Header) (found : Malformed) {p r a b : List Entry} → ArePeers a b →
    Moment (Bad s h found ∷ p) b → Moment r a → open_stream r ≡ Some s → last_passed r ≤ highest_pulled p
acknowledged_is_known s h found {p} {r} {a} {b} peers bad m on =
    elim (cases_lt 0 (last_passed r)) [
      | inr none ↦ omega arith
      | inl some ↦
          let last = last_was_passed r some in
          let at = earlier last.at m in
          let back = other_way a b peers in
          let pull = pull_of_read last.stream last.frame last.outcome back at in
          let is = (passed_datagram last.stream last.frame last.outcome peers.legal_a at last.passed).0 in
          elim (of_two_entries pull.at bad) [
            | first earlier_pull ↦ omega (arith, pulled_bounds last.stream last.frame earlier_pull is, last.is)
            | second later_pull ↦
                let pulled = lawful_pull last.stream last.frame peers.legal_b pull.at in
                let read = lawful_read last.stream last.frame last.outcome peers.legal_a at in
                let after = later_streams s h found last.stream (legal_at (past_of pull.at) peers.legal_b) later_pull pulled.on in
                let before = on_earlier_stream last.stream s (legal_at m peers.legal_a) (past_of last.at) read.on on in
                omega (arith, after, before)
            | same is_bad is_past ↦ absurd (cc)
          ]
    ]

no_header : (h : Header) (rest : List ℕ) → IsHeader h → [] ≡ header_bytes h ++ rest → ⊥
no_header h rest is none =
    let long = length-header_bytes h is in
    let same : 0 ≡ length (header_bytes h ++ rest) = ap length none in
    omega (arith, long, same, length-append (header_bytes h) rest)

-- the refused header is that of a frame which A pulled lawfully
refused_is_lawful : (s : ℕ) (h : Header) (found : Malformed) {p a b : List Entry} → ArePeers a b → Moment (Bad s h found ∷ p) b →
    (left : List Frame) (rest : List ℕ) → pulled_frames s a ≡ read_frames s b ++ left → flat_map frame_bytes left ≡ header_bytes h ++ rest → ⊥
refused_is_lawful s h found {p} {a} {b} peers bad [] rest frames bytes = no_header h rest (lawful_bad s h found peers.legal_b bad).header bytes
refused_is_lawful s h found {p} {a} {b} peers bad (f ∷ more) rest frames bytes =
    let refusal = lawful_bad s h found peers.legal_b bad in
    let pull = pull_moment s a (read_frames s b) f more frames in
    let lawful = lawful_pull s f peers.legal_a pull.at in
    let at = past_of pull.at in
    let regrouped = sym (append_assoc (header_bytes f.header) f.payload (flat_map frame_bytes more)) ∙ bytes in
    let is_h = (header_bytes-append f.header h (f.payload ++ flat_map frame_bytes more) rest lawful.header refusal.header regrouped).0 in
    let sound = lawful_frame_is_sound s pull.past f (highest_pulled p) (legal_at at peers.legal_a) lawful (acknowledged_is_known s h found peers bad at lawful.on) in
    let clash : None ≡ Some found = sym sound ∙ ap (λ (g : Header). cause g (highest_pulled p) 0) is_h ∙ refusal.malformed in
    cc

pub no_bad : (a b : List Entry) → ArePeers a b → HasNoBad b
no_bad a b peers s h found past bad =
    let whole = matched s a b peers in
    let bytes = whole.bytes ∙ ap (λ (refusal : List ℕ). refusal ++ whole.rest) (refused_after s h found peers.legal_b bad) in
    refused_is_lawful s h found peers bad whole.left whole.rest whole.frames bytes
