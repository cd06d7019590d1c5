-- The frame that was pulled last at one end is read at the other: the reading is lawful, and both ends stay joined.
use Rattle.std.proofs.Common.{◌≡◌, inl, inr, ℕ, suc, ◌<◌, ◌≤◌, ◌^◌, Option, Some, None, List, [], ◌∷◌, ◌++◌, length, refl, sym, ◌∙◌, ap, subst, append_assoc, arith}
use Rattle.std.proofs.lemmas.Bool.{cases_eq, cond_both}
use Rattle.std.proofs.lemmas.List.{append-nil}
use Rattle.rds_wire.specs.declared.frame.Frame.{Frame}
use Rattle.rds_wire.specs.declared.kind.Malformed.{Malformed}
use Rattle.rds_wire.specs.Bytes.{IsHeader, header_bytes, frame_bytes}
use Rattle.rds_wire.specs.Kinds.{cause}
use Rattle.rds_model.specs.declared.entry.Entry.{Entry}
use Rattle.rds_model.specs.declared.entry.Entry.TheVariants.{Accept, Cancel, Open, Pull, Read, Shut, Bad}
use Rattle.rds_model.specs.declared.entry.Outcome.{Outcome}
use Rattle.rds_model.specs.declared.entry.Outcome.TheVariants as outcome
use Rattle.rds_model.specs.declared.entry.TheConstants.{NO_SLOT}
use Rattle.rds_model.specs.Past.{now, open_stream, accepted, highest_pulled, last_passed, number, passes}
use Rattle.rds_model.specs.Streams.{written_bytes, read_bytes}
use Rattle.rds_model.specs.Sums.{last_pulled_frame}
use Rattle.rds_model.specs.Reading.{verdict_of, Obeys}
use Rattle.rds_model.specs.Honest.{Begins, IsHonest}
use Rattle.rds_model.specs.Legal.{IsLegal, IsLawfulRead, pong_for}
use Rattle.rds_model.specs.Fifo.{HasNoBad, IsFifo}
use Rattle.rds_model.specs.LegalityLaws.{lawful_pull}
use Rattle.rds_model.specs.OwingLaws.{settled_continues}
use Rattle.rds_model.specs.StreamLaws.{read_read, read_read_other, read_bad, read_bad_other}
use Rattle.rds_history.proofs.JoinedEnds.{Ends, AreJoined, Flows, IsOnItsWay, one_stream}

-- a frame that was pulled has a header that fits, and as many bytes as that says
pub record IsWholeFrame (f : Frame) : Type 0 where
  pub header : IsHeader f.header
  pub payload : length f.payload ≡ f.header.len

pub newest_is_whole : (past : List Entry) (f : Frame) → IsLegal past → last_pulled_frame past ≡ Some f → IsWholeFrame f
newest_is_whole [] f legal is = cc
newest_is_whole (Pull stream frame ∷ past) f legal is =
    let lawful = lawful_pull stream frame legal now in
    let same : frame ≡ f = cc in
    subst IsWholeFrame same (record { header = lawful.header; payload = lawful.whole })
newest_is_whole (Accept slot sport dport payload ∷ past) f legal is = newest_is_whole past f legal.1 is
newest_is_whole (Cancel slot target ∷ past) f legal is = newest_is_whole past f legal.1 is
newest_is_whole (Open stream ∷ past) f legal is = newest_is_whole past f legal.1 is
newest_is_whole (Read stream frame outcome ∷ past) f legal is = newest_is_whole past f legal.1 is
newest_is_whole (Shut stream ∷ past) f legal is = newest_is_whole past f legal.1 is
newest_is_whole (Bad stream header cause ∷ past) f legal is = newest_is_whole past f legal.1 is

-- what is known of two legal and honest journals: neither refuses a header, and each gets datagrams first in, first out
abbrev pub HonestLaws : Type 0
HonestLaws = (a b : List Entry) → IsLegal a → IsLegal b → IsHonest a b → (HasNoBad a × HasNoBad b) × (IsFifo a b × IsFifo b a)

-- what is on its way stays so where the writer passes more
way_rises : (s : ℕ) (w later r : List Entry) (moved : ℕ) → last_passed w ≤ last_passed later → last_pulled_frame later ≡ last_pulled_frame w →
    written_bytes s later ≡ written_bytes s w → IsOnItsWay s w r moved → IsOnItsWay s later r moved
way_rises s w later r moved more last written (inl idle) = inl (record { all = idle.all ∙ sym (ap length written); same = written ∙ idle.same })
way_rises s w later r moved more last written (inr going) = inr (record {
  frame = going.frame;
  newest = last ∙ going.newest;
  some_fly = omega (arith, going.some_fly, ap length written);
  bytes = written ∙ going.bytes;
  ack = omega (arith, going.ack, more);
})

module _ (laws : HonestLaws) (e : Ends) (s : ℕ) (f : Frame) (j : AreJoined e) (on : open_stream e.here ≡ Some s)
    (newest : last_pulled_frame e.here ≡ Some f) (bytes : written_bytes s e.here ≡ read_bytes s e.there ++ frame_bytes f) (ack : f.header.ack ≤ last_passed e.here) where
  on_there : open_stream e.there ≡ Some s
  on_there = sym j.streams ∙ on

  whole : IsWholeFrame f
  whole = newest_is_whole e.here f j.whole_here.legal newest

  -- a header that is refused would be a beginning of what was written
  begins_refused : (found : Malformed) (t : ℕ) → Begins (read_bytes t (Bad s f.header found ∷ e.there)) (written_bytes t e.here)
  begins_refused found t =
      elim (cases_eq s t) [
        | inl is ↦
            subst (λ (n : ℕ). Begins (read_bytes n (Bad s f.header found ∷ e.there)) (written_bytes n e.here)) is (
              f.payload,
              bytes ∙ sym (append_assoc (read_bytes s e.there) (header_bytes f.header) f.payload)
                  ∙ ap (λ (front : List ℕ). front ++ f.payload) (sym (read_bad s f.header found e.there j.whole_there.legal on_there)),
            )
        | inr other ↦
            let before = j.forth.begins t in (
              before.0,
              before.1 ∙ ap (λ (front : List ℕ). front ++ before.0) (sym (read_bad_other t s f.header found e.there other)),
            )
      ]

  refused_never : (found : Malformed) → cause f.header (highest_pulled e.there) 0 ≡ Some found → ⊥
  refused_never found is =
      let legal : IsLegal (Bad s f.header found ∷ e.there) =
      (settled_continues e.there (Bad s f.header found) j.whole_there.settled (record { on = on_there; header = whole.header; malformed = is }), j.whole_there.legal) in
      (laws e.here (Bad s f.header found ∷ e.there) j.whole_here.legal legal (record { forth = begins_refused found; back = j.back.begins })).0.1
      s f.header found e.there now

  sound : cause f.header (highest_pulled e.there) 0 ≡ None
  sound = go (cause f.header (highest_pulled e.there) 0) refl
    where
      go : (o : Option Malformed) → cause f.header (highest_pulled e.there) 0 ≡ o → cause f.header (highest_pulled e.there) 0 ≡ None
      go None is = is
      go (Some found) is = absurd (refused_never found is)

  lawful_reading : (o : Outcome) → Obeys (verdict_of e.there f.header) o → IsLawfulRead s e.there f o
  lawful_reading o obeys = record {
    on = on_there;
    header = whole.header;
    whole = whole.payload;
    sound = sound;
    obeys = obeys;
  }

  legal_reading : (o : Outcome) → Obeys (verdict_of e.there f.header) o → IsLegal (Read s f o ∷ e.there)
  legal_reading o obeys =
      (settled_continues e.there (Read s f o) j.whole_there.settled (lawful_reading o obeys), j.whole_there.legal)

  -- all that was written is read
  grown : (o : Outcome) → written_bytes s e.here ≡ read_bytes s (Read s f o ∷ e.there)
  grown o = bytes ∙ sym (read_read s f o e.there j.whole_there.legal on_there)

  begins_read : (o : Outcome) (t : ℕ) → Begins (read_bytes t (Read s f o ∷ e.there)) (written_bytes t e.here)
  begins_read o t =
      elim (cases_eq s t) [
        | inl is ↦
            subst (λ (n : ℕ). Begins (read_bytes n (Read s f o ∷ e.there)) (written_bytes n e.here)) is
            ([], grown o ∙ sym (append-nil (read_bytes s (Read s f o ∷ e.there))))
        | inr other ↦
            let before = j.forth.begins t in (
              before.0,
              before.1 ∙ ap (λ (front : List ℕ). front ++ before.0) (sym (read_read_other t s f o e.there other)),
            )
      ]

  way_read : (o : Outcome) (moved : ℕ) → moved ≡ length (written_bytes s e.here) → (t : ℕ) → open_stream e.here ≡ Some t →
      IsOnItsWay t e.here (Read s f o ∷ e.there) moved
  way_read o moved all t there =
      subst (λ (n : ℕ). IsOnItsWay n e.here (Read s f o ∷ e.there) moved) (one_stream s t (open_stream e.here) on there)
      (inl (record { all = all; same = grown o }))

  -- no number is passed that isn't above the last one
  risen : (o : Outcome) → Obeys (verdict_of e.there f.header) o → last_passed e.there ≤ last_passed (Read s f o ∷ e.there)
  risen o obeys =
      let fifo =
      (laws e.here (Read s f o ∷ e.there) j.whole_here.legal (legal_reading o obeys) (record { forth = begins_read o; back = j.back.begins })).1.0 in
      cond_both (passes o) (number f) (last_passed e.there) (λ x. last_passed e.there ≤ x)
      (λ passed. omega (arith, fifo.rise s f o e.there now passed)) (λ _. omega arith)

  flows_forth : (o : Outcome) (moved : ℕ) → moved ≡ length (written_bytes s e.here) → Flows e.here (Read s f o ∷ e.there) moved
  flows_forth o moved all =
      record { begins = begins_read o; way = way_read o moved all; acked = omega (arith, ack, j.forth.acked) }

  flows_back : (o : Outcome) → Obeys (verdict_of e.there f.header) o → Flows (Read s f o ∷ e.there) e.here e.back
  flows_back o obeys = record {
    begins = j.back.begins;
    way = λ t there. way_rises t e.there (Read s f o ∷ e.there) e.here e.back (risen o obeys) refl refl (j.back.way t there);
    acked = omega (arith, j.back.acked, risen o obeys);
  }

  -- a frame is read that is no ping
  pub joined_read : (o : Outcome) (moved : ℕ) → moved ≡ length (written_bytes s e.here) → Obeys (verdict_of e.there f.header) o →
      pong_for o f.header.sport ≡ None → AreJoined (record e { there = Read s f o ∷ e.there; forth = moved })
  joined_read o moved all obeys settled = record {
    whole_here = j.whole_here;
    whole_there = record { legal = legal_reading o obeys; settled = settled };
    streams = j.streams;
    newest = j.newest;
    forth = flows_forth o moved all;
    back = flows_back o obeys;
  }

  -- a ping is read, and its pong is accepted
  pub joined_pinged : (moved : ℕ) → moved ≡ length (written_bytes s e.here) → Obeys (verdict_of e.there f.header) outcome.Ping →
      suc (accepted e.there) < 2 ^ 63 →
      AreJoined (record e { there = Accept NO_SLOT 0 f.header.sport [] ∷ Read s f outcome.Ping ∷ e.there; forth = moved })
  joined_pinged moved all obeys fits = record {
    whole_here = j.whole_here;
    whole_there = record { legal = (record { is = refl; number_fits = fits }, legal_reading outcome.Ping obeys); settled = refl };
    streams = j.streams;
    newest = j.newest;
    forth =
        let flows = flows_forth outcome.Ping moved all in
        record { begins = flows.begins; way = flows.way; acked = flows.acked };
    back =
        let flows = flows_back outcome.Ping obeys in
        record { begins = flows.begins; way = flows.way; acked = flows.acked };
  }
