-- The two journals of a connection, and how many bytes went each way over the open stream: what they keep.
use Rattle.std.proofs.Common.{◌≡◌, ◌≢◌, ◌⊎◌, inl, inr, ℕ, suc, ◌+◌, ◌<◌, ◌≤◌, Option, Some, None, List, ◌∷◌, ◌++◌, length, refl, sym, ◌∙◌, ap, subst, arith, length-append}
use Rattle.std.proofs.lemmas.Bool.{cases_eq}
use Rattle.rds_wire.specs.declared.frame.Frame.{Frame}
use Rattle.rds_wire.specs.declared.kind.TheConstants.{MAP_LENGTH}
use Rattle.rds_wire.specs.Bytes.{IsBytes, header_bytes, frame_bytes}
use Rattle.rds_model.specs.declared.entry.Entry.{Entry}
use Rattle.rds_model.specs.declared.entry.Entry.TheVariants.{Accept, Cancel, Open, Pull, Shut}
use Rattle.rds_model.specs.declared.entry.Target.{Target}
use Rattle.rds_model.specs.declared.entry.TheConstants.{NO_SLOT}
use Rattle.rds_model.specs.Past.{open_stream, newest_stream, last_passed, highest_ack}
use Rattle.rds_model.specs.Streams.{written_bytes, read_bytes}
use Rattle.rds_model.specs.Sums.{last_pulled_frame}
use Rattle.rds_model.specs.Owed.{owed_frame}
use Rattle.rds_model.specs.Honest.{Begins}
use Rattle.rds_model.specs.Legal.{IsLegal, IsWhole, IsLawful, IsLawfulAccept, IsLawfulPull, pong_to}
use Rattle.rds_model.specs.FrameLaws.{pull_acknowledges}
use Rattle.rds_model.specs.OwingLaws.{owed_is_lawful, settled_continues}
use Rattle.rds_model.specs.StreamLaws.{none_written, none_read, written_pull, written_pull_other}

-- the journals of two hosts, and how many bytes went each way since the newest stream was opened
pub record Ends : Type 0 where
  pub here : List Entry
  pub there : List Entry
  pub forth : ℕ
  pub back : ℕ

-- all that was written to the open stream went, and was read
pub record IsAllRead (written read : List ℕ) (moved : ℕ) : Type 0 where
  pub all : moved ≡ length written
  pub same : written ≡ read

-- the frame that was pulled last is on its way, and all before it was read
pub record IsGoing (last : Option Frame) (written read : List ℕ) (moved passed : ℕ) : Type 0 where
  pub frame : Frame
  pub newest : last ≡ Some frame
  pub some_fly : moved < length written
  pub bytes : written ≡ read ++ frame_bytes frame
  pub ack : frame.header.ack ≤ passed

-- what is on its way over stream s
abbrev pub IsOnItsWay : (s : ℕ) → (writer reader : List Entry) → (moved : ℕ) → Type 0
IsOnItsWay s writer reader moved =
    IsAllRead (written_bytes s writer) (read_bytes s reader) moved
    ⊎ IsGoing (last_pulled_frame writer) (written_bytes s writer) (read_bytes s reader) moved (last_passed writer)

-- what flows from a writer's journal to a reader's
pub record Flows (writer reader : List Entry) (moved : ℕ) : Type 0 where
  pub begins : (s : ℕ) → Begins (read_bytes s reader) (written_bytes s writer)
  pub way : (s : ℕ) → open_stream writer ≡ Some s → IsOnItsWay s writer reader moved
  pub acked : highest_ack reader ≤ last_passed writer

pub record AreJoined (e : Ends) : Type 0 where
  pub whole_here : IsWhole e.here
  pub whole_there : IsWhole e.there
  pub streams : open_stream e.here ≡ open_stream e.there
  pub newest : newest_stream e.here ≡ newest_stream e.there
  pub forth : Flows e.here e.there e.forth
  pub back : Flows e.there e.here e.back

-- seen from the other end
abbrev pub turned : Ends → Ends
turned e = record { here = e.there; there = e.here; forth = e.back; back = e.forth }

pub joined_turned : (e : Ends) → AreJoined e → AreJoined (turned e)
joined_turned e j = record {
  whole_here = j.whole_there;
  whole_there = j.whole_here;
  streams = sym j.streams;
  newest = sym j.newest;
  forth = j.back;
  back = j.forth;
}

-- a lawful entry is added
next_whole : (past : List Entry) (e : Entry) → IsWhole past → IsLawful past e → pong_to (e ∷ past) ≡ None → IsWhole (e ∷ past)
next_whole past e whole lawful settled =
    record { legal = (settled_continues past e whole.settled lawful, whole.legal); settled = settled }

pub joined_accepted : (e : Ends) (slot sport dport : ℕ) (payload : List ℕ) → AreJoined e → IsLawfulAccept e.here slot sport dport payload →
    AreJoined (record e { here = Accept slot sport dport payload ∷ e.here })
joined_accepted e slot sport dport payload j lawful = record {
  whole_here = next_whole e.here (Accept slot sport dport payload) j.whole_here lawful refl;
  whole_there = j.whole_there;
  streams = j.streams;
  newest = j.newest;
  forth = record { begins = j.forth.begins; way = j.forth.way; acked = j.forth.acked };
  back = record { begins = j.back.begins; way = j.back.way; acked = j.back.acked };
}

pub joined_cancelled : (e : Ends) (slot : ℕ) (target : Target) → AreJoined e → slot ≢ NO_SLOT →
    AreJoined (record e { here = Cancel slot target ∷ e.here })
joined_cancelled e slot target j lawful = record {
  whole_here = next_whole e.here (Cancel slot target) j.whole_here lawful refl;
  whole_there = j.whole_there;
  streams = j.streams;
  newest = j.newest;
  forth = record { begins = j.forth.begins; way = j.forth.way; acked = j.forth.acked };
  back = record { begins = j.back.begins; way = j.back.way; acked = j.back.acked };
}

-- two streams that are open are one
pub one_stream : (s t : ℕ) (o : Option ℕ) → o ≡ Some s → o ≡ Some t → s ≡ t
one_stream s t o is_s is_t = let both : Some s ≡ Some t = sym is_s ∙ is_t in cc

-- a frame has some bytes
frame_has_bytes : (f : Frame) → 0 < length (frame_bytes f)
unfolding header_bytes
frame_has_bytes f = simp length-append (omega arith)

-- all went, so nothing is on its way
pub idle_of : (s : ℕ) (w r : List Entry) (moved : ℕ) → moved ≡ length (written_bytes s w) → IsOnItsWay s w r moved → written_bytes s w ≡ read_bytes s r
idle_of s w r moved all (inl idle) = idle.same
idle_of s w r moved all (inr going) = absurd (omega (arith, all, going.some_fly))

-- not all went, so a frame is on its way
pub going_of : (s : ℕ) (w r : List Entry) (moved : ℕ) → moved < length (written_bytes s w) → IsOnItsWay s w r moved →
    IsGoing (last_pulled_frame w) (written_bytes s w) (read_bytes s r) moved (last_passed w)
going_of s w r moved some (inl idle) = absurd (omega (arith, some, idle.all))
going_of s w r moved some (inr going) = going

-- what is owed is pulled, where all went before
pub joined_pulled : (e : Ends) (s : ℕ) (map : List ℕ) (f : Frame) → AreJoined e → open_stream e.here ≡ Some s →
    e.forth ≡ length (written_bytes s e.here) → length map ≡ MAP_LENGTH → IsBytes map → owed_frame s e.here map ≡ Some f →
    AreJoined (record e { here = Pull s f ∷ e.here })
joined_pulled e s map f j on all long bytes owed = record {
  whole_here = next_whole e.here (Pull s f) j.whole_here lawful refl;
  whole_there = j.whole_there;
  streams = j.streams;
  newest = j.newest;
  forth = record { begins = begins; way = way; acked = j.forth.acked };
  back = record { begins = j.back.begins; way = j.back.way; acked = j.back.acked };
}
  where
    grown : written_bytes s (Pull s f ∷ e.here) ≡ written_bytes s e.here ++ frame_bytes f
    grown = written_pull s f e.here

    same : written_bytes s e.here ≡ read_bytes s e.there
    same = idle_of s e.here e.there e.forth all (j.forth.way s on)

    begins : (t : ℕ) → Begins (read_bytes t e.there) (written_bytes t (Pull s f ∷ e.here))
    begins t =
        elim (cases_eq s t) [
          | inl is ↦
              subst (λ (n : ℕ). Begins (read_bytes n e.there) (written_bytes n (Pull s f ∷ e.here))) is
              (frame_bytes f, grown ∙ ap (λ (bytes : List ℕ). bytes ++ frame_bytes f) same)
          | inr other ↦ let before = j.forth.begins t in (before.0, written_pull_other t s f e.here other ∙ before.1)
        ]

    lawful : IsLawfulPull s e.here f
    lawful = owed_is_lawful s e.here map f j.whole_here.legal on long bytes owed

    way : (t : ℕ) → open_stream e.here ≡ Some t → IsOnItsWay t (Pull s f ∷ e.here) e.there e.forth
    way t there =
        subst (λ (n : ℕ). IsOnItsWay n (Pull s f ∷ e.here) e.there e.forth)
        (one_stream s t (open_stream e.here) on there)
        (inr (record {
          frame = f;
          newest = refl;
          some_fly = omega (arith, all, ap length grown, length-append (written_bytes s e.here) (frame_bytes f), frame_has_bytes f);
          bytes = grown ∙ ap (λ (bytes : List ℕ). bytes ++ frame_bytes f) same;
          ack = omega (arith, pull_acknowledges s e.here f lawful);
        }))

-- bytes go, and some are left
pub joined_moved : (e : Ends) (s count : ℕ) → AreJoined e → open_stream e.here ≡ Some s → e.forth + count < length (written_bytes s e.here) →
    AreJoined (record e { forth = e.forth + count })
joined_moved e s count j on left = record {
  whole_here = j.whole_here;
  whole_there = j.whole_there;
  streams = j.streams;
  newest = j.newest;
  forth = record { begins = j.forth.begins; way = way; acked = j.forth.acked };
  back = j.back;
}
  where
    going : IsGoing (last_pulled_frame e.here) (written_bytes s e.here) (read_bytes s e.there) e.forth (last_passed e.here)
    going = going_of s e.here e.there e.forth (omega (arith, left)) (j.forth.way s on)

    way : (t : ℕ) → open_stream e.here ≡ Some t → IsOnItsWay t e.here e.there (e.forth + count)
    way t there =
        subst (λ (n : ℕ). IsOnItsWay n e.here e.there (e.forth + count))
        (one_stream s t (open_stream e.here) on there)
        (inr (record { frame = going.frame; newest = going.newest; some_fly = left; bytes = going.bytes; ack = going.ack }))

-- the next stream is opened at both
pub joined_opened : (e : Ends) (s t : ℕ) → AreJoined e → open_stream e.here ≡ None → s ≡ suc (newest_stream e.here) →
    t ≡ suc (newest_stream e.there) →
    AreJoined (record { here = Open s ∷ e.here; there = Open t ∷ e.there; forth = 0; back = 0 })
joined_opened e s t j closed s_is t_is = record {
  whole_here = next_whole e.here (Open s) j.whole_here (closed, omega (arith, s_is)) refl;
  whole_there = next_whole e.there (Open t) j.whole_there (sym j.streams ∙ closed, omega (arith, t_is)) refl;
  streams = ap (λ (n : ℕ). Some n) same;
  newest = same;
  forth = record { begins = j.forth.begins; way = way e.here e.there s j.whole_here.legal j.whole_there.legal (omega (arith, s_is)) (omega (arith, same, t_is)); acked = j.forth.acked };
  back = record { begins = j.back.begins; way = way e.there e.here t j.whole_there.legal j.whole_here.legal (omega (arith, t_is)) (omega (arith, same, s_is)); acked = j.back.acked };
}
  where
    same : s ≡ t
    same = omega (arith, s_is, t_is, j.newest)

    way : (w r : List Entry) (s : ℕ) → IsLegal w → IsLegal r → newest_stream w < s → newest_stream r < s → (n : ℕ) → Some s ≡ Some n →
        IsOnItsWay n w r 0
    way w r s legal_w legal_r newer_w newer_r n is =
        let nothing_written = none_written s w legal_w newer_w in
        let is_n : s ≡ n = cc in
        subst (λ (n : ℕ). IsOnItsWay n w r 0) is_n
        (inl (record {
          all = sym (ap length nothing_written);
          same = nothing_written ∙ sym (none_read s r legal_r newer_r);
        }))

-- the open stream is shut at both
pub joined_shut : (e : Ends) (s : ℕ) → AreJoined e → open_stream e.here ≡ Some s →
    AreJoined (record e { here = Shut s ∷ e.here; there = Shut s ∷ e.there })
joined_shut e s j on = record {
  whole_here = next_whole e.here (Shut s) j.whole_here on refl;
  whole_there = next_whole e.there (Shut s) j.whole_there (sym j.streams ∙ on) refl;
  streams = refl;
  newest = j.newest;
  forth = record { begins = j.forth.begins; way = λ t none. cc; acked = j.forth.acked };
  back = record { begins = j.back.begins; way = λ t none. cc; acked = j.back.acked };
}
