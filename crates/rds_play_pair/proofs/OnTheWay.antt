-- What is on its way from one end to the other, and what a change does to that.
use Rattle.std.proofs.Common.{◌≡◌, inl, inr, ℕ, ◌<◌, Option, Some, None, is_some, IsSome, MatchOption, List, [], ◌∷◌, ◌++◌, length, refl, sym, ◌∙◌, ap, subst, arith, length-append}
use Rattle.std.proofs.lemmas.Bool.{false≢true}
use Rattle.rds_wire.specs.declared.frame.Frame.{Frame}
use Rattle.rds_wire.specs.Bytes.{header_bytes, frame_bytes}
use Rattle.rds_frame.specs.Splitting.{IsFrame}
use Rattle.rds_model.specs.declared.entry.Entry.{Entry}
use Rattle.rds_model.specs.declared.entry.Entry.TheVariants.{Accept, Cancel, Open, Pull, Read, Shut, Bad}
use Rattle.rds_model.specs.Past.{open_stream}
use Rattle.rds_model.specs.Legal.{IsLawful, IsLegal, IsPong, pong_to}
use Rattle.rds_play_pair.specs.Ends.{JointEnd}
use Rattle.rds_model.specs.Sums.{last_pulled_frame}
use Rattle.rds_play_pair.specs.OnTheWay.{IsGoing, HasAtMostOne}

-- a frame has some bytes
pub frame_has_bytes : (f : Frame) → 0 < length (frame_bytes f)
unfolding header_bytes
frame_has_bytes f = simp length-append (omega arith)

-- no pull is a pong
lawful_pull : (s : ℕ) (f : Frame) (past : List Entry) (o : Option ℕ) →
    MatchOption o (IsLawful past (Pull s f)) (λ port. IsPong past port (Pull s f)) → IsLawful past (Pull s f)
lawful_pull s f past None lawful = lawful
lawful_pull s f past (Some port) pong = let never = pong.is in cc

-- a frame that was pulled is whole
pub newest_is_frame : (past : List Entry) (f : Frame) → IsLegal past → last_pulled_frame past ≡ Some f → IsFrame f
newest_is_frame [] f legal is = cc
newest_is_frame (Pull stream frame ∷ past) f legal is =
    let lawful = lawful_pull stream frame past (pong_to past) legal.0 in
    let same : frame ≡ f = cc in
    subst IsFrame same (record { header = lawful.header; payload = lawful.whole })
newest_is_frame (Accept slot sport dport payload ∷ past) f legal is = newest_is_frame past f legal.1 is
newest_is_frame (Cancel slot target ∷ past) f legal is = newest_is_frame past f legal.1 is
newest_is_frame (Open stream ∷ past) f legal is = newest_is_frame past f legal.1 is
newest_is_frame (Read stream frame outcome ∷ past) f legal is = newest_is_frame past f legal.1 is
newest_is_frame (Shut stream ∷ past) f legal is = newest_is_frame past f legal.1 is
newest_is_frame (Bad stream header cause ∷ past) f legal is = newest_is_frame past f legal.1 is

-- the writer changed, but not what it pulled last, what is in flight, nor its open stream
pub on_its_way_still : (kept : List ℕ) (w w_new : JointEnd) (waiting : Option Frame) → last_pulled_frame w_new.past ≡ last_pulled_frame w.past →
    open_stream w_new.past ≡ open_stream w.past → w_new.flying ≡ w.flying → HasAtMostOne kept w waiting → HasAtMostOne kept w_new waiting
on_its_way_still kept w w_new waiting newest stream flying (inl idle) =
    inl (record { none_flies = flying ∙ idle.none_flies; none_waits = idle.none_waits; none_kept = idle.none_kept })
on_its_way_still kept w w_new waiting newest stream flying (inr (inl going)) =
    inr (inl (record {
      frame = going.frame;
      newest = newest ∙ going.newest;
      bytes = ap (λ (bytes : List ℕ). kept ++ bytes) flying ∙ going.bytes;
      some_fly = subst (λ (bytes : List ℕ). 0 < length bytes) (sym flying) going.some_fly;
      none_waits = going.none_waits;
      on = ap is_some stream ∙ going.on;
    }))
on_its_way_still kept w w_new waiting newest stream flying (inr (inr come)) =
    inr (inr (record {
      frame = come.frame;
      newest = newest ∙ come.newest;
      waits = come.waits;
      none_flies = flying ∙ come.none_flies;
      none_kept = come.none_kept;
    }))

some_of_none : (o : Option ℕ) → IsSome o → o ≡ None → ⊥
some_of_none o some is = false≢true (sym (ap is_some is) ∙ some)

none_of_some : (bytes : List ℕ) → 0 < length bytes → bytes ≡ [] → ⊥
none_of_some bytes some is = omega (arith, some, ap length is)

-- where no stream is open nothing is in flight
pub nothing_flies : (kept : List ℕ) (w : JointEnd) (waiting : Option Frame) → HasAtMostOne kept w waiting → open_stream w.past ≡ None → w.flying ≡ []
nothing_flies kept w waiting (inl idle) closed = idle.none_flies
nothing_flies kept w waiting (inr (inl going)) closed = absurd (some_of_none (open_stream w.past) going.on closed)
nothing_flies kept w waiting (inr (inr come)) closed = come.none_flies

-- where nothing is in flight nothing is kept
pub nothing_kept : (kept : List ℕ) (w : JointEnd) (waiting : Option Frame) → HasAtMostOne kept w waiting → w.flying ≡ [] → kept ≡ []
nothing_kept kept w waiting (inl idle) none = idle.none_kept
nothing_kept kept w waiting (inr (inl going)) none = absurd (none_of_some w.flying going.some_fly none)
nothing_kept kept w waiting (inr (inr come)) none = come.none_kept

-- where something is in flight the newest frame is on its way in part
pub is_going : (kept : List ℕ) (w : JointEnd) (waiting : Option Frame) → HasAtMostOne kept w waiting → 0 < length w.flying → IsGoing kept w waiting
is_going kept w waiting (inl idle) some = absurd (none_of_some w.flying some idle.none_flies)
is_going kept w waiting (inr (inl going)) some = going
is_going kept w waiting (inr (inr come)) some = absurd (none_of_some w.flying some come.none_flies)

-- the frame that waited was passed
pub passed_on_its_way : (kept : List ℕ) (w : JointEnd) (f : Frame) → HasAtMostOne kept w (Some f) → HasAtMostOne kept w None
passed_on_its_way kept w f (inl idle) = let never = idle.none_waits in cc
passed_on_its_way kept w f (inr (inl going)) = let never = going.none_waits in cc
passed_on_its_way kept w f (inr (inr come)) =
    inl (record { none_flies = come.none_flies; none_waits = refl; none_kept = come.none_kept })
