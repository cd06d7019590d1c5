-- Bytes come to an end: the newest frame goes on coming, or has come.
use Rattle.std.proofs.Common.{◌==◌, false, Bool, ◌≡◌, inl, inr, ℕ, ◌<◌, min, Result, Ok, Err, Option, Some, None, IfSome, is_some, List, [], ◌∷◌, ◌++◌, length, take, drop, refl, sym, ◌∙◌, ap, subst, arith, append_assoc, length-drop}
use Rattle.std.specs.Prelude.{IfOk, OnErr}
use Rattle.std.proofs.lemmas.Bool.{cases_lt, eqb-false}
use Rattle.std.proofs.lemmas.List.{append-nil, drop_all, take-append-drop}
use Rattle.rds_wire.specs.declared.frame.Frame.{Frame}
use Rattle.rds_wire.specs.Bytes.{frame_bytes}
use Rattle.rds_frame.specs.Splitting.{IsFrame}
use Rattle.rds_frame.specs.Holding.{waiting_bytes}
use Rattle.rds_play_pair.proofs.Frames.{frame_bytes-append, partial-no_frame}
use Rattle.rds_model.specs.Past.{open_stream}
use Rattle.rds_model.specs.Legal.{IsLegal}
use Rattle.rds_play_pair.specs.declared.step.PairEnd.{PairEnd}
use Rattle.rds_play_pair.specs.declared.step.PairEnd.TheVariants.{First, Second}
use Rattle.rds_play_pair.specs.Sides.{Side, Sides, TakesFrameByFrame, unpassed_bytes}
use Rattle.rds_play_pair.specs.Changes.{Moves, MovesTo}
use Rattle.rds_play_pair.specs.Ends.{JointEnd, JointEnds, facing}
use Rattle.rds_model.specs.Sums.{last_pulled_frame}
use Rattle.rds_play_pair.specs.Steps.{came, came_from, fed, went}
use Rattle.rds_play_pair.specs.OnTheWay.{HasAtMostOne, IsGoing}
use Rattle.rds_play_pair.specs.Inside.{end, ends, IsJoint}
use Rattle.rds_play_pair.proofs.Keeping.{across, IsJointPair, swapped}
use Rattle.rds_play_pair.proofs.OnTheWay.{is_going, newest_is_frame, on_its_way_still}

-- what a feeding comes to
pub record IsFed (bytes used : ℕ) (w w_new r r_new : Side) : Type 0 where
  pub count : used ≡ min bytes (length w.flying)
  pub writer : end w_new ≡ went used (end w)
  pub reader : end r_new ≡ came used (end w) (end r)
  pub joint : IsJoint w_new r_new

-- bytes are left, or none is
came_in_part : (flying left : List ℕ) (w r : JointEnd) → 0 < length left → came_from flying left w r ≡ r
came_in_part [] left w r some = refl
came_in_part (byte ∷ bytes) [] w r some = absurd (omega (arith, some))
came_in_part (byte ∷ bytes) (next ∷ more) w r some = refl

came_whole : (flying left : List ℕ) (w r : JointEnd) → 0 < length flying → left ≡ [] →
    came_from flying left w r ≡ record r { waiting = last_pulled_frame w.past }
came_whole [] left w r some none = absurd (omega (arith, some))
came_whole (byte ∷ bytes) [] w r some none = refl
came_whole (byte ∷ bytes) (next ∷ more) w r some none = cc

nothing_came : (flying : List ℕ) (w r : JointEnd) → flying ≡ [] → r ≡ came_from flying flying w r
nothing_came [] w r idle = refl
nothing_came (byte ∷ bytes) w r idle = cc

-- the bytes that the reader has taken and those that are left are the frame
taken_and_left : (bytes used : ℕ) (w w_new r r_new : Side) → Moves bytes used w w_new r r_new → (going : IsGoing r.rest (end w) r.waiting) →
    unpassed_bytes r_new ++ drop used w.flying ≡ frame_bytes going.frame
taken_and_left bytes used w w_new r r_new moves going =
    let before : unpassed_bytes r ≡ r.rest = ap (λ (waits : Option Frame). waiting_bytes waits ++ r.rest) going.none_waits in
    let left = drop used w.flying in
    ap (λ (front : List ℕ). front ++ left) (moves.came ∙ ap (λ (front : List ℕ). front ++ take used w.flying) before)
    ∙ append_assoc r.rest (take used w.flying) left
    ∙ ap (λ (rest : List ℕ). r.rest ++ rest) (take-append-drop used w.flying)
    ∙ going.bytes

-- the reader with what waits there now
seen_reader : (bytes used : ℕ) (w w_new r r_new : Side) → Moves bytes used w w_new r r_new → (waits : Option Frame) → r_new.waiting ≡ waits →
    end r_new ≡ record (end r) { waiting = waits }
seen_reader bytes used w w_new r r_new moves waits is =
    ap end moves.rest_same ∙ ap (λ (waits : Option Frame). record (end r) { waiting = waits }) is

-- the other direction is as before
back_still : (bytes used : ℕ) (w w_new r r_new : Side) → Moves bytes used w w_new r r_new → IsJoint w r → HasAtMostOne w_new.rest (end r_new) w_new.waiting
back_still bytes used w w_new r r_new moves joint =
    subst (λ (e : Side). HasAtMostOne e.rest (end r_new) e.waiting) (sym moves.gone)
    (on_its_way_still w.rest (end r) (end r_new) w.waiting
    (ap (λ (e : Side). last_pulled_frame e.past) moves.rest_same)
    (ap (λ (e : Side). open_stream e.past) moves.rest_same)
    (ap (λ (e : Side). e.flying) moves.rest_same)
    joint.back)

streams_still : (bytes used : ℕ) (w w_new r r_new : Side) → Moves bytes used w w_new r r_new → IsJoint w r →
    open_stream w_new.past ≡ open_stream r_new.past
streams_still bytes used w w_new r r_new moves joint =
    ap (λ (e : Side). open_stream e.past) moves.gone ∙ joint.streams ∙ sym (ap (λ (e : Side). open_stream e.past) moves.rest_same)

-- the frame goes on coming
fed_in_part : (bytes used : ℕ) (w w_new r r_new : Side) → Moves bytes used w w_new r r_new → IsJoint w r → TakesFrameByFrame r_new →
    (going : IsGoing r.rest (end w) r.waiting) → IsFrame going.frame → r_new.waiting ≡ None → IsFed bytes used w w_new r r_new
fed_in_part bytes used w w_new r r_new moves joint reads going whole waits = record {
  count = all;
  writer = ap end moves.gone;
  reader =
      seen_reader bytes used w w_new r r_new moves r.waiting (waits ∙ sym going.none_waits)
      ∙ sym (came_in_part w.flying (drop used w.flying) (end w) (end r) some_left);
  joint = record {
    streams = streams_still bytes used w w_new r r_new moves joint;
    forth = inr (inl (record {
      frame = going.frame;
      newest = ap (λ (e : Side). last_pulled_frame e.past) moves.gone ∙ going.newest;
      bytes = ap (λ (e : Side). r_new.rest ++ e.flying) moves.gone ∙ kept;
      some_fly = subst (λ (e : Side). 0 < length e.flying) (sym moves.gone) some_left;
      none_waits = waits;
      on = ap (λ (e : Side). is_some (open_stream e.past)) moves.gone ∙ going.on;
    }));
    back = back_still bytes used w w_new r r_new moves joint;
  };
}
  where
    all : used ≡ min bytes (length w.flying)
    all = moves.all (sym (ap is_some joint.streams) ∙ going.on) waits

    kept : r_new.rest ++ drop used w.flying ≡ frame_bytes going.frame
    kept =
        ap (λ (front : List ℕ). front ++ drop used w.flying) (sym (ap (λ (w : Option Frame). waiting_bytes w ++ r_new.rest) waits))
        ∙ taken_and_left bytes used w w_new r r_new moves going

    whole_rest : drop used w.flying ≡ [] → r_new.rest ≡ frame_bytes going.frame ++ []
    whole_rest none =
        sym (append-nil r_new.rest) ∙ ap (λ (back : List ℕ). r_new.rest ++ back) (sym none) ∙ kept ∙ sym (append-nil (frame_bytes going.frame))

    some_left : 0 < length (drop used w.flying)
    some_left =
        elim (cases_lt used (length w.flying)) [
          | inl less ↦ omega (arith, less, length-drop used w.flying)
          | inr most ↦ absurd (partial-no_frame r_new.rest going.frame [] (reads.partial waits) whole (whole_rest (drop_all used w.flying most)))
        ]

-- the frame has come
fed_whole : (bytes used : ℕ) (w w_new r r_new : Side) → Moves bytes used w w_new r r_new → IsJoint w r → TakesFrameByFrame r_new →
    (going : IsGoing r.rest (end w) r.waiting) → IsFrame going.frame → (g : Frame) → r_new.waiting ≡ Some g → IsFrame g → IsFed bytes used w w_new r r_new
fed_whole bytes used w w_new r r_new moves joint reads going whole g waits whole_g = record {
  count = omega (arith, moves.within, ap length same.1, length-drop used w.flying);
  writer = ap end moves.gone;
  reader =
      seen_reader bytes used w w_new r r_new moves (last_pulled_frame w.past) (waits_is ∙ sym going.newest)
      ∙ sym (came_whole w.flying (drop used w.flying) (end w) (end r) going.some_fly same.1);
  joint = record {
    streams = streams_still bytes used w w_new r r_new moves joint;
    forth = inr (inr (record {
      frame = going.frame;
      newest = ap (λ (e : Side). last_pulled_frame e.past) moves.gone ∙ going.newest;
      waits = waits_is;
      none_flies = ap (λ (e : Side). e.flying) moves.gone ∙ same.1;
      none_kept = none_kept;
    }));
    back = back_still bytes used w w_new r r_new moves joint;
  };
}
  where
    none_kept : r_new.rest ≡ []
    none_kept = subst (λ (o : Option Frame). IfSome o (λ f. r_new.rest ≡ [])) waits reads.alone

    taken : unpassed_bytes r_new ≡ frame_bytes g
    taken =
        (λ i. waiting_bytes (waits i) ++ none_kept i)
        ∙ append-nil (frame_bytes g)

    same : (g ≡ going.frame) × (drop used w.flying ≡ [])
    same =
        frame_bytes-append g going.frame (drop used w.flying) [] whole_g whole
        (ap (λ (front : List ℕ). front ++ drop used w.flying) (sym taken)
        ∙ taken_and_left bytes used w w_new r r_new moves going
        ∙ sym (append-nil (frame_bytes going.frame)))

    waits_is : r_new.waiting ≡ Some going.frame
    waits_is = waits ∙ ap (λ (f : Frame). Some f) same.0

-- what was asked for came, or all
pub fed_exactly : (bytes used : ℕ) (w w_new r r_new : Side) → 0 < length w.flying → IsLegal w.past → Moves bytes used w w_new r r_new →
    IsJoint w r → TakesFrameByFrame r_new → IfSome r_new.waiting IsFrame → IsFed bytes used w w_new r r_new
fed_exactly bytes used w w_new r r_new some legal moves joint reads whole_there = by_waiting r_new.waiting refl
  where
    going : IsGoing r.rest (end w) r.waiting
    going = is_going r.rest (end w) r.waiting joint.forth some

    whole : IsFrame going.frame
    whole = newest_is_frame w.past going.frame legal going.newest

    by_waiting : (o : Option Frame) → r_new.waiting ≡ o → IsFed bytes used w w_new r r_new
    by_waiting None waits = fed_in_part bytes used w w_new r r_new moves joint reads going whole waits
    by_waiting (Some g) waits = fed_whole bytes used w w_new r r_new moves joint reads going whole g waits
        (subst (λ (o : Option Frame). IfSome o IsFrame) waits whole_there)

-- the same by the end that the bytes go to
pub record IsFedTo (to : PairEnd) (bytes used : ℕ) (old new : Sides) : Type 0 where
  pub count : used ≡ min bytes (length (across to old).flying)
  pub seen : ends new ≡ fed to used (ends old)
  pub joint : IsJointPair new

-- what is known of both ends after a move of bytes
pub record AreRead (p : Sides) : Type 0 where
  pub first : TakesFrameByFrame p.first
  pub second : TakesFrameByFrame p.second
  pub whole_first : IfSome p.first.waiting IsFrame
  pub whole_second : IfSome p.second.waiting IsFrame

fed_to : (to : PairEnd) (bytes used : ℕ) (old new : Sides) → 0 < length (across to old).flying → IsLegal old.first.past → IsLegal old.second.past →
    IsJointPair old → AreRead new → MovesTo to bytes used old new → IsFedTo to bytes used old new
fed_to First bytes used old new some legal_a legal_b joint read moves =
    let done =
    fed_exactly bytes used old.second new.second old.first new.first some legal_b moves (swapped old.first old.second joint) read.first read.whole_first in
    record {
      count = done.count;
      seen = λ i. record { first = done.reader i; second = done.writer i };
      joint = swapped new.second new.first done.joint;
    }
fed_to Second bytes used old new some legal_a legal_b joint read moves =
    let done = fed_exactly bytes used old.first new.first old.second new.second some legal_a moves joint read.second read.whole_second in
    record {
      count = done.count;
      seen = λ i. record { first = done.writer i; second = done.reader i };
      joint = done.joint;
    }

-- whether it was done or failed
pub fed_tried : {E : Type 0} (came : Result ℕ E) (to : PairEnd) (bytes : ℕ) (old new : Sides) → 0 < length (across to old).flying →
    IsLegal old.first.past → IsLegal old.second.past → IsJointPair old → AreRead new → IfOk came (λ used. MovesTo to bytes used old new) →
    IfOk came (λ used. IsFedTo to bytes used old new)
fed_tried (Ok used) to bytes old new some legal_a legal_b joint read moves = fed_to to bytes used old new some legal_a legal_b joint read moves
fed_tried (Err e) to bytes old new some legal_a legal_b joint read moves = moves

pub kept_fed : {E : Type 0} (came : Result ℕ E) (to : PairEnd) (bytes : ℕ) (old new : Sides) → IfOk came (λ used. IsFedTo to bytes used old new) →
    OnErr came (new ≡ old) → IsJointPair old → IsJointPair new
kept_fed (Ok used) to bytes old new done err joint = done.joint
kept_fed (Err e) to bytes old new done err joint = subst IsJointPair (sym err) joint

pub count_fed : {E : Type 0} (came : Result ℕ E) (to : PairEnd) (bytes : ℕ) (old new : Sides) → IfOk came (λ used. IsFedTo to bytes used old new) →
    IfOk came (λ used. used ≡ min bytes (length (across to old).flying))
count_fed (Ok used) to bytes old new done = done.count
count_fed (Err e) to bytes old new done = done

pub seen_fed : {E : Type 0} (came : Result ℕ E) (to : PairEnd) (bytes : ℕ) (old new : Sides) → IfOk came (λ used. IsFedTo to bytes used old new) →
    IfOk came (λ used. ends new ≡ fed to used (ends old))
seen_fed (Ok used) to bytes old new done = done.seen
seen_fed (Err e) to bytes old new done = done

-- where nothing is in flight nothing comes
pub fed_nothing : (to : PairEnd) (used : ℕ) (p : JointEnds) → used ≡ 0 → (facing to p).flying ≡ [] → p ≡ fed to used p
fed_nothing First used p none idle = subst (λ (n : ℕ). p ≡ fed First n p) (sym none) (λ i. record { first = nothing_came p.second.flying p.second p.first idle i; second = p.second })
fed_nothing Second used p none idle = subst (λ (n : ℕ). p ≡ fed Second n p) (sym none) (λ i. record { first = p.first; second = nothing_came p.first.flying p.first p.second idle i })

-- the same of the ends that contracts see
pub count_seen : {E : Type 0} (came : Result ℕ E) (to : PairEnd) (bytes : ℕ) (old new : Sides) → IfOk came (λ used. IsFedTo to bytes used old new) →
    IfOk came (λ used. used ≡ min bytes (length (facing to (ends old)).flying))
count_seen came First bytes old new done = count_fed came First bytes old new done
count_seen came Second bytes old new done = count_fed came Second bytes old new done

-- some bytes
pub some_are : (bytes : List ℕ) (test : Bool) → test ≡ (length bytes == 0) → test ≡ false → 0 < length bytes
some_are bytes test is full = let apart = eqb-false (length bytes) 0 (sym is ∙ full) in omega (arith, apart)
