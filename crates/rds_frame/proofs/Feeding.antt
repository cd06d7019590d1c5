-- A stream, piece by piece, for whoever hands the pieces to a splitter.
use Rattle.std.proofs.Common.{◌≡◌, ℕ, ◌+◌, ◌-◌, ◌<◌, ◌≤◌, List, [], ◌∷◌, ◌++◌, length, take, drop, get_or, Option, Some, None, IfSome, is_some, refl, sym, ap, ◌∙◌, subst, arith, inl, inr, append_assoc, length-append}
use Rattle.std.proofs.lemmas.Bool.{cases_lt}
use Rattle.std.proofs.lemmas.List.{append-nil, drop_more, take_all, take_at, take-append-drop, take-append-le}
use Rattle.std.proofs.lemmas.List.Concat.{flat_map-append}
use Rattle.std.proofs.lemmas.List.Elements.{All-nil, All-push, All-weaker}
use Rattle.std.specs.List.{All, flat_map}
use Rattle.rds_wire.specs.declared.frame.Frame.{Frame}
use Rattle.rds_wire.specs.declared.kind.Malformed.{Malformed}
use Rattle.rds_wire.specs.Bytes.{frame_bytes, header_bytes}
use Rattle.rds_wire.specs.CauseLaws.{cause-rises}
use Rattle.rds_wire.specs.HeaderLaws.{length-header_bytes}
use Rattle.rds_frame.specs.declared.took.Took.{Took}
use Rattle.rds_frame.specs.Splitting.{frames_bytes, IsClear, IsFrame, IsMalformed, IsPartial, IsSound, Splits}
use Rattle.rds_frame.specs.Holding.{SplitterView, held_bytes, IsFed, HoldsAtMostOneFrame, nothing_held}
use Rattle.rds_frame.specs.Taking.{RefusesPiece, TakesPiece}
use Rattle.rds_frame.proofs.OneSplit.{Splits-only}

-- nothing was taken
pub IsFed-nothing : (highest known : ℕ) → IsFed highest known [] [] nothing_held
IsFed-nothing highest known = record {
  bytes_are = refl;
  each = All-nil (IsSound highest known);
  held_is = record { waiting = tt; refused = tt; partial = λ _ _. inl (omega arith) };
  clear = λ h more fits same.
      absurd (omega (arith, ap length same ∙ length-append (header_bytes h) more, length-header_bytes h fits));
  «open» = refl;
}

-- a header at the front stays where bytes come after it
clear-longer : (highest known : ℕ) (old taken new : List ℕ) → 48 ≤ length old → new ≡ old ++ taken → IsClear highest known old → IsClear highest known new
clear-longer highest known old taken new long are clear h more fits same =
    let front : take 48 old ≡ header_bytes h =
    sym (take-append-le 48 old taken long) ∙ ap (take 48) (sym are ∙ same) ∙ take_at (header_bytes h) more 48 (length-header_bytes h fits) in
    clear h (drop 48 old) fits (sym (take-append-drop 48 old) ∙ (λ i. front i ++ drop 48 old))

pub IsFed-take : (highest known : ℕ) (bytes : List ℕ) (frames : List Frame) (old : SplitterView) (piece : List ℕ) (took : Took) (new : SplitterView)
    → IsFed highest known bytes frames old → TakesPiece highest known old piece took new → HoldsAtMostOneFrame new
    → IsFed highest known (bytes ++ take took.used piece) frames new
IsFed-take highest known bytes frames old piece took new fed takes held = record {
  bytes_are =
      (λ i. fed.bytes_are i ++ take took.used piece)
      ∙ append_assoc (frames_bytes frames) (held_bytes old) (take took.used piece)
      ∙ (λ i. frames_bytes frames ++ sym takes.bytes i);
  each = fed.each;
  held_is = held;
  clear = elim (cases_lt (length (held_bytes old)) 48) [
    | inl short ↦ takes.clear short
    | inr long ↦ clear-longer highest known (held_bytes old) (take took.used piece) (held_bytes new) long takes.bytes fed.clear
  ];
  «open» = takes.still_open;
}

-- one frame more was handed out
frames_bytes-push : (frames : List Frame) (f : Frame) → frames_bytes (frames ++ f ∷ []) ≡ frames_bytes frames ++ frame_bytes f
frames_bytes-push frames f =
    flat_map-append frame_bytes frames (f ∷ []) ∙ (λ i. frames_bytes frames ++ append-nil (frame_bytes f) i)

alone : (held : SplitterView) (f : Frame) → HoldsAtMostOneFrame held → held.waiting ≡ Some f
    → IsFrame f × (held ≡ record { rest = []; waiting = Some f; refused = None })
alone held f is waits =
    subst (λ (o : Option Frame). IfSome o (λ g. IsFrame g × (held ≡ record { rest = []; waiting = Some g; refused = None }))) waits is.waiting

pub IsFed-done : (highest known : ℕ) (bytes : List ℕ) (frames : List Frame) (old : SplitterView) (f : Frame)
    → IsFed highest known bytes frames old → old.waiting ≡ Some f → HoldsAtMostOneFrame (record old { waiting = None })
    → IsFed highest known bytes (frames ++ f ∷ []) (record old { waiting = None })
IsFed-done highest known bytes frames old f fed waits held =
    let one = alone old f fed.held_is waits in
    let none : old.rest ≡ [] = ap (λ (h : SplitterView). h.rest) one.1 in
    let are : held_bytes old ≡ frame_bytes f = ap held_bytes one.1 ∙ append-nil (frame_bytes f) in
    let sound : IsSound highest known f = record { frame = one.0; cause = fed.clear f.header f.payload one.0.header are } in
    record {
      bytes_are =
          fed.bytes_are
          ∙ (λ i. frames_bytes frames ++ are i)
          ∙ sym (frames_bytes-push frames f)
          ∙ sym (append-nil (frames_bytes (frames ++ f ∷ [])))
          ∙ (λ i. frames_bytes (frames ++ f ∷ []) ++ sym none i);
      each = All-push (IsSound highest known) frames f fed.each sound;
      held_is = held;
      clear = λ h more fits same.
          absurd (omega (arith, ap length (sym none ∙ same) ∙ length-append (header_bytes h) more, length-header_bytes h fits));
      «open» = fed.«open»;
    }

-- a header was refused
pub IsMalformed-refuses : (highest known : ℕ) (bytes : List ℕ) (frames : List Frame) (old : SplitterView) (piece : List ℕ) (fault : Malformed) (new : SplitterView)
    → IsFed highest known bytes frames old → RefusesPiece highest known old piece fault new → IsMalformed highest known (bytes ++ piece) fault
IsMalformed-refuses highest known bytes frames old piece fault new fed refuses =
    let n : ℕ = 48 - length (held_bytes old) in
    record {
      frames = frames;
      after = held_bytes old ++ piece;
      whole = (λ i. fed.bytes_are i ++ piece) ∙ append_assoc (frames_bytes frames) (held_bytes old) piece;
      each = fed.each;
      refuses = record {
        header = refuses.header;
        more = drop n piece;
        whole =
            (λ i. held_bytes old ++ sym (take-append-drop n piece) i)
            ∙ sym (append_assoc (held_bytes old) (take n piece) (drop n piece))
            ∙ (λ i. sym refuses.bytes i ++ drop n piece);
        fits = refuses.fits;
        cause = refuses.cause;
      };
    }

-- what comes after a refused header changes nothing
pub IsMalformed-append : (highest known : ℕ) (bytes after : List ℕ) (fault : Malformed)
    → IsMalformed highest known bytes fault → IsMalformed highest known (bytes ++ after) fault
IsMalformed-append highest known bytes after fault is = record {
  frames = is.frames;
  after = is.after ++ after;
  whole = (λ i. is.whole i ++ after) ∙ append_assoc (frames_bytes is.frames) is.after after;
  each = is.each;
  refuses = record {
    header = is.refuses.header;
    more = is.refuses.more ++ after;
    whole = (λ i. is.refuses.whole i ++ after) ∙ append_assoc (header_bytes is.refuses.header) is.refuses.more after;
    fits = is.refuses.fits;
    cause = is.refuses.cause;
  };
}

-- at the end the stream is the frames, and then less than a whole one
pub Splits-fed : (highest known : ℕ) (bytes : List ℕ) (frames : List Frame) (held : SplitterView)
    → IsFed highest known bytes frames held → held.waiting ≡ None → Splits bytes frames held.rest
Splits-fed highest known bytes frames held fed none = record {
  whole = fed.bytes_are ∙ (λ i. frames_bytes frames ++ held_bytes (record held { waiting = none i }));
  each = All-weaker (IsSound highest known) IsFrame (λ f sound. sound.frame) frames fed.each;
  partial = fed.held_is.partial none fed.«open»;
}

-- in the midst of a piece
pub record IsFeeding (highest known : ℕ) (bytes piece left : List ℕ) (frames : List Frame) (held : SplitterView) : Type 0 where
  pub none_waits : held.waiting ≡ None
  pub taken : List ℕ
  pub cut : piece ≡ taken ++ left
  pub fed : IsFed highest known (bytes ++ taken) frames held

-- a piece was taken in part, and a frame handed out
pub IsFeeding-more : (highest known : ℕ) (bytes piece left rest : List ℕ) (frames more : List Frame) (old new done : SplitterView) (took : Took) (f : Frame)
    → IsFeeding highest known bytes piece left frames old → TakesPiece highest known old left took new → HoldsAtMostOneFrame new
    → new.waiting ≡ Some f → done ≡ record new { waiting = None } → HoldsAtMostOneFrame done
    → more ≡ frames ++ f ∷ [] → rest ≡ drop took.used left
    → IsFeeding highest known bytes piece rest more done
IsFeeding-more highest known bytes piece left rest frames more old new done took f feeding takes held waits after held_done grown cut =
    let here : List ℕ = take took.used left in
    let fed = IsFed-take highest known (bytes ++ feeding.taken) frames old left took new feeding.fed takes held in
    let held_after : HoldsAtMostOneFrame (record new { waiting = None }) = subst (λ (h : SplitterView). HoldsAtMostOneFrame h) after held_done in
    let next = IsFed-done highest known (bytes ++ feeding.taken ++ here) frames new f fed waits held_after in
    record {
      none_waits = ap (λ (h : SplitterView). h.waiting) after;
      taken = feeding.taken ++ here;
      cut =
          feeding.cut
          ∙ (λ i. feeding.taken ++ sym (take-append-drop took.used left) i)
          ∙ sym (append_assoc feeding.taken here (drop took.used left))
          ∙ (λ i. (feeding.taken ++ here) ++ sym cut i);
      fed =
          subst (λ (h : SplitterView). IsFed highest known (bytes ++ (feeding.taken ++ here)) more h) (sym after)
          (subst (λ (fs : List Frame). IsFed highest known (bytes ++ (feeding.taken ++ here)) fs (record new { waiting = None })) (sym grown)
          (subst (λ (b : List ℕ). IsFed highest known b (frames ++ f ∷ []) (record new { waiting = None }))
          (append_assoc bytes feeding.taken here) next));
    }

-- a piece was taken whole
pub IsFeeding-whole : (highest known : ℕ) (bytes piece left : List ℕ) (frames : List Frame) (old new done : SplitterView) (took : Took)
    → IsFeeding highest known bytes piece left frames old → TakesPiece highest known old left took new → HoldsAtMostOneFrame new
    → new.waiting ≡ None → done ≡ record new { waiting = None }
    → IsFed highest known (bytes ++ piece) frames done
IsFeeding-whole highest known bytes piece left frames old new done took feeding takes held none after =
    let used : took.used ≡ length left = takes.all (takes.ready ∙ ap is_some none) in
    let all : take took.used left ≡ left = take_all took.used left (omega arith) in
    let fed = IsFed-take highest known (bytes ++ feeding.taken) frames old left took new feeding.fed takes held in
    let whole : bytes ++ feeding.taken ++ take took.used left ≡ bytes ++ piece =
    (λ i. bytes ++ feeding.taken ++ all i) ∙ append_assoc bytes feeding.taken left ∙ (λ i. bytes ++ sym feeding.cut i) in
    let same : new ≡ done = (λ i. record new { waiting = none i }) ∙ sym after in
    subst (λ (h : SplitterView). IsFed highest known (bytes ++ piece) frames h) same
    (subst (λ (b : List ℕ). IsFed highest known b frames new) whole fed)

-- a header was refused in the midst of a piece
pub IsFeeding-refuses : (highest known : ℕ) (bytes piece left : List ℕ) (frames : List Frame) (old new : SplitterView) (fault : Malformed)
    → IsFeeding highest known bytes piece left frames old → RefusesPiece highest known old left fault new
    → IsMalformed highest known (bytes ++ piece) fault
IsFeeding-refuses highest known bytes piece left frames old new fault feeding refuses =
    let whole : bytes ++ feeding.taken ++ left ≡ bytes ++ piece =
    append_assoc bytes feeding.taken left ∙ (λ i. bytes ++ sym feeding.cut i) in
    subst (λ (b : List ℕ). IsMalformed highest known b fault) whole
    (IsMalformed-refuses highest known (bytes ++ feeding.taken) frames old left fault new feeding.fed refuses)

-- the bytes of some pieces, at the piece at hand
flat_map-at : {X : Type 0} (f : X → List ℕ) (xs : List X) (i : ℕ) (x : X) → i < length xs → x ≡ get_or xs i x
    → flat_map f xs ≡ flat_map f (take i xs) ++ f x ++ flat_map f (drop (i + 1) xs)
flat_map-at f xs i x within is =
    let rest : drop i xs ≡ x ∷ drop (i + 1) xs = drop_more xs i x within ∙ (λ k. sym is k ∷ drop (i + 1) xs) in
    ap (flat_map f) (sym (take-append-drop i xs))
    ∙ flat_map-append f (take i xs) (drop i xs)
    ∙ (λ k. flat_map f (take i xs) ++ flat_map f (rest k))
    ∙ sym (append_assoc (flat_map f (take i xs)) (f x) (flat_map f (drop (i + 1) xs)))

-- a header was refused in one of the pieces
pub IsMalformed-pieces : {X : Type 0} (f : X → List ℕ) (highest known : ℕ) (xs : List X) (i : ℕ) (x : X) (frames : List Frame) (held : SplitterView) (fault : Malformed)
    → i < length xs → x ≡ get_or xs i x → IsFed highest known (flat_map f (take i xs)) frames held
    → IsMalformed highest known (frames_bytes frames ++ held_bytes held ++ f x) fault
    → IsMalformed highest known (flat_map f xs) fault
IsMalformed-pieces f highest known xs i x frames held fault within is fed malformed =
    let front : flat_map f (take i xs) ++ f x ≡ frames_bytes frames ++ held_bytes held ++ f x = (λ k. fed.bytes_are k ++ f x) in
    subst (λ (b : List ℕ). IsMalformed highest known b fault)
    ((λ k. sym front k ++ flat_map f (drop (i + 1) xs)) ∙ sym (flat_map-at f xs i x within is))
    (IsMalformed-append highest known (frames_bytes frames ++ held_bytes held ++ f x) (flat_map f (drop (i + 1) xs)) fault malformed)

-- no other frames are the stream
pub Splits-fed-only : (highest known : ℕ) (bytes : List ℕ) (frames : List Frame) (held : SplitterView)
    → IsFed highest known bytes frames held → held.waiting ≡ None
    → (others : List Frame) (rest : List ℕ) → Splits bytes others rest → frames ≡ others
Splits-fed-only highest known bytes frames held fed none others rest split =
    (Splits-only bytes frames others held.rest rest (Splits-fed highest known bytes frames held fed none) split).0

-- the highest number only rises
pub IsFed-rises : (low high known : ℕ) (bytes : List ℕ) (frames : List Frame) (held : SplitterView)
    → low ≤ high → IsFed low known bytes frames held → IsFed high known bytes frames held
IsFed-rises low high known bytes frames held rises fed = record {
  bytes_are = fed.bytes_are;
  each =
      All-weaker (IsSound low known) (IsSound high known)
      (λ f sound. record { frame = sound.frame; cause = cause-rises f.header low high known rises sound.cause }) frames fed.each;
  held_is = fed.held_is;
  clear = λ h more fits same. cause-rises h low high known rises (fed.clear h more fits same);
  «open» = fed.«open»;
}

-- one frame more was read off a whole list
pub frames_bytes-more : (highest known : ℕ) (bytes rest cut : List ℕ) (frames more : List Frame) (f : Frame) (n : ℕ)
    → bytes ≡ frames_bytes frames ++ rest → All (IsSound highest known) frames
    → IsSound highest known f → rest ≡ frame_bytes f ++ drop n rest → more ≡ frames ++ f ∷ [] → cut ≡ drop n rest
    → (bytes ≡ frames_bytes more ++ cut) × All (IsSound highest known) more
frames_bytes-more highest known bytes rest cut frames more f n whole each sound first grown is = (
  whole
      ∙ (λ i. frames_bytes frames ++ first i)
      ∙ sym (append_assoc (frames_bytes frames) (frame_bytes f) (drop n rest))
      ∙ (λ i. (sym (frames_bytes-push frames f) ∙ ap frames_bytes (sym grown)) i ++ sym is i),
  subst (λ (fs : List Frame). All (IsSound highest known) fs) (sym grown) (All-push (IsSound highest known) frames f each sound),
)

-- sound frames and less than one frame after them are the one split
pub Splits-sound_only : (highest known : ℕ) (bytes rest : List ℕ) (frames : List Frame)
    → bytes ≡ frames_bytes frames ++ rest → All (IsSound highest known) frames → IsPartial rest
    → (others : List Frame) (left : List ℕ) → Splits bytes others left → frames ≡ others
Splits-sound_only highest known bytes rest frames whole each partial others left split =
    let one : Splits bytes frames rest =
    record { whole = whole; each = All-weaker (IsSound highest known) IsFrame (λ f sound. sound.frame) frames each; partial = partial } in
    (Splits-only bytes frames others rest left one split).0
