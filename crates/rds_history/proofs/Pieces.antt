-- What pulling, moving and reading do to the streams and to what is in flight.
use Rattle.std.proofs.Common.{◌≡◌, ℕ, ◌+◌, ◌==◌, ◌&&◌, ◌<◌, ◌≤◌, Bool, true, false, cond, Option, Some, None, List, [], ◌∷◌, ◌++◌, length, drop, refl, sym, ◌∙◌, ap, subst, arith, length-append}
use Rattle.std.proofs.lemmas.Bool.{cond_both, cond-true, cond-false, and_from, eq-eqb}
use Rattle.std.proofs.lemmas.List.{drop-drop}
use Rattle.std.specs.Option.{option_map_or}
use Rattle.std.specs.List.{flat_map}
use Rattle.rds_wire.specs.declared.frame.Frame.{Frame}
use Rattle.rds_wire.specs.Bytes.{header_bytes, frame_bytes}
use Rattle.rds_model.specs.declared.entry.Entry.{Entry}
use Rattle.rds_model.specs.declared.entry.Entry.TheVariants.{Accept, Pull, Read}
use Rattle.rds_model.specs.declared.entry.TheConstants.{NO_SLOT}
use Rattle.rds_model.specs.declared.entry.Outcome.{Outcome}
use Rattle.rds_model.specs.declared.entry.Outcome.TheVariants as outcome
use Rattle.rds_model.specs.Past.{open_stream}
use Rattle.rds_model.specs.Streams.{written_bytes, pulled_frames}
use Rattle.rds_model.specs.Sums.{last_pulled_frame}
use Rattle.rds_model.specs.Reading.{verdict_of}
use Rattle.rds_cong.specs.Limit.{congested_after}
use Rattle.rds_history.specs.Events.{Event, Appended, Marked, Moved}
use Rattle.rds_history.specs.Journals.{journal, moved_count, moved_in_all, written_to_open, in_flight, is_marked}
use Rattle.rds_history.specs.Sockets.{queued, receive_buffer}
use Rattle.rds_history.specs.Mark.{update_mark, if_changed}
use Rattle.rds_history.specs.PullAndRead.{read, read_on, answer, outcome_at}
use Rattle.rds_history.specs.Move.{move_piece}

-- no stream changed, nothing was written or moved, and no journal is shorter
pub record IsStill (past later : List Event) : Type 0 where
  pub counts : (a b : ℕ) → moved_count a b later ≡ moved_count a b past
  pub all : moved_in_all later ≡ moved_in_all past
  pub streams : (a b : ℕ) → open_stream (journal a b later) ≡ open_stream (journal a b past)
  pub written : (a b : ℕ) → written_to_open (journal a b later) ≡ written_to_open (journal a b past)
  pub longer : (a b : ℕ) → length (journal a b past) ≤ length (journal a b later)

pub still_here : (past : List Event) → IsStill past past
still_here past = record {
  counts = λ a b. refl;
  all = refl;
  streams = λ a b. refl;
  written = λ a b. refl;
  longer = λ a b. omega arith;
}

still_then : (past mid later : List Event) → IsStill past mid → IsStill mid later → IsStill past later
still_then past mid later first second = record {
  counts = λ a b. second.counts a b ∙ first.counts a b;
  all = second.all ∙ first.all;
  streams = λ a b. second.streams a b ∙ first.streams a b;
  written = λ a b. second.written a b ∙ first.written a b;
  longer = λ a b. omega (arith, first.longer a b, second.longer a b);
}

pub still_in_flight : (past later : List Event) → IsStill past later → (a b : ℕ) → in_flight a b later ≡ in_flight a b past
still_in_flight past later still a b =
    ap (λ n. drop n (written_to_open (journal a b later))) (still.counts a b) ∙ ap (drop (moved_count a b past)) (still.written a b)

still_marked : (h port : ℕ) (set : Bool) (bytes most : ℕ) (past : List Event) → IsStill past (Marked h port set bytes most ∷ past)
still_marked h port set bytes most past = record {
  counts = λ a b. refl;
  all = refl;
  streams = λ a b. refl;
  written = λ a b. refl;
  longer = λ a b. omega arith;
}

still_read_entry : (h k stream : ℕ) (f : Frame) (o : Outcome) (past : List Event) → IsStill past (Appended h k (Read stream f o) ∷ past)
still_read_entry h k stream f o past = record {
  counts = λ a b. refl;
  all = refl;
  streams = λ a b. cond_both (h == a && (k == b)) (Read stream f o ∷ journal a b past) (journal a b past)
      (λ j. open_stream j ≡ open_stream (journal a b past)) (λ e. refl) (λ e. refl);
  written = λ a b. cond_both (h == a && (k == b)) (Read stream f o ∷ journal a b past) (journal a b past)
      (λ j. written_to_open j ≡ written_to_open (journal a b past)) (λ e. refl) (λ e. refl);
  longer = λ a b. cond_both (h == a && (k == b)) (Read stream f o ∷ journal a b past) (journal a b past)
      (λ j. length (journal a b past) ≤ length j) (λ e. omega arith) (λ e. omega arith);
}

still_accept_entry : (h k slot sport dport : ℕ) (payload : List ℕ) (past : List Event) → IsStill past (Appended h k (Accept slot sport dport payload) ∷ past)
still_accept_entry h k slot sport dport payload past = record {
  counts = λ a b. refl;
  all = refl;
  streams = λ a b. cond_both (h == a && (k == b)) (Accept slot sport dport payload ∷ journal a b past) (journal a b past)
      (λ j. open_stream j ≡ open_stream (journal a b past)) (λ e. refl) (λ e. refl);
  written = λ a b. cond_both (h == a && (k == b)) (Accept slot sport dport payload ∷ journal a b past) (journal a b past)
      (λ j. written_to_open j ≡ written_to_open (journal a b past)) (λ e. refl) (λ e. refl);
  longer = λ a b. cond_both (h == a && (k == b)) (Accept slot sport dport payload ∷ journal a b past) (journal a b past)
      (λ j. length (journal a b past) ≤ length j) (λ e. omega arith) (λ e. omega arith);
}

still_update_mark : (h port slot : ℕ) (past : List Event) → IsStill past (update_mark h port slot past)
still_update_mark h port slot past =
    go (is_marked h port past) (congested_after (is_marked h port past) (queued h slot past) (receive_buffer h slot past))
    (still_marked h port (congested_after (is_marked h port past) (queued h slot past) (receive_buffer h slot past)) (queued h slot past) (receive_buffer h slot past) past)
  where
    go : (was is : Bool) {event : Event} → IsStill past (event ∷ past) → IsStill past (if_changed was is event past)
    go true true step = still_here past
    go true false step = step
    go false true step = step
    go false false step = still_here past

still_answer : (k h : ℕ) (f : Frame) (o : Outcome) (past : List Event) → IsStill past (answer k h f o past)
still_answer k h f outcome.Ping past = still_accept_entry k h NO_SLOT 0 f.header.sport [] past
still_answer k h f (outcome.Slot slot) past = still_update_mark k f.header.dport slot past
still_answer k h f outcome.Old past = still_here past
still_answer k h f outcome.NoSocket past = still_here past
still_answer k h f outcome.Void past = still_here past
still_answer k h f outcome.AckOnly past = still_here past
still_answer k h f outcome.Map past = still_here past
still_answer k h f outcome.OddMap past = still_here past

pub still_read : (k h : ℕ) (past : List Event) → IsStill past (read k h past)
still_read k h past = go (open_stream (journal k h past)) (last_pulled_frame (journal h k past))
  where
    read_so : (stream : ℕ) (f : Frame) → IsStill past (read_on k h stream f past)
    read_so stream f =
        let became = outcome_at k (verdict_of (journal k h past) f.header) past in
        still_then past (Appended k h (Read stream f became) ∷ past) (read_on k h stream f past) (still_read_entry k h stream f became past)
        (still_answer k h f became (Appended k h (Read stream f became) ∷ past))

    go : (o : Option ℕ) (w : Option Frame) → IsStill past (option_map_or (λ stream. option_map_or (λ f. read_on k h stream f past) w past) o past)
    go None w = still_here past
    go (Some stream) None = still_here past
    go (Some stream) (Some f) = read_so stream f

here : (h k : ℕ) → (h == h && (k == k)) ≡ true
here h k = and_from (h == h) (k == k) (eq-eqb h h refl) (eq-eqb k k refl)

-- some bytes came, and were read with the last of them
pub record HasCome (h k count : ℕ) (past later : List Event) : Type 0 where
  pub all : moved_in_all later ≡ moved_in_all past + count
  pub rest : in_flight h k later ≡ drop count (in_flight h k past)
  pub others : (a b : ℕ) → (h == a && (k == b)) ≡ false → in_flight a b later ≡ in_flight a b past
  pub streams : (a b : ℕ) → open_stream (journal a b later) ≡ open_stream (journal a b past)
  pub longer : (a b : ℕ) → length (journal a b past) ≤ length (journal a b later)

pub come_piece : (h k count : ℕ) (past : List Event) → HasCome h k count past (move_piece h k count past)
come_piece h k count past = come (move_piece h k count past) (go (length (in_flight h k (Moved h k count ∷ past)) == 0))
  where
    moved : List Event
    moved = Moved h k count ∷ past

    go : (whole : Bool) → IsStill moved (cond whole (read k h moved) moved)
    go true = still_read k h moved
    go false = still_here moved

    come : (later : List Event) → IsStill moved later → HasCome h k count past later
    come later still = record {
      all = still.all;
      rest = still_in_flight moved later still h k
          ∙ ap (λ n. drop n (written_to_open (journal h k past))) (cond-true (h == h && (k == k)) (moved_count h k past + count) (moved_count h k past) (here h k))
          ∙ sym (drop-drop count (moved_count h k past) (written_to_open (journal h k past)));
      others = λ a b other. still_in_flight moved later still a b
          ∙ ap (λ n. drop n (written_to_open (journal a b past))) (cond-false (h == a && (k == b)) (moved_count a b past + count) (moved_count a b past) other);
      streams = still.streams;
      longer = still.longer;
    }

-- a frame was pulled
pub record HasPulled (h k stream : ℕ) (past later : List Event) : Type 0 where
  pub all : moved_in_all later ≡ moved_in_all past
  pub count : moved_count h k later ≡ moved_count h k past
  pub one_more : length (journal h k past) < length (journal h k later)
  pub wrote : length (written_bytes stream (journal h k past)) < length (written_bytes stream (journal h k later))
  pub others : (a b : ℕ) → (h == a && (k == b)) ≡ false → in_flight a b later ≡ in_flight a b past
  pub streams : (a b : ℕ) → open_stream (journal a b later) ≡ open_stream (journal a b past)
  pub longer : (a b : ℕ) → length (journal a b past) ≤ length (journal a b later)

length-flat_map_more : {X A : Type 0} (f : X → List A) (xs : List X) (x : X) → length (flat_map f (xs ++ x ∷ [])) ≡ length (flat_map f xs) + length (f x)
length-flat_map_more f [] x = length-append (f x) [] ∙ omega arith
length-flat_map_more f (y ∷ ys) x =
    length-append (f y) (flat_map f (ys ++ x ∷ [])) ∙ ap (λ n. length (f y) + n) (length-flat_map_more f ys x)
    ∙ omega (arith, length-append (f y) (flat_map f ys))

some_bytes : (f : Frame) → 0 < length (frame_bytes f)
unfolding header_bytes
some_bytes f = simp length-append (omega arith)

pub pulled_one : (h k stream : ℕ) (f : Frame) (past : List Event) → HasPulled h k stream past (Appended h k (Pull stream f) ∷ past)
pulled_one h k stream f past = record {
  all = refl;
  count = refl;
  one_more = subst (λ (j : List Entry). length (journal h k past) < length j) (sym at) (omega arith);
  wrote = subst (λ (j : List Entry). length (written_bytes stream (journal h k past)) < length (written_bytes stream j)) (sym at) more;
  others = λ a b other. ap (λ (j : List Entry). drop (moved_count a b past) (written_to_open j))
      (cond-false (h == a && (k == b)) (Pull stream f ∷ journal a b past) (journal a b past) other);
  streams = λ a b. cond_both (h == a && (k == b)) (Pull stream f ∷ journal a b past) (journal a b past)
      (λ j. open_stream j ≡ open_stream (journal a b past)) (λ e. refl) (λ e. refl);
  longer = λ a b. cond_both (h == a && (k == b)) (Pull stream f ∷ journal a b past) (journal a b past)
      (λ j. length (journal a b past) ≤ length j) (λ e. omega arith) (λ e. omega arith);
}
  where
    at : journal h k (Appended h k (Pull stream f) ∷ past) ≡ Pull stream f ∷ journal h k past
    at = cond-true (h == h && (k == k)) (Pull stream f ∷ journal h k past) (journal h k past) (here h k)

    more : length (written_bytes stream (journal h k past)) < length (written_bytes stream (Pull stream f ∷ journal h k past))
    more =
        let is : pulled_frames stream (Pull stream f ∷ journal h k past) ≡ pulled_frames stream (journal h k past) ++ f ∷ [] =
        cond-true (stream == stream) (pulled_frames stream (journal h k past) ++ f ∷ []) (pulled_frames stream (journal h k past)) (eq-eqb stream stream refl) in
        let sum : length (written_bytes stream (Pull stream f ∷ journal h k past)) ≡ length (written_bytes stream (journal h k past)) + length (frame_bytes f) =
        ap (λ (fs : List Frame). length (flat_map frame_bytes fs)) is ∙ length-flat_map_more frame_bytes (pulled_frames stream (journal h k past)) f in
        omega (arith, sum, some_bytes f)
