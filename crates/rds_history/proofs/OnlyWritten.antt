-- No more bytes go over an open stream than are written to it.
use Rattle.std.proofs.Common.{◌≡◌, ◌⊎◌, inl, inr, ℕ, suc, ◌+◌, ◌-◌, ◌==◌, ◌&&◌, ◌≤◌, Bool, true, false, cond, Option, Some, None, Ok, List, [], ◌∷◌, ◌++◌, length, refl, sym, ◌∙◌, ap, subst, arith, length-append}
use Rattle.std.proofs.lemmas.Bool.{cases_Bool, and_parts, eqb-true}
use Rattle.std.proofs.lemmas.List.{length-drop}
use Rattle.std.proofs.lemmas.Option.{none-some}
use Rattle.std.specs.Option.{option_map_or}
use Rattle.std.specs.List.{flat_map}
use Rattle.rds_wire.specs.declared.frame.Frame.{Frame}
use Rattle.rds_wire.specs.Bytes.{frame_bytes}
use Rattle.rds_model.specs.declared.entry.Entry.{Entry}
use Rattle.rds_model.specs.declared.entry.Entry.TheVariants.{Accept, Cancel, Open, Pull, Read, Shut, Bad}
use Rattle.rds_model.specs.Past.{open_stream, newest_stream}
use Rattle.rds_model.specs.Streams.{written_bytes, pulled_frames}
use Rattle.rds_script.specs.declared.script.Command.{Command}
use Rattle.rds_script.specs.declared.script.Placed.{Placed}
use Rattle.rds_history.specs.Events.{Event, Appended, Moved}
use Rattle.rds_history.specs.Courses.{appends}
use Rattle.rds_history.specs.Journals.{journal, moved_count, written_to_open, in_flight}
use Rattle.rds_history.specs.Open.{open_one, shut_if_open}
use Rattle.rds_history.specs.History.{after, history}
use Rattle.rds_history.specs.Limits.{MovesOnlyWritten}
use Rattle.rds_history.proofs.EventInvariants.{Holds, holds_then, holds_appends, IsKeptInFlight, keeps_after_in_flight, keeps_history_in_flight}

-- of one journal and the count of its moved bytes
abbrev OnlyWritten : List Entry → ℕ → Type 0
OnlyWritten j count = (stream : ℕ) → open_stream j ≡ Some stream → count ≤ length (written_bytes stream j)

-- the count of moved bytes after an entry of the journal
abbrev counted : Entry → ℕ → ℕ
counted (Open stream) count = 0
counted (Accept slot sport dport payload) count = count
counted (Cancel slot target) count = count
counted (Pull stream frame) count = count
counted (Read stream frame outcome) count = count
counted (Shut stream) count = count
counted (Bad stream header cause) count = count

more_written : (stream s : ℕ) (f : Frame) (j : List Entry) → length (written_bytes stream j) ≤ length (written_bytes stream (Pull s f ∷ j))
more_written stream s f j = go (s == stream)
  where
    longer : (fs : List Frame) → length (flat_map frame_bytes fs) ≤ length (flat_map frame_bytes (fs ++ f ∷ []))
    longer [] = omega arith
    longer (g ∷ gs) =
        omega (arith, length-append (frame_bytes g) (flat_map frame_bytes gs), length-append (frame_bytes g) (flat_map frame_bytes (gs ++ f ∷ [])), longer gs)

    go : (own : Bool) → length (written_bytes stream j) ≤ length (flat_map frame_bytes (cond own (pulled_frames stream j ++ f ∷ []) (pulled_frames stream j)))
    go true = longer (pulled_frames stream j)
    go false = omega arith

only_entry : (e : Entry) (j : List Entry) (count : ℕ) → OnlyWritten j count → OnlyWritten (e ∷ j) (counted e count)
only_entry (Open s) j count p stream is = omega arith
only_entry (Accept slot sport dport payload) j count p stream is = p stream is
only_entry (Cancel slot target) j count p stream is = p stream is
only_entry (Pull s f) j count p stream is = omega (arith, p stream is, more_written stream s f j)
only_entry (Read s f o) j count p stream is = p stream is
only_entry (Shut s) j count p stream is = absurd (none-some stream is)
only_entry (Bad s header cause) j count p stream is = absurd (none-some stream is)

count_of : (h k a b : ℕ) (e : Entry) (past : List Event) → moved_count a b (Appended h k e ∷ past) ≡ cond (h == a && (k == b)) (counted e (moved_count a b past)) (moved_count a b past)
count_of h k a b e past = go (h == a && (k == b)) e
  where
    same : (own : Bool) → moved_count a b past ≡ cond own (moved_count a b past) (moved_count a b past)
    same true = refl
    same false = refl

    go : (own : Bool) (e : Entry) → moved_count a b (Appended h k e ∷ past) ≡ cond (h == a && (k == b)) (counted e (moved_count a b past)) (moved_count a b past)
    go own (Open stream) = refl
    go own (Accept slot sport dport payload) = same (h == a && (k == b))
    go own (Cancel slot target) = same (h == a && (k == b))
    go own (Pull stream frame) = same (h == a && (k == b))
    go own (Read stream frame outcome) = same (h == a && (k == b))
    go own (Shut stream) = same (h == a && (k == b))
    go own (Bad stream header cause) = same (h == a && (k == b))

only_appended : (h k : ℕ) (e : Entry) (past : List Event) → MovesOnlyWritten past → MovesOnlyWritten (Appended h k e ∷ past)
only_appended h k e past p a b =
    subst (OnlyWritten (journal a b (Appended h k e ∷ past))) (sym (count_of h k a b e past)) (go (h == a && (k == b)))
  where
    go : (own : Bool) → OnlyWritten (cond own (e ∷ journal a b past) (journal a b past)) (cond own (counted e (moved_count a b past)) (moved_count a b past))
    go true = only_entry e (journal a b past) (moved_count a b past) (p a b)
    go false = p a b

only_moved : (h k count : ℕ) (past : List Event) → count ≤ length (in_flight h k past) → MovesOnlyWritten past → MovesOnlyWritten (Moved h k count ∷ past)
only_moved h k count past within p a b stream is = go (cases_Bool (h == a && (k == b)))
  where
    fits : (h == a && (k == b)) ≡ true → count ≤ length (in_flight a b past)
    fits own =
        let both = and_parts (h == a) (k == b) own in
        subst (λ i. count ≤ length (in_flight i b past)) (eqb-true h a both.0) (subst (λ i. count ≤ length (in_flight h i past)) (eqb-true k b both.1) within)

    bytes : length (in_flight a b past) ≡ length (written_bytes stream (journal a b past)) - moved_count a b past
    bytes =
        length-drop (moved_count a b past) (written_to_open (journal a b past))
        ∙ ap (λ o. length (option_map_or (λ s. written_bytes s (journal a b past)) o []) - moved_count a b past) is

    go : ((h == a && (k == b)) ≡ true) ⊎ ((h == a && (k == b)) ≡ false) →
        cond (h == a && (k == b)) (moved_count a b past + count) (moved_count a b past) ≤ length (written_bytes stream (journal a b past))
    go (inr other) = rw other (p a b stream is)
    go (inl own) = rw own (omega (arith, p a b stream is, fits own, bytes))

pub only_written_is_kept : IsKeptInFlight MovesOnlyWritten
only_written_is_kept = record {
  printed = λ line past p a b. p a b;
  bound = λ h port slot sndbuf rcvbuf past next p a b. p a b;
  closed = λ h port slot unread past p a b. p a b;
  marked = λ h port set bytes most past p a b. p a b;
  moved = only_moved;
  received = λ h port slot d waiting past is p a b. p a b;
  appended = λ h k e past quiet routed p. only_appended h k e past p;
  opened = λ limit h k past p. holds_then MovesOnlyWritten MovesOnlyWritten (open_one limit h k past) (open_one limit k h)
      (holds_appends MovesOnlyWritten MovesOnlyWritten limit h k (Open (suc (newest_stream (journal h k past)))) past p
      (λ before q. only_appended h k (Open (suc (newest_stream (journal h k past)))) before q))
      (λ mid q. holds_appends MovesOnlyWritten MovesOnlyWritten limit k h (Open (suc (newest_stream (journal k h mid)))) mid q
      (λ before r. only_appended k h (Open (suc (newest_stream (journal k h mid)))) before r));
  shut = λ limit h k past p. holds_then MovesOnlyWritten MovesOnlyWritten (shut_if_open limit h k past) (shut_if_open limit k h)
      (only_shut limit h k past p) (λ mid q. only_shut limit k h mid q);
}
  where
    only_shut : (limit h k : ℕ) (past : List Event) → MovesOnlyWritten past → Holds MovesOnlyWritten (shut_if_open limit h k past)
    only_shut limit h k past p = go (open_stream (journal h k past))
      where
        go : (o : Option ℕ) → Holds MovesOnlyWritten (option_map_or (λ stream. appends limit h k (Shut stream) past) o (Ok past))
        go None = p
        go (Some stream) = holds_appends MovesOnlyWritten MovesOnlyWritten limit h k (Shut stream) past p (λ before q. only_appended h k (Shut stream) before q)

-- nothing has happened
pub only_nothing : MovesOnlyWritten []
only_nothing a b stream is = absurd (none-some stream is)

-- each command keeps it
pub only_after : (limit hosts : ℕ) (c : Command) (past later : List Event) → MovesOnlyWritten past → after limit hosts c past ≡ Ok later → MovesOnlyWritten later
only_after limit hosts c past later p is = subst (Holds MovesOnlyWritten) is (keeps_after_in_flight MovesOnlyWritten only_written_is_kept limit hosts c past p)

-- and so do all commands of a script
pub only_history : (limit hosts : ℕ) (commands : List Placed) (past : List Event) → history limit hosts commands [] ≡ Ok past → MovesOnlyWritten past
only_history limit hosts commands past is =
    subst (Holds MovesOnlyWritten) is (keeps_history_in_flight MovesOnlyWritten only_written_is_kept limit hosts commands [] only_nothing)
