-- What a past keeps at each command on a stream.
use Rattle.std.proofs.Common.{◌≡◌, ◌≢◌, ℕ, suc, ◌+◌, ◌-◌, ◌≤◌, ◌^◌, Option, Some, None, Ok, List, ◌∷◌, length, refl, sym, ◌∙◌, ap, subst}
use Rattle.std.specs.Prelude.{codes}
use Rattle.std.specs.Option.{option_map_or}
use Rattle.rds_model.specs.declared.entry.Entry.{Entry}
use Rattle.rds_model.specs.declared.entry.Entry.TheVariants.{Open, Shut}
use Rattle.rds_model.specs.Past.{open_stream, newest_stream}
use Rattle.rds_text.specs.Lines.{cut_line, move_line}
use Rattle.rds_text.specs.Refusals.{is_down, is_open, pair_refused_line}
use Rattle.rds_history.specs.Events.{Event, Appended, Printed}
use Rattle.rds_history.specs.Courses.{Course, and_then, appends, prints, on_stream}
use Rattle.rds_history.specs.Journals.{journal, moved_in_all, in_flight}
use Rattle.rds_history.specs.Open.{open_both, open_one, open_pair, shut_if_open, cut, cut_both}
use Rattle.rds_history.specs.Move.{move_up_to, move_and_tell, move}
use Rattle.rds_history.proofs.EventInvariants.{Holds, holds_then}
use Rattle.rds_history.proofs.JoinedEnds.{Ends, AreJoined, joined_opened, joined_shut}
use Rattle.rds_history.proofs.JoinedReads.{HonestLaws}
use Rattle.rds_history.proofs.PastEnds.{ends, AreTwo, Keeps, still_then, still_turned, keeps_later, still_appended, appended_here, appended_there, keeps_printed}
use Rattle.rds_history.proofs.PastMoves.{holds_room, keeps_move_up_to}

-- where there are so many hosts
module _ (hosts : ℕ) where
  -- a command on the open stream, or another where none is open
  keeps_on_stream : (h k : ℕ) (closed : List Event → Course) (act : ℕ → List Event → Course) (past : List Event) →
      (open_stream (journal h k past) ≡ None → Holds (Keeps hosts) (closed past)) →
      ((s : ℕ) → open_stream (journal h k past) ≡ Some s → Holds (Keeps hosts) (act s past)) → Holds (Keeps hosts) (on_stream h k closed act past)
  keeps_on_stream h k closed act past none done = go (open_stream (journal h k past)) refl
    where
      go : (o : Option ℕ) → open_stream (journal h k past) ≡ o → Holds (Keeps hosts) (option_map_or (λ stream. act stream past) o (closed past))
      go None is = none is
      go (Some s) is = done s is

  -- the commands on streams
  module _ (limit h k : ℕ) (two : AreTwo hosts h k) where
    apart : h ≢ k
    apart = two.apart

    back_apart : k ≢ h
    back_apart = λ same. apart (sym same)

    -- an entry at each end
    keeps_both : (e f : Entry) (past : List Event) → Keeps hosts past → AreJoined (ends h k (Appended k h f ∷ Appended h k e ∷ past)) →
        Keeps hosts (Appended k h f ∷ Appended h k e ∷ past)
    keeps_both e f past keeps joined =
        let mid : List Event = Appended h k e ∷ past in
        keeps_later hosts h k past (Appended k h f ∷ mid) two keeps
        (still_then h k past mid (Appended k h f ∷ mid) (still_appended h k e past apart) (still_turned k h mid (Appended k h f ∷ mid) (still_appended k h f mid back_apart)))
        joined

    keeps_opened : (past : List Event) → Keeps hosts past → open_stream (journal h k past) ≡ None →
        Keeps hosts (Appended k h (Open (suc (newest_stream (journal k h (Appended h k (Open (suc (newest_stream (journal h k past)))) ∷ past)))))
        ∷ Appended h k (Open (suc (newest_stream (journal h k past)))) ∷ past)
    keeps_opened past keeps closed =
        let s : ℕ = suc (newest_stream (journal h k past)) in
        let mid : List Event = Appended h k (Open s) ∷ past in
        let t : ℕ = suc (newest_stream (journal k h mid)) in
        let first = appended_here h k (Open s) past apart in
        keeps_both (Open s) (Open t) past keeps
        (subst AreJoined (sym (appended_there k h (Open t) mid back_apart ∙ ap (λ (e : Ends). record e { there = Open t ∷ e.there; back = 0 }) first))
        (joined_opened (ends h k past) s t (keeps.joined h k apart) closed refl (ap (λ (e : Ends). suc (newest_stream e.there)) first)))

    keeps_open_both : (past : List Event) → Keeps hosts past → open_stream (journal h k past) ≡ None → Holds (Keeps hosts) (open_both limit h k past)
    keeps_open_both past keeps closed =
        let s : ℕ = suc (newest_stream (journal h k past)) in
        holds_then (λ mid. mid ≡ Appended h k (Open s) ∷ past) (Keeps hosts) (open_one limit h k past) (open_one limit k h)
        (holds_room (λ mid. mid ≡ Appended h k (Open s) ∷ past) limit h k past (λ (before : List Event). Ok (Appended h k (Open s) ∷ before)) (λ room. refl))
        (λ mid is. subst (λ (l : List Event). Holds (Keeps hosts) (open_one limit k h l)) (sym is)
        (holds_room (Keeps hosts) limit k h (Appended h k (Open s) ∷ past)
        (λ (before : List Event). Ok (Appended k h (Open (suc (newest_stream (journal k h (Appended h k (Open s) ∷ past))))) ∷ before))
        (λ room. keeps_opened past keeps closed)))

    pub keeps_open_if_closed : (past : List Event) → Keeps hosts past → Holds (Keeps hosts) (on_stream h k (open_both limit h k) (λ stream before. Ok before) past)
    keeps_open_if_closed past keeps =
        keeps_on_stream h k (open_both limit h k) (λ stream before. Ok before) past (λ closed. keeps_open_both past keeps closed) (λ s on. keeps)

    pub keeps_open : (past : List Event) → Keeps hosts past → Holds (Keeps hosts) (open_pair limit h k past)
    keeps_open past keeps =
        keeps_on_stream h k (open_both limit h k) (λ stream. prints (pair_refused_line (codes "open") h k is_open)) past
        (λ closed. keeps_open_both past keeps closed) (λ s on. keeps_printed hosts (pair_refused_line (codes "open") h k is_open) past keeps)

    -- one end is shut
    shut_one : (x y s : ℕ) (past : List Event) (P : List Event → Type 0) → open_stream (journal x y past) ≡ Some s → P (Appended x y (Shut s) ∷ past) →
        Holds P (shut_if_open limit x y past)
    shut_one x y s past P on done =
        subst (λ (o : Option ℕ). Holds P (option_map_or (λ stream. appends limit x y (Shut stream) past) o (Ok past))) (sym on)
        (holds_room P limit x y past (λ (before : List Event). Ok (Appended x y (Shut s) ∷ before)) (λ room. done))

    keeps_shut_both : (past : List Event) (s : ℕ) → Keeps hosts past → open_stream (journal h k past) ≡ Some s →
        Holds (Keeps hosts) (and_then (shut_if_open limit h k past) (shut_if_open limit k h))
    keeps_shut_both past s keeps on =
        let mid : List Event = Appended h k (Shut s) ∷ past in
        let first = appended_here h k (Shut s) past apart in
        let joined = keeps.joined h k apart in
        let on_there : open_stream (journal k h mid) ≡ Some s = ap (λ (e : Ends). open_stream e.there) first ∙ sym joined.streams ∙ on in
        holds_then (λ later. later ≡ mid) (Keeps hosts) (shut_if_open limit h k past) (shut_if_open limit k h)
        (shut_one h k s past (λ later. later ≡ mid) on refl)
        (λ later is. subst (λ (l : List Event). Holds (Keeps hosts) (shut_if_open limit k h l)) (sym is)
        (shut_one k h s mid (Keeps hosts) on_there
        (keeps_both (Shut s) (Shut s) past keeps
        (subst AreJoined (sym (appended_there k h (Shut s) mid back_apart ∙ ap (λ (e : Ends). record e { there = Shut s ∷ e.there }) first))
        (joined_shut (ends h k past) s joined on)))))

    pub keeps_cut : (past : List Event) → Keeps hosts past → Holds (Keeps hosts) (cut limit h k past)
    keeps_cut past keeps =
        let text = cut_line h k (length (in_flight h k past)) (length (in_flight k h past)) in
        keeps_on_stream h k (prints (pair_refused_line (codes "cut") h k is_down)) (λ stream. cut_both limit h k) past
        (λ closed. keeps_printed hosts (pair_refused_line (codes "cut") h k is_down) past keeps)
        (λ s on. keeps_shut_both (Printed text ∷ past) s (keeps_printed hosts text past keeps) on)

    pub keeps_move : HonestLaws → limit ≤ 2 ^ 63 → (count : ℕ) (past : List Event) → Keeps hosts past → Holds (Keeps hosts) (move limit h k count past)
    keeps_move laws small count past keeps =
        keeps_on_stream h k (prints (pair_refused_line (codes "move") h k is_down)) (λ stream. move_and_tell limit h k count) past
        (λ closed. keeps_printed hosts (pair_refused_line (codes "move") h k is_down) past keeps)
        (λ s on. holds_then (Keeps hosts) (Keeps hosts) (move_up_to limit h k (Some (moved_in_all past + count)) past)
        (λ later. prints (move_line h k (moved_in_all later - moved_in_all past)) later)
        (keeps_move_up_to laws hosts limit h k small two (Some (moved_in_all past + count)) past keeps)
        (λ later there. keeps_printed hosts (move_line h k (moved_in_all later - moved_in_all past)) later there))
