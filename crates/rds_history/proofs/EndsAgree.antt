-- After each command both ends of a connection have a stream, or none has.
use Rattle.std.proofs.Common.{◌≡◌, ◌⊎◌, inl, inr, ⊎_elim, ℕ, suc, ◌==◌, ◌&&◌, Bool, true, false, cond, Option, Some, None, Ok, Err, List, [], ◌∷◌, refl, sym, ◌∙◌, ap, subst}
use Rattle.std.proofs.lemmas.Bool.{cases_Bool, cond-true, cond-false, eqb-true, and_cases, and_left, and_right, and_parts, and_from, eq-eqb}
use Rattle.std.specs.Option.{option_map_or}
use Rattle.rds_model.specs.declared.entry.Entry.{Entry}
use Rattle.rds_model.specs.declared.entry.Entry.TheVariants.{Open, Shut}
use Rattle.rds_model.specs.Past.{open_stream, newest_stream}
use Rattle.rds_script.specs.declared.script.Command.{Command}
use Rattle.rds_script.specs.declared.script.Placed.{Placed}
use Rattle.rds_history.specs.Events.{Event, Appended}
use Rattle.rds_history.specs.Courses.{Course, appends}
use Rattle.rds_history.specs.Journals.{journal}
use Rattle.rds_history.specs.Open.{open_both, open_one, shut_if_open}
use Rattle.rds_history.specs.History.{after, history}
use Rattle.rds_history.specs.EndsAgree.{EndsAgree}
use Rattle.rds_history.proofs.EventInvariants.{Holds, IsKept, IsQuiet, holds_then, holds_appends, keeps_after, keeps_history}

journal_here : (h k : ℕ) (e : Entry) (past : List Event) → journal h k (Appended h k e ∷ past) ≡ e ∷ journal h k past
journal_here h k e past =
    cond-true (h == h && (k == k)) (e ∷ journal h k past) (journal h k past) (and_from (h == h) (k == k) (eq-eqb h h refl) (eq-eqb k k refl))

same_quiet : (h k a b : ℕ) (e : Entry) (past : List Event) → IsQuiet e → open_stream (journal a b (Appended h k e ∷ past)) ≡ open_stream (journal a b past)
same_quiet h k a b e past quiet = go (h == a && (k == b))
  where
    go : (is : Bool) → open_stream (cond is (e ∷ journal a b past) (journal a b past)) ≡ open_stream (journal a b past)
    go true = quiet (journal a b past)
    go false = refl

agree_entry : (h k : ℕ) (e : Entry) (past : List Event) → IsQuiet e → EndsAgree past → EndsAgree (Appended h k e ∷ past)
agree_entry h k e past quiet p = λ a b none.
    same_quiet h k b a e past quiet ∙ p a b (sym (same_quiet h k a b e past quiet) ∙ none)

-- an entry of another journal is not seen
same_elsewhere : (h k a b : ℕ) (e : Entry) (past : List Event) → (h == a && (k == b)) ≡ false → journal a b (Appended h k e ∷ past) ≡ journal a b past
same_elsewhere h k a b e past other = cond-false (h == a && (k == b)) (e ∷ journal a b past) (journal a b past) other

-- where h opened a stream to k, and k to h
agree_opened : (h k n m : ℕ) (past : List Event) → EndsAgree past → EndsAgree (Appended k h (Open m) ∷ Appended h k (Open n) ∷ past)
agree_opened h k n m past p = λ a b none. go a b none (cases_Bool (k == a && (h == b))) (cases_Bool (h == a && (k == b)))
  where
    first : List Event
    first = Appended h k (Open n) ∷ past

    swapped : (x y a b : ℕ) → (x == a && (y == b)) ≡ false → (y == b && (x == a)) ≡ false
    swapped x y a b is = ⊎_elim (λ e. and_right (y == b) (x == a) e) (λ e. and_left (y == b) (x == a) e) (and_cases (x == a) (y == b) is)

    go : (a b : ℕ) → open_stream (journal a b (Appended k h (Open m) ∷ first)) ≡ None →
        ((k == a && (h == b)) ≡ true) ⊎ ((k == a && (h == b)) ≡ false) → ((h == a && (k == b)) ≡ true) ⊎ ((h == a && (k == b)) ≡ false) →
        open_stream (journal b a (Appended k h (Open m) ∷ first)) ≡ None
    go a b none (inl last) other =
        let some : Some m ≡ None = sym (ap open_stream (cond-true (k == a && (h == b)) (Open m ∷ journal a b first) (journal a b first) last)) ∙ none in cc
    go a b none (inr apart) (inl here) =
        let some : Some n ≡ None =
        sym (ap open_stream (same_elsewhere k h a b (Open m) first apart ∙ cond-true (h == a && (k == b)) (Open n ∷ journal a b past) (journal a b past) here)) ∙ none in cc
    go a b none (inr apart) (inr nor) =
        let before : open_stream (journal a b past) ≡ None =
        sym (ap open_stream (same_elsewhere k h a b (Open m) first apart ∙ same_elsewhere h k a b (Open n) past nor)) ∙ none in
        ap open_stream (same_elsewhere k h b a (Open m) first (swapped h k a b nor) ∙ same_elsewhere h k b a (Open n) past (swapped k h a b apart)) ∙ p a b before

pub agree_open_both : (limit h k : ℕ) (past : List Event) → EndsAgree past → Holds EndsAgree (open_both limit h k past)
agree_open_both limit h k past p =
    holds_then (λ mid. mid ≡ Appended h k (Open (suc (newest_stream (journal h k past)))) ∷ past) EndsAgree (open_one limit h k past) (open_one limit k h)
    (holds_appends (λ before. before ≡ past) (λ mid. mid ≡ Appended h k (Open (suc (newest_stream (journal h k past)))) ∷ past) limit h k
    (Open (suc (newest_stream (journal h k past)))) past refl (λ before is. ap (λ (l : List Event). Appended h k (Open (suc (newest_stream (journal h k past)))) ∷ l) is))
    (λ mid is. holds_appends (λ before. before ≡ mid) EndsAgree limit k h (Open (suc (newest_stream (journal k h mid)))) mid refl
    (λ before same. subst (λ (l : List Event). EndsAgree (Appended k h (Open (suc (newest_stream (journal k h mid)))) ∷ l)) (sym (same ∙ is))
    (agree_opened h k (suc (newest_stream (journal h k past))) (suc (newest_stream (journal k h mid))) past p)))

-- h has no stream to k, and nothing else changed
record IsShut (h k : ℕ) (past later : List Event) : Type 0 where
  none : open_stream (journal h k later) ≡ None
  others : (a b : ℕ) → (h == a && (k == b)) ≡ false → open_stream (journal a b later) ≡ open_stream (journal a b past)

holds_shut : (h k limit : ℕ) (past : List Event) → Holds (IsShut h k past) (shut_if_open limit h k past)
holds_shut h k limit past = go (open_stream (journal h k past)) refl
  where
    entered : (stream : ℕ) (before : List Event) → before ≡ past → IsShut h k past (Appended h k (Shut stream) ∷ before)
    entered stream before is = record {
      none = ap open_stream (journal_here h k (Shut stream) before);
      others = λ a b other. ap open_stream (same_elsewhere h k a b (Shut stream) before other ∙ ap (journal a b) is);
    }

    go : (o : Option ℕ) → open_stream (journal h k past) ≡ o → Holds (IsShut h k past) (option_map_or (λ stream. appends limit h k (Shut stream) past) o (Ok past))
    go None is = record { none = is; others = λ a b other. refl }
    go (Some stream) is = holds_appends (λ before. before ≡ past) (IsShut h k past) limit h k (Shut stream) past refl (entered stream)

agree_shut : (h k : ℕ) (past mid last : List Event) → EndsAgree past → IsShut h k past mid → IsShut k h mid last → EndsAgree last
agree_shut h k past mid last p first second = λ a b none. go a b none (cases_Bool (h == a && (k == b))) (cases_Bool (k == a && (h == b)))
  where
    swapped : (x y a b : ℕ) → (x == a && (y == b)) ≡ false → (y == b && (x == a)) ≡ false
    swapped x y a b is = ⊎_elim (λ e. and_right (y == b) (x == a) e) (λ e. and_left (y == b) (x == a) e) (and_cases (x == a) (y == b) is)

    at : (x y a b : ℕ) → (x == a && (y == b)) ≡ true → (x ≡ a) × (y ≡ b)
    at x y a b is = let both = and_parts (x == a) (y == b) is in (eqb-true x a both.0, eqb-true y b both.1)

    here : open_stream (journal h k last) ≡ None
    here = from (cases_Bool (k == h && (h == k)))
      where
        from : ((k == h && (h == k)) ≡ true) ⊎ ((k == h && (h == k)) ≡ false) → open_stream (journal h k last) ≡ None
        from (inl one) = let e = at k h h k one in ap (λ i. open_stream (journal h i last)) e.0 ∙ ap (λ i. open_stream (journal i h last)) (sym e.0) ∙ second.none
        from (inr two) = second.others h k two ∙ first.none

    go : (a b : ℕ) → open_stream (journal a b last) ≡ None →
        ((h == a && (k == b)) ≡ true) ⊎ ((h == a && (k == b)) ≡ false) → ((k == a && (h == b)) ≡ true) ⊎ ((k == a && (h == b)) ≡ false) →
        open_stream (journal b a last) ≡ None
    go a b none (inl is) other =
        let e = at h k a b is in
        ap (λ i. open_stream (journal i a last)) (sym e.1) ∙ ap (λ i. open_stream (journal k i last)) (sym e.0) ∙ second.none
    go a b none (inr apart) (inl is) =
        let e = at k h a b is in
        ap (λ i. open_stream (journal i a last)) (sym e.1) ∙ ap (λ i. open_stream (journal h i last)) (sym e.0) ∙ here
    go a b none (inr apart) (inr nor) =
        let before : open_stream (journal a b past) ≡ None = sym (first.others a b apart) ∙ sym (second.others a b nor) ∙ none in
        second.others b a (swapped h k a b apart) ∙ first.others b a (swapped k h a b nor) ∙ p a b before

holds_weaker : (P Q : List Event → Type 0) (c : Course) → Holds P c → ((past : List Event) → P past → Q past) → Holds Q c
holds_weaker P Q (Ok past) here step = step past here
holds_weaker P Q (Err full) here step = tt

ends_agree_is_kept : IsKept EndsAgree
ends_agree_is_kept = record {
  printed = λ line past p a b none. p a b none;
  bound = λ h port slot sndbuf rcvbuf past p a b none. p a b none;
  closed = λ h port slot unread past p a b none. p a b none;
  marked = λ h port set bytes most past p a b none. p a b none;
  moved = λ h k count past p a b none. p a b none;
  received = λ h port slot d waiting past is p a b none. p a b none;
  appended = agree_entry;
  opened = agree_open_both;
  shut = λ limit h k past p. holds_then (IsShut h k past) EndsAgree (shut_if_open limit h k past) (shut_if_open limit k h) (holds_shut h k limit past)
      (λ mid first. holds_weaker (IsShut k h mid) EndsAgree (shut_if_open limit k h mid) (holds_shut k h limit mid)
      (λ last second. agree_shut h k past mid last p first second));
}

-- nothing has happened
pub agree_nothing : EndsAgree []
agree_nothing = λ a b none. refl

-- each command leaves the ends so
pub agree_after : (limit hosts : ℕ) (c : Command) (past later : List Event) → EndsAgree past → after limit hosts c past ≡ Ok later → EndsAgree later
agree_after limit hosts c past later p is = subst (Holds EndsAgree) is (keeps_after EndsAgree ends_agree_is_kept limit hosts c past p)

-- so do all commands of a script
pub agree_history : (limit hosts : ℕ) (commands : List Placed) (past : List Event) → history limit hosts commands [] ≡ Ok past → EndsAgree past
agree_history limit hosts commands past is =
    subst (Holds EndsAgree) is (keeps_history EndsAgree ends_agree_is_kept limit hosts commands [] agree_nothing)
