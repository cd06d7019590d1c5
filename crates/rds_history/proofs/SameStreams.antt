-- Both ends of a connection have the same stream open, or none.
use Rattle.std.proofs.Common.{◌≡◌, ◌⊎◌, inl, inr, ⊎_elim, ℕ, suc, ◌==◌, ◌&&◌, true, false, Option, Some, None, Ok, List, [], ◌∷◌, refl, sym, ◌∙◌, ap, subst}
use Rattle.std.proofs.lemmas.Bool.{cases_Bool, cases_eq, cond-true, cond-false, cond_both, eqb-true, and_cases, and_left, and_right, and_parts, and_from, eq-eqb}
use Rattle.std.proofs.lemmas.Option.{none-some}
use Rattle.std.specs.Option.{option_map_or}
use Rattle.rds_model.specs.declared.entry.Entry.{Entry}
use Rattle.rds_model.specs.declared.entry.Entry.TheVariants.{Accept, Cancel, Open, Pull, Read, Shut, Bad}
use Rattle.rds_model.specs.Past.{open_stream, newest_stream}
use Rattle.rds_script.specs.declared.script.Placed.{Placed}
use Rattle.rds_history.specs.Events.{Event, Appended}
use Rattle.rds_history.specs.Courses.{appends}
use Rattle.rds_history.specs.Journals.{journal}
use Rattle.rds_history.specs.Open.{open_both, open_one, shut_if_open}
use Rattle.rds_history.specs.History.{history}
use Rattle.rds_history.proofs.EventInvariants.{Holds, holds_weaker, holds_then, holds_appends, IsKept, IsQuiet, keeps_history}

-- two journals of one connection have the same streams
pub record HaveSame (a b : List Entry) : Type 0 where
  pub now : open_stream a ≡ open_stream b
  pub newest : newest_stream a ≡ newest_stream b

abbrev pub SameStreams : List Event → Type 0
SameStreams past = (h k : ℕ) → HaveSame (journal h k past) (journal k h past)

quiet_newest : (e : Entry) → IsQuiet e → (j : List Entry) → newest_stream (e ∷ j) ≡ newest_stream j
quiet_newest (Accept slot sport dport payload) quiet j = refl
quiet_newest (Cancel slot target) quiet j = refl
quiet_newest (Open stream) quiet j = absurd (none-some stream (sym (quiet [])))
quiet_newest (Pull stream frame) quiet j = refl
quiet_newest (Read stream frame outcome) quiet j = refl
quiet_newest (Shut stream) quiet j = refl
quiet_newest (Bad stream header cause) quiet j = refl

same_then : (a b c d : List Entry) → HaveSame a b → open_stream c ≡ open_stream a → newest_stream c ≡ newest_stream a → open_stream d ≡ open_stream b →
    newest_stream d ≡ newest_stream b → HaveSame c d
same_then a b c d same one two three four = record { now = one ∙ same.now ∙ sym three; newest = two ∙ same.newest ∙ sym four }

same_entry : (h k : ℕ) (e : Entry) (past : List Event) → IsQuiet e → SameStreams past → SameStreams (Appended h k e ∷ past)
same_entry h k e past quiet p a b =
    same_then (journal a b past) (journal b a past) (journal a b (Appended h k e ∷ past)) (journal b a (Appended h k e ∷ past)) (p a b) (now a b) (newest a b)
    (now b a) (newest b a)
  where
    now : (a b : ℕ) → open_stream (journal a b (Appended h k e ∷ past)) ≡ open_stream (journal a b past)
    now a b = cond_both (h == a && (k == b)) (e ∷ journal a b past) (journal a b past) (λ j. open_stream j ≡ open_stream (journal a b past))
        (λ own. quiet (journal a b past)) (λ other. refl)

    newest : (a b : ℕ) → newest_stream (journal a b (Appended h k e ∷ past)) ≡ newest_stream (journal a b past)
    newest a b = cond_both (h == a && (k == b)) (e ∷ journal a b past) (journal a b past) (λ j. newest_stream j ≡ newest_stream (journal a b past))
        (λ own. quiet_newest e quiet (journal a b past)) (λ other. refl)

pub journal_own : (h k a b : ℕ) (e : Entry) (past : List Event) → (h == a && (k == b)) ≡ true → journal a b (Appended h k e ∷ past) ≡ e ∷ journal a b past
journal_own h k a b e past own = cond-true (h == a && (k == b)) (e ∷ journal a b past) (journal a b past) own

journal_other : (h k a b : ℕ) (e : Entry) (past : List Event) → (h == a && (k == b)) ≡ false → journal a b (Appended h k e ∷ past) ≡ journal a b past
journal_other h k a b e past other = cond-false (h == a && (k == b)) (e ∷ journal a b past) (journal a b past) other

swapped : (x y a b : ℕ) → (x == a && (y == b)) ≡ false → (y == b && (x == a)) ≡ false
swapped x y a b is = ⊎_elim (λ e. and_right (y == b) (x == a) e) (λ e. and_left (y == b) (x == a) e) (and_cases (x == a) (y == b) is)

turned_round : (x y a b : ℕ) → (x == a && (y == b)) ≡ true → (y == b && (x == a)) ≡ true
turned_round x y a b is = let both = and_parts (x == a) (y == b) is in and_from (y == b) (x == a) both.1 both.0

-- where a and b differ, an entry of one of them is none of the other
apart : (h k a b : ℕ) → (a ≡ b → ⊥) → (h == a && (k == b)) ≡ true → (h == b && (k == a)) ≡ false
apart h k a b differ is = ⊎_elim (λ both. absurd (go both)) (λ isnt. isnt) (cases_Bool (h == b && (k == a)))
  where
    go : (h == b && (k == a)) ≡ true → ⊥
    go both =
        let one = and_parts (h == a) (k == b) is in
        let two = and_parts (h == b) (k == a) both in
        differ (sym (eqb-true h a one.0) ∙ eqb-true h b two.0)

same_sym : (a b : List Entry) → HaveSame a b → HaveSame b a
same_sym a b same = record { now = sym same.now; newest = sym same.newest }

-- both ends open a stream
module _ (h k : ℕ) (past : List Event) (p : SameStreams past) where
  abbrev first : List Event
  first = Appended h k (Open (suc (newest_stream (journal h k past)))) ∷ past

  abbrev last : List Event
  last = Appended k h (Open (suc (newest_stream (journal k h first)))) ∷ first

  both_open : (a b : ℕ) → (a ≡ b → ⊥) → (h == a && (k == b)) ≡ true → HaveSame (journal a b last) (journal b a last)
  both_open a b differ own =
      let parts = and_parts (h == a) (k == b) own in
      let elsewhere : (h == b && (k == a)) ≡ false = apart h k a b differ own in
      let mine : journal a b last ≡ Open (suc (newest_stream (journal h k past))) ∷ journal a b past =
      journal_other k h a b (Open (suc (newest_stream (journal k h first)))) first (swapped h k b a elsewhere)
      ∙ journal_own h k a b (Open (suc (newest_stream (journal h k past)))) past own in
      let other : journal b a last ≡ Open (suc (newest_stream (journal k h first))) ∷ journal b a first =
      journal_own k h b a (Open (suc (newest_stream (journal k h first)))) first (turned_round h k a b own) in
      let before : journal k h first ≡ journal k h past =
      ap (λ i. journal i h first) (eqb-true k b parts.1) ∙ ap (λ i. journal b i first) (eqb-true h a parts.0)
      ∙ journal_other h k b a (Open (suc (newest_stream (journal h k past)))) past elsewhere
      ∙ ap (λ i. journal b i past) (sym (eqb-true h a parts.0)) ∙ ap (λ i. journal i h past) (sym (eqb-true k b parts.1)) in
      let same : newest_stream (journal h k past) ≡ newest_stream (journal k h first) = (p h k).newest ∙ ap newest_stream (sym before) in
      record {
        now = ap open_stream mine ∙ ap (λ n. Some (suc n)) same ∙ sym (ap open_stream other);
        newest = ap newest_stream mine ∙ ap (λ n. suc n) same ∙ sym (ap newest_stream other);
      }

  neither_open : (a b : ℕ) → (h == a && (k == b)) ≡ false → (h == b && (k == a)) ≡ false → HaveSame (journal a b last) (journal b a last)
  neither_open a b not_here not_there =
      let mine : journal a b last ≡ journal a b past =
      journal_other k h a b (Open (suc (newest_stream (journal k h first)))) first (swapped h k b a not_there)
      ∙ journal_other h k a b (Open (suc (newest_stream (journal h k past)))) past not_here in
      let other : journal b a last ≡ journal b a past =
      journal_other k h b a (Open (suc (newest_stream (journal k h first)))) first (swapped h k a b not_here)
      ∙ journal_other h k b a (Open (suc (newest_stream (journal h k past)))) past not_there in
      same_then (journal a b past) (journal b a past) (journal a b last) (journal b a last) (p a b) (ap open_stream mine) (ap newest_stream mine)
      (ap open_stream other) (ap newest_stream other)

  same_opened : SameStreams last
  same_opened a b = go (cases_eq a b) (cases_Bool (h == a && (k == b))) (cases_Bool (h == b && (k == a)))
    where
      go : (a ≡ b) ⊎ (a ≡ b → ⊥) → ((h == a && (k == b)) ≡ true) ⊎ ((h == a && (k == b)) ≡ false) → ((h == b && (k == a)) ≡ true) ⊎ ((h == b && (k == a)) ≡ false) →
          HaveSame (journal a b last) (journal b a last)
      go (inl one) is or = record {
        now = ap (λ i. open_stream (journal i b last)) one ∙ ap (λ i. open_stream (journal b i last)) (sym one);
        newest = ap (λ i. newest_stream (journal i b last)) one ∙ ap (λ i. newest_stream (journal b i last)) (sym one);
      }
      go (inr differ) (inl own) or = both_open a b differ own
      go (inr differ) (inr not_here) (inl own) = same_sym (journal b a last) (journal a b last) (both_open b a (λ e. differ (sym e)) own)
      go (inr differ) (inr not_here) (inr not_there) = neither_open a b not_here not_there

same_open_both : (limit h k : ℕ) (past : List Event) → SameStreams past → Holds SameStreams (open_both limit h k past)
same_open_both limit h k past p =
    holds_then (λ mid. mid ≡ first h k past p) SameStreams (open_one limit h k past) (open_one limit k h)
    (holds_appends (λ before. before ≡ past) (λ mid. mid ≡ first h k past p) limit h k (Open (suc (newest_stream (journal h k past)))) past refl
    (λ before is. ap (λ (l : List Event). Appended h k (Open (suc (newest_stream (journal h k past)))) ∷ l) is))
    (λ mid is. holds_appends (λ before. before ≡ mid) SameStreams limit k h (Open (suc (newest_stream (journal k h mid)))) mid refl
    (λ before same. subst (λ (l : List Event). SameStreams (Appended k h (Open (suc (newest_stream (journal k h mid)))) ∷ l)) (sym same)
    (subst (λ (l : List Event). SameStreams (Appended k h (Open (suc (newest_stream (journal k h l)))) ∷ l)) (sym is) (same_opened h k past p))))

-- h has no stream to k, and nothing else changed
record IsShut (h k : ℕ) (past later : List Event) : Type 0 where
  none : open_stream (journal h k later) ≡ None
  others : (a b : ℕ) → (h == a && (k == b)) ≡ false → open_stream (journal a b later) ≡ open_stream (journal a b past)
  newest : (a b : ℕ) → newest_stream (journal a b later) ≡ newest_stream (journal a b past)

pub here : (h k : ℕ) → (h == h && (k == k)) ≡ true
here h k = and_from (h == h) (k == k) (eq-eqb h h refl) (eq-eqb k k refl)

holds_shut : (limit h k : ℕ) (past : List Event) → Holds (IsShut h k past) (shut_if_open limit h k past)
holds_shut limit h k past = go (open_stream (journal h k past)) refl
  where
    entered : (stream : ℕ) → IsShut h k past (Appended h k (Shut stream) ∷ past)
    entered stream = record {
      none = ap open_stream (journal_own h k h k (Shut stream) past (here h k));
      others = λ a b other. ap open_stream (journal_other h k a b (Shut stream) past other);
      newest = λ a b. cond_both (h == a && (k == b)) (Shut stream ∷ journal a b past) (journal a b past) (λ j. newest_stream j ≡ newest_stream (journal a b past))
          (λ own. refl) (λ other. refl);
    }

    go : (o : Option ℕ) → open_stream (journal h k past) ≡ o → Holds (IsShut h k past) (option_map_or (λ stream. appends limit h k (Shut stream) past) o (Ok past))
    go None is = record { none = is; others = λ a b other. refl; newest = λ a b. refl }
    go (Some stream) is = holds_appends (λ before. before ≡ past) (IsShut h k past) limit h k (Shut stream) past refl
        (λ before same. subst (λ (l : List Event). IsShut h k past (Appended h k (Shut stream) ∷ l)) (sym same) (entered stream))

same_shut : (h k : ℕ) (past mid done : List Event) → SameStreams past → IsShut h k past mid → IsShut k h mid done → SameStreams done
same_shut h k past mid done p one two a b = record {
  now = go (cases_eq a b) (cases_Bool (h == a && (k == b))) (cases_Bool (h == b && (k == a)));
  newest = two.newest a b ∙ one.newest a b ∙ (p a b).newest ∙ sym (one.newest b a) ∙ sym (two.newest b a);
}
  where
    both_none : (a b : ℕ) → (a ≡ b → ⊥) → (h == a && (k == b)) ≡ true → open_stream (journal a b done) ≡ open_stream (journal b a done)
    both_none a b differ own =
        let parts = and_parts (h == a) (k == b) own in
        let mine : open_stream (journal a b done) ≡ None =
        two.others a b (swapped h k b a (apart h k a b differ own))
        ∙ ap (λ i. open_stream (journal i b mid)) (sym (eqb-true h a parts.0)) ∙ ap (λ i. open_stream (journal h i mid)) (sym (eqb-true k b parts.1)) ∙ one.none in
        let other : open_stream (journal b a done) ≡ None =
        ap (λ i. open_stream (journal i a done)) (sym (eqb-true k b parts.1)) ∙ ap (λ i. open_stream (journal k i done)) (sym (eqb-true h a parts.0)) ∙ two.none in
        mine ∙ sym other

    go : (a ≡ b) ⊎ (a ≡ b → ⊥) → ((h == a && (k == b)) ≡ true) ⊎ ((h == a && (k == b)) ≡ false) → ((h == b && (k == a)) ≡ true) ⊎ ((h == b && (k == a)) ≡ false) →
        open_stream (journal a b done) ≡ open_stream (journal b a done)
    go (inl same) is or = ap (λ i. open_stream (journal i b done)) same ∙ ap (λ i. open_stream (journal b i done)) (sym same)
    go (inr differ) (inl own) or = both_none a b differ own
    go (inr differ) (inr not_here) (inl own) = sym (both_none b a (λ e. differ (sym e)) own)
    go (inr differ) (inr not_here) (inr not_there) =
        two.others a b (swapped h k b a not_there) ∙ one.others a b not_here ∙ (p a b).now ∙ sym (one.others b a not_there) ∙ sym (two.others b a (swapped h k a b not_here))

pub same_streams_are_kept : IsKept SameStreams
same_streams_are_kept = record {
  printed = λ line past p a b. p a b;
  bound = λ h port slot sndbuf rcvbuf past p a b. p a b;
  closed = λ h port slot unread past p a b. p a b;
  marked = λ h port set bytes most past p a b. p a b;
  moved = λ h k count past p a b. p a b;
  received = λ h port slot d waiting past is p a b. p a b;
  appended = same_entry;
  opened = same_open_both;
  shut = λ limit h k past p. holds_then (IsShut h k past) SameStreams (shut_if_open limit h k past) (shut_if_open limit k h) (holds_shut limit h k past)
      (λ mid one. holds_weaker (IsShut k h mid) SameStreams (shut_if_open limit k h mid) (holds_shut limit k h mid)
      (λ last two. same_shut h k past mid last p one two));
}

-- after all commands of a script
pub same_history : (limit hosts : ℕ) (commands : List Placed) (past : List Event) → history limit hosts commands [] ≡ Ok past → SameStreams past
same_history limit hosts commands past is =
    subst (Holds SameStreams) is (keeps_history SameStreams same_streams_are_kept limit hosts commands [] (λ a b. record { now = refl; newest = refl }))
