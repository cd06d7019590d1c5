-- Two entries, one in each of two journals, for which both have to have room.
use Rattle.std.proofs.Common.{◌≡◌, ◌≢◌, ℕ, suc, ◌+◌, Bool, true, false, cond, Option, Some, Ok, Err, List, ◌∷◌, length, refl, ◌∙◌, ap}
use Rattle.std.specs.Prelude.{nat_lt}
use Rattle.std.specs.Option.{option_map_or}
use Rattle.rds_model.specs.declared.entry.Entry.{Entry}
use Rattle.rds_model.specs.declared.entry.Entry.TheVariants.{Open, Shut}
use Rattle.rds_model.specs.Past.{newest_stream, open_stream}
use Rattle.rds_history.specs.Courses.{Course, and_then, appends, if_room}
use Rattle.rds_history.specs.Events.{Event, Appended}
use Rattle.rds_history.specs.Journals.{journal}
use Rattle.rds_history.specs.Open.{open_both, shut_if_open}
use Rattle.rds_play_world.specs.Happening.{both_opened, both_shut, shut_both}
use Rattle.rds_play_world.proofs.Journaling.{journal_there}

-- both journals have room, and then this happens
abbrev pub if_both : (limit h k : ℕ) → (List Event → List Event) → List Event → Course
if_both limit h k next past = and_then (if_room limit h k past) (λ before. and_then (if_room limit k h before) (λ last. Ok (next last)))

-- where there is room, nothing has changed
pub room_same : (limit h k : ℕ) (past later : List Event) → if_room limit h k past ≡ Ok later → later ≡ past
room_same limit h k past later is = go (nat_lt limit (length (journal h k past) + 2)) is
  where
    go : (b : Bool) → cond {A = Course} b (Err (record { host = h; peer = k; entries = length (journal h k past) })) (Ok past) ≡ Ok later → later ≡ past
    go true e = cc
    go false e = cc

two_entries : (limit h k : ℕ) (past : List Event) (e : Entry) (f : List Event → Entry) → k ≢ h →
    and_then (appends limit h k e past) (λ later. appends limit k h (f later) later)
    ≡ if_both limit h k (λ last. Appended k h (f (Appended h k e ∷ last)) ∷ Appended h k e ∷ last) past
two_entries limit h k past e f apart = go (nat_lt limit (length (journal h k past) + 2))
  where
    later : List Event
    later = Appended h k e ∷ past

    there : journal k h later ≡ journal k h past
    there = journal_there h k k h e past (λ x y. apart x)

    second : (b : Bool) (j l : List Entry) → l ≡ j →
        and_then (cond {A = Course} b (Err (record { host = k; peer = h; entries = length l })) (Ok later)) (λ before. Ok (Appended k h (f later) ∷ before))
        ≡ and_then (cond {A = Course} b (Err (record { host = k; peer = h; entries = length j })) (Ok past)) (λ last. Ok (Appended k h (f (Appended h k e ∷ last)) ∷ Appended h k e ∷ last))
    second true j l same = ap (λ (i : List Entry). Err (record { host = k; peer = h; entries = length i })) same
    second false j l same = refl

    go : (b : Bool) →
        and_then (and_then (cond {A = Course} b (Err (record { host = h; peer = k; entries = length (journal h k past) })) (Ok past)) (λ before. Ok (Appended h k e ∷ before)))
        (λ later. appends limit k h (f later) later)
        ≡ and_then (cond {A = Course} b (Err (record { host = h; peer = k; entries = length (journal h k past) })) (Ok past))
        (λ before. and_then (if_room limit k h before) (λ last. Ok (Appended k h (f (Appended h k e ∷ last)) ∷ Appended h k e ∷ last)))
    go true = refl
    go false =
        ap (λ (b : Bool). and_then (cond {A = Course} b (Err (record { host = k; peer = h; entries = length (journal k h later) })) (Ok later)) (λ before. Ok (Appended k h (f later) ∷ before)))
        (ap (λ (j : List Entry). nat_lt limit (length j + 2)) there)
        ∙ second (nat_lt limit (length (journal k h past) + 2)) (journal k h past) (journal k h later) there

pub open_both_is : (limit h k : ℕ) (past : List Event) → k ≢ h → open_both limit h k past ≡ if_both limit h k (both_opened h k) past
open_both_is limit h k past apart =
    two_entries limit h k past (Open (suc (newest_stream (journal h k past)))) (λ later. Open (suc (newest_stream (journal k h later)))) apart
    ∙ same
  where
    first : List Event → Entry
    first p = Open (suc (newest_stream (journal h k p)))

    same : if_both limit h k (λ last. Appended k h (Open (suc (newest_stream (journal k h (Appended h k (first past) ∷ last))))) ∷ Appended h k (first past) ∷ last) past
        ≡ if_both limit h k (both_opened h k) past
    same = go (nat_lt limit (length (journal h k past) + 2)) (nat_lt limit (length (journal k h past) + 2))
      where
        go : (a b : Bool) →
            and_then (cond {A = Course} a (Err (record { host = h; peer = k; entries = length (journal h k past) })) (Ok past)) (λ before. and_then (if_room limit k h before)
            (λ last. Ok (Appended k h (Open (suc (newest_stream (journal k h (Appended h k (first past) ∷ last))))) ∷ Appended h k (first past) ∷ last)))
            ≡ and_then (cond {A = Course} a (Err (record { host = h; peer = k; entries = length (journal h k past) })) (Ok past)) (λ before. and_then (if_room limit k h before) (λ last. Ok (both_opened h k last)))
        go true b = refl
        go false b = inner (nat_lt limit (length (journal k h past) + 2))
          where
            inner : (b : Bool) →
                and_then (cond {A = Course} b (Err (record { host = k; peer = h; entries = length (journal k h past) })) (Ok past))
                (λ last. Ok (Appended k h (Open (suc (newest_stream (journal k h (Appended h k (first past) ∷ last))))) ∷ Appended h k (first past) ∷ last))
                ≡ and_then (cond {A = Course} b (Err (record { host = k; peer = h; entries = length (journal k h past) })) (Ok past)) (λ last. Ok (both_opened h k last))
            inner true = refl
            inner false = refl

pub shut_both_is : (limit h k s : ℕ) (past : List Event) → k ≢ h → open_stream (journal h k past) ≡ Some s → open_stream (journal k h past) ≡ Some s →
    shut_both limit h k past ≡ if_both limit h k (both_shut h k s) past
shut_both_is limit h k s past apart on there =
    ap (λ (o : Option ℕ). and_then (option_map_or (λ stream. appends limit h k (Shut stream) past) o (Ok past)) (shut_if_open limit k h)) on
    ∙ go (nat_lt limit (length (journal h k past) + 2)) ∙ two_entries limit h k past (Shut s) (λ later. Shut s) apart
  where
    later : List Event
    later = Appended h k (Shut s) ∷ past

    on_later : open_stream (journal k h later) ≡ Some s
    on_later = ap open_stream (journal_there h k k h (Shut s) past (λ x y. apart x)) ∙ there

    go : (b : Bool) →
        and_then (and_then (cond {A = Course} b (Err (record { host = h; peer = k; entries = length (journal h k past) })) (Ok past)) (λ before. Ok (Appended h k (Shut s) ∷ before))) (shut_if_open limit k h)
        ≡ and_then (and_then (cond {A = Course} b (Err (record { host = h; peer = k; entries = length (journal h k past) })) (Ok past)) (λ before. Ok (Appended h k (Shut s) ∷ before)))
        (λ p. appends limit k h (Shut s) p)
    go true = refl
    go false = ap (λ (o : Option ℕ). option_map_or (λ stream. appends limit k h (Shut stream) later) o (Ok later)) on_later
