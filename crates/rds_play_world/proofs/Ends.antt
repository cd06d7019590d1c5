-- What the end of a host tells after an event.
use Rattle.std.proofs.Common.{◌≡◌, ◌≢◌, ⊎_elim, ℕ, zero, suc, ◌<◌, ◌≤◌, ◌==◌, Option, Some, None, List, [], ◌∷◌, ◌++◌, length, drop, refl, sym, ◌∙◌, ap, subst, arith}
use Rattle.std.specs.Option.{option_map_or}
use Rattle.std.specs.List.{flat_map}
use Rattle.std.proofs.lemmas.Bool.{cases_eq, cond-false, ne_eqb}
use Rattle.rds_wire.specs.declared.frame.Frame.{Frame}
use Rattle.rds_wire.specs.Bytes.{frame_bytes}
use Rattle.rds_model.specs.declared.entry.Entry.{Entry}
use Rattle.rds_model.specs.declared.entry.Entry.TheVariants.{Accept, Cancel, Open, Pull, Read, Shut, Bad}
use Rattle.rds_model.specs.Past.{now, newest_stream, open_stream}
use Rattle.rds_model.specs.Legal.{IsLegal}
use Rattle.rds_model.specs.Streams.{pulled_frames, written_bytes}
use Rattle.rds_model.specs.LegalityLaws.{lawful_open, lawful_pull, open_is_newest}
use Rattle.rds_play_pair.specs.Ends.{JointEnd}
use Rattle.rds_play_mesh.specs.Ends.{ChangesPair, IsOtherPair, MeshView, end_at}
use Rattle.rds_history.specs.Events.{Event, Appended}
use Rattle.rds_history.specs.Journals.{journal, moved_count, in_flight, written_to_open}
use Rattle.rds_play_world.specs.Telling.{EndsTell, TellsEnd, Waiting}
use Rattle.rds_play_world.proofs.Journaling.{journal_here, journal_there, moved_opened, moved_there}

-- nothing happened at the end of host a that faces b
pub record IsStill (a b : ℕ) (past later : List Event) : Type 0 where
  pub journal_same : journal a b later ≡ journal a b past
  pub moved_same : moved_count a b later ≡ moved_count a b past

pub end_still : (limit a b : ℕ) (w : Option Frame) (past later : List Event) (e : JointEnd) → IsStill a b past later → TellsEnd limit a b w past e → TellsEnd limit a b w later e
end_still limit a b w past later e still t = record {
  slots_are = t.slots_are;
  journal_is = t.journal_is ∙ sym still.journal_same;
  limit_is = t.limit_is;
  waiting_is = t.waiting_is;
  flying_is = t.flying_is ∙ cc (still.journal_same, still.moved_same);
  within = λ stream on.
      let was = t.within stream (ap open_stream (sym still.journal_same) ∙ on) in
      subst (λ (n : ℕ). n ≤ length (written_bytes stream (journal a b later))) (sym still.moved_same)
      (subst (λ (j : List Entry). moved_count a b past ≤ length (written_bytes stream j)) (sym still.journal_same) was);
}

pub still_then : (a b : ℕ) (past then_ later : List Event) → IsStill a b past then_ → IsStill a b then_ later → IsStill a b past later
still_then a b past then_ later first second = record {
  journal_same = second.journal_same ∙ first.journal_same;
  moved_same = second.moved_same ∙ first.moved_same;
}

pub appended_elsewhere : (h k a b : ℕ) (e : Entry) (past : List Event) → (a ≡ h → b ≡ k → ⊥) → IsStill a b past (Appended h k e ∷ past)
appended_elsewhere h k a b e past apart = record { journal_same = journal_there h k a b e past apart; moved_same = moved_there h k a b e past apart }

-- the ends of one pair were changed, and nothing happened at the others
pub ends_changed : (limit hosts h k : ℕ) (v w : Waiting) (past later : List Event) (here there : JointEnd) (old new : MeshView) →
    old.count ≡ hosts → k ≢ h → EndsTell limit hosts v past old → ChangesPair h k here there old new →
    TellsEnd limit h k (w h k) later here → TellsEnd limit k h (w k h) later there →
    ((a b : ℕ) → IsOtherPair h k a b hosts → IsStill a b past later) → ((a b : ℕ) → IsOtherPair h k a b hosts → w a b ≡ v a b) →
    EndsTell limit hosts w later new
ends_changed limit hosts h k v w past later here there old new count apart told changed here_told there_told still same = λ a b a_in b_in ab.
    ⊎_elim
    (λ (e : a ≡ h). ⊎_elim
    (λ (f : b ≡ k).
    subst (λ i. TellsEnd limit i b (w i b) later (end_at i b new)) (sym e)
    (subst (λ j. TellsEnd limit h j (w h j) later (end_at h j new)) (sym f)
    (subst (TellsEnd limit h k (w h k) later) (sym changed.here_is) here_told)))
    (λ (ne : b ≡ k → ⊥). other a b (record { first = a_in; second = b_in; apart = ab; not_forth = λ _ f. ne f; not_back = λ x y. ab (y ∙ sym e) }))
    (cases_eq b k))
    (λ (ne : a ≡ h → ⊥). ⊎_elim
    (λ (f : a ≡ k). ⊎_elim
    (λ (g : b ≡ h).
    subst (λ i. TellsEnd limit i b (w i b) later (end_at i b new)) (sym f)
    (subst (λ j. TellsEnd limit k j (w k j) later (end_at k j new)) (sym g)
    (subst (TellsEnd limit k h (w k h) later) (sym changed.there_is) there_told)))
    (λ (ng : b ≡ h → ⊥). other a b (record { first = a_in; second = b_in; apart = ab; not_forth = λ x _. ne x; not_back = λ _ y. ng y }))
    (cases_eq b h))
    (λ (nf : a ≡ k → ⊥). other a b (record { first = a_in; second = b_in; apart = ab; not_forth = λ x _. ne x; not_back = λ x _. nf x }))
    (cases_eq a k))
    (cases_eq a h)
  where
    other : (a b : ℕ) → IsOtherPair h k a b hosts → TellsEnd limit a b (w a b) later (end_at a b new)
    other a b o =
        let in_old : IsOtherPair h k a b old.count = subst (IsOtherPair h k a b) (sym count) o in
        subst (TellsEnd limit a b (w a b) later) (sym (changed.others_same a b in_old))
        (subst (λ f. TellsEnd limit a b f later (end_at a b old)) (sym (same a b o))
        (end_still limit a b (v a b) past later (end_at a b old) (still a b o) (told a b o.first o.second o.apart)))

-- an entry that opens no stream and writes nothing to one
abbrev pub WritesNothing : Entry → Type 0
WritesNothing e = (j : List Entry) → written_to_open (e ∷ j) ≡ written_to_open j

-- the end after an entry which leaves its stream and what was written there
pub end_quiet : (limit h k : ℕ) (v w : Option Frame) (e : Entry) (past : List Event) (old new : JointEnd) →
    ((j : List Entry) → open_stream (e ∷ j) ≡ open_stream j) → ((s : ℕ) (j : List Entry) → written_bytes s (e ∷ j) ≡ written_bytes s j) →
    moved_count h k (Appended h k e ∷ past) ≡ moved_count h k past →
    TellsEnd limit h k v past old → new ≡ record old { past = e ∷ old.past; waiting = w } → TellsEnd limit h k w (Appended h k e ∷ past) new
end_quiet limit h k v w e past old new stays writes moved t is =
    subst (TellsEnd limit h k w (Appended h k e ∷ past)) (sym is) (record {
      slots_are = t.slots_are;
      journal_is = ap (λ (j : List Entry). e ∷ j) t.journal_is ∙ sym here;
      limit_is = t.limit_is;
      waiting_is = refl;
      flying_is = t.flying_is ∙ sym flight;
      within = λ s on.
          let was = t.within s (sym (ap open_stream here ∙ stays (journal h k past)) ∙ on) in
          let bytes : written_bytes s (journal h k (Appended h k e ∷ past)) ≡ written_bytes s (journal h k past) = ap (written_bytes s) here ∙ writes s (journal h k past) in
          subst (λ (n : ℕ). n ≤ length (written_bytes s (journal h k (Appended h k e ∷ past)))) (sym moved)
          (subst (λ (b : List ℕ). moved_count h k past ≤ length b) (sym bytes) was);
    })
  where
    here : journal h k (Appended h k e ∷ past) ≡ e ∷ journal h k past
    here = journal_here h k e past

    to_open : (j : List Entry) → written_to_open (e ∷ j) ≡ written_to_open j
    to_open j = go (open_stream (e ∷ j)) (open_stream j) (stays j)
      where
        go : (a b : Option ℕ) → a ≡ b → option_map_or (λ s. written_bytes s (e ∷ j)) a [] ≡ option_map_or (λ s. written_bytes s j) b []
        go None None same = refl
        go (Some s) (Some t) same = writes s j ∙ ap (λ i. written_bytes i j) (let e : s ≡ t = cc in e)
        go None (Some t) same = cc
        go (Some s) None same = cc

    flight : in_flight h k (Appended h k e ∷ past) ≡ in_flight h k past
    flight = ap (λ n. drop n (written_to_open (journal h k (Appended h k e ∷ past)))) moved
        ∙ ap (λ (j : List Entry). drop (moved_count h k past) (written_to_open j)) here ∙ ap (drop (moved_count h k past)) (to_open (journal h k past))

drop_none : (n : ℕ) → drop {A = ℕ} n [] ≡ []
drop_none zero = refl
drop_none (suc n) = refl

-- no stream, no bytes
pub out_closed : (h k : ℕ) (past : List Event) → open_stream (journal h k past) ≡ None → in_flight h k past ≡ []
out_closed h k past closed =
    ap (λ (o : Option ℕ). drop (moved_count h k past) (option_map_or (λ stream. written_bytes stream (journal h k past)) o [])) closed ∙ drop_none (moved_count h k past)

-- nothing was pulled on a stream above all others
pub none_pulled : (past : List Entry) → IsLegal past → (k : ℕ) → newest_stream past < k → pulled_frames k past ≡ []
none_pulled [] legal k above = refl
none_pulled (Open stream ∷ past) legal k above = none_pulled past legal.1 k (omega (arith, (lawful_open stream past legal).1))
none_pulled (Pull stream f ∷ past) legal k above =
    let on = open_is_newest past legal.1 stream (lawful_pull stream f legal now).on in
    cond-false (stream == k) (pulled_frames k past ++ f ∷ []) (pulled_frames k past) (ne_eqb stream k (λ e. omega (arith, on, e))) ∙ none_pulled past legal.1 k above
none_pulled (Accept slot sport dport payload ∷ past) legal k above = none_pulled past legal.1 k above
none_pulled (Cancel slot target ∷ past) legal k above = none_pulled past legal.1 k above
none_pulled (Read stream f o ∷ past) legal k above = none_pulled past legal.1 k above
none_pulled (Shut stream ∷ past) legal k above = none_pulled past legal.1 k above
none_pulled (Bad stream h found ∷ past) legal k above = none_pulled past legal.1 k above

-- the end after its next stream was opened
pub end_opened : (limit h k stream : ℕ) (w : Option Frame) (past : List Event) (old new : JointEnd) → IsLegal (journal h k past) →
    newest_stream (journal h k past) < stream → open_stream (journal h k past) ≡ None →
    TellsEnd limit h k w past old → new ≡ record old { past = Open stream ∷ old.past } → TellsEnd limit h k w (Appended h k (Open stream) ∷ past) new
end_opened limit h k stream w past old new legal newer closed t is =
    subst (TellsEnd limit h k w (Appended h k (Open stream) ∷ past)) (sym is) (record {
      slots_are = t.slots_are;
      journal_is = ap (λ (j : List Entry). Open stream ∷ j) t.journal_is ∙ sym here;
      limit_is = t.limit_is;
      waiting_is = t.waiting_is;
      flying_is = t.flying_is ∙ out_closed h k past closed ∙ sym flight;
      within = λ s on. let z = moved_opened h k stream past in omega (arith, z);
    })
  where
    here : journal h k (Appended h k (Open stream) ∷ past) ≡ Open stream ∷ journal h k past
    here = journal_here h k (Open stream) past

    flight : in_flight h k (Appended h k (Open stream) ∷ past) ≡ []
    flight =
        ap (λ (x : List Entry). drop (moved_count h k (Appended h k (Open stream) ∷ past)) (written_to_open x)) here
        ∙ ap (λ (fs : List Frame). drop (moved_count h k (Appended h k (Open stream) ∷ past)) (flat_map frame_bytes fs)) (none_pulled (journal h k past) legal stream newer)
        ∙ drop_none (moved_count h k (Appended h k (Open stream) ∷ past))

-- the end after its stream was shut
pub end_shut : (limit h k stream : ℕ) (w : Option Frame) (past : List Event) (old new : JointEnd) → TellsEnd limit h k w past old →
    new ≡ record old { past = Shut stream ∷ old.past; waiting = None; flying = [] } → TellsEnd limit h k None (Appended h k (Shut stream) ∷ past) new
end_shut limit h k stream w past old new t is =
    let here = journal_here h k (Shut stream) past in
    let closed : open_stream (journal h k (Appended h k (Shut stream) ∷ past)) ≡ None = ap open_stream here in
    subst (TellsEnd limit h k None (Appended h k (Shut stream) ∷ past)) (sym is) (record {
      slots_are = t.slots_are;
      journal_is = ap (λ (j : List Entry). Shut stream ∷ j) t.journal_is ∙ sym here;
      limit_is = t.limit_is;
      waiting_is = refl;
      flying_is = sym (out_closed h k (Appended h k (Shut stream) ∷ past) closed);
      within = λ s on. let no : None ≡ Some s = sym closed ∙ on in cc;
    })
