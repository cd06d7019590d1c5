-- A datagram is followed on its stream by a frame that asks for an acknowledgement, and a frame that asks by an answer, where
-- nothing more is owed.
use Rattle.std.proofs.Common.{◌≡◌, inl, inr, ℕ, ◌==◌, ◌&&◌, ◌||◌, not, true, false, List, ◌∷◌, refl, sym, ◌∙◌, ap, subst}
use Rattle.std.proofs.lemmas.Bool.{cases_Bool, and_from, and_cases, or_parts, or_left, eqb-true, eq-eqb, cond-true, cond-false, both_ways, not-false}
use Rattle.rds_wire.specs.declared.frame.Frame.{Frame}
use Rattle.rds_wire.specs.Kinds.{kind_of}
use Rattle.rds_model.specs.declared.entry.Entry.{Entry}
use Rattle.rds_model.specs.declared.entry.Entry.TheVariants.{Pull, Read}
use Rattle.rds_model.specs.declared.entry.Outcome.{Outcome}
use Rattle.rds_model.specs.Past.{Moment, now, before, is_datagram}
use Rattle.rds_model.specs.Owed.{asks, answers_kind, wants_answer, is_asked, must_ask}
use Rattle.rds_model.specs.Legal.{IsLegal, IsLawfulPull}
use Rattle.rds_model.specs.LegalityLaws.{lawful_pull}
use Rattle.rds_model.specs.FrameLaws.{map_asks_not, kind_of_data_pull, kind_of_ack_pull}

-- a pulled frame that asks wants an answer, since no map asks
pub asking_wants : (s : ℕ) (past : List Entry) (f : Frame) → IsLawfulPull s past f → asks f ≡ true → wants_answer f ≡ true
asking_wants s past f lawful asking =
    elim lawful.owed [
      | inl pull ↦ absurd (both_ways _ (ap asks pull.is ∙ map_asks_not past f.payload) asking)
      | inr (inl pull) ↦ and_from (asks f) (answers_kind (kind_of f.header)) asking (ap answers_kind (kind_of_data_pull s past f pull))
      | inr (inr pull) ↦ and_from (asks f) (answers_kind (kind_of f.header)) asking (ap answers_kind (kind_of_ack_pull s past f pull))
    ]

-- a frame that asks, pulled on the stream after a frame or that one itself
pub record AskedSince (s : ℕ) (f : Frame) (sender j : List Entry) : Type 0 where
  pub asking : Frame
  pub past : List Entry
  pub at : Moment (Pull s asking ∷ past) j
  pub since : Moment (Pull s f ∷ sender) (Pull s asking ∷ past)
  pub wants : wants_answer asking ≡ true

asked_before : (s : ℕ) (f : Frame) (sender : List Entry) (e : Entry) (past : List Entry) → AskedSince s f sender past →
    AskedSince s f sender (e ∷ past)
asked_before s f sender e past a =
    record { asking = a.asking; past = a.past; at = before a.at; since = a.since; wants = a.wants }

asked_step : (s : ℕ) (f : Frame) (sender : List Entry) (e : Entry) (past : List Entry) → IsLegal (e ∷ past) → Moment (Pull s f ∷ sender) past →
    (must_ask s past ≡ false → AskedSince s f sender past) → must_ask s (e ∷ past) ≡ false → AskedSince s f sender (e ∷ past)
asked_step s f sender (Pull x g) past legal m older none =
    elim (cases_Bool (x == s)) [
      | inl is ↦
          let on : (not (asks g) && (is_datagram g || must_ask s past)) ≡ false = sym (cond-true (x == s) _ (must_ask s past) is) ∙ none in
          elim (and_cases (not (asks g)) (is_datagram g || must_ask s past) on) [
            | inl asking ↦
                let is_k = eqb-true x s is in
                record {
                  asking = g;
                  past = past;
                  at = subst (λ (t : ℕ). Moment (Pull t g ∷ past) (Pull x g ∷ past)) is_k now;
                  since = before m;
                  wants = asking_wants x past g (lawful_pull x g legal now) (not-false (asks g) asking);
                }
            | inr quiet ↦ asked_before s f sender (Pull x g) past (older (or_parts (is_datagram g) (must_ask s past) quiet).1)
          ]
      | inr other ↦ asked_before s f sender (Pull x g) past (older (sym (cond-false (x == s) _ (must_ask s past) other) ∙ none))
    ]
asked_step s f sender e past legal m older none = asked_before s f sender e past (older none)

pub asked_since : (s : ℕ) (f : Frame) (sender j : List Entry) → IsLegal j → Moment (Pull s f ∷ sender) j → is_datagram f ≡ true →
    must_ask s j ≡ false → AskedSince s f sender j
asked_since s f sender j legal m is none = since_pull m legal none
  where
    since_pull : {j : List Entry} → Moment (Pull s f ∷ sender) j → IsLegal j → must_ask s j ≡ false → AskedSince s f sender j
    since_pull now legal none =
        let on : (not (asks f) && (is_datagram f || must_ask s sender)) ≡ false =
        sym (cond-true (s == s) _ (must_ask s sender) (eq-eqb s s refl)) ∙ none in
        elim (and_cases (not (asks f)) (is_datagram f || must_ask s sender) on) [
          | inl asking ↦ record {
            asking = f;
            past = sender;
            at = now;
            since = now;
            wants = asking_wants s sender f (lawful_pull s f legal now) (not-false (asks f) asking);
          }
          | inr quiet ↦ absurd (both_ways _ quiet (or_left (is_datagram f) (must_ask s sender) is))
        ]
    since_pull (before {e} {j} m) legal none = asked_step s f sender e j legal m (since_pull m legal.1) none

-- a frame that was pulled on a stream after a reading there
pub record AnsweredSince (s : ℕ) (f : Frame) (o : Outcome) (reader j : List Entry) : Type 0 where
  pub answer : Frame
  pub past : List Entry
  pub at : Moment (Pull s answer ∷ past) j
  pub since : Moment (Read s f o ∷ reader) past

answered_before : (s : ℕ) (f : Frame) (o : Outcome) (reader : List Entry) (e : Entry) (past : List Entry) → AnsweredSince s f o reader past →
    AnsweredSince s f o reader (e ∷ past)
answered_before s f o reader e past a = record { answer = a.answer; past = a.past; at = before a.at; since = a.since }

answered_step : (s : ℕ) (f : Frame) (o : Outcome) (reader : List Entry) (e : Entry) (past : List Entry) → Moment (Read s f o ∷ reader) past →
    (is_asked s past ≡ false → AnsweredSince s f o reader past) → is_asked s (e ∷ past) ≡ false → AnsweredSince s f o reader (e ∷ past)
answered_step s f o reader (Pull x g) past m older none =
    elim (cases_Bool (x == s)) [
      | inl is ↦ record {
        answer = g;
        past = past;
        at = subst (λ (t : ℕ). Moment (Pull t g ∷ past) (Pull x g ∷ past)) (eqb-true x s is) now;
        since = m;
      }
      | inr other ↦
          elim (and_cases (not (x == s)) (is_asked s past) none) [
            | inl is ↦ absurd (both_ways _ other (not-false (x == s) is))
            | inr older_none ↦ answered_before s f o reader (Pull x g) past (older older_none)
          ]
    ]
answered_step s f o reader (Read x g p) past m older none =
    answered_before s f o reader (Read x g p) past (older (or_parts (x == s && wants_answer g) (is_asked s past) none).1)
answered_step s f o reader e past m older none = answered_before s f o reader e past (older none)

pub answered_since : (s : ℕ) (f : Frame) (o : Outcome) (reader : List Entry) {j : List Entry} → Moment (Read s f o ∷ reader) j →
    wants_answer f ≡ true → is_asked s j ≡ false → AnsweredSince s f o reader j
answered_since s f o reader now wants none =
    let asked = or_left (s == s && wants_answer f) (is_asked s reader) (and_from (s == s) (wants_answer f) (eq-eqb s s refl) wants) in
    absurd (both_ways _ none asked)
answered_since s f o reader (before {e} {j} m) wants none = answered_step s f o reader e j m (answered_since s f o reader m wants) none
