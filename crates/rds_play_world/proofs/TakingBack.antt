-- What a world tells after datagrams were taken back.
use Rattle.std.proofs.Common.{◌≡◌, ◌≢◌, ℕ, ◌<◌, not, nat_le, nat_lt, Bool, true, false, cond, Result, Ok, Err, List, [], ◌∷◌, ◌++◌, filter, refl, sym, ◌∙◌, ap, subst}
use Rattle.std.specs.Prelude.{IfOk}
use Rattle.std.proofs.lemmas.Bool.{leb-true, leb-false, le-ltb, lt-ltb}
use Rattle.rds_model.specs.declared.entry.Entry.{Entry}
use Rattle.rds_model.specs.declared.entry.Entry.TheVariants.{Cancel}
use Rattle.rds_model.specs.declared.entry.Target.{Target}
use Rattle.rds_model.specs.declared.entry.TheConstants.{MAX_SLOTS}
use Rattle.rds_model.specs.declared.order.Order.{Order}
use Rattle.rds_model.specs.Alive.{covered, covers, is_alive, up_to}
use Rattle.rds_model.specs.Past.{accepted, datagram}
use Rattle.rds_model.specs.Streams.{was_pulled}
use Rattle.rds_play_pair.specs.Changes.{entries_of, is_allowed}
use Rattle.rds_play_pair.specs.Steps.{ordered}
use Rattle.rds_play_mesh.specs.Ends.{ChangesPair, MeshView, end_at}
use Rattle.rds_text.specs.Lines.{cancel_line}
use Rattle.rds_history.specs.Events.{Event, Appended}
use Rattle.rds_history.specs.Journals.{journal}
use Rattle.rds_history.specs.Transcript.{entry_line}
use Rattle.rds_play_world.specs.Telling.{State, Tells}
use Rattle.rds_play_world.proofs.Sending.{cancel_quiet, tells_ordered}

-- two tests that agree on what a third one passes keep the same of what a fourth one chooses among it
agreeing_within : (t c p q : ℕ → Bool) → ((n : ℕ) → t n ≡ true → p n ≡ q n) → (xs : List ℕ) →
    filter p (filter c (filter t xs)) ≡ filter q (filter c (filter t xs))
agreeing_within t c p q same [] = refl
agreeing_within t c p q same (x ∷ xs) = go (agreeing_within t c p q same xs) (t x) refl
  where
    kept : List ℕ
    kept = filter t xs

    chosen : filter p (filter c kept) ≡ filter q (filter c kept) → (b : Bool) → p x ≡ q x →
        filter p (cond b (x ∷ filter c kept) (filter c kept)) ≡ filter q (cond b (x ∷ filter c kept) (filter c kept))
    chosen rest true is =
        ap (λ b. cond b (x ∷ filter p (filter c kept)) (filter p (filter c kept))) is ∙ ap (λ (l : List ℕ). cond (q x) (x ∷ l) l) rest
    chosen rest false is = rest

    go : filter p (filter c kept) ≡ filter q (filter c kept) → (b : Bool) → t x ≡ b →
        filter p (filter c (cond b (x ∷ kept) kept)) ≡ filter q (filter c (cond b (x ∷ kept) kept))
    go rest true is = chosen rest (c x) (same x is)
    go rest false is = rest

not_le : (n m : ℕ) → nat_lt m n ≡ not (nat_le n m)
not_le n m = go (nat_le n m) refl
  where
    go : (b : Bool) → nat_le n m ≡ b → nat_lt m n ≡ not b
    go true is = le-ltb m n (leb-true n m is)
    go false is = lt-ltb m n (leb-false n m is)

-- those up to the highest number that was pulled are those whose transmission has begun
pub begun_of : {A E : Type 0} (items : A → List ℕ) (r : Result A E) (numbers : List ℕ) (slot : ℕ) (target : Target) (past : List Entry) (highest : ℕ) → numbers ≡ covered slot target past →
    ((n : ℕ) → is_alive past n ≡ true → was_pulled past n ≡ nat_le n highest) →
    IfOk r (λ x. items x ≡ filter (λ n. nat_le n highest) numbers) → IfOk r (λ x. items x ≡ filter (was_pulled past) (covered slot target past))
begun_of items (Err why) numbers slot target past highest all pulled is = tt
begun_of items (Ok x) numbers slot target past highest all pulled is =
    is ∙ ap (filter (λ n. nat_le n highest)) all
    ∙ sym (agreeing_within (is_alive past) (λ n. covers slot target (datagram past n)) (was_pulled past) (λ n. nat_le n highest) pulled (up_to (accepted past)))

pub unbegun_of : {A E : Type 0} (items : A → List ℕ) (r : Result A E) (numbers : List ℕ) (slot : ℕ) (target : Target) (past : List Entry) (highest : ℕ) → numbers ≡ covered slot target past →
    ((n : ℕ) → is_alive past n ≡ true → was_pulled past n ≡ nat_le n highest) →
    IfOk r (λ x. items x ≡ filter (λ n. nat_lt highest n) numbers) → IfOk r (λ x. items x ≡ filter (λ n. not (was_pulled past n)) (covered slot target past))
unbegun_of items (Err why) numbers slot target past highest all pulled is = tt
unbegun_of items (Ok x) numbers slot target past highest all pulled is =
    is ∙ ap (filter (λ n. nat_lt highest n)) all
    ∙ sym (agreeing_within (is_alive past) (λ n. covers slot target (datagram past n)) (λ n. not (was_pulled past n)) (λ n. nat_lt highest n)
    (λ n alive. ap not (pulled n alive) ∙ sym (not_le n highest)) (up_to (accepted past)))

-- the world after a cancellation, whose line was printed
pub tells_cancelled : (limit hosts h k slot : ℕ) (target : Target) (o : Order) (past : List Event) (s : State) (m : MeshView) (text begun unbegun : List ℕ) →
    s.mesh.count ≡ hosts → h < s.count → k < s.count → k ≢ h → slot < MAX_SLOTS →
    entries_of o ≡ Cancel slot target ∷ [] → is_allowed MAX_SLOTS o ≡ nat_lt slot MAX_SLOTS → Tells limit hosts past s →
    ChangesPair h k (ordered o (end_at h k s.mesh)) (end_at k h s.mesh) s.mesh m →
    begun ≡ filter (was_pulled (end_at h k s.mesh).past) (covered slot target (end_at h k s.mesh).past) →
    unbegun ≡ filter (λ n. not (was_pulled (end_at h k s.mesh).past n)) (covered slot target (end_at h k s.mesh).past) →
    text ≡ s.text ++ cancel_line h k slot target begun unbegun →
    Tells limit hosts (Appended h k (Cancel slot target) ∷ past) (record s { mesh = m; text = text })
tells_cancelled limit hosts h k slot target o past s m text begun unbegun count h_in k_in apart slot_in entries allowed told changed begun_is unbegun_is printed =
    let here = end_at h k s.mesh in
    let here_told = told.ends_are h k (subst (λ n. h < n) told.count_is h_in) (subst (λ n. k < n) told.count_is k_in) apart in
    let line : text ≡ s.text ++ entry_line h k (journal h k past) (Cancel slot target) =
    printed ∙ ap (λ (b : List ℕ). s.text ++ cancel_line h k slot target b unbegun) begun_is
    ∙ ap (λ (u : List ℕ). s.text ++ cancel_line h k slot target (filter (was_pulled here.past) (covered slot target here.past)) u) unbegun_is
    ∙ ap (λ (j : List Entry). s.text ++ entry_line h k j (Cancel slot target)) here_told.journal_is in
    subst (λ (t : List ℕ). Tells limit hosts (Appended h k (Cancel slot target) ∷ past) (record s { mesh = m; text = t })) (sym line)
    (tells_ordered limit hosts h k o (Cancel slot target) past s m count h_in k_in apart (cancel_quiet slot target) (allowed ∙ lt-ltb slot MAX_SLOTS slot_in) entries told changed)
