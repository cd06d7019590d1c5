-- What is asked on a stream, after each pull, and bounds on it.
use Rattle.std.proofs.Common.{◌≡◌, ℕ, suc, ◌+◌, ◌*◌, ◌≤◌, ◌&&◌, ◌||◌, ◌==◌, not, true, false, cond, Some, List, [], ◌∷◌, length, sum_by, refl, sym, ◌∙◌, ap, arith}
use Rattle.std.proofs.lemmas.Bool.{cond_both, cond-true, cond-false, eq-eqb}
use Rattle.std.proofs.lemmas.List.Sums.{sum_by-cons}
use Rattle.rds_wire.specs.declared.frame.Frame.{Frame}
use Rattle.rds_wire.specs.declared.kind.TheConstants.{MAX_LENGTH}
use Rattle.rds_model.specs.declared.entry.Entry.{Entry}
use Rattle.rds_model.specs.declared.entry.Entry.TheVariants.{Pull}
use Rattle.rds_model.specs.Past.{now, Accepted, is_datagram}
use Rattle.rds_model.specs.Owed.{asks, is_map, last_map, unasked, is_asked, must_ask, data_frame, header_of}
use Rattle.rds_model.specs.Legal.{IsLegal}
use Rattle.rds_model.specs.BoundLaws.{datagram_fits}
use Rattle.rds_model.specs.LegalityLaws.{lawful_pull}
use Rattle.rds_model.specs.FrameLaws.{data_pull_of}
use Rattle.rds_conn.specs.declared.asking.Asking.{Asking}
use Rattle.rds_conn.specs.Asking.{IsAsking}

pub unasked_few : (s : ℕ) (past : List Entry) → length (unasked s past) ≤ length past
unasked_few s [] = omega arith
unasked_few s (Pull stream f ∷ past) =
    let older = unasked_few s past in
    cond_both (not (stream == s)) (unasked s past) (cond (asks f) [] (cond (is_datagram f) (f ∷ unasked s past) (unasked s past)))
    (λ (fs : List Frame). length fs ≤ suc (length past)) (λ _. omega (arith, older))
    (λ _. cond_both (asks f) [] (cond (is_datagram f) (f ∷ unasked s past) (unasked s past)) (λ (fs : List Frame). length fs ≤ suc (length past))
    (λ _. omega arith)
    (λ _. cond_both (is_datagram f) (f ∷ unasked s past) (unasked s past) (λ (fs : List Frame). length fs ≤ suc (length past))
    (λ _. omega (arith, older)) (λ _. omega (arith, older))))
unasked_few s (e ∷ past) = omega (arith, unasked_few s past)

-- the length that a datagram's header says
pub len_of_data : (s : ℕ) (past : List Entry) (n : ℕ) (d : Accepted) → (data_frame s past n d).header.len ≡ length d.payload
unfolding header_of
len_of_data s past n d = refl

-- a pulled datagram is no longer than any
pulled_short : (s : ℕ) (f : Frame) (past : List Entry) → IsLegal (Pull s f ∷ past) → is_datagram f ≡ true → f.header.len ≤ MAX_LENGTH
pulled_short s f past legal is =
    let pull = data_pull_of s past f (lawful_pull s f legal now) is in
    let same = ap (λ (g : Frame). g.header.len) pull.is ∙ len_of_data s past pull.n pull.d in
    let fits = datagram_fits past pull.n pull.d legal.1 pull.known in
    omega (arith, same, fits.short)

pub unasked_bytes : (s : ℕ) (past : List Entry) → IsLegal past → sum_by (λ (f : Frame). f.header.len) (unasked s past) ≤ MAX_LENGTH * length past
unasked_bytes s [] legal = omega arith
unasked_bytes s (Pull stream f ∷ past) legal =
    let older = unasked_bytes s past legal.1 in
    cond_both (not (stream == s)) (unasked s past) (cond (asks f) [] (cond (is_datagram f) (f ∷ unasked s past) (unasked s past)))
    (λ (fs : List Frame). sum_by (λ (g : Frame). g.header.len) fs ≤ MAX_LENGTH * suc (length past)) (λ _. omega (arith, older))
    (λ _. cond_both (asks f) [] (cond (is_datagram f) (f ∷ unasked s past) (unasked s past)) (λ (fs : List Frame). sum_by (λ (g : Frame). g.header.len) fs ≤ MAX_LENGTH * suc (length past))
    (λ _. omega arith)
    (λ _. cond_both (is_datagram f) (f ∷ unasked s past) (unasked s past) (λ (fs : List Frame). sum_by (λ (g : Frame). g.header.len) fs ≤ MAX_LENGTH * suc (length past))
    (λ is. (let more = sum_by-cons (λ (g : Frame). g.header.len) f (unasked s past) in let short = pulled_short stream f past legal is in omega (arith, older, more, short)))
    (λ _. omega (arith, older))))
unasked_bytes s (e ∷ past) legal = omega (arith, unasked_bytes s past legal.1)

-- what a pull on the stream itself changes
unasked_pull : (s : ℕ) (f : Frame) (past : List Entry) →
    unasked s (Pull s f ∷ past) ≡ cond (asks f) [] (cond (is_datagram f) (f ∷ unasked s past) (unasked s past))
unasked_pull s f past =
    ap (λ b. cond (not b) (unasked s past) (cond (asks f) [] (cond (is_datagram f) (f ∷ unasked s past) (unasked s past)))) (eq-eqb s s refl)

asked_pull : (s : ℕ) (f : Frame) (past : List Entry) → is_asked s (Pull s f ∷ past) ≡ false
asked_pull s f past = ap (λ b. not b && is_asked s past) (eq-eqb s s refl)

must_pull : (s : ℕ) (f : Frame) (past : List Entry) → must_ask s (Pull s f ∷ past) ≡ not (asks f) && (is_datagram f || must_ask s past)
must_pull s f past = ap (λ b. cond b (not (asks f) && (is_datagram f || must_ask s past)) (must_ask s past)) (eq-eqb s s refl)

pub map_pull : (s : ℕ) (f : Frame) (past : List Entry) → last_map s (Pull s f ∷ past) ≡ cond (is_map f) (Some f.payload) (last_map s past)
map_pull s f past = ap (λ b. cond (b && is_map f) (Some f.payload) (last_map s past)) (eq-eqb s s refl)

abbrev pub nothing_asked : Asking
nothing_asked = record { unasked = 0; bytes = 0; is_asked = false; must_ask = false }

-- after a frame that asks nothing is left to ask
pub asking_after_asking : (s : ℕ) (f : Frame) (past : List Entry) → asks f ≡ true → IsAsking s (Pull s f ∷ past) nothing_asked
asking_after_asking s f past asking =
    let empty : unasked s (Pull s f ∷ past) ≡ [] = unasked_pull s f past ∙ cond-true (asks f) [] (cond (is_datagram f) (f ∷ unasked s past) (unasked s past)) asking in
    record {
      count = sym (ap length empty);
      bytes = sym (ap (sum_by (λ (g : Frame). g.header.len)) empty);
      asked = sym (asked_pull s f past);
      must = sym (must_pull s f past ∙ ap (λ b. not b && (is_datagram f || must_ask s past)) asking);
    }

-- after one that is no datagram and doesn't ask, all stays but that the peer has its answer
pub asking_after_other : (s : ℕ) (f : Frame) (past : List Entry) (a : Asking) → asks f ≡ false → is_datagram f ≡ false → IsAsking s past a →
    IsAsking s (Pull s f ∷ past) (record a { is_asked = false })
asking_after_other s f past a asking datagram_is is =
    let same : unasked s (Pull s f ∷ past) ≡ unasked s past =
    unasked_pull s f past ∙ cond-false (asks f) [] (cond (is_datagram f) (f ∷ unasked s past) (unasked s past)) asking
    ∙ cond-false (is_datagram f) (f ∷ unasked s past) (unasked s past) datagram_is in
    record {
      count = is.count ∙ sym (ap length same);
      bytes = is.bytes ∙ sym (ap (sum_by (λ (g : Frame). g.header.len)) same);
      asked = sym (asked_pull s f past);
      must = is.must ∙ sym (must_pull s f past ∙ ap (λ b. not b && (is_datagram f || must_ask s past)) asking ∙ ap (λ b. b || must_ask s past) datagram_is);
    }

-- after a datagram that doesn't ask, there is one more
pub asking_after_data : (s : ℕ) (f : Frame) (past : List Entry) (a : Asking) → asks f ≡ false → is_datagram f ≡ true → IsAsking s past a →
    IsAsking s (Pull s f ∷ past) (record { unasked = a.unasked + 1; bytes = a.bytes + f.header.len; is_asked = false; must_ask = true })
asking_after_data s f past a asking datagram_is is =
    let more : unasked s (Pull s f ∷ past) ≡ f ∷ unasked s past =
    unasked_pull s f past ∙ cond-false (asks f) [] (cond (is_datagram f) (f ∷ unasked s past) (unasked s past)) asking
    ∙ cond-true (is_datagram f) (f ∷ unasked s past) (unasked s past) datagram_is in
    let count = ap length more in
    let bytes = ap (sum_by (λ (g : Frame). g.header.len)) more in
    let cut = sum_by-cons (λ (g : Frame). g.header.len) f (unasked s past) in
    record {
      count = omega (arith, count, is.count);
      bytes = omega (arith, bytes, cut, is.bytes);
      asked = sym (asked_pull s f past);
      must = sym (must_pull s f past ∙ ap (λ b. not b && (is_datagram f || must_ask s past)) asking ∙ ap (λ b. b || must_ask s past) datagram_is);
    }
