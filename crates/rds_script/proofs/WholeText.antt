-- All lines of a text: what reading gives is what they spell, or where they are refused.
use Rattle.std.proofs.Common.{◌≡◌, ◌≢◌, ℕ, suc, ◌+◌, ◌≤◌, Bool, true, false, cond, eqb, ltb, List, [], ◌∷◌, ◌++◌, length, Result, Ok, Err, refl, sym, ap, subst, ◌∙◌, arith, inl, inr, add-zero, zero-add}
use Rattle.std.specs.Prelude.{◌⊎◌}
use Rattle.std.specs.Str.Lines.{lines}
use Rattle.std.proofs.lemmas.Bool.{eqb-true, eqb-false, ne_eqb, ltb-true, ltb-false, lt-ltb, le-ltb}
use Rattle.std.proofs.lemmas.List.{append_assoc, append-nil}
use Rattle.rds_script.specs.declared.cause.Cause.{Cause}
use Rattle.rds_script.specs.declared.cause.Cause.TheVariants as cause
use Rattle.rds_script.specs.Grammar.{Meaning, nothing, command_lines, SpellsLines, Keeps, Spells}
use Rattle.rds_script.specs.Refusal.{RefusesLine, Refused}
use Rattle.rds_script.specs.Reading.{◌>>=◌, at_line, line_at, lines_at, text_at}
use Rattle.rds_script.proofs.Binds.{bind_ok, bind_err, ok_is, err_is, chosen}
use Rattle.rds_script.proofs.OneLine.{line_result, outcome}
use Rattle.rds_script.proofs.OneAnswer.{goes_read, cause_read}
use Rattle.rds_script.proofs.Keeping.{hosts_range, keeps_none, keeps_push, keeps_before}

abbrev Answer : Type 0
Answer = Result Meaning (ℕ × Cause)

-- ---- lines that grow at their end

-- one line and the rest
lines_at-cons : (s : Meaning) (k : ℕ) (l : List ℕ) (ls : List (List ℕ)) → lines_at s k (l ∷ ls) ≡ (at_line (k + 1) (line_result s k l) >>= λ t. lines_at t (k + 1) ls)
unfolding lines_at line_result
lines_at-cons s k l ls = go (eqb k 200000)
  where
    go : (b : Bool) → (cond b (Err (k + 1, cause.Lines)) (at_line (k + 1) (line_at s (k + 1) l)) >>= λ t. lines_at t (k + 1) ls) ≡ (at_line (k + 1) (cond b (Err cause.Lines) (line_at s (k + 1) l)) >>= λ t. lines_at t (k + 1) ls)
    go true = refl
    go false = refl

lines_at-append : (s : Meaning) (k : ℕ) (xs ys : List (List ℕ)) → lines_at s k (xs ++ ys) ≡ (lines_at s k xs >>= λ t. lines_at t (k + length xs) ys)
unfolding lines_at
lines_at-append s k [] ys = ap (λ (i : ℕ). lines_at s i ys) (sym (add-zero k))
lines_at-append s k (x ∷ xs) ys =
    lines_at-cons s k x (xs ++ ys) ∙ go (line_result s k x) (λ t. lines_at-append t (k + 1) xs ys) ∙ ap (λ (r : Answer). r >>= λ u. lines_at u (k + suc (length xs)) ys) (sym (lines_at-cons s k x xs))
  where
    place : (k + 1) + length xs ≡ k + suc (length xs)
    place = omega arith

    go : (r : Result Meaning Cause) → ((t : Meaning) → lines_at t (k + 1) (xs ++ ys) ≡ (lines_at t (k + 1) xs >>= λ u. lines_at u ((k + 1) + length xs) ys)) → (at_line (k + 1) r >>= λ t. lines_at t (k + 1) (xs ++ ys)) ≡ ((at_line (k + 1) r >>= λ t. lines_at t (k + 1) xs) >>= λ u. lines_at u (k + suc (length xs)) ys)
    go (Err c) later = refl
    go (Ok t) later = later t ∙ ap (λ (i : ℕ). lines_at t (k + 1) xs >>= λ u. lines_at u i ys) place

abbrev read_all : List (List ℕ) → Answer
read_all ls = lines_at nothing 0 ls

-- the answer at the last of some lines
read-push : (ls : List (List ℕ)) (l : List ℕ) → read_all (ls ++ l ∷ []) ≡ (read_all ls >>= λ s. at_line (length ls + 1) (line_result s (length ls) l))
unfolding lines_at
read-push ls l =
    lines_at-append nothing 0 ls (l ∷ []) ∙ go (read_all ls)
  where
    one : (k : ℕ) (r : Result Meaning Cause) → (at_line (k + 1) r >>= λ t. lines_at t (k + 1) []) ≡ at_line (k + 1) r
    one k (Ok t) = refl
    one k (Err c) = refl

    go : (r : Answer) → (r >>= λ t. lines_at t (0 + length ls) (l ∷ [])) ≡ (r >>= λ s. at_line (length ls + 1) (line_result s (length ls) l))
    go (Err c) = refl
    go (Ok s) =
        ap (λ (i : ℕ). lines_at s i (l ∷ [])) (zero-add (length ls)) ∙ lines_at-cons s (length ls) l [] ∙ one (length ls) (line_result s (length ls) l)

-- an induction that adds at the end
snoc : (P : List (List ℕ) → Type 0) → P [] → ((xs : List (List ℕ)) (x : List ℕ) → P xs → P (xs ++ x ∷ [])) → (xs : List (List ℕ)) → P xs
snoc P base step xs = go [] base xs
  where
    go : (done : List (List ℕ)) → P done → (xs : List (List ℕ)) → P (done ++ xs)
    go done p [] = subst P (sym (append-nil done)) p
    go done p (x ∷ xs) = subst P (append_assoc done (x ∷ []) xs) (go (done ++ x ∷ []) (step done x p) xs)

-- ---- all lines

line_ok : (n : ℕ) (r : Result Meaning Cause) (t : Meaning) → at_line n r ≡ Ok t → r ≡ Ok t
line_ok n (Ok x) t e = ap Ok (ok_is e)
line_ok n (Err c) t e = absurd cc

line_err : (n : ℕ) (r : Result Meaning Cause) (m : ℕ) (c : Cause) → at_line n r ≡ Err (m, c) → (r ≡ Err c) × (m ≡ n)
line_err n (Ok x) m c e = absurd cc
line_err n (Err d) m c e =
    let same : n ≡ m = err_part (λ p. p.0) e in
    (ap Err (err_part (λ p. p.1) e), sym same)
  where
    err_part : {A B : Type 0} {x y : A} (f : A → B) → ◌≡◌ {A = Result Meaning A} (Err x) (Err y) → f x ≡ f y
    err_part f e = ap f (err_is e)

kept : (ls : List (List ℕ)) (s : Meaning) → read_all ls ≡ Ok s → Keeps ls s
unfolding lines_at
kept = snoc (λ ls. (s : Meaning) → read_all ls ≡ Ok s → Keeps ls s) (λ s e. subst (Keeps []) (ok_is e) keeps_none) step
  where
    step : (xs : List (List ℕ)) (x : List ℕ) → ((s : Meaning) → read_all xs ≡ Ok s → Keeps xs s) → (t : Meaning) → read_all (xs ++ x ∷ []) ≡ Ok t → Keeps (xs ++ x ∷ []) t
    step xs x before t e =
        let b = bind_ok (read_all xs) (λ s. at_line (length xs + 1) (line_result s (length xs) x)) t (sym (read-push xs x) ∙ e) in
        let k = before b.0 b.1 in
        keeps_push xs b.0 k x t (outcome b.0 (length xs) x k.cuts (Ok t) (line_ok (length xs + 1) _ t b.2))

kept_again : (ls : List (List ℕ)) (s : Meaning) → Keeps ls s → read_all ls ≡ Ok s
unfolding lines_at
kept_again = snoc (λ ls. (s : Meaning) → Keeps ls s → read_all ls ≡ Ok s) (λ s k. ap Ok (sym k.spelled)) step
  where
    step : (xs : List (List ℕ)) (x : List ℕ) → ((s : Meaning) → Keeps xs s → read_all xs ≡ Ok s) → (t : Meaning) → Keeps (xs ++ x ∷ []) t → read_all (xs ++ x ∷ []) ≡ Ok t
    step xs x before t k =
        let b = keeps_before xs x t k in
        read-push xs x ∙ rw (before b.so_far b.kept, goes_read b.so_far (length xs) x b.kept.cuts t b.goes) refl

refused : (ls : List (List ℕ)) (n : ℕ) (c : Cause) → read_all ls ≡ Err (n, c) → RefusesLine ls n c
unfolding lines_at
refused = snoc (λ ls. (n : ℕ) (c : Cause) → read_all ls ≡ Err (n, c) → RefusesLine ls n c) (λ n c e. absurd (no_error e)) step
  where
    no_error : {x : ℕ × Cause} → ◌≡◌ {A = Answer} (Ok nothing) (Err x) → ⊥
    no_error e = cc

    step : (xs : List (List ℕ)) (x : List ℕ) → ((n : ℕ) (c : Cause) → read_all xs ≡ Err (n, c) → RefusesLine xs n c) → (n : ℕ) (c : Cause) → read_all (xs ++ x ∷ []) ≡ Err (n, c) → RefusesLine (xs ++ x ∷ []) n c
    step xs x before n c e =
        elim (bind_err (read_all xs) (λ s. at_line (length xs + 1) (line_result s (length xs) x)) (n, c) (sym (read-push xs x) ∙ e)) [
          | inl f ↦
              let r = before n c f in
              record {
                before = r.before;
                line = r.line;
                after = r.after ++ x ∷ [];
                so_far = r.so_far;
                parts = ap (λ (l : List (List ℕ)). l ++ x ∷ []) r.parts ∙ append_assoc r.before (r.line ∷ r.after) (x ∷ []);
                place = r.place;
                kept = r.kept;
                refused = r.refused;
              }
          | inr b ↦
              let k = kept xs b.0 b.1 in
              let f = line_err (length xs + 1) (line_result b.0 (length xs) x) n c b.2 in
              record {
                before = xs;
                line = x;
                after = [];
                so_far = b.0;
                parts = refl;
                place = f.1;
                kept = k;
                refused = outcome b.0 (length xs) x k.cuts (Err c) f.0;
              }
        ]

refused_again : (ls : List (List ℕ)) (n : ℕ) (c : Cause) → RefusesLine ls n c → read_all ls ≡ Err (n, c)
refused_again ls n c r =
    ap read_all r.parts ∙ lines_at-append nothing 0 r.before (r.line ∷ r.after) ∙ rw (kept_again r.before r.so_far r.kept) (ap (λ (i : ℕ). lines_at r.so_far i (r.line ∷ r.after)) (zero-add (length r.before)) ∙ lines_at-cons r.so_far (length r.before) r.line r.after ∙ rw (cause_read r.so_far (length r.before) r.line r.kept.cuts c r.refused) (ap (λ (i : ℕ). Err (i, c)) (sym r.place)))

-- ---- the text

-- lines with a command spell some hosts, and lines with none spell nothing
some_hosts : (x : List (ℕ × List (List ℕ))) (s : Meaning) → SpellsLines x s → x ≢ [] → s.hosts ≡ 0 → ⊥
some_hosts [] s sp some none = some refl
some_hosts (f ∷ os) s sp some none = let r = hosts_range f.1 s.hosts sp.1 in absurd (omega arith)

no_hosts : (x : List (ℕ × List (List ℕ))) (s : Meaning) → SpellsLines x s → s.hosts ≡ 0 → s ≡ nothing
no_hosts [] s sp none = sp
no_hosts (f ∷ os) s sp none = let r = hosts_range f.1 s.hosts sp.1 in absurd (omega arith)

abbrev last_test : Meaning → Answer
last_test s = cond (eqb s.hosts 0) (Err (0, cause.Empty)) (Ok s)

pub text_spells : (text : List ℕ) (s : Meaning) → text_at text ≡ Ok s → Spells text s
unfolding text_at
text_spells text s e = elim (chosen (ltb 16777216 (length text)) _ _ (Ok s) e) [
  | inl x ↦ absurd (no_ok x.1)
  | inr x ↦
      let b = bind_ok (read_all (lines text)) last_test s x.1 in
      elim (chosen (eqb b.0.hosts 0) _ _ (Ok s) b.2) [
        | inl y ↦ absurd (no_ok y.1)
        | inr y ↦
            let k = kept (lines text) b.0 b.1 in
            subst (Spells text) (ok_is y.1) (record {
              small = ltb-false _ _ x.0;
              kept = k;
              some = λ none. eqb-false b.0.hosts 0 y.0 (ap (λ (m : Meaning). m.hosts) (subst (λ (l : List (ℕ × List (List ℕ))). SpellsLines l b.0) none k.spelled));
            })
      ]
]
  where
    no_ok : {d : ℕ × Cause} → ◌≡◌ {A = Answer} (Err d) (Ok s) → ⊥
    no_ok e = cc

pub text_spelled : (text : List ℕ) (s : Meaning) → Spells text s → text_at text ≡ Ok s
unfolding text_at
text_spelled text s h =
    let test = ne_eqb s.hosts 0 (some_hosts (command_lines (lines text)) s h.kept.spelled h.some) in
    rw (le-ltb 16777216 (length text) h.small, kept_again (lines text) s h.kept, test) refl

pub text_refused : (text : List ℕ) (n : ℕ) (c : Cause) → text_at text ≡ Err (n, c) → Refused text n c
unfolding text_at
text_refused text n c e = elim (chosen (ltb 16777216 (length text)) _ _ (Err (n, c)) e) [
  | inl x ↦
      subst (λ (p : ℕ × Cause). Refused text p.0 p.1) (err_is x.1) (refl, ltb-true _ _ x.0)
  | inr x ↦
      elim (bind_err (read_all (lines text)) last_test (n, c) x.1) [
        | inl f ↦ by_line (ltb-false _ _ x.0) c (refused (lines text) n c f)
        | inr b ↦
            elim (chosen (eqb b.0.hosts 0) _ _ (Err (n, c)) b.2) [
              | inl y ↦
                  let k = kept (lines text) b.0 b.1 in
                  let none = no_hosts (command_lines (lines text)) b.0 k.spelled (eqb-true _ _ y.0) in
                  subst (λ (p : ℕ × Cause). Refused text p.0 p.1) (err_is y.1) (refl, ltb-false _ _ x.0, subst (Keeps (lines text)) none k)
              | inr y ↦ absurd (no_error y.1)
            ]
      ]
]
  where
    no_error : {t : Meaning} → ◌≡◌ {A = Answer} (Ok t) (Err (n, c)) → ⊥
    no_error e = cc

    by_line : length text ≤ 16777216 → (c : Cause) → RefusesLine (lines text) n c → Refused text n c
    by_line small cause.TooLarge r = absurd r.refused.holds
    by_line small cause.Empty r = absurd r.refused.holds
    by_line small c r = (small, r)

pub text_refuses : (text : List ℕ) (n : ℕ) (c : Cause) → Refused text n c → text_at text ≡ Err (n, c)
unfolding text_at
text_refuses text n cause.TooLarge r =
    rw (lt-ltb 16777216 (length text) r.1) (ap (λ (i : ℕ). Err (i, cause.TooLarge)) (sym r.0))
text_refuses text n cause.Empty r =
    rw (le-ltb 16777216 (length text) r.1, kept_again (lines text) nothing r.2) (ap (λ (i : ℕ). Err (i, cause.Empty)) (sym r.0))
text_refuses text n c r = rw (le-ltb 16777216 (length text) r.0, refused_again (lines text) n c r.1) refl

pub spelled_or_refused : (text : List ℕ) → ((s : Meaning) × Spells text s) ⊎ ((n : ℕ) × (c : Cause) × Refused text n c)
spelled_or_refused text = go (text_at text) refl
  where
    go : (r : Answer) → text_at text ≡ r → ((s : Meaning) × Spells text s) ⊎ ((n : ℕ) × (c : Cause) × Refused text n c)
    go (Ok s) e = inl (s, text_spells text s e)
    go (Err x) e = inr (x.0, x.1, text_refused text x.0 x.1 e)

pub never_both : (text : List ℕ) (s : Meaning) (n : ℕ) (c : Cause) → Spells text s → Refused text n c → ⊥
never_both text s n c h g = no_error (sym (text_spelled text s h) ∙ text_refuses text n c g)
  where
    no_error : ◌≡◌ {A = Answer} (Ok s) (Err (n, c)) → ⊥
    no_error e = cc
