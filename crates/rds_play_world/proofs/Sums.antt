-- The peers of a host, one after another.
use Rattle.std.proofs.Common.{◌≡◌, ⊎_elim, ℕ, suc, ◌+◌, ◌==◌, not, cond, List, [], ◌∷◌, ◌++◌, sym, ◌∙◌, ap, add-one, arith}
use Rattle.std.specs.Prelude.{sum_by}
use Rattle.std.proofs.lemmas.Bool.{cases_eq, cond-true, cond-false, eq-eqb, ne_eqb}
use Rattle.std.proofs.lemmas.List.{append-nil}
use Rattle.std.proofs.lemmas.List.Elements.{filter-append}
use Rattle.std.proofs.lemmas.List.Sums.{sum_by_push}
use Rattle.rds_text.specs.Ports.{below}
use Rattle.rds_history.specs.Journals.{peers}

-- the next host is a peer, or is the host itself
pub peers_next : (n h : ℕ) → (n ≡ h → ⊥) → peers (suc n) h ≡ peers n h ++ n ∷ []
peers_next n h apart =
    filter-append (λ k. not (k == h)) (below n) (n ∷ [])
    ∙ ap (λ (l : List ℕ). peers n h ++ l) (cond-true (not (n == h)) (n ∷ []) [] (ap not (ne_eqb n h apart)))

pub peers_skip : (n h : ℕ) → n ≡ h → peers (suc n) h ≡ peers n h
peers_skip n h here =
    filter-append (λ k. not (k == h)) (below n) (n ∷ [])
    ∙ ap (λ (l : List ℕ). peers n h ++ l) (cond-false (not (n == h)) (n ∷ []) [] (ap not (eq-eqb n h here)))
    ∙ append-nil (peers n h)

-- a sum over the peers, by one host more
sum_next : (f : ℕ → ℕ) (n h : ℕ) → sum_by f (peers (suc n) h) ≡ sum_by f (peers n h) + cond (n == h) 0 (f n)
sum_next f n h =
    ⊎_elim
    (λ (e : n ≡ h). ap (sum_by f) (peers_skip n h e) ∙ sym (nothing (sum_by f (peers n h)))
    ∙ ap (λ x. sum_by f (peers n h) + x) (sym (cond-true (n == h) 0 (f n) (eq-eqb n h e))))
    (λ (ne : n ≡ h → ⊥). ap (sum_by f) (peers_next n h ne) ∙ sum_by_push f (peers n h) n
    ∙ ap (λ x. sum_by f (peers n h) + x) (sym (cond-false (n == h) 0 (f n) (ne_eqb n h ne))))
    (cases_eq n h)
  where
    nothing : (a : ℕ) → a + 0 ≡ a
    nothing a = omega arith

pub sum_more : (f : ℕ → ℕ) (n h a b : ℕ) → a ≡ sum_by f (peers n h) → b ≡ cond (n == h) 0 (f n) → a + b ≡ sum_by f (peers (n + 1) h)
sum_more f n h a b so_far one = rw add-one (let all = sum_next f n h in cc)
