use Rattle.std.proofs.Common.{◌≡◌, ◌∙◌, ◌==◌, ◌&&◌, ◌||◌, nat_lt, inl, inr, ℕ, Bool, true, false, cond, Option, Some, arith, refl, sym, ap}
use Rattle.std.specs.Ordering.{nat_cmp, ordering_then, is_eq}
use Rattle.std.specs.declared.cmp.Ordering.{Ordering}
use Rattle.std.specs.declared.cmp.Ordering.TheVariants.{Less, Equal, Greater}
use Rattle.std.specs.BTreeMap as tree
use Rattle.std.proofs.lemmas.Bool.{cases_eq, cases_lt, lt-ltb, le-ltb, ne_eqb, eq-eqb}
use Rattle.rds_model.specs.declared.entry.Target.{Target}
use Rattle.rds_model.specs.Alive.{aims_at}
use Rattle.rds_report.specs.TakenBackWalk.{is_above, pair_cmp}
use Rattle.rds_report.proofs.cancellations.Cancellations.add.Goals as goal

is_eq_nat : (x y : ℕ) → is_eq (nat_cmp x y) ≡ (x == y)
is_eq_nat x y = elim (cases_lt x y) [
  | inl less ↦
      ap (λ (b : Bool). is_eq (cond b Less (cond (x == y) Equal Greater))) (lt-ltb x y less)
      ∙ sym (ne_eqb x y (λ e. omega (arith, e, less)))
  | inr most ↦ ap (λ (b : Bool). is_eq (cond b Less (cond (x == y) Equal Greater))) (le-ltb x y most) ∙ either (x == y)
]
  where
    either : (b : Bool) → is_eq (cond b Equal Greater) ≡ b
    either true = refl
    either false = refl

is_eq_then : (o p : Ordering) → is_eq (ordering_then o p) ≡ (is_eq o && is_eq p)
is_eq_then Less p = refl
is_eq_then Equal p = refl
is_eq_then Greater p = refl

is_eq_pair : (slot port s d : ℕ) → is_eq (pair_cmp (slot, port) (s, d)) ≡ (slot == s && (port == d))
is_eq_pair slot port s d =
    is_eq_then (nat_cmp slot s) (nat_cmp port d)
    ∙ ap (λ (b : Bool). b && is_eq (nat_cmp port d)) (is_eq_nat slot s)
    ∙ ap (λ (b : Bool). slot == s && b) (is_eq_nat port d)

or_false : (x : Bool) → x ≡ (x || false)
or_false true = refl
or_false false = refl

swap : (a b c : Bool) → ((a || b) || c) ≡ ((a || c) || b)
swap true b c = refl
swap false true true = refl
swap false true false = refl
swap false false true = refl
swap false false false = refl

-- the value of one pair is lowered
module _ (f g : ℕ × ℕ → Option ℕ) (slot port acked v : ℕ)
    (now : (q : ℕ × ℕ) → g q ≡ cond (is_eq (pair_cmp (slot, port) q)) (Some v) (f q))
    (least : (n : ℕ) → nat_lt v n ≡ (is_above (f (slot, port)) n || nat_lt acked n)) where
  and_false : (x : Bool) → (x && false) ≡ false
  and_false true = refl
  and_false false = refl

  this : (s d n : ℕ) → slot ≡ s → port ≡ d →
      is_above (cond (slot == s && (port == d)) (Some v) (f (s, d))) n ≡ (is_above (f (s, d)) n || ((slot == s && (port == d)) && nat_lt acked n))
  this s d n e e' =
      let both : (slot == s && (port == d)) ≡ true = ap (λ (b : Bool). b && (port == d)) (eq-eqb slot s e) ∙ eq-eqb port d e' in
      ap (λ (b : Bool). is_above (cond b (Some v) (f (s, d))) n) both
      ∙ least n ∙ ap (λ (x : ℕ). is_above (f (x, port)) n || nat_lt acked n) e ∙ ap (λ (x : ℕ). is_above (f (s, x)) n || nat_lt acked n) e'
      ∙ ap (λ (b : Bool). is_above (f (s, d)) n || (b && nat_lt acked n)) (sym both)

  other : (s d n : ℕ) → (slot == s && (port == d)) ≡ false →
      is_above (cond (slot == s && (port == d)) (Some v) (f (s, d))) n ≡ (is_above (f (s, d)) n || ((slot == s && (port == d)) && nat_lt acked n))
  other s d n is =
      ap (λ (b : Bool). is_above (cond b (Some v) (f (s, d))) n) is ∙ or_false (is_above (f (s, d)) n)
      ∙ ap (λ (b : Bool). is_above (f (s, d)) n || (b && nat_lt acked n)) (sym is)

  lowered : (s d n : ℕ) → is_above (g (s, d)) n ≡ (is_above (f (s, d)) n || ((slot == s && (port == d)) && nat_lt acked n))
  lowered s d n =
      ap (λ (o : Option ℕ). is_above o n) (now (s, d) ∙ ap (λ (b : Bool). cond b (Some v) (f (s, d))) (is_eq_pair slot port s d))
      ∙ elim (cases_eq slot s) [
        | inl e ↦ elim (cases_eq port d) [
          | inl e' ↦ this s d n e e'
          | inr apart ↦ other s d n (ap (λ (b : Bool). slot == s && b) (ne_eqb port d apart) ∙ and_false (slot == s))
        ]
        | inr apart ↦ other s d n (ap (λ (b : Bool). b && (port == d)) (ne_eqb slot s apart))
      ]

pub returns-in_ok-insert-in-Port : goal.returns-in_ok-insert-in-Port
returns-in_ok-insert-in-Port c = λ s d n.
    let old = c.args.self.now in
    let f : ℕ × ℕ → Option ℕ = tree.get pair_cmp old.ports in
    let slot = c.args.slot in
    let port = c.in-Port.port in
    let least : (n : ℕ) → nat_lt c.least-least.result n ≡ (is_above (f (slot, port)) n || nat_lt c.args.acked n) =
    λ m. c.least-least.ensures m ∙ ap (λ (o : Option ℕ). is_above o m || nat_lt c.args.acked m) c.get.ensures.value in
    let rest = is_above (tree.get nat_cmp old.slots s) n in
    ap (λ (b : Bool). b || rest)
    (lowered f (tree.get pair_cmp c.insert.new.self) slot port c.args.acked c.least-least.result (λ q. c.in_ok-insert-in-Port.ensures.updates.0 q) least s d n)
    ∙ swap (is_above (f (s, d)) n) ((slot == s && (port == d)) && nat_lt c.args.acked n) rest
    ∙ ap (λ (t : Target). (is_above (f (s, d)) n || rest) || ((slot == s && aims_at t d) && nat_lt c.args.acked n)) (sym c.in-Port.is)
