-- Facts about a line's lists of streams, where the lists are known by other terms.
use Rattle.std.proofs.Common.{◌≡◌, ℕ, List, sym, subst}
use Rattle.rds_line_channel.specs.Streams.{StreamsView, with_list}

-- a fact about the streams before a call and the list after it, as the code has them
pub told : {E : Type 0} (Holds : StreamsView E → List (ℕ × E) → Type 0) {s v : StreamsView E} {list new whole : List (ℕ × E)} → s ≡ v → list ≡ s.list → whole ≡ new → Holds (with_list s list) new → Holds v whole
told Holds {s} {v} {list} {new} {whole} e f g fact = subst (λ l. Holds v l) (sym g) (subst (λ w. Holds w new) e (subst (λ l. Holds (with_list s l) new) f fact))

pub by_two : {X : Type 0} (Holds : X → X → Type 0) {a x b y : X} → a ≡ x → b ≡ y → Holds a b → Holds x y
by_two Holds {a} {x} {b} {y} e f fact = subst (λ z. Holds z y) e (subst (λ z. Holds a z) f fact)

pub by_four : {X : Type 0} (Holds : X → X → X → X → Type 0) {a x b y c z d w : X} → a ≡ x → b ≡ y → c ≡ z → d ≡ w → Holds a b c d → Holds x y z w
by_four Holds {a} {x} {b} {y} {c} {z} {d} {w} e f g h fact = by_two (λ p q. Holds p q z w) e f (by_two (λ p q. Holds a b p q) g h fact)
