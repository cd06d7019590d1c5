use Rattle.std.proofs.Common.{rules, ◌≡◌, ℕ, List, length, min, ◌<◌, sym, ap, take, drop, ◌∙◌, arith}
use Rattle.std.proofs.Math.Nat.{min-eq_left, min-eq_right}
use Rattle.std.proofs.lemmas.List.{nil_from_length}
use mathlib.Core.Logic.{dite}
use native.Mathlib.Decide.{dec_le}
use Rattle.rds_link.specs.Streaming.{Supply}
use Rattle.rds_link.proofs.Loops.{front_handed}
use Rattle.rds_link.proofs.memory.MemSourceSource.read.Goals as goal

pub returns-clause-bytes : goal.returns-clause-bytes
returns-clause-bytes c =
    let rest = c.split_at.ensures.back ∙ ap (drop c.self.inside.taken) c.deref.ensures.value in
    let front = c.copy_front-count.ensures.front ∙ ap (take c.copy_front-count.result) rest in
    ap (λ (s : Supply). s.left) (sym c.self.view_is) ∙ front_handed c.self.inside.text.items c.copy_front-count.new.to c.self.inside.taken c.copy_front-count.result front

shorter : (a b : ℕ) → min a b ≡ 0 → 0 < b → a ≡ 0
shorter a b none some = dite (dec_le a b) (λ h. sym (min-eq_left h) ∙ none) (λ h. absurd (let e : min a b ≡ b = min-eq_right (omega arith) in omega arith))

pub returns-clause-end : goal.returns-clause-end
returns-clause-end c ended =
    let none : c.copy_front-count.result ≡ 0 = cc in
    let rest = c.split_at.ensures.back ∙ ap (drop c.self.inside.taken) c.deref.ensures.value in
    let count : c.copy_front-count.result ≡ min (length c.split_at.result.1.now) (length c.args.buf.now) = c.copy_front-count.ensures.count in
    let some : 0 < length c.args.buf.now = c.requires in
    let short = shorter _ _ (sym count ∙ none) some in
    let long = ap (λ (xs : List ℕ). length xs) rest in
    ap (λ (s : Supply). s.left) (sym c.self.view_is) ∙ nil_from_length (drop c.self.inside.taken c.self.inside.text.items) (omega arith)

pub returns-clause-number : goal.returns-clause-number
returns-clause-number c = search rules
