use Rattle.std.proofs.Common.{◌≡◌, ℕ, ◌+◌, ◌-◌, ◌≤◌, List, length, take, drop, sym, ap, subst, ◌∙◌, arith, length-take}
use Rattle.std.proofs.lemmas.List.{drop-drop, drop-take}
use Rattle.rds_line_channel.proofs.piece.Piece.took.Goals as goal

-- what is left of the bytes from one place to another, without the first of them
taken_less : (bytes : List ℕ) (start end n : ℕ) → n ≤ end - start →
    take (end - (start + n)) (drop (start + n) bytes) ≡ drop n (take (end - start) (drop start bytes))
taken_less bytes start end n within =
    let left = end - (start + n) in
    let count : n + left ≡ end - start = omega arith in
    let behind = drop start bytes in
    sym (ap (λ k. drop n (take k behind)) (sym count) ∙ (drop-take n left behind ∙ ap (take left) (drop-drop n start bytes)))

pub returns : goal.returns
returns c =
    let i = c.self.inside in
    let behind = drop i.start i.buf.items in
    let within : c.args.n ≤ length (take (i.end - i.start) behind) =
    subst (λ l. c.args.n ≤ length l) (sym c.self.view_is) c.requires in
    let short = length-take (i.end - i.start) behind in
    let less = taken_less i.buf.items i.start i.end c.args.n (omega (arith, within, short)) in
    less ∙ ap (drop c.args.n) c.self.view_is
