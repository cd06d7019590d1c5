use Rattle.std.proofs.Common.{◌≡◌, ◌+◌, ◌<◌, ℕ, arith, length, subst, sym, ◌∙◌, slice_index_or, slice_set}
use Rattle.std.specs.Fork.{ChangesAt}
use Rattle.std.proofs.lemmas.List.{get_or-set_same, get_or_default, length-set}
use Rattle.rds_beside.proofs.places.at_one.Goals as goal

pub call-requires : goal.call-requires
call-requires g c p is =
    let xs = c.args.one.now in
    let some : 0 < length xs = let alone = c.requires.alone in omega (arith, alone) in
    subst (λ n. g.F.Fn.pre c.args.f.now (n, (p, tt))) {x = c.args.from + 0} (omega arith)
    (c.requires.accepts.each 0 p.now some p (is ∙ get_or_default xs 0 _ p.now some))

pub returns : goal.returns
returns g c =
    let xs = c.args.one.now in
    let y = c.call.new.it in
    let alone = c.requires.alone in
    let some : 0 < length xs = omega (arith, alone) in
    let R : ℕ → g.row.T.Denot → g.row.T.Denot → Type 0 = ChangesAt g.F.Fn c.args.f.now in record {
      count = length-set xs 0 y;
      each = λ k d low.
          let was : R c.args.from (slice_index_or xs 0 d) y = subst (λ x. R c.args.from x y) (get_or_default xs 0 _ d some) c.call.ensures in
          let is : k ≡ 0 = omega (arith, low, alone) in
          subst (λ n. R (c.args.from + n) (slice_index_or xs n d) (slice_index_or (slice_set xs 0 y) n d)) (sym is)
          (subst (λ n. R n (slice_index_or xs 0 d) (slice_index_or (slice_set xs 0 y) 0 d)) {x = c.args.from} (omega arith)
          (subst (R c.args.from (slice_index_or xs 0 d)) (sym (get_or-set_same xs 0 y d some)) was));
    }
