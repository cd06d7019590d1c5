use Rattle.std.proofs.Common.{◌+◌, ◌∙◌, arith, subst, refl, slice_index_or, rules}
use Rattle.std.specs.Fork.{ChangesAt}
use Rattle.std.proofs.lemmas.List.{get_or_default}
use Rattle.rds_beside.proofs.places.for_each_mut.Goals as goal

pub each_from-requires : goal.each_from-requires
each_from-requires g c = (
  search rules,
  (
    search rules,
    (
      search rules,
      record {
        room = search rules;
        each = λ k d low p is.
            subst (λ n. g.F.Fn.pre c.args.f.now (n, (p, tt))) {x = k} (omega arith) (c.requires k p low (is ∙ get_or_default c.args.list.now k d p.now low));
      },
    ),
  ),
)

pub returns : goal.returns
returns g c i d low =
    let xs = c.args.list.now in
    let ys = c.each_from.new.list in
    (refl, subst (λ n. ChangesAt g.F.Fn c.args.f.now n (slice_index_or xs i d) (slice_index_or ys i d)) {x = 0 + i} (omega arith) (c.each_from.ensures.each i d low))
