use Rattle.std.specs.Fork.{AcceptsAt, ChangesAt}
use Rattle.rds_beside.proofs.Placing.{all_of, first_of, others_of}
use Rattle.rds_beside.proofs.places.+each.Goals as goal

pub each_from-both-requires-clause-one : goal.each_from-both-requires-clause-one
each_from-both-requires-clause-one g t c κs within =
    first_of (AcceptsAt g.F.Fn c.args.f.now) c.args.from c.args.list.now _ _ c.split_at_mut-one.ensures.value c.requires

pub each_from-both-requires-clause-others : goal.each_from-both-requires-clause-others
each_from-both-requires-clause-others g t c κs within =
    others_of (AcceptsAt g.F.Fn c.args.f.now) c.args.from c.args.list.now _ _ c.split_at_mut-one.ensures.value c.split_at_mut-one.ensures.front_len c.requires

pub each_from-returns : goal.each_from-returns
each_from-returns g t c =
    all_of (ChangesAt g.F.Fn c.args.f.now) c.args.from c.args.list.now _ _ _ _ c.split_at_mut-one.ensures.value c.split_at_mut-one.ensures.front_len
    c.both.ensures.one c.both.ensures.others
