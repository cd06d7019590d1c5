use Rattle.std.proofs.Common.{◌≡◌, List, ◌∙◌, ap, subst}
use Rattle.rds_model.specs.declared.entry.Entry.{Entry}
use Rattle.rds_model.specs.Pairs.{IsDeliveredOnce}
use Rattle.rds_play_pair.specs.Sides.{Sides}
use Rattle.rds_play_pair.specs.Half.{side_of}
use Rattle.rds_play_pair.proofs.Joining.{honest_of}
use Rattle.rds_play_pair.proofs.pair.ConnPair.known.Goals as goal

pub headline-requires-clause-honest : goal.headline-requires-clause-honest
headline-requires-clause-honest c =
    rw (c.journal-first.ensures.past, c.journal-second.ensures.past)
    (honest_of c.self.inside.streams (side_of c.self.inside.first) (side_of c.self.inside.second) c.self.invariant)

pub no_bad-requires-clause-honest : goal.no_bad-requires-clause-honest
no_bad-requires-clause-honest c =
    rw (c.journal-first.ensures.past, c.journal-second.ensures.past)
    (honest_of c.self.inside.streams (side_of c.self.inside.first) (side_of c.self.inside.second) c.self.invariant)

pub returns-clause-honest : goal.returns-clause-honest
returns-clause-honest c =
    rw (← c.self.view_is)
    (honest_of c.self.inside.streams (side_of c.self.inside.first) (side_of c.self.inside.second) c.self.invariant)

-- what holds of the two journals holds of what contracts see
along : (P : List Entry → List Entry → Type 0) (first second : List Entry) (seen : Sides) →
    first ≡ seen.first.past → second ≡ seen.second.past → P first second → P seen.first.past seen.second.past
along P first second seen first_is second_is holds =
    subst (λ (j : List Entry). P j seen.second.past) first_is (subst (λ (j : List Entry). P first j) second_is holds)

pub returns-clause-forth : goal.returns-clause-forth
returns-clause-forth c sport dport =
    along (IsDeliveredOnce sport dport) c.journal-first.result.now.past c.journal-second.result.now.past c.args.self.now
    (c.journal-first.ensures.past ∙ ap (λ (p : Sides). p.first.past) c.self.view_is)
    (c.journal-second.ensures.past ∙ ap (λ (p : Sides). p.second.past) c.self.view_is)
    (c.headline.ensures.forth sport dport)

pub returns-clause-back : goal.returns-clause-back
returns-clause-back c sport dport =
    along (λ a b. IsDeliveredOnce sport dport b a) c.journal-first.result.now.past c.journal-second.result.now.past c.args.self.now
    (c.journal-first.ensures.past ∙ ap (λ (p : Sides). p.first.past) c.self.view_is)
    (c.journal-second.ensures.past ∙ ap (λ (p : Sides). p.second.past) c.self.view_is)
    (c.headline.ensures.back sport dport)
