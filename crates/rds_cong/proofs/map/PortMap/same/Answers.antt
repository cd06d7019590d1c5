use Rattle.std.proofs.Common.{sym, ap, ◌∙◌, rules, ◌≡◌, subst}
use Rattle.rds_cong.specs.Map.{IsMap}
use Rattle.rds_cong.specs.WordLaws.{bytes_of_words, same_words, IsMap-bytes}
use Rattle.rds_cong.specs.PortLaws.{same_maps}
use Rattle.rds_cong.proofs.map.PortMap.same.Goals as goal

pub returns-clause-value : goal.returns-clause-value
returns-clause-value c =
    let mine = c.self.inside.words.items in
    let theirs = c.other.inside.words.items in
    let count = c.self.invariant.count ∙ sym c.other.invariant.count in (
      (λ t. let words : mine ≡ theirs = search rules in sym c.self.view_is ∙ ap bytes_of_words words ∙ c.other.view_is),
      (λ e.
          let bytes = c.self.view_is ∙ e ∙ sym c.other.view_is in
          let words = same_words mine theirs count c.self.invariant.fit c.other.invariant.fit bytes in
          search rules),
    )

pub returns-clause-ports : goal.returns-clause-ports
returns-clause-ports c same =
    let mine = subst IsMap c.self.view_is (IsMap-bytes c.self.inside.words.items c.self.invariant) in
    let theirs = subst IsMap c.other.view_is (IsMap-bytes c.other.inside.words.items c.other.invariant) in
    (returns-clause-value c).1 (same_maps c.args.self.now c.args.other.now mine theirs same)
