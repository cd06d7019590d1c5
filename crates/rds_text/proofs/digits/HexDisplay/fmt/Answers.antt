use Rattle.std.proofs.Common.{◌≡◌, ℕ, List, [], ◌++◌, refl, sym, ap, ◌∙◌, rules, append_assoc, append-nil, flat_map}
use Rattle.std.proofs.lemmas.Grind.{flat_map-append}
use Rattle.std.proofs.lemmas.List.{nil_from_length}
use Rattle.std.proofs.Output.{has_written_append, has_written_of_eq}
use Rattle.std.specs.Slice.Iter.{chunks_rest}
use Rattle.rds_text.specs.Words.{hex_byte}
use Rattle.rds_text.proofs.Encoding.{printed}
use Rattle.rds_text.proofs.digits.HexDisplay.fmt.Goals as goal

pub loop-piece-init : goal.loop-piece-init
loop-piece-init g c = (search rules, tt, search rules, λ plain. ([], search rules, search rules))

pub loop-piece-preserved : goal.loop-piece-preserved
loop-piece-preserved g c =
    let piece = c.in-Some.piece.now in
    let steps = c.in-Some.ensures.steps in (
      search rules,
      tt,
      steps.0 ∙ c.loop-piece.invariant.2,
      λ plain.
          let before = c.loop-piece.invariant.3 plain in (
            before.0 ++ flat_map hex_byte piece,
            has_written_append _ _ _ _ _ _ before.1 (c.in_ok-write_digits.ensures before.1.plain refl),
            append_assoc before.0 _ _
                ∙ ap (λ (l : List ℕ). before.0 ++ l) (sym (flat_map-append hex_byte piece (chunks_rest c.next.new.self)) ∙ ap (flat_map hex_byte) (sym steps.1.0))
                ∙ before.2,
          ),
    )

pub returns-clause-writes : goal.returns-clause-writes
returns-clause-writes g c = λ plain ok.
    let before = c.loop-piece.invariant.3 plain in
    let none = nil_from_length _ c.in-None.ensures.steps.1.0 in
    let all = rw (none, append-nil) at before.2 in
    has_written_of_eq _ _ _ _ _ (all ∙ printed _ (search rules)) before.1

pub returns-then-is_empty-clause-writes : goal.returns-then-is_empty-clause-writes
returns-then-is_empty-clause-writes g c = search rules
