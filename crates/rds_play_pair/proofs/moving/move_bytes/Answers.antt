use Rattle.std.proofs.Common.{take, drop, sym, ◌∙◌, subst}
use Rattle.std.proofs.lemmas.List.{take-append-drop}
use Rattle.rds_play_pair.specs.Sides.{Side}
use Rattle.rds_play_pair.specs.Half.{side_of}
use Rattle.rds_play_pair.specs.Joined.{Flows}
use Rattle.rds_play_pair.proofs.Refusing.{honest_refused, never_refused}
use Rattle.rds_play_pair.proofs.moving.move_bytes.Goals as goal

pub no_bad-requires-clause-honest : goal.no_bad-requires-clause-honest
no_bad-requires-clause-honest c =
    let flying = c.rest-flying.result.now in
    let count = c.min-count.result in
    let same = c.ready.ensures.same in
    rw (c.journal.ensures.past, c.journal-in-Err-Malformed.ensures.past)
    (honest_refused c.args.writer.now.conn c.ready.new.self.conn c.feed.new.self c.args.writer.now.out c.ready.new.self.out
    (take count flying) (drop count flying) c.in-Err-Malformed.field-0-0
    (subst (λ (s : Side). Flows (side_of c.args.writer.now) s) (sym same) c.requires.forth)
    (subst (λ (s : Side). Flows s (side_of c.args.writer.now)) (sym same) c.requires.back)
    (c.ready.ensures.whole).legal (sym c.rest-flying.ensures ∙ sym (take-append-drop count flying))
    (c.in-Err-Malformed.ensures.malformed c.in-Err-Malformed.field-0-0 (cc)))

pub unreachable-requires : goal.unreachable-requires
unreachable-requires c =
    never_refused c.ready.new.self.conn c.feed.new.self _ c.in-Err-Malformed.field-0-0 c.journal-in-Err-Malformed.result.now.past
    (c.in-Err-Malformed.ensures.malformed c.in-Err-Malformed.field-0-0 (cc)) c.journal-in-Err-Malformed.ensures.past c.no_bad.ensures.none_in_b
