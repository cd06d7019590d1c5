use Rattle.std.proofs.Common.{◌<◌, refl, ap, ◌∙◌, subst}
use Rattle.rds_conn.specs.Connection.{Connection}
use Rattle.rds_line_parts.proofs.Relieving.{relieving_fits, relieving_more}
use Rattle.rds_line_parts.proofs.relief.relieve.Goals as goal

pub add-requires-clause-part : goal.add-requires-clause-part
add-requires-clause-part c =
    relieving_fits _ _ _ _ _ c.args.words.now c.in-Some.freed c.in-Some.freed.bytes 0 c.loop-freed.invariant.0 c.in-Some.ensures.some refl
    (λ slot small. c.requires slot (subst (λ n. slot < n) c.known.ensures.freed small))

pub loop-freed-preserved : goal.loop-freed-preserved
loop-freed-preserved c = (
  relieving_more _ _ _ _ _ c.add.new.words c.in-Some.freed c.in-Some.freed.bytes c.add.ensures.0 c.loop-freed.invariant.0 c.in-Some.ensures.some refl c.add.ensures.1,
  c.in-Some.ensures.rest ∙ ap (λ (k : Connection). record k { freed = c.take_freed.new.self.freed }) c.loop-freed.invariant.1,
)
