use Rattle.std.proofs.Common.{◌≡◌, sym, ◌∙◌, length}
use Rattle.std.proofs.lemmas.Bool.{eqb-true}
use Rattle.rds_script.specs.Text.{words}
use Rattle.rds_script.specs.Reading.{places_of}
use Rattle.rds_script.proofs.Exact.{exact_found, exact_counted}
use Rattle.rds_script.proofs.command.command_of.Goals as goal
use Rattle.rds_script.proofs.command.command_of.Goals.{else-is_err-via-then-is_err+else-not-has_words, else-is_err-via-else-is_err}

pub returns : goal.returns
returns c = elim c.else-is_err.branch [
  | else-is_err-via-then-is_err+else-not-has_words w ↦
      let same : length (words c.args.rest.now) ≡ length (places_of c.args.name) = eqb-true _ _ (sym w.has_words.ensures ∙ w.if-not-has_words.false) ∙ w.places.ensures in
      exact_counted c.args.hosts c.args.name _ _ _ same c.command_at-command.ensures
  | else-is_err-via-else-is_err w ↦
      exact_found c.args.hosts c.args.name _ _ (sym c.is_err.ensures.value ∙ w.if-is_err.false) c.command_at-command.ensures
]
