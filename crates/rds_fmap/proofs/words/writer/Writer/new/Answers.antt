use Rattle.std.proofs.Common.{◌∙◌, refl}
use Rattle.rds_fmap.specs.Views.{first_view}
use Rattle.rds_fmap.proofs.Seats.{opens_zeros}
use Rattle.rds_fmap.proofs.words.writer.Writer.new.Goals as goal

pub of_words-requires : goal.of_words-requires
of_words-requires c = (0, first_view, opens_zeros _ c.as_slice.result.now refl (c.as_slice.ensures.value ∙ c.in_ok-zeros.ensures.items_if_clones_equal (λ y h. h)))
