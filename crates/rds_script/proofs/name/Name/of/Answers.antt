use Rattle.std.proofs.Common.{◌≡◌, refl, arith, codes}
use Rattle.std.proofs.lemmas.Slice.Eq.{text_from_reads}
use Rattle.rds_script.specs.Reading.{name_of}
use Rattle.rds_script.proofs.name.Name.of.Goals as goal

pub returns-in-cancel : goal.returns-in-cancel
unfolding name_of
returns-in-cancel c =
    let e : c.args.word.now ≡ codes "cancel" = text_from_reads _ _ (omega arith) (omega arith, (omega arith, (omega arith, (omega arith, (omega arith, (omega arith, tt)))))) in
    rw e refl

pub returns-in-bindany : goal.returns-in-bindany
unfolding name_of
returns-in-bindany c =
    let e : c.args.word.now ≡ codes "bindany" = text_from_reads _ _ (omega arith) (omega arith, (omega arith, (omega arith, (omega arith, (omega arith, (omega arith, (omega arith, tt))))))) in
    rw e refl
