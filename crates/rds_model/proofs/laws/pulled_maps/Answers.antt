use Rattle.std.proofs.Common.{◌∙◌, ap}
use Rattle.rds_wire.specs.declared.frame.Frame.{Frame}
use Rattle.rds_wire.specs.declared.header.TheConstants.{CONG_BITMAP}
use Rattle.rds_wire.specs.declared.kind.TheConstants.{MAP_LENGTH}
use Rattle.rds_model.specs.LegalityLaws.{lawful_pull}
use Rattle.rds_model.specs.FrameLaws.{len_of_header}
use Rattle.rds_model.proofs.FewMaps.{map_pull_of}
use Rattle.rds_model.proofs.laws.pulled_maps.Goals as goal

pub returns : goal.returns
returns c s f p past legal m is =
    let lawful = lawful_pull s f legal m in
    let pull = map_pull_of s p f lawful is in
    let long = ap (λ (g : Frame). g.header.len) pull.is ∙ len_of_header p 0 MAP_LENGTH 0 0 CONG_BITMAP in
    (lawful.whole ∙ long, pull.bytes)
