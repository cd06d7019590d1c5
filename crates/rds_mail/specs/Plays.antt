-- What each kind of step on a mailbox tells its pass. This project's own.
use Rattle.std.specs.Prelude.{◌≡◌, List, []}
use Rattle.rds_seats.specs.Views.{Each}
use Rattle.rds_mail.specs.declared.view.View.{View}
use Rattle.rds_mail.specs.Numbers.{Number}
use Rattle.rds_mail.specs.Views.{after_put, after_get}
use Rattle.rds_mail.specs.Shared.{IsPart, IsAllPut, IsKnown}
use Rattle.rds_mail.specs.Merging.{AllBegin, AreAll, IsMerged}

module _ {T : Type 0} where
  -- an item is put by this pass
  abbrev pub Puts : View T → T → View T → Type 0
  Puts v item w = w ≡ after_put v item

  -- an item of some putter is got by this pass
  abbrev pub Gets : View T → T → View T → Type 0
  Gets v item w = (number : Number) × (w ≡ after_get v number item)

  -- an empty queue shows that all that notes told of and all of joined putters was got
  abbrev pub Emptied : View T → List T → Type 0
  Emptied v queue = queue ≡ [] → Each v.told (IsPart v.got) × Each v.joined (IsAllPut v.got)

  -- the view stands among views that keep the rule, which shows what was got of each putter that has ended
  abbrev pub Compared : View T → List T → Type 0
  Compared v queue = IsKnown v × AllBegin v.got v.joined × (AreAll v.joined → IsMerged v.got v.joined)
