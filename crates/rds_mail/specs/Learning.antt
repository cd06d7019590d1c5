-- What an empty queue shows, and what each moment shows. This project's own.
use Rattle.std.specs.Prelude.{◌≡◌, true}
use Rattle.rds_seats.specs.Views.{Each}
use Rattle.rds_mail.specs.declared.view.View.{View}
use Rattle.rds_mail.specs.Shared.{IsPart, IsAllPut, IsKnown}
use Rattle.rds_mail.specs.Passes.{Getter, getter_of}

-- all items that notes told of were got, and of each joined putter exactly what it put
pub record AllGot {T : Type 0} (g : Getter T) : Type 0 where
  pub told : Each g.told (IsPart g.got)
  pub joined : Each g.joined (IsAllPut g.got)

-- the getter is one of the passes of a queue that keeps the rule
pub record IsRuled {T : Type 0} (g : Getter T) : Type 0 where
  pub view : View T
  pub is : g ≡ getter_of g.mail view g.empties
  pub gets : view.gets ≡ true
  pub known : IsKnown view
