use Rattle.std.proofs.Common.{◌≡◌, ℕ, List, take}
use Rattle.std.specs.Prelude.{IsTrue}
use Rattle.std.specs.Char.{is_ascii_digit}
use Rattle.std.specs.List.{list_all}
use Rattle.std.specs.Str.Parse.{digits_value}
use Rattle.rds_script.proofs.place.number_of.Given as goal

-- the bytes so far are digits, and this is their value
pub record DigitsSoFar (digits : List ℕ) (value : ℕ) : Type 0 where
  pub all : IsTrue (list_all is_ascii_digit digits)
  pub value_is : value ≡ digits_value 10 digits

abbrev pub invariant-loop-digit : goal.invariant-loop-digit
invariant-loop-digit l = DigitsSoFar (take l.digit-index l.word) l.value
