-- What a call does to the end at one place. Source: this project's own.
use Rattle.std.specs.Prelude.{◌≡◌, ◌≢◌, ℕ, ◌+◌, ◌≤◌, true, Some, List, [], ◌++◌, slice_get, slice_set}
use mathlib.Core.List.{IsPrefix}
use Rattle.rds_link.specs.declared.end.Got.{Got}
use Rattle.rds_link.specs.declared.end.Got.TheVariants as answer_got
use Rattle.rds_link.specs.declared.end.Put.{Put}
use Rattle.rds_link.specs.declared.end.Put.TheVariants as answer_put
use Rattle.rds_link.specs.Answers.{bytes_put}
use Rattle.rds_link.specs.Ends.{Means, Remains, SendsNothing, GetsNothing, CountsStay, FailsByNumber, RisesBy}
use Rattle.rds_link.specs.Standing.{IsOver, GoesOn, Shuts}

module _ {E : Type 0} where
  -- the end at this place changed in this way, and nothing else did
  pub record ChangesAt (Way : E → E → Type 0) (place : ℕ) (old new : List (ℕ × E)) : Type 0 where
    pub number : ℕ
    pub end_before : E
    pub end_after : E
    pub stood : slice_get old place ≡ Some (number, end_before)
    pub stands : new ≡ slice_set old place (number, end_after)
    pub way : Way end_before end_after

  module _ (m : Means E) where
    -- a read of an end gave this answer and these bytes
    pub record Receives (answer : Got) (piece : List ℕ) (old new : E) : Type 0 where
      pub got : m.tells ≡ true → m.got new ≡ m.got old ++ piece
      pub known : m.tells ≡ true → IsPrefix (m.known old) (piece ++ m.known new)
      pub sent : SendsNothing m old new
      pub nothing : answer ≡ answer_got.Nothing → m.tells ≡ true → m.known new ≡ []
      pub goes : answer ≢ answer_got.Over → GoesOn (m.stand old) (m.stand new)
      pub over : answer ≡ answer_got.Over → IsOver (m.stand old) (m.stand new)
      pub fails : FailsByNumber m old new
      pub nothings : answer ≡ answer_got.Nothing → RisesBy 1 (m.nothings old) (m.nothings new)
      pub others : answer ≢ answer_got.Nothing → m.nothings new ≡ m.nothings old
      pub fulls : m.fulls new ≡ m.fulls old
      pub meets : Remains m old new

    -- a write to an end gave this answer, and these bytes went
    pub record Sends (answer : Put) (piece : List ℕ) (old new : E) : Type 0 where
      pub sent : m.tells ≡ true → m.sent new ≡ m.sent old ++ piece
      pub room : m.tells ≡ true → m.room old ≤ m.room new + bytes_put answer
      pub got : GetsNothing m old new
      pub full : answer ≡ answer_put.Full → m.tells ≡ true → m.room new ≡ 0
      pub goes : answer ≢ answer_put.Over → GoesOn (m.stand old) (m.stand new)
      pub over : answer ≡ answer_put.Over → IsOver (m.stand old) (m.stand new)
      pub fails : FailsByNumber m old new
      pub fulls : answer ≡ answer_put.Full → RisesBy 1 (m.fulls old) (m.fulls new)
      pub others : answer ≢ answer_put.Full → m.fulls new ≡ m.fulls old
      pub nothings : m.nothings new ≡ m.nothings old
      pub meets : Remains m old new

    -- the end is shut, and moves nothing
    pub record IsShutDown (old new : E) : Type 0 where
      pub shut : Shuts (m.stand old) (m.stand new)
      pub sent : SendsNothing m old new
      pub got : GetsNothing m old new
      pub counts : CountsStay m old new
      pub meets : Remains m old new
