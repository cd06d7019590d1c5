-- What holds of a mailbox between any two atomic steps. This project's own.
use Rattle.std.specs.Prelude.{◌≡◌, ℕ, suc, ◌≤◌, true, List, [], ◌∷◌, ◌++◌, Option, Some, None}
use Rattle.rds_seats.specs.Views.{At, Has, Each}
use Rattle.rds_mail.specs.declared.view.View.{View}
use Rattle.rds_mail.specs.declared.view.Account.{Account}
use Rattle.rds_mail.specs.Numbers.{Number, Numbered, items_of, bare_items}
use Rattle.rds_model.specs.Honest.{Begins}

-- where each putter is: none yet, joined into the getter (0), or the pass at a place (1 more than it)
abbrev pub Places : Type 0
Places = Number → Option ℕ

module _ {T : Type 0} where
  -- what the account says is all that its putter has put so far
  abbrev pub IsAllPut : List (Numbered T) → Account T → Type 0
  IsAllPut log a = a.put ≡ items_of a.number log

  -- what the account says is a beginning of what its putter has put
  abbrev pub IsPart : List (Numbered T) → Account T → Type 0
  IsPart log a = Begins a.put (items_of a.number log)

  -- the putter is at this place, and has split off no more than its account says
  pub record PutterStands (places : Places) (log : List (Numbered T)) (place : ℕ) (a : Account T) : Type 0 where
    pub here : places a.number ≡ Some place
    pub whole : IsAllPut log a
    pub splits : (k : ℕ) → a.splits ≤ k → places (k ∷ a.number) ≡ None

  -- what the pass at this place knows is so, where the log is all that was ever put and `got` begins it
  pub record PassFits (places : Places) (log got : List (Numbered T)) (reader place : ℕ) (v : View T) : Type 0 where
    pub puts : v.puts ≡ true → PutterStands places log (suc place) v.account
    pub gets : v.gets ≡ true → (place ≡ reader) × (v.got ≡ got)
    pub notes : v.notes ≡ true → IsPart log v.account
    pub told : Each v.told (IsPart log)
    pub joined : Each v.joined (PutterStands places log 0)

  -- What was got, and then what is queued, is one list whose items of each putter are exactly what it put.
  pub record IsMailed (queue : List T) (views : List (View T)) : Type 0 where
    pub places : Places
    pub reader : ℕ
    pub got : List (Numbered T)
    pub queued : List (Numbered T)
    pub are : bare_items queued ≡ queue
    -- a putter that isn't there has split off none, and has put nothing
    pub after : (number : Number) (k : ℕ) → places number ≡ None → places (k ∷ number) ≡ None
    pub nothing : (number : Number) → places number ≡ None → items_of number (got ++ queued) ≡ []
    pub fits : (place : ℕ) (v : View T) → At views place v → PassFits places (got ++ queued) got reader place v

  -- there are a queue and views that keep the rule, and one of these views is v
  abbrev pub IsKnown : View T → Type 0
  IsKnown v = (queue : List T) × (views : List (View T)) × IsMailed queue views × Has views (λ w. w ≡ v)
