-- What was got of each putter that has ended. This project's own.
use Rattle.std.specs.Prelude.{◌≡◌, ◌⊎◌, ℕ, ◌<◌, ◌==◌, Bool, false, if◌then◌else◌, List, [], ◌∷◌, Option, Some, None}
use Rattle.rds_seats.specs.Views.{Has, Each}
use Rattle.rds_mail.specs.declared.view.Account.{Account}
use Rattle.rds_mail.specs.Numbers.{Number, Numbered, items_of, bare_items}
use Rattle.rds_model.specs.Honest.{Begins}

-- whether the key is this one
abbrev pub is_key : Option ℕ → ℕ → Bool
is_key None k = false
is_key (Some j) k = j == k

module _ {T : Type 0} where
  -- what was got of each of these putters begins what it put
  abbrev pub AllBegin : List (Numbered T) → List (Account T) → Type 0
  AllBegin got puts = Each puts (λ a. Begins (items_of a.number got) a.put)

  -- a putter with this number is among them
  abbrev pub HasNumber : List (Account T) → Number → Type 0
  HasNumber puts number = Has puts (λ a. a.number ≡ number)

  -- these are all putters: the first is among them, and all that each of them split off
  pub record AreAll (puts : List (Account T)) : Type 0 where
    pub first : HasNumber puts []
    pub each : Each puts (λ a. (k : ℕ) → k < a.splits → HasNumber puts (k ∷ a.number))

  -- each item that was got is of one of the putters, and what was got of each begins what it put
  pub record IsMerged (got : List (Numbered T)) (puts : List (Account T)) : Type 0 where
    pub numbers : Each got (λ e. HasNumber puts e.0)
    pub begin : AllBegin got puts

  -- the items with this key, in order
  abbrev pub by_key : (T → Option ℕ) → ℕ → List T → List T
  by_key key k [] = []
  by_key key k (x ∷ list) = if is_key (key x) k then x ∷ by_key key k list else by_key key k list

  -- each putter has put only items of its own mark or without a key, and no two putters have one mark
  pub record IsKeyed (key : T → Option ℕ) (mark : Number → ℕ) (puts : List (Account T)) : Type 0 where
    pub own : Each puts (λ a. Each a.put (λ x. (key x ≡ None) ⊎ (key x ≡ Some (mark a.number))))
    pub apart : Each puts (λ a. Each puts (λ b. mark a.number ≡ mark b.number → a.number ≡ b.number))

  -- what was got with each putter's mark begins what it put with that mark
  abbrev pub KeysBegin : (T → Option ℕ) → (Number → ℕ) → List (Numbered T) → List (Account T) → Type 0
  KeysBegin key mark got puts = Each puts (λ a. Begins (by_key key (mark a.number) (bare_items got)) (by_key key (mark a.number) a.put))
