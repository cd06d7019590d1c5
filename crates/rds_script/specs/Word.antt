-- Numbers, hosts and payloads as words. The forms are this project's own.
use Rattle.std.specs.Prelude.{◌≡◌, ℕ, ◌+◌, ◌*◌, ◌%◌, ◌<◌, ◌≤◌, ◌⊎◌, List, [], ◌∷◌, ◌++◌, length, slice_index, EachIndex, codes, ⊤}
use Rattle.std.specs.Char.{digit_value}
use Rattle.std.specs.Str.Parse.{IsNumeral, digits_value}

-- a host is a letter: A, B and so on, as many as there are hosts
pub record IsHost (hosts : ℕ) (word : List ℕ) (host : ℕ) : Type 0 where
  pub letter : word ≡ (65 + host) ∷ []
  pub known : host < hosts

-- a number is 1 to 10 decimal digits
pub record IsNumber (word : List ℕ) (n : ℕ) : Type 0 where
  pub digits : IsNumeral 10 word
  pub few : length word ≤ 10
  pub value : n ≡ digits_value 10 word

-- a number from `low` to `high`
pub record IsNumberIn (low high : ℕ) (word : List ℕ) (n : ℕ) : Type 0 where
  pub number : IsNumber word n
  pub from : low ≤ n
  pub to : n ≤ high

-- two hexadecimal digits for each byte, in either case
abbrev pub IsHex : List ℕ → List ℕ → Type 0
IsHex [] [] = ⊤
IsHex (high ∷ low ∷ digits) (byte ∷ bytes) =
    (digit_value high < 16) × (digit_value low < 16) × (byte ≡ 16 * digit_value high + digit_value low) × IsHex digits bytes
IsHex _ _ = ⊥

-- the bytes 0, 1 and so on to 255, and again from 0
abbrev pub IsCount : List ℕ → Type 0
IsCount bytes = EachIndex bytes (λ i. slice_index bytes i ≡ i % 256)

-- `t:` and the bytes themselves
abbrev pub IsPlain : List ℕ → List ℕ → Type 0
IsPlain word bytes = word ≡ codes "t:" ++ bytes

-- `x:` and the bytes as hexadecimal digits
abbrev pub IsHexed : List ℕ → List ℕ → Type 0
IsHexed word bytes = (digits : List ℕ) × (word ≡ codes "x:" ++ digits) × IsHex digits bytes

-- `f:` and how many bytes there are, which count up
abbrev pub IsFilled : List ℕ → List ℕ → Type 0
IsFilled word bytes = (digits : List ℕ) × (word ≡ codes "f:" ++ digits) × IsNumber digits (length bytes) × IsCount bytes

-- a payload in one of its three forms, of at most 2,097,152 bytes
pub record IsPayload (word bytes : List ℕ) : Type 0 where
  pub form : IsPlain word bytes ⊎ (IsHexed word bytes ⊎ IsFilled word bytes)
  pub few : length bytes ≤ 2097152
