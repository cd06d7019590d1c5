-- The search for a free port, and which port a slot has claimed. This project's own.
use Rattle.std.specs.Prelude.{◌≡◌, ◌≢◌, ℕ, ◌+◌, ◌-◌, ◌%◌, ◌<◌, nat_lt, if◌then◌else◌, List, [], ◌∷◌, length, All, Option, Some, None, Contains}
use Rattle.rds_bindtab.specs.declared.view.View.{View}
use Rattle.rds_bindtab.specs.declared.view.Step.TheVariants.{Claimed}
use Rattle.rds_bindtab.specs.Seats.{PortSeat, knowing, after_exchange}

-- a search from a reserved port begins at port 2
abbrev pub first_port : ℕ → ℕ
first_port start = if nat_lt start 2 then 2 else start

-- the n-th port from p on, where 2 follows 65,535
abbrev pub port_after : ℕ → ℕ → ℕ
port_after p n = 2 + (p - 2 + n) % 65534

-- a word that was found is that of a port in use
abbrev pub IsTaken : ℕ → Type 0
IsTaken word = word ≢ 0

-- the view after claims of the ports from the n-th after p on, which found these words
abbrev pub after_claims : View → ℕ → ℕ → List ℕ → View
after_claims v p n [] = v
after_claims v p n (word ∷ words) = after_claims (after_exchange v (port_after p n) word) p (n + 1) words

-- a search takes the first port from p on whose claim finds 0, and none where 65,534 claims have each found another word
abbrev pub SearchFits : PortSeat → ℕ → Option ℕ → PortSeat → Type 0
SearchFits old p (Some port) new = (words : List ℕ) × (length words < 65534) × All IsTaken words × (port ≡ port_after p (length words)) × (new ≡ knowing old (after_exchange (after_claims old.view p 0 words) port 0))
SearchFits old p None new = (words : List ℕ) × (length words ≡ 65534) × All IsTaken words × (new ≡ knowing old (after_claims old.view p 0 words))

-- each port that it has claimed is this one
abbrev pub HasClaimedOnly : Option ℕ → View → Type 0
HasClaimedOnly port v = (claimed slot : ℕ) → Contains v.steps (Claimed claimed slot 0) → port ≡ Some claimed
