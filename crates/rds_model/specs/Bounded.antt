-- How many entries a journal may have. Source: this project's own.
use Rattle.std.specs.Prelude.{◌≡◌, ℕ, suc, ◌+◌, ◌*◌, ◌≤◌, if◌then◌else◌, true, List, [], ◌∷◌, length}
use Rattle.rds_model.specs.declared.entry.Entry.{Entry}
use Rattle.rds_model.specs.declared.entry.Entry.TheVariants.{Pull}
use Rattle.rds_model.specs.Owed.{is_map}
use Rattle.rds_model.specs.Sums.{orders, opens}

-- how many congestion maps were pulled
abbrev pub map_pulls : List Entry → ℕ
map_pulls [] = 0
map_pulls (Pull stream frame ∷ past) = if is_map frame then suc (map_pulls past) else map_pulls past
map_pulls (_ ∷ past) = map_pulls past

-- the most entries that one of two journals has, which together took o orders, opened w streams and pulled m maps
abbrev pub most_entries : (o w m : ℕ) → ℕ
most_entries o w m = o * (1 + 3 * w) + 2 * w + m

-- Journal a has no more entries than that, where b is its peer's. The three numbers may be any upper limits.
abbrev pub IsBounded : (a b : List Entry) → Type 0
IsBounded a b = (o w m : ℕ) →
    length (orders a) + length (orders b) ≤ o →
    length (opens a) + length (opens b) ≤ w →
    map_pulls a + map_pulls b ≤ m →
    length a ≤ most_entries o w m

-- Each map that was pulled is a version of one map that changes, up to the newest one, and no pull went back to an
-- earlier version.
abbrev pub TakesMaps : (versions : ℕ → List ℕ) → List Entry → (newest : ℕ) → Type 0
TakesMaps versions [] newest = Unit {0}
TakesMaps versions (Pull stream frame ∷ past) newest =
    (version : ℕ) × (version ≤ newest) × (is_map frame ≡ true → frame.payload ≡ versions version) × TakesMaps versions past version
TakesMaps versions (_ ∷ past) newest = TakesMaps versions past newest
