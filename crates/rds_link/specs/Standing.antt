-- How an end stands towards the end of its stream, and what each call does to that. This project's own.
use Rattle.std.specs.Prelude.{◌≡◌, ◌≢◌, ◌⊎◌, ℕ, ◌==◌, ◌&&◌, Bool, true, false, not}
use Rattle.atomic_table.specs.Seated.{TableId}
use Rattle.rds_link.specs.declared.words.view.View.{View}

pub record Stand : Type 0 where
  -- it has shut
  pub is_shut : Bool
  -- its exchange found that no end had shut before it
  pub shut_first : Bool
  -- a load of its own found that the other end had shut, while it hadn't
  pub saw : Bool
  -- it knows that the other end has shut
  pub other_shut : Bool
  -- how many faults it has had
  pub faults : ℕ

-- the end of a new stream
abbrev pub fresh_stand : Stand
fresh_stand = record { is_shut = false; shut_first = false; saw = false; other_shut = false; faults = 0 }

-- it had shut itself, and nothing changes
abbrev pub HadShut : Stand → Stand → Type 0
HadShut old new = (old.is_shut ≡ true) × (new ≡ old)

-- it has its first fault, and shuts
abbrev pub Failed : Stand → Stand → Type 0
Failed old new = (old.is_shut ≡ false) × (old.faults ≡ 0) × (new ≡ record old { is_shut = true; shut_first = new.shut_first; faults = 1 })

-- its own load finds that the other end has shut
abbrev pub Saw : Stand → Stand → Type 0
Saw old new = (old.is_shut ≡ false) × (new ≡ record old { saw = true; other_shut = true })

-- the three causes of an answer `Over`
abbrev pub IsOver : Stand → Stand → Type 0
IsOver old new = HadShut old new ⊎ (Failed old new ⊎ Saw old new)

-- any other answer leaves all as it was, and comes only where the end hasn't shut and doesn't know that the other has
abbrev pub GoesOn : Stand → Stand → Type 0
GoesOn old new = (old.is_shut ≡ false) × (old.other_shut ≡ false) × (new ≡ old)

-- it shuts, and stands as before where it had shut
abbrev pub Shuts : Stand → Stand → Type 0
Shuts old new = (old.is_shut ≡ true → new ≡ old) × (new ≡ record old { is_shut = true; shut_first = new.shut_first })

-- the first of two ends that met knows whether the second has shut
abbrev pub LearnsOther : Stand → Stand → Stand → Type 0
LearnsOther old new other = (new ≡ record old { other_shut = other.is_shut }) × (old.saw ≡ true → other.is_shut ≡ true)

-- where both have shut, at least one of two ends that met has never seen the other shut
abbrev pub HaveCause : Stand → Stand → Type 0
HaveCause a b = a.is_shut ≡ true → b.is_shut ≡ true → (a.saw ≡ false) ⊎ (b.saw ≡ false)

-- where one of two ends that met has shut, one of them shut first
abbrev pub HaveFirst : Stand → Stand → Type 0
HaveFirst a b = (a.is_shut ≡ true) ⊎ (b.is_shut ≡ true) → a.shut_first ≡ not b.shut_first

-- which two words an end shares, the number that it drew, and how it stands
pub record StandingView : Type 0 where
  pub words : TableId
  pub number : ℕ
  pub stand : Stand

-- the two ends of one stream
abbrev pub AreTwoEnds : StandingView → StandingView → Type 0
AreTwoEnds a b = (a.words ≡ b.words) × (a.number ≢ b.number)

-- the end stands otherwise, and is of the same stream
abbrev pub standing : StandingView → Stand → StandingView
standing v s = record { words = v.words; number = v.number; stand = s }

-- how an end with this view of the words stands
abbrev pub stand_of : View → Bool → Bool → ℕ → Stand
stand_of v saw other_shut faults = record { is_shut = v.shut; shut_first = v.shut && (v.first == v.number); saw = saw; other_shut = other_shut; faults = faults }
