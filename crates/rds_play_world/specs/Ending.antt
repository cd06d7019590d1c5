-- What lists of journals tell of a past in the end. Source: this project's own.
use Rattle.std.specs.Prelude.{◌≡◌, ℕ, ◌<◌, List, Vec, get_or, map}
use Rattle.std.specs.Global.{Global}
use Rattle.rds_model.specs.Log.{Log}
use Rattle.rds_history.specs.Events.{Event}
use Rattle.rds_history.specs.History.{final_host}
use Rattle.rds_text.specs.FinalViews.{side_view}

-- for each of the hosts there is a list of its journals, as the past has them
abbrev pub JournalsTell : (hosts : ℕ) → List Event → List (Vec (ℕ × Log) Global) → Type 0
JournalsTell hosts past rows = (h : ℕ) → h < hosts → (row : Vec (ℕ × Log) Global) → row ≡ get_or rows h row →
    map side_view row.items ≡ (final_host hosts h past).sides
