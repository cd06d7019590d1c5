-- Two journals between which nothing is left to do. Source: this project's own.
use Rattle.std.specs.Prelude.{◌≡◌, ℕ, Option, Some, None, List, [], ◌∷◌}
use Rattle.rds_model.specs.declared.entry.Entry.{Entry}
use Rattle.rds_model.specs.declared.entry.Entry.TheVariants.{Read}
use Rattle.rds_model.specs.declared.entry.Outcome.{Outcome}
use Rattle.rds_model.specs.declared.entry.Outcome.TheVariants as outcome
use Rattle.rds_model.specs.Past.{open_stream}
use Rattle.rds_model.specs.Streams.{written_bytes, read_bytes}
use Rattle.rds_model.specs.Alive.{alive_numbers}
use Rattle.rds_model.specs.Owed.{last_map, owed_frame}

-- an end owes nothing for the map that it pulled last on stream s
pub record OwesNothing (s : ℕ) (past : List Entry) : Type 0 where
  pub map : List ℕ
  pub pulled : last_map s past ≡ Some map
  pub nothing : owed_frame s past map ≡ None

-- Stream k is open at both ends, each got all that the other wrote to it, and neither owes anything.
pub record IsQuiet (s : ℕ) (a b : List Entry) : Type 0 where
  pub open_a : open_stream a ≡ Some s
  pub open_b : open_stream b ≡ Some s
  pub forth : read_bytes s b ≡ written_bytes s a
  pub back : read_bytes s a ≡ written_bytes s b
  pub idle_a : OwesNothing s a
  pub idle_b : OwesNothing s b

abbrev pub map_of : Outcome → List ℕ → Option (List ℕ) → Option (List ℕ)
map_of outcome.Map payload earlier = Some payload
map_of _ payload earlier = earlier

-- the congestion map that was read last
abbrev pub last_map_read : List Entry → Option (List ℕ)
last_map_read [] = None
last_map_read (Read stream frame outcome ∷ past) = map_of outcome frame.payload (last_map_read past)
last_map_read (_ ∷ past) = last_map_read past

-- what quiet journals have beside: no number is alive, and each end has read the last map of the other
pub record IsSettledBetween (s : ℕ) (a b : List Entry) : Type 0 where
  pub none_alive_a : alive_numbers a ≡ []
  pub none_alive_b : alive_numbers b ≡ []
  pub map_a : last_map_read a ≡ last_map s b
  pub map_b : last_map_read b ≡ last_map s a
