-- How many streams are prepared for a run. Source: this project's own.
use Rattle.std.specs.Prelude.{◌≡◌, ◌≤◌, ◌<◌, ◌+◌, ◌-◌, ◌*◌, ◌==◌, ◌&&◌, ◌||◌, ℕ, Bool, true, false, List, ◌∷◌, All, filter, length, sum_by}
use Rattle.std.specs.List.{range_with_len}
use Rattle.std.specs.List.Sorted.{IsStrictlyIncreasing}
use Rattle.rds_link.specs.Streaming.{HasRisen, HasRisenBy}
use Rattle.rds_model.specs.Alive.{up_to}
use Rattle.rds_run_rounds.specs.declared.verdict.Wanted.{Wanted}
use Rattle.rds_script.specs.Grammar.{Meaning}
use Rattle.rds_script.specs.declared.script.Command.{Command}
use Rattle.rds_script.specs.declared.script.Command.TheVariants.{Cut}
use Rattle.rds_script.specs.declared.script.Placed.{Placed}

-- whether the command is a cut between two hosts, whichever of them cuts
abbrev pub is_cut_between : (low high : ℕ) → Command → Bool
is_cut_between low high (Cut host to) = (host == low && (to == high)) || (host == high && (to == low))
is_cut_between low high _ = false

-- how many of the commands are
abbrev pub cuts_between : (low high : ℕ) → List Placed → ℕ
cuts_between low high commands = length (filter (λ (placed : Placed). is_cut_between low high placed.command) commands)

-- how many streams are prepared between two hosts: one for each cut between them, and three more
abbrev pub streams_between : (low high : ℕ) → List Placed → ℕ
streams_between low high commands = cuts_between low high commands + 3

-- how many between a host and all those below it
abbrev pub streams_below : (host : ℕ) → List Placed → ℕ
streams_below host commands = sum_by (λ low. streams_between low host commands) (range_with_len 0 host)

-- how many for a run of the script, between each two of its hosts
unfoldable pub prepared_streams : Meaning → ℕ
prepared_streams s = sum_by (λ host. streams_below host s.commands) (range_with_len 0 s.hosts)

-- the numbers of all of so many streams, unless a count of faults rose
abbrev pub AreAllUnlessRisen : (count before after : ℕ) → List ℕ → Type 0
AreAllUnlessRisen count before after list = (HasRisen before after → ⊥) → list ≡ up_to count

-- These are the numbers of streams of which so many were to be prepared, where the wire's count of faults was this before and that
-- afterwards: they ascend from 1 and end there at the latest, and are all of them where that count didn't rise. It rose by at least as many
-- as are missing.
pub record AreNumbersOf (count before after : ℕ) (list : List ℕ) : Type 0 where
  pub rising : IsStrictlyIncreasing (0 ∷ list)
  pub most : All (λ n. n ≤ count) list
  pub whole : AreAllUnlessRisen count before after list
  pub missing : HasRisenBy (count - length list) before after

-- Of so many streams that were to be prepared some may be missing; so many ends of the others are there, two of each. The wire's count of
-- faults rose from this to that, by at least as many as are missing.
abbrev pub AreMissing : (streams ends before after : ℕ) → Type 0
AreMissing streams ends before after = (missing : ℕ) × (streams * 2 ≤ ends + missing * 2) × HasRisenBy missing before after

-- These are the numbers of all of so many streams where none is said to be missing, and of fewer where some are.
pub record AreAllUnlessLacking (count : ℕ) (lacks : Bool) (list : List ℕ) : Type 0 where
  pub whole : lacks ≡ false → list ≡ up_to count
  pub short : lacks ≡ true → length list < count

-- This is known of two hosts, whose streams have these numbers: how many of the commands are cuts between the two. And where no stream is said
-- to be missing, all that were to be prepared were opened; where some are said to be, fewer were.
pub record IsKnown (commands : List Placed) (low high : ℕ) (known : Wanted) (list : List ℕ) : Type 0 where
  pub cuts : known.cuts ≡ cuts_between low high commands
  pub streams : AreAllUnlessLacking (streams_between low high commands) known.lacks list
