-- Private: it serves the contracts of the private functions that open the streams of a run. Source: this project's own.
use Rattle.std.specs.Prelude.{◌≡◌, ◌≤◌, ◌<◌, ◌+◌, ◌*◌, ◌^◌, ℕ, suc, List, Vec, [], ◌∷◌, ◌++◌, Some, length, slice_get, slice_set, vec_capacity, vec_len}
use Rattle.std.specs.Global.{Global}
use Rattle.rds_link.specs.Ends.{Means}
use Rattle.rds_link.specs.Streaming.{HasRisenBy}
use Rattle.rds_line_channel.specs.Streams.{numbers}
use Rattle.rds_run_rounds.specs.declared.verdict.Wanted.{Wanted}
use Rattle.rds_script.specs.declared.script.Placed.{Placed}
use Rattle.rds_run_hosts.specs.Preparing.{ArePrepared}
use Rattle.rds_run_hosts.specs.Streams.{AreNumbersOf, IsKnown}

-- the values that a count has
abbrev pub IsCount : ℕ → Type 0
IsCount n = n < 2 ^ 64

-- there is room for one thing more
abbrev pub HasRoom : {T : Type 0} → Vec T Global → Type 0
HasRoom v = vec_len v < vec_capacity v

-- So many ends were out, and so many of them were held; these are the same numbers later. None was lost: of the others no more are out.
abbrev pub LosesNone : (out held out_after held_after : ℕ) → Type 0
LosesNone out held out_after held_after = (others : ℕ) → out ≤ others + held → out_after ≤ others + held_after

-- The streams between a host and a later one were prepared: the ends of the host stand behind those that it had, and those of the later
-- one behind those in its own row. So many were to be prepared, and the wire's count of faults was this before and that afterwards.
pub record GrowsBy {E : Type 0} (m : Means E) (host count faults faults_after : ℕ) (rows after : List (List (Vec (ℕ × E) Global))) (row own : List (Vec (ℕ × E) Global)) : Type 0 where
  pub stood : List (Vec (ℕ × E) Global)
  pub one : Vec (ℕ × E) Global
  pub other : Vec (ℕ × E) Global
  pub newest : ℕ
  pub at : slice_get rows host ≡ Some stood
  pub lower : after ≡ slice_set rows host (stood ++ one ∷ [])
  pub later : own ≡ row ++ other ∷ []
  pub prepared : ArePrepared m newest one.items other.items
  pub counted : IsCount faults_after → AreNumbersOf count faults faults_after (numbers one.items)

-- Hosts that had so many ends of streams have that many afterwards. Of so many streams that were to be prepared for them some may be missing,
-- and the wire's count of faults rose from this to that, by at least as many.
abbrev pub AreMissingBeside : (streams ends ends_after faults faults_after : ℕ) → Type 0
AreMissingBeside streams ends ends_after faults faults_after =
    (missing : ℕ) × (streams * 2 + ends ≤ ends_after + missing * 2) × HasRisenBy missing faults faults_after

-- a host has a thing for each other host below this later one, and for no more
abbrev pub HasThoseBelow : {T : Type 0} → (host later : ℕ) → List (List T) → Type 0
HasThoseBelow {T} host later rows = (row : List T) → slice_get rows host ≡ Some row → suc (length row) ≡ later

module _ {E : Type 0} (commands : List Placed) where
  -- What is known of a host and each other one stands where the streams to that one do. It is true of each later one.
  pub record IsRowKnown (host : ℕ) (row : List (Vec (ℕ × E) Global)) (known : List Wanted) : Type 0 where
    pub count : length known ≡ length row
    pub each : (place : ℕ) (list : Vec (ℕ × E) Global) (w : Wanted) → host ≤ place → slice_get row place ≡ Some list → slice_get known place ≡ Some w →
        IsKnown commands host (suc place) w (numbers list.items)

  -- so it is of each host
  pub record AreRowsKnown (rows : List (List (Vec (ℕ × E) Global))) (wanted : List (List Wanted)) : Type 0 where
    pub count : length wanted ≡ length rows
    pub each : (host : ℕ) (row : List (Vec (ℕ × E) Global)) (known : List Wanted) → slice_get rows host ≡ Some row → slice_get wanted host ≡ Some known →
        IsRowKnown host row known
