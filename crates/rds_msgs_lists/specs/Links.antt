-- An index or none, as a number. Source: this project's own.
use Rattle.std.specs.Prelude.{◌≡◌, ℕ, ◌==◌, cond, true, false, Option, Some, None, refl}
use Rattle.std.proofs.Common.{sym}
use Rattle.rds_msgs_lists.specs.declared.link.TheConstants.{NO_INDEX}
use Rattle.std.proofs.lemmas.Bool.{eqb-true}

-- the number `NO_INDEX` is none, and each other is itself
abbrev pub raw_link : ℕ → Option ℕ
raw_link n = cond (n == NO_INDEX) None (Some n)

-- the number of an index or none
abbrev pub link_raw : Option ℕ → ℕ
link_raw None = NO_INDEX
link_raw (Some n) = n

pub raw_link_raw : (n : ℕ) → link_raw (raw_link n) ≡ n
raw_link_raw n = elim (n == NO_INDEX) as (λ b. (n == NO_INDEX) ≡ b → link_raw (cond b None (Some n)) ≡ n) [ true ↦ λ e. sym (eqb-true n NO_INDEX e) | false ↦ λ e. refl ] refl
