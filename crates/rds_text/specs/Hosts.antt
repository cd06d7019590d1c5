-- Hosts by their letters and addresses. Source: this project's own.
use Rattle.std.specs.Prelude.{ℕ, ◌+◌, ◌-◌, ◌≤◌, ◌<◌}
use Rattle.rds_text.specs.declared.host.TheConstants.{MAX_HOSTS}
use Rattle.rds_text.specs.declared.addresses.TheConstants.{FIRST_ADDRESS}

-- the address of a host, counted from 0: 10.0.0.1, 10.0.0.2 and so on
abbrev pub address_of : ℕ → ℕ
address_of host = FIRST_ADDRESS + host

-- the host of an address
abbrev pub host_at : ℕ → ℕ
host_at addr = addr - FIRST_ADDRESS

-- the address is one of a host
pub record IsAddress (addr : ℕ) : Type 0 where
  pub least : FIRST_ADDRESS ≤ addr
  pub most : addr < FIRST_ADDRESS + MAX_HOSTS
