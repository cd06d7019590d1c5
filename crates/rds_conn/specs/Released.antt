-- The datagrams of a socket that an end need not deliver any more. Source: this project's own.
use Rattle.std.specs.Prelude.{ℕ, ◌&&◌, not, Bool, List, filter, sum_by}
use Rattle.rds_model.specs.declared.entry.Entry.{Entry}
use Rattle.rds_model.specs.Past.{accepted, datagram}
use Rattle.rds_model.specs.Alive.{is_alive, is_from, payload_bytes, up_to}

-- number n came from the socket of a slot, and is alive no longer
abbrev pub is_released : ℕ → List Entry → ℕ → Bool
is_released slot past n = is_from slot (datagram past n) && not (is_alive past n)

-- the bytes of the datagrams from the socket of a slot that are alive no longer
abbrev pub released_bytes : ℕ → List Entry → ℕ
released_bytes slot past = sum_by (λ n. payload_bytes (datagram past n)) (filter (is_released slot past) (up_to (accepted past)))
