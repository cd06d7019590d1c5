-- The command `drain`. Source: this project's own.
use Rattle.std.specs.Prelude.{ℕ, ◌+◌, ◌*◌, nat_lt, None, Ok, List, filter, map}
use Rattle.std.specs.List.{flat_map}
use Rattle.rds_text.specs.declared.host.TheConstants.{MAX_HOSTS}
use Rattle.rds_text.specs.Lines.{drained_line}
use Rattle.rds_text.specs.Ports.{below}
use Rattle.rds_history.specs.Events.{Event}
use Rattle.rds_history.specs.Courses.{Course, and_then, each, again, prints, on_stream}
use Rattle.rds_history.specs.Open.{open_both}
use Rattle.rds_history.specs.Move.{move_up_to}

-- two hosts, the lower one first
pub record HostPair : Type 0 where
  pub low : ℕ
  pub high : ℕ

-- all pairs, in ascending order of the lower and then of the higher host
abbrev pub pairs : ℕ → List HostPair
pairs hosts =
    flat_map (λ low. map (λ high. record { low = low; high = high }) (filter (nat_lt low) (below hosts))) (below hosts)

-- a stream is opened between the two, if none is open
abbrev pub open_if_closed : (limit : ℕ) → HostPair → List Event → Course
open_if_closed limit p past = on_stream p.low p.high (open_both limit p.low p.high) (λ stream before. Ok before) past

-- bytes go without limit from the lower to the higher host, and then back
abbrev pub both_ways : (limit : ℕ) → HostPair → List Event → Course
both_ways limit p past = and_then (move_up_to limit p.low p.high None past) (move_up_to limit p.high p.low None)

-- a round over all pairs
abbrev pub round : (limit hosts : ℕ) → List Event → Course
round limit hosts = each (pairs hosts) (both_ways limit)

-- how many rounds there are at most: each but the last appends an entry to one of the journals, of which no more than
-- MAX_HOSTS * MAX_HOSTS have room for `limit` each
abbrev pub rounds : ℕ → ℕ
rounds limit = MAX_HOSTS * MAX_HOSTS * limit + 1

-- `drain`: each closed pair is opened, and then there are rounds, until one moves no byte
abbrev pub drain : (limit hosts : ℕ) → List Event → Course
drain limit hosts past =
    and_then (each (pairs hosts) (open_if_closed limit) past)
    (λ opened. and_then (again (rounds limit) (round limit hosts) opened) (prints drained_line))
