-- Why a send is refused: the first cause that is there.
use Rattle.std.proofs.Common.{◌≡◌, ℕ, ◌+◌, ◌==◌, nat_lt, min, Bool, true, false, cond, Option, Some, None, List, subst}
use Rattle.std.specs.Option.{option_map_or}
use Rattle.rds_wire.specs.declared.kind.TheConstants.{MAX_LENGTH}
use Rattle.rds_model.specs.Drained.{last_map_read}
use Rattle.rds_cong.specs.Map.{has_port}
use Rattle.rds_text.specs.Refusals.{congested, full, no_route, too_long}
use Rattle.rds_history.specs.Events.{Event}
use Rattle.rds_history.specs.Journals.{journal, maps_read}
use Rattle.rds_history.specs.Send.{send_refusal}
use Rattle.rds_history.specs.Sockets.{send_buffer, unacknowledged}

-- a cause is there, and comes before the rest
pub first_refusal : (b : Bool) (y x : List ℕ) (rest : Option (List ℕ)) → Some y ≡ cond b (Some x) None → Some y ≡ cond b (Some x) rest
first_refusal true y x rest is = is
first_refusal false y x rest is = cc

-- it isn't, and the rest follows
pub later_refusal : (b : Bool) (x : List ℕ) (rest r : Option (List ℕ)) → None ≡ cond b (Some x) None → r ≡ rest → r ≡ cond b (Some x) rest
later_refusal true x rest r is follows = cc
later_refusal false x rest r is follows = follows

-- whether the send buffer has room
abbrev pub of_room : (hosts h slot len buffer : ℕ) → List Event → Option (List ℕ)
of_room hosts h slot len buffer past =
    cond (nat_lt buffer (unacknowledged hosts h slot past + len)) (Some (full (unacknowledged hosts h slot past) len buffer)) None

-- whether the port is congested, and then the room
abbrev pub of_port : (hosts h slot k dport len buffer : ℕ) → List Event → Option (List ℕ)
of_port hosts h slot k dport len buffer past =
    cond (option_map_or (λ map. has_port map dport) (last_map_read (journal h k past)) false) (Some (congested (maps_read (journal h k past))))
    (of_room hosts h slot len buffer past)

-- whether there is a way, and then the port
abbrev pub of_way : (hosts h slot k dport len buffer : ℕ) → List Event → Option (List ℕ)
of_way hosts h slot k dport len buffer past = cond (h == k) (Some no_route) (of_port hosts h slot k dport len buffer past)

-- whether the datagram is too long
abbrev pub of_length : (len buffer : ℕ) → (rest : Option (List ℕ)) → Option (List ℕ)
of_length len buffer rest = cond (nat_lt (min buffer MAX_LENGTH) len) (Some (too_long len (min buffer MAX_LENGTH))) rest

-- all causes, in turn, for the buffer that the socket has
pub refusal_is : (hosts h slot k dport len buffer : ℕ) (past : List Event) (r : Option (List ℕ)) → buffer ≡ send_buffer h slot past →
    r ≡ of_length len buffer (of_way hosts h slot k dport len buffer past) → r ≡ send_refusal hosts h slot k dport len past
refusal_is hosts h slot k dport len buffer past r same is =
    subst (λ (n : ℕ). r ≡ of_length len n (of_way hosts h slot k dport len n past)) same is
