-- Why a command is refused, in words. Source: this project's own; the causes of a send after rds(7).
use Rattle.std.specs.Prelude.{ℕ, List, [], ◌∷◌, codes}
use Rattle.std.specs.Fmt.{decimal}
use Rattle.rds_text.specs.Words.{host_name}
use Rattle.rds_text.specs.Lines.{text_line, phrase}
use Rattle.rds_text.specs.declared.refusal.Refusal.{Refusal}
use Rattle.rds_text.specs.declared.refusal.Refusal.TheVariants as refusal

-- the host has bound as many sockets as it may
abbrev pub no_slot : List ℕ
no_slot = codes "no-slot"

-- the port can't be bound
abbrev pub reserved : List ℕ
reserved = codes "reserved"

-- the port is held, by the socket of slot `word` - 1
abbrev pub in_use : ℕ → List ℕ
in_use word = phrase (codes "in-use " ∷ decimal word ∷ [])

-- no socket of the host is bound to the port
abbrev pub no_socket : List ℕ
no_socket = codes "no-socket"

-- the payload is longer than a datagram or the send buffer may be
abbrev pub too_long : (len limit : ℕ) → List ℕ
too_long len limit = phrase (codes "too-long " ∷ decimal len ∷ codes " " ∷ decimal limit ∷ [])

-- a host has no connection with itself
abbrev pub no_route : List ℕ
no_route = codes "no-route"

-- the port is congested in the last map that was read from the peer, which is the one of this number
abbrev pub congested : ℕ → List ℕ
congested version = phrase (codes "congested " ∷ decimal version ∷ [])

-- the send buffer has no room
abbrev pub full : (queued len limit : ℕ) → List ℕ
full queued len limit =
    phrase (codes "full " ∷ decimal queued ∷ codes " " ∷ decimal len ∷ codes " " ∷ decimal limit ∷ [])

-- a stream is open already
abbrev pub is_open : List ℕ
is_open = codes "open"

-- no stream is open
abbrev pub is_down : List ℕ
is_down = codes "down"

-- why a command is refused
abbrev pub refusal_text : Refusal → List ℕ
refusal_text refusal.NoSlot = no_slot
refusal_text refusal.Reserved = reserved
refusal_text (refusal.InUse word) = in_use word
refusal_text refusal.NoSocket = no_socket
refusal_text (refusal.TooLong len limit) = too_long len limit
refusal_text refusal.NoRoute = no_route
refusal_text (refusal.Congested version) = congested version
refusal_text (refusal.Full queued len limit) = full queued len limit
refusal_text refusal.Open = is_open
refusal_text refusal.Down = is_down

-- the line of a send that is refused
abbrev pub send_refused_line : (h port k dport : ℕ) → List ℕ → List ℕ
send_refused_line h port k dport why =
    text_line (codes "send " ∷ host_name h ∷ codes ":" ∷ decimal port ∷ codes " " ∷ host_name k ∷ codes ":" ∷ decimal dport
    ∷ codes " refused " ∷ why ∷ [])

-- the line of a command on a socket that is refused; the command has this word
abbrev pub socket_refused_line : List ℕ → (h port : ℕ) → List ℕ → List ℕ
socket_refused_line word h port why =
    text_line (word ∷ codes " " ∷ host_name h ∷ codes " " ∷ decimal port ∷ codes " refused " ∷ why ∷ [])

-- the line of a command on a pair of hosts that is refused; the command has this word
abbrev pub pair_refused_line : List ℕ → (h k : ℕ) → List ℕ → List ℕ
pair_refused_line word h k why =
    text_line (word ∷ codes " " ∷ host_name h ∷ codes " " ∷ host_name k ∷ codes " refused " ∷ why ∷ [])
