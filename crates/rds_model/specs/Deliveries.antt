-- What was delivered to the socket of a slot. Sources: rds(7) for what a socket receives with a datagram, which is the
-- sender's address and port; the rest is this project's own.
use Rattle.std.specs.Prelude.{ℕ, suc, ◌+◌, ◌==◌, ◌&&◌, if◌then◌else◌, List, [], ◌∷◌, ◌++◌, length}
use Rattle.rds_wire.specs.declared.frame.Frame.{Frame}
use Rattle.rds_model.specs.declared.entry.Entry.{Entry}
use Rattle.rds_model.specs.declared.entry.Entry.TheVariants.{Read}
use Rattle.rds_model.specs.declared.order.Datagram.{Datagram}
use Rattle.rds_model.specs.Pairs.{is_delivery_to}

-- the datagram of a frame, as a socket receives it from the host at an address
abbrev pub datagram_from : ℕ → Frame → Datagram
datagram_from from f = record { from = from; sport = f.header.sport; dport = f.header.dport; payload = f.payload }

-- the datagrams that were delivered to a slot, oldest first, where `from` is the peer's address
abbrev pub delivered_datagrams : (from slot : ℕ) → List Entry → List Datagram
delivered_datagrams from slot [] = []
delivered_datagrams from slot (Read stream frame outcome ∷ past) =
    if is_delivery_to slot outcome then delivered_datagrams from slot past ++ datagram_from from frame ∷ []
    else delivered_datagrams from slot past
delivered_datagrams from slot (_ ∷ past) = delivered_datagrams from slot past

-- how many datagrams were delivered to a slot
abbrev pub deliveries : (slot : ℕ) → List Entry → ℕ
deliveries slot [] = 0
deliveries slot (Read stream frame outcome ∷ past) =
    if is_delivery_to slot outcome then suc (deliveries slot past) else deliveries slot past
deliveries slot (_ ∷ past) = deliveries slot past

-- how many bytes of payload were delivered to a slot
abbrev pub put_bytes : (slot : ℕ) → List Entry → ℕ
put_bytes slot [] = 0
put_bytes slot (Read stream frame outcome ∷ past) =
    if is_delivery_to slot outcome then put_bytes slot past + length frame.payload else put_bytes slot past
put_bytes slot (_ ∷ past) = put_bytes slot past

-- how many of them came in datagrams to a port
abbrev pub port_bytes : (port slot : ℕ) → List Entry → ℕ
port_bytes port slot [] = 0
port_bytes port slot (Read stream frame outcome ∷ past) =
    if is_delivery_to slot outcome && (frame.header.dport == port) then port_bytes port slot past + length frame.payload
    else port_bytes port slot past
port_bytes port slot (_ ∷ past) = port_bytes port slot past
