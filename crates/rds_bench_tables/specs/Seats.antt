-- What a thread of the measurement asks of the seat that it is given. This project's own.
use Rattle.std.specs.Prelude.{◌≡◌, None, IsSome}
use Rattle.rds_seats.specs.Views.{Table}
use Rattle.rds_bindtab.specs.Seats as bind
use Rattle.rds_meter.specs.Seats as meter
use Rattle.rds_meter.specs.Places.{put_word, part}

-- a seat of the port table with a slot and no port
abbrev pub Free : Table → bind.PortSeat → Type 0
Free table seat = (seat.table ≡ table) × IsSome seat.view.slot × (seat.view.port ≡ None)

-- a seat of the meter that hasn't added to the put word
abbrev pub New : Table → meter.MeterSeat → Type 0
New table seat = (seat.table ≡ table) × (part (put_word 0) seat.view.steps ≡ 0)
