-- Private: needed by the proofs of `report` and `summary` only. What is counted, as the program holds it. Source: this
-- project's own.
use Rattle.rds_report.specs.declared.item.What.{What as Held}
use Rattle.rds_report.specs.declared.item.What.TheVariants as held
use Rattle.rds_report.specs.Item.{What, Accepted, Received, Unread, Dropped, Port0, Cancelled}

-- what is counted, wherever the bytes are kept
abbrev pub counted : Held → What
counted held.Accepted = Accepted
counted (held.Received payload) = Received payload.now
counted held.Unread = Unread
counted held.Dropped = Dropped
counted held.Port0 = Port0
counted held.Cancelled = Cancelled
