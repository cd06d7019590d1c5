-- The summary: what became of all datagrams together. Source: this project's own.
use Rattle.std.specs.Prelude.{ℕ, ◌+◌, ◌/◌, List, [], ◌∷◌, ◌++◌, length, map, codes}
use Rattle.std.specs.List.{flat_map, sum_by}
use Rattle.std.specs.Fmt.{decimal}
use Rattle.rds_model.specs.declared.order.Datagram.{Datagram}
use Rattle.rds_text.specs.Lines.{end_line, text_line}
use Rattle.rds_text.specs.FinalState.{FinalHost}
use Rattle.rds_text.specs.Report.{Counts, counts, groups, received}

-- two counts together
abbrev pub plus : Counts → Counts → Counts
plus a b = record {
  accepted = a.accepted + b.accepted;
  received = a.received + b.received;
  unread = a.unread + b.unread;
  dropped = a.dropped + b.dropped;
  port0 = a.port0 + b.port0;
  cancelled = a.cancelled + b.cancelled;
}

-- so many counts together
abbrev pub total : List Counts → Counts
total [] = record { accepted = 0; received = 0; unread = 0; dropped = 0; port0 = 0; cancelled = 0 }
total (c ∷ list) = plus c (total list)

-- the counts of all port pairs together
abbrev pub all_counts : List FinalHost → Counts
all_counts hosts = total (map (counts hosts) (groups hosts))

-- how many payload bytes were handed out
abbrev pub received_bytes : List FinalHost → ℕ
received_bytes hosts = sum_by (λ (d : Datagram). length d.payload) (flat_map (received hosts) (groups hosts))

-- the line of these counts and bytes
abbrev pub summary_line : (seed sends : ℕ) → Counts → (bytes : ℕ) → List ℕ
summary_line seed sends c bytes =
    text_line (codes "seed " ∷ decimal seed ∷ codes " sends " ∷ decimal sends ∷ codes " hosts 8 sockets 32 cuts " ∷ decimal (sends / 500)
    ∷ codes " accepted " ∷ decimal c.accepted ∷ codes " received " ∷ decimal c.received ∷ codes " unread " ∷ decimal c.unread
    ∷ codes " dropped " ∷ decimal c.dropped ∷ codes " port0 " ∷ decimal c.port0 ∷ codes " cancelled " ∷ decimal c.cancelled
    ∷ codes " bytes " ∷ decimal bytes ∷ [])

-- the summary of a generated script of so many sends, by its seed
abbrev pub summary : List FinalHost → (seed sends : ℕ) → List ℕ
summary hosts seed sends = summary_line seed sends (all_counts hosts) (received_bytes hosts) ++ end_line
