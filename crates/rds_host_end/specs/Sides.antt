-- What a host's journal of a line is beside. Source: this project's own.
use Rattle.rds_text.specs.FinalState.{FinalJournal}
use Rattle.rds_line.specs.Line.{LineView, line_past}

-- the peer of a line and what its journal has
abbrev pub line_side : {E M : Type 0} → LineView E M → FinalJournal
line_side line = record { peer = line.channel.conn.peer; past = line_past line }
