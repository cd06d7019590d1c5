-- The limits of a run. Source: this project's own; docs/COMMAND.md has them.
use Rattle.std.specs.Prelude.{ℕ}

-- how many streams may be prepared for a run over TCP, between all its hosts together
abbrev pub most_streams : ℕ
most_streams = 96

-- how many times a run over streams that don't tell their bytes looks for bytes in vain before it stops unfinished
abbrev pub most_quiet : ℕ
most_quiet = 20000000
