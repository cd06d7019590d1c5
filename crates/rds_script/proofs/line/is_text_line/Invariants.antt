use Rattle.std.proofs.Common.{◌≡◌, take}
use Rattle.std.specs.List.{list_all}
use Rattle.rds_script.specs.Text.{is_text}
use Rattle.rds_script.proofs.line.is_text_line.Given as goal

-- whether the bytes so far are
abbrev pub invariant-loop-byte : goal.invariant-loop-byte
invariant-loop-byte l = l.all ≡ list_all is_text (take l.byte-index l.line)
